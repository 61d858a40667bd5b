-- The settled figures of both chips, and their computed check. Assumes nothing.
--     new_at rate, old_at rate     the standard set-up at a rate: of a unit of the new chip, of the old chip
--     new_refusal u, old_refusal c how the check refuses it, if it does
--     new_figures, old_figures     a rate, and what is stored there
--     limits                       rates at the ends of the range, for both chips
--     frames_settled               set-ups at the limits of a frame
--     Settled                      the definitions give all of these
use Rattle.std.specs.Prelude.{◌≡◌, ℕ, ◌-◌, Bool, true, false, List, [], ◌∷◌, map, Some, None, Option}
use Rattle.dividers.specs.declared.ConfigError.{ConfigError}
use Rattle.dividers.specs.declared.ConfigError.TheVariants.{WsWidthOutOfRange, FrameTooLong, ClockOutOfReach}
use Rattle.dividers.specs.Answers.{eight_bit_range}
use Rattle.old_setups.specs.declared.Config.{Config}
use Rattle.old_setups.specs.Configs as Old
use Rattle.old_setups.specs.Units as OldUnits
use Rattle.setups.specs.declared.esp32c3.DataFormat.TheVariants.{Data32Channel32}
use Rattle.setups.specs.declared.esp32c3.UnitConfig.{UnitConfig}
use Rattle.setups.specs.declared.esp32c3.WsWidth.TheVariants.{Bits}
use Rattle.setups.specs.Channels.{channels_of}
use Rattle.setups.specs.Check.{dividers_in, numbers_of, refusal_of}
use Rattle.setups.specs.Units.{philips, with_channels, with_data_format, with_sample_rate, with_ws_width}

abbrev pub rates_settled : List ℕ
rates_settled = 8000 ∷ 32000 ∷ 41681 ∷ 44100 ∷ 48000 ∷ []

abbrev pub new_at : ℕ → UnitConfig
new_at rate = with_sample_rate (record { 0 = rate }) philips

abbrev pub new_refusal : UnitConfig → Option ConfigError
new_refusal u = refusal_of 511 eight_bit_range u

-- what the new chip stores at a rate: integer part and bit divider, its pair, and the pair's parts
pub record NewFigure : Type 0 where
  pub rate : ℕ
  pub integer : ℕ
  pub bit : ℕ
  pub pair : ℕ × ℕ
  pub parts : ℕ × ℕ × ℕ × Bool

abbrev new_figure : ℕ → ℕ → ℕ → ℕ × ℕ → ℕ × ℕ × ℕ × Bool → NewFigure
new_figure rate integer bit pair parts = record { rate = rate; integer = integer; bit = bit; pair = pair; parts = parts }

abbrev pub new_figure_at : ℕ → NewFigure
new_figure_at rate =
    let d = dividers_in 511 (new_at rate) in
    let n = numbers_of 511 (new_at rate) in
    new_figure rate d.mclk_divider d.bclk_divider (d.denominator, d.numerator) (n.clkm_div_x, n.clkm_div_y, n.clkm_div_z, n.clkm_div_yn1)

abbrev pub new_figures : List NewFigure
new_figures =
    new_figure 8000 78 8 (8, 1) (7, 0, 1, false)
    ∷ new_figure 32000 19 8 (32, 17) (1, 2, 15, true)
    ∷ new_figure 41681 15 8 (0, 0) (0, 0, 0, true)
    ∷ new_figure 44100 14 8 (441, 76) (4, 61, 76, false)
    ∷ new_figure 48000 13 8 (48, 1) (47, 0, 1, false)
    ∷ new_figure 289263 2 8 (361, 58) (5, 13, 58, false)
    ∷ new_figure 629976 1 8 (0, 0) (0, 0, 0, true)
    ∷ []

-- the old chip's set-up at a rate, and what is stored there: integer part, bit divider, pair
abbrev pub old_at : ℕ → Config
old_at rate = record { rx_config = OldUnits.philips; tx_config = OldUnits.philips; sample_rate = record { 0 = rate }; data_format = (Old.standard OldUnits.philips).data_format }

abbrev pub old_refusal : Config → Option ConfigError
old_refusal c = Old.refusal_of eight_bit_range c

pub record OldFigure : Type 0 where
  pub rate : ℕ
  pub integer : ℕ
  pub bit : ℕ
  pub pair : ℕ × ℕ

abbrev old_figure : ℕ → ℕ → ℕ → ℕ × ℕ → OldFigure
old_figure rate integer bit pair = record { rate = rate; integer = integer; bit = bit; pair = pair }

abbrev pub old_figure_at : ℕ → OldFigure
old_figure_at rate =
    let n = Old.clock_numbers 63 (old_at rate) in
    old_figure rate n.clkm_div_num n.bck_div_num (n.clkm_div_a, n.clkm_div_b)

abbrev pub old_figures : List OldFigure
old_figures =
    old_figure 8000 78 8 (8, 1)
    ∷ old_figure 32000 19 8 (32, 17)
    ∷ old_figure 41681 15 8 (0, 0)
    ∷ old_figure 41694 14 8 (2, 2)
    ∷ old_figure 44100 14 8 (29, 5)
    ∷ old_figure 48000 13 8 (48, 1)
    ∷ old_figure 629976 1 8 (0, 0)
    ∷ []

-- a rate at an end of the range: its integer part, and how it is refused, if it is
pub record Limit : Type 0 where
  pub rate : ℕ
  pub integer : ℕ
  pub refusal : Option ConfigError

abbrev limit : ℕ → ℕ → Option ConfigError → Limit
limit rate integer refusal = record { rate = rate; integer = integer; refusal = refusal }

abbrev pub limits : List Limit
limits =
    limit 2441 256 (Some ClockOutOfReach)
    ∷ limit 2442 255 None
    ∷ limit 629976 1 None
    ∷ limit 629977 0 (Some ClockOutOfReach)
    ∷ []

abbrev pub new_limit_at : ℕ → Limit
new_limit_at rate = limit rate (dividers_in 511 (new_at rate)).mclk_divider (new_refusal (new_at rate))

abbrev pub old_limit_at : ℕ → Limit
old_limit_at rate = limit rate (Old.dividers_in 63 (old_at rate)).mclk_divider (old_refusal (old_at rate))

abbrev pub half_frame_of : ℕ → UnitConfig
half_frame_of slots = with_channels (channels_of slots 65535 None) philips

abbrev pub frames_settled : List UnitConfig
frames_settled =
    half_frame_of 8
    ∷ half_frame_of 9
    ∷ with_ws_width (Bits 129) (with_data_format Data32Channel32 (with_channels (channels_of 5 65535 None) philips))
    ∷ []

pub record Settled : Type 0 where
  pub new_figures_are : map (λ f. new_figure_at f.rate) new_figures ≡ new_figures
  pub old_figures_are : map (λ f. old_figure_at f.rate) old_figures ≡ old_figures
  pub new_rates_pass : map (λ f. new_refusal (new_at f.rate)) new_figures ≡ map (λ f. None) new_figures
  pub old_rates_pass : map (λ f. old_refusal (old_at f.rate)) old_figures ≡ map (λ f. None) old_figures
  pub new_limits_are : map (λ l. new_limit_at l.rate) limits ≡ limits
  pub old_limits_are : map (λ l. old_limit_at l.rate) limits ≡ limits
  pub frames_are : map new_refusal frames_settled ≡ None ∷ Some FrameTooLong ∷ Some WsWidthOutOfRange ∷ []
