-- What a refusal names is wrong. Assumes nothing.
--     ClockWrong rate slots bits max range f  the rate, a clock, the integer part or the pair that f names is out of range
--     IsWrongNew u max range f                what f names is that of u, and out of range
--     IsWrongOld c max range f                the same on the old chip
use Rattle.std.specs.Prelude.{◌≡◌, ℕ, ◌^◌, ◌<◌, ◌≤◌, max, min, false, true, count_ones, ◌⊎◌}
use Rattle.dividers.specs.declared.DividerRange.{DividerRange}
use Rattle.dividers.specs.Answers.{dividers_of}
use Rattle.dividers.specs.Clock.{bclk_of, mclk_of, within_range}
use Rattle.dividers.specs.Split.{unsplittable}
use Rattle.old_setups.specs.declared.Config.{Config}
use Rattle.old_setups.specs.Configs as OldConfigs
use Rattle.setups.specs.declared.esp32c3.UnitConfig.{UnitConfig}
use Rattle.setups.specs.Check.{bits_of, frame_of, slots_of, ws_width_of}
use Rattle.verdicts.specs.declared.fault.Fault.{Fault}
use Rattle.verdicts.specs.declared.fault.Fault.TheVariants.{NoneActive, Slots, WsWidth, Frame, NoRate, Clock, IntegerPart, Pair}

-- the pair only where the integer part is within the range
abbrev pub ClockWrong : ℕ → ℕ → ℕ → ℕ → DividerRange → Fault → Type 0
ClockWrong rate slots bits most range NoRate = rate ≡ 0
ClockWrong rate slots bits most range (Clock hertz) =
    (hertz ≡ max (mclk_of rate bits) (bclk_of rate slots bits)) × (2 ^ 32 ≤ hertz)
ClockWrong rate slots bits most range (IntegerPart n) =
    (n ≡ (dividers_of rate slots bits most).mclk_divider) × (within_range n range.least range.most ≡ false)
ClockWrong rate slots bits most range (Pair a n) =
    (a ≡ (dividers_of rate slots bits most).denominator) × (n ≡ (dividers_of rate slots bits most).numerator)
    × (unsplittable a n ≡ true)
ClockWrong rate slots bits most range NoneActive = ⊥
ClockWrong rate slots bits most range (Slots n) = ⊥
ClockWrong rate slots bits most range (WsWidth n limit) = ⊥
ClockWrong rate slots bits most range (Frame n) = ⊥

abbrev pub IsWrongNew : UnitConfig → ℕ → DividerRange → Fault → Type 0
IsWrongNew u most range NoneActive = count_ones u.channels.mask ≡ 0
IsWrongNew u most range (Slots n) = (n ≡ slots_of u) × (16 < n)
IsWrongNew u most range (WsWidth n limit) = (n ≡ ws_width_of u) × (limit ≡ min (frame_of u) 128) × ((n ≡ 0) ⊎ (limit < n))
IsWrongNew u most range (Frame n) = (n ≡ frame_of u) × (128 < n)
IsWrongNew u most range NoRate = u.sample_rate.0 ≡ 0
IsWrongNew u most range (Clock hertz) = ClockWrong u.sample_rate.0 (slots_of u) (bits_of u) most range (Clock hertz)
IsWrongNew u most range (IntegerPart n) = ClockWrong u.sample_rate.0 (slots_of u) (bits_of u) most range (IntegerPart n)
IsWrongNew u most range (Pair a n) = ClockWrong u.sample_rate.0 (slots_of u) (bits_of u) most range (Pair a n)

abbrev pub IsWrongOld : Config → ℕ → DividerRange → Fault → Type 0
IsWrongOld c most range f = ClockWrong c.sample_rate.0 2 (OldConfigs.bits_of c) most range f
