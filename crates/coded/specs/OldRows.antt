-- Rows of the old chip. Assumes nothing.
--     channels, widths, formats   the values by their places, counted from 0; channels_place, .. the place of a value
--     unit_from, both_from        the set-up of its parts, where each of them is there
--     unit_in row                 the unit of the row CHANNELS WIDTH POLARITY SHIFT
--     both_in row                 both units of RATE FORMAT, the row of the transmit unit and that of the receive unit
--     unit_row, both_row          the row of a set-up
--     ReadsUnit row r, ..         the row of a set-up, and no other, is read as that set-up
use Rattle.std.specs.Prelude.{◌≡◌, ◌↔◌, ℕ, ◌==◌, Bool, cond, List, [], ◌∷◌, ◌++◌, length, Some, None, Option}
use Rattle.std.specs.List.{slice_get, slice_index}
use Rattle.std.specs.Option.{option_and_then}
use Rattle.old_setups.specs.declared.Channels.{Channels}
use Rattle.old_setups.specs.declared.Channels.TheVariants.{Stereo, Mono, Left, Right}
use Rattle.old_setups.specs.declared.Config.{Config}
use Rattle.old_setups.specs.declared.DataFormat.{DataFormat}
use Rattle.old_setups.specs.declared.DataFormat.TheVariants.{Data32Channel32, Data16Channel16}
use Rattle.old_setups.specs.declared.UnitConfig.{UnitConfig}
use Rattle.old_setups.specs.declared.WsWidth.{WsWidth}
use Rattle.old_setups.specs.declared.WsWidth.TheVariants.{HalfFrame, Bit}
use Rattle.setups.specs.declared.Polarity.{Polarity}
use Rattle.coded.specs.Places.{flag_place, flags, polarities, polarity_place}

abbrev pub channels : List Channels
channels = Stereo ∷ Mono ∷ Left ∷ Right ∷ []

abbrev pub channels_place : Channels → ℕ
channels_place Stereo = 0
channels_place Mono = 1
channels_place Left = 2
channels_place Right = 3

abbrev pub widths : List WsWidth
widths = HalfFrame ∷ Bit ∷ []

abbrev pub width_place : WsWidth → ℕ
width_place HalfFrame = 0
width_place Bit = 1

abbrev pub formats : List DataFormat
formats = Data32Channel32 ∷ Data16Channel16 ∷ []

abbrev pub format_place : DataFormat → ℕ
format_place Data32Channel32 = 0
format_place Data16Channel16 = 1

abbrev pub unit_from : Option Channels → Option WsWidth → Option Polarity → Option Bool → Option UnitConfig
unit_from may_channels may_width may_polarity may_shift =
    option_and_then (λ chosen. option_and_then (λ width. option_and_then (λ polarity. option_and_then (λ shift.
    Some (record { channels = chosen; ws_width = width; ws_polarity = polarity; msb_shift = shift }))
    may_shift) may_polarity) may_width) may_channels

abbrev pub unit_of : ℕ → ℕ → ℕ → ℕ → Option UnitConfig
unit_of channels_at width_at polarity_at shift_at =
    unit_from (slice_get channels channels_at) (slice_get widths width_at) (slice_get polarities polarity_at) (slice_get flags shift_at)

abbrev pub unit_in : List ℕ → Option UnitConfig
unit_in row = cond (length row == 4) (unit_of (slice_index row 0) (slice_index row 1) (slice_index row 2) (slice_index row 3)) None

abbrev pub both_from : ℕ → Option DataFormat → Option UnitConfig → Option UnitConfig → Option Config
both_from rate may_format may_tx may_rx =
    option_and_then (λ tx. option_and_then (λ rx. option_and_then (λ format.
    Some (record { rx_config = rx; tx_config = tx; sample_rate = record { 0 = rate }; data_format = format }))
    may_format) may_rx) may_tx

abbrev pub both_in : List ℕ → Option Config
both_in row = cond (length row == 10)
    (both_from (slice_index row 0) (slice_get formats (slice_index row 1))
    (unit_of (slice_index row 2) (slice_index row 3) (slice_index row 4) (slice_index row 5))
    (unit_of (slice_index row 6) (slice_index row 7) (slice_index row 8) (slice_index row 9)))
    None

abbrev pub unit_row : UnitConfig → List ℕ
unit_row u = channels_place u.channels ∷ width_place u.ws_width ∷ polarity_place u.ws_polarity ∷ flag_place u.msb_shift ∷ []

abbrev pub both_row : Config → List ℕ
both_row c = c.sample_rate.0 ∷ format_place c.data_format ∷ (unit_row c.tx_config ++ unit_row c.rx_config)

abbrev pub ReadsUnit : List ℕ → Option UnitConfig → Type 0
ReadsUnit row r = (unit : UnitConfig) → (row ≡ unit_row unit) ↔ (r ≡ Some unit)

abbrev pub ReadsBoth : List ℕ → Option Config → Type 0
ReadsBoth row r = (both : Config) → (row ≡ both_row both) ↔ (r ≡ Some both)
