-- Rows of the new chip. Assumes nothing.
--     formats, endiannesses, orders   the values by their places, counted from 0; format_place, .. the place of a value
--     fill_at, channels_at, width_at  the values that more than one number says
--     unit_from rate ..       the unit of its parts, where each of them is there
--     unit_in row             the unit of the row RATE COUNT MASK FILLED FILL FORMAT WIDTH BITS POLARITY SHIFT ENDIANNESS ORDER
--     unit_row mask unit      the row of a unit at this MASK
--     IsRowOf row unit        it is that row at a MASK of which Channels::new makes the unit's channels; COUNT, MASK and BITS fit
--     ReadsUnit row r         the rows of a unit, and no other, are read as that unit
use Rattle.std.specs.Prelude.{◌≡◌, ◌↔◌, ℕ, ◌==◌, ◌<◌, ◌^◌, nat_lt, Bool, cond, ◌&&◌, List, [], ◌∷◌, length, Some, None, Option}
use Rattle.std.specs.List.{slice_get, slice_index}
use Rattle.std.specs.Option.{option_and_then, option_map}
use Rattle.setups.specs.declared.esp32c3.Channels.{Channels}
use Rattle.setups.specs.declared.esp32c3.DataFormat.{DataFormat}
use Rattle.setups.specs.declared.esp32c3.DataFormat.TheVariants.{Data32Channel32, Data32Channel24, Data32Channel16, Data32Channel8, Data16Channel16, Data16Channel8, Data8Channel8}
use Rattle.setups.specs.declared.esp32c3.UnitConfig.{UnitConfig}
use Rattle.setups.specs.declared.esp32c3.WsWidth.{WsWidth}
use Rattle.setups.specs.declared.esp32c3.WsWidth.TheVariants.{HalfFrame, OneChannel, Bit, Bits}
use Rattle.setups.specs.declared.BitOrder.{BitOrder}
use Rattle.setups.specs.declared.BitOrder.TheVariants.{MsbFirst, LsbFirst}
use Rattle.setups.specs.declared.Endianness.{Endianness}
use Rattle.setups.specs.declared.Endianness.TheVariants.{LittleEndian, BigEndian}
use Rattle.setups.specs.declared.Polarity.{Polarity}
use Rattle.setups.specs.Channels.{channels_of}
use Rattle.coded.specs.Places.{flag_place, flags, polarities, polarity_place}

abbrev pub formats : List DataFormat
formats = Data32Channel32 ∷ Data32Channel24 ∷ Data32Channel16 ∷ Data32Channel8 ∷ Data16Channel16 ∷ Data16Channel8 ∷ Data8Channel8 ∷ []

abbrev pub format_place : DataFormat → ℕ
format_place Data32Channel32 = 0
format_place Data32Channel24 = 1
format_place Data32Channel16 = 2
format_place Data32Channel8 = 3
format_place Data16Channel16 = 4
format_place Data16Channel8 = 5
format_place Data8Channel8 = 6

abbrev pub endiannesses : List Endianness
endiannesses = LittleEndian ∷ BigEndian ∷ []

abbrev pub endianness_place : Endianness → ℕ
endianness_place LittleEndian = 0
endianness_place BigEndian = 1

abbrev pub orders : List BitOrder
orders = MsbFirst ∷ LsbFirst ∷ []

abbrev pub order_place : BitOrder → ℕ
order_place MsbFirst = 0
order_place LsbFirst = 1

-- 0 0 for no fill, 1 FILL for this fill
abbrev pub fill_at : ℕ → ℕ → Option (Option ℕ)
fill_at filled fill = cond (filled == 1) (Some (Some fill)) (cond (filled == 0 && fill == 0) (Some None) None)

abbrev pub channels_at : ℕ → ℕ → ℕ → ℕ → Option Channels
channels_at count mask filled fill =
    cond (nat_lt count (2 ^ 8) && nat_lt mask (2 ^ 16)) (option_map (channels_of count mask) (fill_at filled fill)) None

-- BITS is 0 at the first three places, and the width at the last
abbrev pub width_at : ℕ → ℕ → Option WsWidth
width_at place bits =
    cond (place == 3) (cond (nat_lt bits (2 ^ 16)) (Some (Bits bits)) None)
    (cond (bits == 0) (slice_get (HalfFrame ∷ OneChannel ∷ Bit ∷ []) place) None)

abbrev pub unit_from : ℕ → Option Channels → Option DataFormat → Option WsWidth → Option Polarity → Option Bool → Option Endianness
    → Option BitOrder → Option UnitConfig
unit_from rate may_channels may_format may_width may_polarity may_shift may_endianness may_order =
    option_and_then (λ channels. option_and_then (λ format. option_and_then (λ width. option_and_then (λ polarity.
    option_and_then (λ shift. option_and_then (λ endianness. option_and_then (λ order.
    Some (record {
      sample_rate = record { 0 = rate };
      channels = channels;
      data_format = format;
      ws_width = width;
      ws_polarity = polarity;
      msb_shift = shift;
      endianness = endianness;
      bit_order = order;
    })) may_order) may_endianness) may_shift) may_polarity) may_width) may_format) may_channels

abbrev pub unit_in : List ℕ → Option UnitConfig
unit_in row = cond (length row == 12)
    (unit_from (slice_index row 0)
    (channels_at (slice_index row 1) (slice_index row 2) (slice_index row 3) (slice_index row 4))
    (slice_get formats (slice_index row 5))
    (width_at (slice_index row 6) (slice_index row 7))
    (slice_get polarities (slice_index row 8))
    (slice_get flags (slice_index row 9))
    (slice_get endiannesses (slice_index row 10))
    (slice_get orders (slice_index row 11)))
    None

abbrev pub filled_number : Option ℕ → ℕ
filled_number None = 0
filled_number (Some n) = 1

abbrev pub fill_number : Option ℕ → ℕ
fill_number None = 0
fill_number (Some n) = n

abbrev pub width_place : WsWidth → ℕ
width_place HalfFrame = 0
width_place OneChannel = 1
width_place Bit = 2
width_place (Bits n) = 3

abbrev pub width_bits : WsWidth → ℕ
width_bits HalfFrame = 0
width_bits OneChannel = 0
width_bits Bit = 0
width_bits (Bits n) = n

abbrev pub unit_row : ℕ → UnitConfig → List ℕ
unit_row mask u =
    u.sample_rate.0 ∷ u.channels.count ∷ mask ∷ filled_number u.channels.fill ∷ fill_number u.channels.fill
    ∷ format_place u.data_format ∷ width_place u.ws_width ∷ width_bits u.ws_width ∷ polarity_place u.ws_polarity
    ∷ flag_place u.msb_shift ∷ endianness_place u.endianness ∷ order_place u.bit_order ∷ []

pub record IsRowOf (row : List ℕ) (u : UnitConfig) : Type 0 where
  pub mask : ℕ
  pub numbers : row ≡ unit_row mask u
  pub made : channels_of u.channels.count mask u.channels.fill ≡ u.channels
  pub count_fits : u.channels.count < 2 ^ 8
  pub mask_fits : mask < 2 ^ 16
  pub bits_fit : width_bits u.ws_width < 2 ^ 16

abbrev pub ReadsUnit : List ℕ → Option UnitConfig → Type 0
ReadsUnit row r = (unit : UnitConfig) → IsRowOf row unit ↔ (r ≡ Some unit)
