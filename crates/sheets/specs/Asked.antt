-- The set-up that a whole sheet asks. Assumes nothing.
--     is_ready sheet       whether no key lacks anything
--     Asks sheet asked     each part of the set-up is what the sheet says of its key
--     asked_of sheet       the set-up, where it is whole
--     reading_asked r      the same, where each line was read
use Rattle.std.specs.Prelude.{◌≡◌, ℕ, Bool, cond, not, ◌||◌, Some, None, Option, ◌==◌, is_none, is_some}
use Rattle.std.specs.List.{list_all}
use Rattle.std.specs.Option.{option_map, option_and_then}
use Rattle.entries.specs.declared.Chip.{Chip}
use Rattle.entries.specs.declared.Chip.TheVariants.{Esp32, Esp32C3}
use Rattle.entries.specs.declared.Fill.{Fill}
use Rattle.entries.specs.declared.Fill.TheVariants.{Repeat, Number}
use Rattle.entries.specs.declared.Row.{Row}
use Rattle.entries.specs.Keys.{keys_known}
use Rattle.old_setups.specs.declared.Channels as OldChannels
use Rattle.old_setups.specs.declared.Config as Old
use Rattle.old_setups.specs.declared.DataFormat as OldFormat
use Rattle.old_setups.specs.declared.UnitConfig as OldUnit
use Rattle.setups.specs.declared.esp32c3.Channels.{Channels}
use Rattle.setups.specs.declared.esp32c3.UnitConfig.{UnitConfig}
use Rattle.setups.specs.Channels.{channels_of}
use Rattle.sheets.specs.declared.asked.Asked.{Asked}
use Rattle.sheets.specs.declared.asked.Asked.TheVariants as A
use Rattle.sheets.specs.declared.reading.Reading.{Reading}
use Rattle.sheets.specs.declared.sheet.Sheet.{Sheet}
use Rattle.sheets.specs.Lacks.{esp32_channels, esp32_format, esp32_width, lack_of, row_fits}

abbrev pub is_ready : Sheet → Bool
is_ready s = list_all (λ key. is_none (lack_of s key)) keys_known

abbrev pub fill_number : Fill → Option ℕ
fill_number Repeat = None
fill_number (Number n) = Some n

-- the channels of the new chip, where the row has a digit for each slot
abbrev pub esp32c3_channels : Option ℕ → Option Row → Option Fill → Option Channels
esp32c3_channels (Some n) (Some row) (Some fill) = cond (row_fits n row) (Some (channels_of n row.mask (fill_number fill))) None
esp32c3_channels (Some n) (Some row) None = None
esp32c3_channels (Some n) None fill = None
esp32c3_channels None row fill = None

abbrev pub old_channels : Option Row → Option Fill → Option OldChannels.Channels
old_channels (Some row) (Some fill) = esp32_channels row fill
old_channels (Some row) None = None
old_channels None fill = None

-- both units alike, and no key of the new chip alone
pub record AsksOld (s : Sheet) (c : Old.Config) : Type 0 where
  pub chip : s.chip ≡ Some Esp32
  pub rate : s.rate ≡ Some c.sample_rate.0
  pub slots : s.slots ≡ Some 2
  pub channels : old_channels s.active s.fill ≡ Some c.tx_config.channels
  pub format : option_and_then esp32_format s.format ≡ Some c.data_format
  pub width : option_and_then esp32_width s.width ≡ Some c.tx_config.ws_width
  pub polarity : s.polarity ≡ Some c.tx_config.ws_polarity
  pub shift : s.shift ≡ Some c.tx_config.msb_shift
  pub alike : c.rx_config ≡ c.tx_config
  pub endianness : s.endianness ≡ None
  pub order : s.order ≡ None

pub record AsksNew (s : Sheet) (u : UnitConfig) : Type 0 where
  pub chip : s.chip ≡ Some Esp32C3
  pub rate : s.rate ≡ Some u.sample_rate.0
  pub channels : esp32c3_channels s.slots s.active s.fill ≡ Some u.channels
  pub format : s.format ≡ Some u.data_format
  pub width : s.width ≡ Some u.ws_width
  pub polarity : s.polarity ≡ Some u.ws_polarity
  pub shift : s.shift ≡ Some u.msb_shift
  pub endianness : s.endianness ≡ Some u.endianness
  pub order : s.order ≡ Some u.bit_order

abbrev pub Asks : Sheet → Asked → Type 0
Asks s (A.Esp32 c) = AsksOld s c
Asks s (A.Esp32C3 u) = AsksNew s u

abbrev pub esp32c3_asked : Sheet → Option UnitConfig
esp32c3_asked s =
    option_and_then (λ rate. option_and_then (λ channels. option_and_then (λ format. option_and_then (λ width.
    option_and_then (λ polarity. option_and_then (λ shift. option_and_then (λ endianness. option_and_then (λ order.
    Some (record {
      sample_rate = record { 0 = rate };
      channels = channels;
      data_format = format;
      ws_width = width;
      ws_polarity = polarity;
      msb_shift = shift;
      endianness = endianness;
      bit_order = order;
    })) s.order) s.endianness) s.shift) s.polarity) s.width) s.format) (esp32c3_channels s.slots s.active s.fill)) s.rate

abbrev pub alike : ℕ → OldFormat.DataFormat → OldUnit.UnitConfig → Old.Config
alike rate format unit = record { rx_config = unit; tx_config = unit; sample_rate = record { 0 = rate }; data_format = format }

-- no key of the new chip alone
abbrev pub is_old : Sheet → Bool
is_old s = not (is_some s.endianness || is_some s.order)

abbrev pub esp32_asked : Sheet → Option Old.Config
esp32_asked s =
    option_and_then (λ rate. option_and_then (λ slots. cond (slots == 2)
    (option_and_then (λ channels. option_and_then (λ format. option_and_then (λ width. option_and_then (λ polarity. option_and_then (λ shift.
    cond (is_old s)
    (Some (alike rate format (record { channels = channels; ws_width = width; ws_polarity = polarity; msb_shift = shift }))) None)
    s.shift) s.polarity) (option_and_then esp32_width s.width)) (option_and_then esp32_format s.format)) (old_channels s.active s.fill)) None)
    s.slots) s.rate

abbrev pub chip_asked : Chip → Sheet → Option Asked
chip_asked Esp32 s = option_map A.Esp32 (esp32_asked s)
chip_asked Esp32C3 s = option_map A.Esp32C3 (esp32c3_asked s)

abbrev pub asked_of : Sheet → Option Asked
asked_of s = option_and_then (λ chip. chip_asked chip s) s.chip

abbrev pub reading_asked : Reading → Option Asked
reading_asked r = cond r.all_read (asked_of r.sheet) None
