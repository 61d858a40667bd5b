-- A sheet that lacks nothing asks a set-up, and each part of the set-up is what the sheet says. Assumes nothing.
use Rattle.std.proofs.Common.{◌≡◌, ℕ, Bool, true, false, eqb, Some, None, Option, IfSome, is_some, refl, ap}
use Rattle.std.proofs.lemmas.Bool.{eqb-true}
use Rattle.entries.specs.declared.Chip.{Chip}
use Rattle.entries.specs.declared.Chip.TheVariants.{Esp32, Esp32C3}
use Rattle.entries.specs.declared.Fill.{Fill}
use Rattle.entries.specs.declared.Row.{Row}
use Rattle.setups.specs.declared.esp32c3.DataFormat.{DataFormat}
use Rattle.setups.specs.declared.esp32c3.WsWidth.{WsWidth}
use Rattle.setups.specs.declared.BitOrder.{BitOrder}
use Rattle.setups.specs.declared.Endianness.{Endianness}
use Rattle.setups.specs.declared.Polarity.{Polarity}
use Rattle.old_setups.specs.declared.Channels as OldChannels
use Rattle.old_setups.specs.declared.DataFormat as OldFormat
use Rattle.old_setups.specs.declared.WsWidth as OldWidth
use Rattle.sheets.specs.declared.sheet.Sheet.{Sheet}
use Rattle.sheets.specs.Lacks.{esp32_channels, esp32_format, esp32_width, row_fits}
use Rattle.sheets.specs.Asked.{Asks, asked_of, is_ready}

abbrev sheet : Option Chip → Option ℕ → Option ℕ → Option Row → Option Fill → Option DataFormat → Option WsWidth → Option Polarity → Option Bool
    → Option Endianness → Option BitOrder → Sheet
sheet chip rate slots active fill format width polarity shift endianness order = record {
  chip = chip;
  rate = rate;
  slots = slots;
  active = active;
  fill = fill;
  format = format;
  width = width;
  polarity = polarity;
  shift = shift;
  endianness = endianness;
  order = order;
}

-- what is proved of a sheet
record Whole (s : Sheet) : Type 0 where
  asks : IfSome (asked_of s) (λ asked. Asks s asked)
  ready : is_some (asked_of s) ≡ is_ready s

-- the new chip: where the row fits, what is lacking is said first
module _ (r n : ℕ) (row : Row) where
  new_row : (t : Bool) → row_fits n row ≡ t → (fill : Option Fill) (format : Option DataFormat) (width : Option WsWidth) (polarity : Option Polarity) (shift : Option Bool) (endianness : Option Endianness) (order : Option BitOrder)
      → Whole (sheet (Some Esp32C3) (Some r) (Some n) (Some row) fill format width polarity shift endianness order)
  new_row false e None format width polarity shift endianness order = record { asks = tt; ready = rw e refl }
  new_row false e (Some f) format width polarity shift endianness order = record { asks = rw e tt; ready = rw e refl }
  new_row true e None format width polarity shift endianness order = record { asks = tt; ready = rw e refl }
  new_row true e (Some f) None width polarity shift endianness order = record { asks = rw e tt; ready = rw e refl }
  new_row true e (Some f) (Some d) None polarity shift endianness order = record { asks = rw e tt; ready = rw e refl }
  new_row true e (Some f) (Some d) (Some w) None shift endianness order = record { asks = rw e tt; ready = rw e refl }
  new_row true e (Some f) (Some d) (Some w) (Some p) None endianness order = record { asks = rw e tt; ready = rw e refl }
  new_row true e (Some f) (Some d) (Some w) (Some p) (Some s) None order = record { asks = rw e tt; ready = rw e refl }
  new_row true e (Some f) (Some d) (Some w) (Some p) (Some s) (Some b) None = record { asks = rw e tt; ready = rw e refl }
  new_row true e (Some f) (Some d) (Some w) (Some p) (Some s) (Some b) (Some o) = record { asks = rw e (record { chip = refl; rate = refl; channels = rw e refl; format = refl; width = refl; polarity = refl; shift = refl; endianness = refl; order = refl }); ready = rw e refl }

new_whole : (rate : Option ℕ) (slots : Option ℕ) (active : Option Row) (fill : Option Fill) (format : Option DataFormat) (width : Option WsWidth) (polarity : Option Polarity) (shift : Option Bool) (endianness : Option Endianness) (order : Option BitOrder)
    → Whole (sheet (Some Esp32C3) rate slots active fill format width polarity shift endianness order)
new_whole None slots active fill format width polarity shift endianness order = record { asks = tt; ready = refl }
new_whole (Some r) None active fill format width polarity shift endianness order = record { asks = tt; ready = refl }
new_whole (Some r) (Some n) None fill format width polarity shift endianness order = record { asks = tt; ready = refl }
new_whole (Some r) (Some n) (Some row) fill format width polarity shift endianness order =
    new_row r n row (row_fits n row) refl fill format width polarity shift endianness order

-- the old chip: the slots, the channels, the format and the width are tried one after the other
module _ (r n : ℕ) (two : eqb n 2 ≡ true) (row : Row) (f : Fill) (ch : OldChannels.Channels) (has : esp32_channels row f ≡ Some ch) where
  old_width : (d : DataFormat) (df : OldFormat.DataFormat) → esp32_format d ≡ Some df → (w : WsWidth) (x : Option OldWidth.WsWidth) → esp32_width w ≡ x → (polarity : Option Polarity) (shift : Option Bool) (endianness : Option Endianness) (order : Option BitOrder)
      → Whole (sheet (Some Esp32) (Some r) (Some n) (Some row) (Some f) (Some d) (Some w) polarity shift endianness order)
  old_width d df of w None ow polarity shift endianness order = record { asks = rw (two, has, of, ow) tt; ready = rw (two, has, of, ow) refl }
  old_width d df of w (Some x) ow None shift endianness order = record { asks = rw (two, has, of, ow) tt; ready = rw (two, has, of, ow) refl }
  old_width d df of w (Some x) ow (Some p) None endianness order = record { asks = rw (two, has, of, ow) tt; ready = rw (two, has, of, ow) refl }
  old_width d df of w (Some x) ow (Some p) (Some s) (Some b) order = record { asks = rw (two, has, of, ow) tt; ready = rw (two, has, of, ow) refl }
  old_width d df of w (Some x) ow (Some p) (Some s) None (Some o) = record { asks = rw (two, has, of, ow) tt; ready = rw (two, has, of, ow) refl }
  old_width d df of w (Some x) ow (Some p) (Some s) None None = record { asks = rw (two, has, of, ow) (record { chip = refl; rate = refl; slots = ap Some (eqb-true n 2 two); channels = has; format = of; width = ow; polarity = refl; shift = refl; alike = refl; endianness = refl; order = refl }); ready = rw (two, has, of, ow) refl }

  old_format : (d : DataFormat) (x : Option OldFormat.DataFormat) → esp32_format d ≡ x → (width : Option WsWidth) (polarity : Option Polarity) (shift : Option Bool) (endianness : Option Endianness) (order : Option BitOrder)
      → Whole (sheet (Some Esp32) (Some r) (Some n) (Some row) (Some f) (Some d) width polarity shift endianness order)
  old_format d None of width polarity shift endianness order = record { asks = rw (two, has, of) tt; ready = rw (two, has, of) refl }
  old_format d (Some df) of None polarity shift endianness order = record { asks = rw (two, has, of) tt; ready = rw (two, has, of) refl }
  old_format d (Some df) of (Some w) polarity shift endianness order = old_width d df of w (esp32_width w) refl polarity shift endianness order

old_row : (r n : ℕ) → eqb n 2 ≡ true → (row : Row) (f : Fill) (x : Option OldChannels.Channels) → esp32_channels row f ≡ x → (format : Option DataFormat) (width : Option WsWidth) (polarity : Option Polarity) (shift : Option Bool) (endianness : Option Endianness) (order : Option BitOrder)
    → Whole (sheet (Some Esp32) (Some r) (Some n) (Some row) (Some f) format width polarity shift endianness order)
old_row r n two row f None has format width polarity shift endianness order = record { asks = rw (two, has) tt; ready = rw (two, has) refl }
old_row r n two row f (Some ch) has None width polarity shift endianness order = record { asks = rw (two, has) tt; ready = rw (two, has) refl }
old_row r n two row f (Some ch) has (Some d) width polarity shift endianness order =
    old_format r n two row f ch has d (esp32_format d) refl width polarity shift endianness order

old_slots : (r n : ℕ) (t : Bool) → eqb n 2 ≡ t → (active : Option Row) (fill : Option Fill) (format : Option DataFormat) (width : Option WsWidth) (polarity : Option Polarity) (shift : Option Bool) (endianness : Option Endianness) (order : Option BitOrder)
    → Whole (sheet (Some Esp32) (Some r) (Some n) active fill format width polarity shift endianness order)
old_slots r n false two active fill format width polarity shift endianness order = record { asks = rw two tt; ready = rw two refl }
old_slots r n true two None fill format width polarity shift endianness order = record { asks = rw two tt; ready = rw two refl }
old_slots r n true two (Some row) None format width polarity shift endianness order = record { asks = rw two tt; ready = rw two refl }
old_slots r n true two (Some row) (Some f) format width polarity shift endianness order =
    old_row r n two row f (esp32_channels row f) refl format width polarity shift endianness order

old_whole : (rate : Option ℕ) (slots : Option ℕ) (active : Option Row) (fill : Option Fill) (format : Option DataFormat) (width : Option WsWidth) (polarity : Option Polarity) (shift : Option Bool) (endianness : Option Endianness) (order : Option BitOrder)
    → Whole (sheet (Some Esp32) rate slots active fill format width polarity shift endianness order)
old_whole None slots active fill format width polarity shift endianness order = record { asks = tt; ready = refl }
old_whole (Some r) None active fill format width polarity shift endianness order = record { asks = tt; ready = refl }
old_whole (Some r) (Some n) active fill format width polarity shift endianness order =
    old_slots r n (eqb n 2) refl active fill format width polarity shift endianness order

whole_by : (chip : Option Chip) (rate : Option ℕ) (slots : Option ℕ) (active : Option Row) (fill : Option Fill) (format : Option DataFormat) (width : Option WsWidth) (polarity : Option Polarity) (shift : Option Bool) (endianness : Option Endianness) (order : Option BitOrder) → Whole (sheet chip rate slots active fill format width polarity shift endianness order)
whole_by None rate slots active fill format width polarity shift endianness order = record { asks = tt; ready = refl }
whole_by (Some Esp32) rate slots active fill format width polarity shift endianness order = old_whole rate slots active fill format width polarity shift endianness order
whole_by (Some Esp32C3) rate slots active fill format width polarity shift endianness order = new_whole rate slots active fill format width polarity shift endianness order

whole : (s : Sheet) → Whole s
whole s = whole_by s.chip s.rate s.slots s.active s.fill s.format s.width s.polarity s.shift s.endianness s.order

pub asks : (s : Sheet) → IfSome (asked_of s) (λ asked. Asks s asked)
asks s = (whole s).asks

pub ready : (s : Sheet) → is_some (asked_of s) ≡ is_ready s
ready s = (whole s).ready
