-- What a sheet lacks to be a whole set-up of its chip. Assumes nothing.
--     needs chip key              whether a chip needs a key; of an unknown chip, whether both do
--     row_fits slots row          whether a row has a digit for each slot; any does where no row could: no slots, or above 16
--     esp32_channels row fill     the channels of the old chip with these slots active
--     esp32_format, esp32_width   a format and a width on the old chip, if it has them
--     old_lack, new_lack          what is wrong with the value of a key on the old and the new chip
--     lack_of sheet key           what is wrong with a key, if anything
use Rattle.std.specs.Prelude.{ℕ, Bool, true, false, cond, not, ◌||◌, Some, None, Option, ◌==◌, nat_lt, is_none}
use Rattle.entries.specs.declared.Chip.{Chip}
use Rattle.entries.specs.declared.Chip.TheVariants.{Esp32, Esp32C3}
use Rattle.entries.specs.declared.Fill.{Fill}
use Rattle.entries.specs.declared.Fill.TheVariants.{Repeat, Number}
use Rattle.entries.specs.declared.Key.{Key}
use Rattle.entries.specs.declared.Key.TheVariants as K
use Rattle.entries.specs.declared.Row.{Row}
use Rattle.old_setups.specs.declared.Channels as Old
use Rattle.old_setups.specs.declared.Channels.TheVariants.{Stereo, Mono, Left, Right}
use Rattle.old_setups.specs.declared.DataFormat as OldFormat
use Rattle.old_setups.specs.declared.DataFormat.TheVariants as OldFormats
use Rattle.old_setups.specs.declared.WsWidth as OldWidth
use Rattle.old_setups.specs.declared.WsWidth.TheVariants as OldWidths
use Rattle.setups.specs.declared.esp32c3.DataFormat.{DataFormat}
use Rattle.setups.specs.declared.esp32c3.DataFormat.TheVariants.{Data32Channel32, Data16Channel16}
use Rattle.setups.specs.declared.esp32c3.WsWidth.{WsWidth}
use Rattle.setups.specs.declared.esp32c3.WsWidth.TheVariants.{HalfFrame, OneChannel, Bit, Bits}
use Rattle.sheets.specs.declared.lack.Lack.{Lack}
use Rattle.sheets.specs.declared.lack.Lack.TheVariants.{Missing, Foreign, NoSetUp, Digits}
use Rattle.sheets.specs.declared.sheet.Sheet.{Sheet}
use Rattle.sheets.specs.Sheets.{says}

-- what the new chip alone has
abbrev pub is_new : Key → Bool
is_new K.Endianness = true
is_new K.Order = true
is_new _ = false

abbrev pub needs : Option Chip → Key → Bool
needs (Some Esp32C3) key = true
needs (Some Esp32) key = not (is_new key)
needs None key = not (is_new key)

abbrev pub row_fits : ℕ → Row → Bool
row_fits slots row = slots == 0 || nat_lt 16 slots || row.digits == slots

-- by the mask: 3 is both slots, 1 the first, 2 the second
abbrev pub channels_by : ℕ → Fill → Option Old.Channels
channels_by mask Repeat = cond (mask == 3) (Some Stereo) (cond (mask == 1) (Some Mono) None)
channels_by mask (Number n) = cond (n == 0) (cond (mask == 1) (Some Left) (cond (mask == 2) (Some Right) None)) None

abbrev pub esp32_channels : Row → Fill → Option Old.Channels
esp32_channels row fill = cond (row.digits == 2) (channels_by row.mask fill) None

abbrev pub esp32_format : DataFormat → Option OldFormat.DataFormat
esp32_format Data32Channel32 = Some OldFormats.Data32Channel32
esp32_format Data16Channel16 = Some OldFormats.Data16Channel16
esp32_format _ = None

abbrev pub esp32_width : WsWidth → Option OldWidth.WsWidth
esp32_width HalfFrame = Some OldWidths.HalfFrame
esp32_width Bit = Some OldWidths.Bit
esp32_width OneChannel = None
esp32_width (Bits n) = None

abbrev pub no_set_up : Bool → Option Lack
no_set_up has = cond has None (Some NoSetUp)

abbrev slots_lack : Option ℕ → Option Lack
slots_lack None = None
slots_lack (Some n) = no_set_up (n == 2)

abbrev channels_lack : Option Row → Option Fill → Option Lack
channels_lack (Some row) (Some fill) = no_set_up (not (is_none (esp32_channels row fill)))
channels_lack (Some row) None = None
channels_lack None fill = None

abbrev format_lack : Option DataFormat → Option Lack
format_lack None = None
format_lack (Some f) = no_set_up (not (is_none (esp32_format f)))

abbrev width_lack : Option WsWidth → Option Lack
width_lack None = None
width_lack (Some w) = no_set_up (not (is_none (esp32_width w)))

abbrev pub old_lack : Sheet → Key → Option Lack
old_lack s K.Slots = slots_lack s.slots
old_lack s K.Active = channels_lack s.active s.fill
old_lack s K.Format = format_lack s.format
old_lack s K.Width = width_lack s.width
old_lack s K.Endianness = Some Foreign
old_lack s K.Order = Some Foreign
old_lack s _ = None

abbrev digits_lack : Option ℕ → Option Row → Option Lack
digits_lack (Some n) (Some row) = cond (row_fits n row) None (Some Digits)
digits_lack (Some n) None = None
digits_lack None row = None

abbrev pub new_lack : Sheet → Key → Option Lack
new_lack s K.Active = digits_lack s.slots s.active
new_lack s _ = None

abbrev pub value_lack : Option Chip → Sheet → Key → Option Lack
value_lack None s key = None
value_lack (Some Esp32) s key = old_lack s key
value_lack (Some Esp32C3) s key = new_lack s key

abbrev pub lack_of : Sheet → Key → Option Lack
lack_of s key = cond (says s key) (value_lack s.chip s key) (cond (needs s.chip key) (Some Missing) None)
