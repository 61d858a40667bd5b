-- Lines of a sheet as a gin writes them. Assumes nothing.
--     row_text digits mask  a row of so many digits, the first slot first
--     value_text entry      the word for an entry's value
--     Sayable entry         its numbers are not above their limits
--     written entry         the key, a space, the value
--     ReadsWritten line r   what is written so is read as that entry
use Rattle.std.specs.Prelude.{◌≡◌, ℕ, ◌+◌, ◌/◌, ◌%◌, ◌^◌, ◌<◌, ◌≤◌, Bool, true, false, List, [], ◌∷◌, ◌++◌, Some, Ok, Option, Result, codes, decimal, zero, suc}
use Rattle.entries.specs.declared.entry.Chip.{Chip}
use Rattle.entries.specs.declared.entry.Chip.TheVariants.{Esp32, Esp32C3}
use Rattle.entries.specs.declared.entry.Entry.{Entry}
use Rattle.entries.specs.declared.entry.Entry.TheVariants as E
use Rattle.entries.specs.declared.entry.Fill.{Fill}
use Rattle.entries.specs.declared.entry.Fill.TheVariants.{Repeat, Number}
use Rattle.entries.specs.declared.read.Unread.{Unread}
use Rattle.setups.specs.declared.esp32c3.DataFormat.{DataFormat}
use Rattle.setups.specs.declared.esp32c3.DataFormat.TheVariants.{Data32Channel32, Data32Channel24, Data32Channel16, Data32Channel8, Data16Channel16, Data16Channel8, Data8Channel8}
use Rattle.setups.specs.declared.esp32c3.WsWidth.{WsWidth}
use Rattle.setups.specs.declared.esp32c3.WsWidth.TheVariants.{HalfFrame, OneChannel, Bit, Bits}
use Rattle.setups.specs.declared.BitOrder.{BitOrder}
use Rattle.setups.specs.declared.BitOrder.TheVariants.{MsbFirst, LsbFirst}
use Rattle.setups.specs.declared.Endianness.{Endianness}
use Rattle.setups.specs.declared.Endianness.TheVariants.{LittleEndian, BigEndian}
use Rattle.setups.specs.declared.Polarity.{Polarity}
use Rattle.setups.specs.declared.Polarity.TheVariants.{ActiveHigh, ActiveLow}
use Rattle.entries.specs.Entries.{key_of}
use Rattle.entries.specs.Keys.{key_text}

-- 48 is the code of a 0
abbrev pub row_text : ℕ → ℕ → List ℕ
row_text zero mask = []
row_text (suc digits) mask = (48 + mask % 2) ∷ row_text digits (mask / 2)

abbrev pub chip_text : Chip → List ℕ
chip_text Esp32 = codes "ESP32"
chip_text Esp32C3 = codes "ESP32-C3"

abbrev pub fill_text : Fill → List ℕ
fill_text Repeat = codes "repeat"
fill_text (Number n) = decimal n

abbrev pub format_text : DataFormat → List ℕ
format_text Data32Channel32 = codes "32/32"
format_text Data32Channel24 = codes "32/24"
format_text Data32Channel16 = codes "32/16"
format_text Data32Channel8 = codes "32/8"
format_text Data16Channel16 = codes "16/16"
format_text Data16Channel8 = codes "16/8"
format_text Data8Channel8 = codes "8/8"

abbrev pub width_text : WsWidth → List ℕ
width_text HalfFrame = codes "half"
width_text OneChannel = codes "slot"
width_text Bit = codes "bit"
width_text (Bits n) = decimal n

abbrev pub polarity_text : Polarity → List ℕ
polarity_text ActiveHigh = codes "high"
polarity_text ActiveLow = codes "low"

abbrev pub shift_text : Bool → List ℕ
shift_text true = codes "yes"
shift_text false = codes "no"

abbrev pub endianness_text : Endianness → List ℕ
endianness_text LittleEndian = codes "little"
endianness_text BigEndian = codes "big"

abbrev pub order_text : BitOrder → List ℕ
order_text MsbFirst = codes "msb"
order_text LsbFirst = codes "lsb"

abbrev pub value_text : Entry → List ℕ
value_text (E.Chip x) = chip_text x
value_text (E.Rate n) = decimal n
value_text (E.Slots n) = decimal n
value_text (E.Active row) = row_text row.digits row.mask
value_text (E.Fill x) = fill_text x
value_text (E.Format x) = format_text x
value_text (E.Width x) = width_text x
value_text (E.Polarity x) = polarity_text x
value_text (E.Shift x) = shift_text x
value_text (E.Endianness x) = endianness_text x
value_text (E.Order x) = order_text x

abbrev pub fill_sayable : Fill → Type 0
fill_sayable Repeat = Unit
fill_sayable (Number n) = n < 2 ^ 32

abbrev pub width_sayable : WsWidth → Type 0
width_sayable HalfFrame = Unit
width_sayable OneChannel = Unit
width_sayable Bit = Unit
width_sayable (Bits n) = n < 2 ^ 16

abbrev pub Sayable : Entry → Type 0
Sayable (E.Chip x) = Unit
Sayable (E.Rate n) = n < 2 ^ 32
Sayable (E.Slots n) = n < 2 ^ 8
Sayable (E.Active row) = (1 ≤ row.digits) × (row.digits ≤ 16) × (row.mask < 2 ^ row.digits)
Sayable (E.Fill x) = fill_sayable x
Sayable (E.Format x) = Unit
Sayable (E.Width x) = width_sayable x
Sayable (E.Polarity x) = Unit
Sayable (E.Shift x) = Unit
Sayable (E.Endianness x) = Unit
Sayable (E.Order x) = Unit

abbrev pub written : Entry → List ℕ
written entry = key_text (key_of entry) ++ (32 ∷ value_text entry)

abbrev pub ReadsWritten : List ℕ → Result (Option Entry) Unread → Type 0
ReadsWritten line r = (entry : Entry) → Sayable entry → line ≡ written entry → r ≡ Ok (Some entry)
