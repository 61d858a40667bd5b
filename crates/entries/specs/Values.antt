-- Words that name a value. Assumes nothing.
--     named name value next  the value where the word is this name, and otherwise what comes next
--     number_up_to most word a number of at most `most`
--     chip_in word, ..       the value that a word names, if it does
use Rattle.std.specs.Prelude.{ℕ, ◌-◌, ◌^◌, Bool, true, false, cond, List, Some, None, Option, codes}
use Rattle.std.specs.Str.{bytes_eq}
use Rattle.std.specs.Option.{option_map}
use Rattle.std.specs.Result.{result_ok}
use Rattle.entries.specs.declared.entry.Chip.{Chip}
use Rattle.entries.specs.declared.entry.Chip.TheVariants.{Esp32, Esp32C3}
use Rattle.entries.specs.declared.entry.Fill.{Fill}
use Rattle.entries.specs.declared.entry.Fill.TheVariants.{Repeat, Number}
use Rattle.setups.specs.declared.esp32c3.DataFormat.{DataFormat}
use Rattle.setups.specs.declared.esp32c3.DataFormat.TheVariants.{Data32Channel32, Data32Channel24, Data32Channel16, Data32Channel8, Data16Channel16, Data16Channel8, Data8Channel8}
use Rattle.setups.specs.declared.esp32c3.WsWidth.{WsWidth}
use Rattle.setups.specs.declared.esp32c3.WsWidth.TheVariants.{HalfFrame, OneChannel, Bit, Bits}
use Rattle.setups.specs.declared.BitOrder.{BitOrder}
use Rattle.setups.specs.declared.BitOrder.TheVariants.{MsbFirst, LsbFirst}
use Rattle.setups.specs.declared.Endianness.{Endianness}
use Rattle.setups.specs.declared.Endianness.TheVariants.{LittleEndian, BigEndian}
use Rattle.setups.specs.declared.Polarity.{Polarity}
use Rattle.setups.specs.declared.Polarity.TheVariants.{ActiveHigh, ActiveLow}
use Rattle.words.specs.Numbers.{number_in}

abbrev pub chip_in : List ℕ → Option Chip
chip_in word = cond (bytes_eq word (codes "ESP32")) (Some Esp32) (cond (bytes_eq word (codes "ESP32-C3")) (Some Esp32C3) None)

abbrev pub number_up_to : ℕ → List ℕ → Option ℕ
number_up_to most word = result_ok (number_in word most)

abbrev pub fill_in : List ℕ → Option Fill
fill_in word = cond (bytes_eq word (codes "repeat")) (Some Repeat) (option_map Number (number_up_to (2 ^ 32 - 1) word))

abbrev pub format_in : List ℕ → Option DataFormat
format_in word =
    cond (bytes_eq word (codes "32/32")) (Some Data32Channel32)
    (cond (bytes_eq word (codes "32/24")) (Some Data32Channel24)
    (cond (bytes_eq word (codes "32/16")) (Some Data32Channel16)
    (cond (bytes_eq word (codes "32/8")) (Some Data32Channel8)
    (cond (bytes_eq word (codes "16/16")) (Some Data16Channel16)
    (cond (bytes_eq word (codes "16/8")) (Some Data16Channel8)
    (cond (bytes_eq word (codes "8/8")) (Some Data8Channel8) None))))))

abbrev pub width_in : List ℕ → Option WsWidth
width_in word =
    cond (bytes_eq word (codes "half")) (Some HalfFrame)
    (cond (bytes_eq word (codes "slot")) (Some OneChannel)
    (cond (bytes_eq word (codes "bit")) (Some Bit) (option_map Bits (number_up_to (2 ^ 16 - 1) word))))

abbrev pub polarity_in : List ℕ → Option Polarity
polarity_in word = cond (bytes_eq word (codes "high")) (Some ActiveHigh) (cond (bytes_eq word (codes "low")) (Some ActiveLow) None)

abbrev pub shift_in : List ℕ → Option Bool
shift_in word = cond (bytes_eq word (codes "yes")) (Some true) (cond (bytes_eq word (codes "no")) (Some false) None)

abbrev pub endianness_in : List ℕ → Option Endianness
endianness_in word = cond (bytes_eq word (codes "little")) (Some LittleEndian) (cond (bytes_eq word (codes "big")) (Some BigEndian) None)

abbrev pub order_in : List ℕ → Option BitOrder
order_in word = cond (bytes_eq word (codes "msb")) (Some MsbFirst) (cond (bytes_eq word (codes "lsb")) (Some LsbFirst) None)
