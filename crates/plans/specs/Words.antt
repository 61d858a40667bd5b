-- What the plain types print of themselves. Assumes nothing.
--     name_text name    a chip's name
--     number_text what  which of the three numbers
--     unread_text why   why a line is not read
use Rattle.std.specs.Prelude.{ℕ, List, ◌++◌, codes, decimal}
use Rattle.plans.specs.declared.read.Number.{Number}
use Rattle.plans.specs.declared.read.Number.TheVariants.{Rate, Slots, Bits}
use Rattle.plans.specs.declared.read.Unread.{Unread}
use Rattle.plans.specs.declared.read.Unread.TheVariants.{Short, Long, NotANumber, TooLarge}
use Rattle.plans.specs.declared.targets.ChipName.{ChipName}
use Rattle.plans.specs.declared.targets.ChipName.TheVariants.{Esp32, Esp32C3}

abbrev pub name_text : ChipName → List ℕ
name_text Esp32 = codes "ESP32"
name_text Esp32C3 = codes "ESP32-C3"

abbrev pub number_text : Number → List ℕ
number_text Rate = codes "rate"
number_text Slots = codes "number of slots"
number_text Bits = codes "number of bits"

abbrev pub unread_text : Unread → List ℕ
unread_text Short = codes "it has fewer than three words"
unread_text Long = codes "it has more than three words"
unread_text (NotANumber what) = codes "the " ++ (number_text what ++ codes " is not a whole number")
unread_text (TooLarge what most) = codes "the " ++ (number_text what ++ (codes " is above " ++ decimal most))
