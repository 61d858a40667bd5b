-- The chips that plans are made for. Assumes nothing.
--     chips_known       the chips: largest denominator, integer parts, split or not, slots, whether there are 8 bits
--     lack_of chip ask  what no set-up of a chip has of what is asked: slots, then bits, then a frame within 128 bits
use Rattle.std.specs.Prelude.{ℕ, ◌*◌, Bool, true, false, cond, not, ◌&&◌, ◌||◌, List, [], ◌∷◌, Some, None, Option, ◌==◌, nat_lt}
use Rattle.dividers.specs.Answers.{eight_bit_range}
use Rattle.plans.specs.declared.targets.Chip.{Chip}
use Rattle.plans.specs.declared.targets.ChipName.TheVariants.{Esp32, Esp32C3}
use Rattle.plans.specs.declared.targets.Lack.{Lack}
use Rattle.plans.specs.declared.targets.Lack.TheVariants.{Slots, Bits, Frame}
use Rattle.plans.specs.declared.read.Ask.{Ask}

abbrev pub chips_known : List Chip
chips_known =
    record { name = Esp32; max = 63; range = eight_bit_range; splits = false; least_slots = 2; most_slots = 2; eight_bits = false }
    ∷ record { name = Esp32C3; max = 511; range = eight_bit_range; splits = true; least_slots = 1; most_slots = 16; eight_bits = true }
    ∷ []

abbrev pub has_slots : Chip → ℕ → Bool
has_slots chip slots = not (nat_lt slots chip.least_slots || nat_lt chip.most_slots slots)

abbrev pub has_bits : Chip → ℕ → Bool
has_bits chip bits = bits == 16 || bits == 32 || (bits == 8 && chip.eight_bits)

abbrev pub lack_of : Chip → Ask → Option Lack
lack_of chip ask =
    cond (has_slots chip ask.slots)
    (cond (has_bits chip ask.bits) (cond (nat_lt 128 (ask.slots * ask.bits)) (Some (Frame (ask.slots * ask.bits))) None) (Some Bits))
    (Some Slots)
