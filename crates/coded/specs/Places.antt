-- Values that both chips have, by their places in these lists, counted from 0. Assumes nothing.
--     flags, polarities   the values in their order
--     flag_place, ..      the place of a value
use Rattle.std.specs.Prelude.{ℕ, Bool, true, false, List, [], ◌∷◌}
use Rattle.setups.specs.declared.Polarity.{Polarity}
use Rattle.setups.specs.declared.Polarity.TheVariants.{ActiveHigh, ActiveLow}

abbrev pub flags : List Bool
flags = false ∷ true ∷ []

abbrev pub flag_place : Bool → ℕ
flag_place false = 0
flag_place true = 1

abbrev pub polarities : List Polarity
polarities = ActiveHigh ∷ ActiveLow ∷ []

abbrev pub polarity_place : Polarity → ℕ
polarity_place ActiveHigh = 0
polarity_place ActiveLow = 1
