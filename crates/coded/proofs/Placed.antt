-- Each value has its place, and each place its value. Assumes nothing.
use Rattle.std.proofs.Common.{◌≡◌, ℕ, zero, suc, ◌<◌, Bool, true, false, eqb, Some, IfSome, refl, arith}
use Rattle.std.proofs.lemmas.Bool.Decides.{nat_tests}
use Rattle.std.specs.List.{slice_get}
use Rattle.setups.specs.declared.Polarity.{Polarity}
use Rattle.setups.specs.declared.Polarity.TheVariants.{ActiveHigh, ActiveLow}
use Rattle.coded.specs.Places.{flag_place, flags, polarities, polarity_place}

pub flag_read : (b : Bool) → slice_get flags (flag_place b) ≡ Some b
flag_read false = refl
flag_read true = refl

pub flag_placed : (n : ℕ) → IfSome (slice_get flags n) (λ b. n ≡ flag_place b)
flag_placed zero = refl
flag_placed (suc zero) = refl
flag_placed (suc (suc n)) = tt

pub polarity_read : (p : Polarity) → slice_get polarities (polarity_place p) ≡ Some p
polarity_read ActiveHigh = refl
polarity_read ActiveLow = refl

pub polarity_placed : (n : ℕ) → IfSome (slice_get polarities n) (λ p. n ≡ polarity_place p)
polarity_placed zero = refl
polarity_placed (suc zero) = refl
polarity_placed (suc (suc n)) = tt

pub longer : (n k : ℕ) → k < n → eqb n k ≡ false
longer n k h = grind (arith, nat_tests)
