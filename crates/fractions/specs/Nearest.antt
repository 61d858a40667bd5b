-- The fraction of a clock's divider is the nearest of all. Assumes nothing.
--     Nearest m max a n      at the main clock m, n over a misses by less than any fraction with a smaller denominator from 2 on, and by no
--                            more than any with the same or a larger one up to max; how far a fraction misses is miss_with
--     FractionNearest m max d
--                            so is the pair of the dividers d, where there is one
use Rattle.std.specs.Prelude.{ℕ, ◌<◌, ◌≤◌}
use Rattle.dividers.specs.declared.I2sClockDividers.{I2sClockDividers}
use Rattle.dividers.specs.Clock.{left_of}
use Rattle.dividers.specs.Search.{miss_with}

pub record Nearest (m max a n : ℕ) : Type 0 where
  pub smaller : (b k : ℕ) → 2 ≤ b → b < a → miss_with (left_of m) a n < miss_with (left_of m) b k
  pub same : (k : ℕ) → miss_with (left_of m) a n ≤ miss_with (left_of m) a k
  pub larger : (b k : ℕ) → a < b → b ≤ max → miss_with (left_of m) a n ≤ miss_with (left_of m) b k

abbrev pub FractionNearest : ℕ → ℕ → I2sClockDividers → Type 0
FractionNearest m max d = 0 < d.denominator → Nearest m max d.denominator d.numerator
