-- The fraction of a clock's divider is the nearest of all. Assumes nothing.
use Rattle.std.proofs.Common.{◌≡◌, ℕ, ◌+◌, ◌*◌, ◌/◌, ◌<◌, ◌≤◌, Bool, true, false, cond, ◌==◌, None, Ok, Err, Result, IfOk, ◌⊎◌, inl, inr, ⊎_elim, refl, sym, ap, subst, ◌∙◌, arith}
use Rattle.std.proofs.Math.Nat.{add-mul, div-mul-le_self, le_of_lt, le_refl, le_trans, lt-div-mul-add, le-mul_of_pos_right, mul-le-mul_left, mul-le-mul_right, mul-add, mul_assoc, mul_comm, mul_left_comm}
use Rattle.std.proofs.lemmas.Bool.{cases_Bool, cases_lt, cases_order, false≢true}
use Rattle.std.proofs.lemmas.Option.{none-some}
use Rattle.dividers.specs.declared.ConfigError.{ConfigError}
use Rattle.dividers.specs.declared.I2sClockDividers.{I2sClockDividers}
use Rattle.dividers.specs.Answers.{Accepts, DividersRule, refused_when}
use Rattle.dividers.specs.Refusals.{refused_by}
use Rattle.dividers.specs.Clock.{decimal_of, left_of, mclk_of, out_of_range, rest_of, sclk}
use Rattle.dividers.specs.Pair.{has_pair, PairRule}
use Rattle.dividers.specs.Search.{apart, FirstLeast, miss_of, miss_with, numerator_at}
use Rattle.fractions.specs.Nearest.{FractionNearest, Nearest}

-- r / m cut to four decimals
record Cut (r m d : ℕ) : Type 0 where
  pub low : d * m ≤ 10000 * r
  pub high : 10000 * r < d * m + m

cut : (r m : ℕ) → 0 < m → Cut r m (r * 10000 / m)
cut r m pos = record {
  low = omega (arith, div-mul-le_self (r * 10000) m);
  high = omega (arith, lt-div-mul-add {a = r * 10000} {b = m} pos);
}

-- the arithmetic, over x = r * a, t = a * d * m, u = a * m, own = m * n(a) and any = m * n
far : (x t u m own any : ℕ) → 0 < m → t ≤ 10000 * x → 10000 * x ≤ t + u → u ≤ 1000 * m → 10000 * own ≤ t + 5000 * m → t + 5000 * m ≤ 10000 * own + 9999 * m
    → (any + m ≤ own) ⊎ (own + m ≤ any) → 2 * m < 5 * apart x any
far x t u m own any pos p q s v w (inl h) = omega arith
far x t u m own any pos p q s v w (inr h) = omega arith

fifths : (x y m : ℕ) → 5 * x ≤ 2 * m → 2 * m < 5 * y → x < y
fifths x y m h k = omega arith

-- by how much n over a misses, where r of m is left; and with the denominator's own numerator
abbrev missing : ℕ → ℕ → ℕ → ℕ → ℕ
missing r m a n = apart (r * a) (m * n)

abbrev own_miss : ℕ → ℕ → ℕ → ℕ → ℕ
own_miss r m d a = missing r m a (numerator_at d a)

module _ (r m d : ℕ) (pos : 0 < m) (c : Cut r m d) where
  -- bounds on the decimal are bounds on the rest
  at_least : (k : ℕ) → k ≤ d → k * m ≤ 10000 * r
  at_least k h = omega (arith, mul-le-mul_right m h, c.low)

  below : (k : ℕ) → d < k → 10000 * r < k * m
  below k h = omega (arith, mul-le-mul_right m h, add-mul d 1 m, c.high)

  -- a numerator other than a denominator's own misses by more than two fifths of the clock
  other : (a n : ℕ) → a ≤ 1000 → (n < numerator_at d a) ⊎ (numerator_at d a < n) → 2 * m < 5 * missing r m a n
  other a n le way =
      let own : ℕ = numerator_at d a in
      let lo : 10000 * own ≤ a * d + 5000 = omega arith in
      let hi : a * d + 5000 ≤ 10000 * own + 9999 = omega arith in
      let turn : a * (10000 * r) ≡ 10000 * (r * a) = omega (arith, mul_left_comm a 10000 r, mul_comm a r) in
      let same = mul_assoc a d m in
      far (r * a) (a * d * m) (a * m) m (m * own) (m * n) pos
      (omega (arith, mul-le-mul_left a c.low))
      (omega (arith, mul-le-mul_left a (le_of_lt c.high), mul-add a (d * m) m))
      (mul-le-mul_right m le)
      (omega (arith, mul-le-mul_left m lo, mul-add m (a * d) 5000, mul_comm m (a * d), mul_left_comm m 10000 own))
      (omega (arith, mul-le-mul_left m hi, mul-add m (a * d) 5000, mul-add m (10000 * own) 9999, mul_comm m (a * d), mul_left_comm m 10000 own))
      (⊎_elim (λ l. inl (omega (arith, mul-le-mul_left m l, mul-add m n 1))) (λ l. inr (omega (arith, mul-le-mul_left m l, mul-add m own 1))) way)

  -- denominator 2 or 3 misses by at most two fifths
  two_three : r < m → (5 * own_miss r m d 2 ≤ 2 * m) ⊎ (5 * own_miss r m d 3 ≤ 2 * m)
  two_three lt =
      let is : (a k : ℕ) → numerator_at d a ≡ k → m * numerator_at d a ≡ m * k = λ a k e. ap (λ (n : ℕ). m * n) e in
      ⊎_elim (λ h. inl (omega (arith, below 2000 h, is 2 0 (omega arith))))
      (λ g. ⊎_elim (λ h. inr (omega (arith, at_least 2000 g, below 4666 h, is 3 1 (omega arith))))
      (λ g. ⊎_elim (λ h. inl (omega (arith, at_least 4666 g, below 7000 h, is 2 1 (omega arith))))
      (λ g. ⊎_elim (λ h. inr (omega (arith, at_least 7000 g, below 8000 h, is 3 2 (omega arith))))
      (λ g. ⊎_elim (λ h. inl (omega (arith, at_least 8000 g, is 2 2 (omega arith))))
      (λ g. absurd (omega (arith, at_least 10000 g))) (cases_lt d 10000)) (cases_lt d 8000)) (cases_lt d 7000)) (cases_lt d 4666)) (cases_lt d 2000)

  module _ (max den : ℕ) (lt : r < m) (three : 3 ≤ max) (most : max ≤ 1000) (h : FirstLeast (own_miss r m d) max den) where
    small : 5 * own_miss r m d den ≤ 2 * m
    small =
        ⊎_elim (λ e. le_trans (mul-le-mul_left 5 (h.least 2 (omega arith) (omega arith))) e)
        (λ e. le_trans (mul-le-mul_left 5 (h.least 3 (omega arith) (omega arith))) e) (two_three lt)

    -- a fraction has its denominator's own numerator, or misses by more than the least
    against : (a n : ℕ) → a ≤ max → (n ≡ numerator_at d a) ⊎ (own_miss r m d den < missing r m a n)
    against a n le =
        let beyond : (n < numerator_at d a) ⊎ (numerator_at d a < n) → own_miss r m d den < missing r m a n =
        λ way. fifths (own_miss r m d den) (missing r m a n) m small (other a n (le_trans le most) way) in
        ⊎_elim inl (λ way. inr (beyond way)) (cases_order n (numerator_at d a))

module _ (m max : ℕ) (pos : 0 < m) (three : 3 ≤ max) (most : max ≤ 1000) where
  found_nearest : (den : ℕ) → FirstLeast (miss_of (left_of m)) max den → Nearest m max den (numerator_at (decimal_of m) den)
  found_nearest den h =
      let l = left_of m in
      let lt : rest_of m < m = omega (arith, lt-div-mul-add {a = sclk} {b = m} pos) in
      let c = cut (rest_of m) m pos in
      record {
        smaller = λ a n two lo. ⊎_elim (λ q. subst (λ (k : ℕ). miss_of l den < miss_with l a k) (sym q) (h.first a two lo)) (λ l. l) (against (rest_of m) m (decimal_of m) pos c max den lt three most h a n (omega (arith, h.to)));
        same = λ n. ⊎_elim (λ q. subst (λ (k : ℕ). miss_of l den ≤ miss_with l den k) (sym q) (le_refl _)) le_of_lt (against (rest_of m) m (decimal_of m) pos c max den lt three most h den n h.to);
        larger = λ a n lo hi. ⊎_elim (λ q. subst (λ (k : ℕ). miss_of l den ≤ miss_with l a k) (sym q) (h.least a (omega (arith, h.from)) hi)) le_of_lt (against (rest_of m) m (decimal_of m) pos c max den lt three most h a n hi);
      }

  rule_nearest : (a n : ℕ) → PairRule (left_of m) max a n → 0 < a → Nearest m max a n
  rule_nearest a n rule some =
      ⊎_elim
      (λ has. let f = rule.found has in subst (λ (k : ℕ). Nearest m max a k) (sym f.1) (found_nearest a f.0))
      (λ none. absurd (omega (arith, (rule.none none).0, some)))
      (cases_Bool (has_pair (left_of m) max))

multiple_pos : (b : Bool) → 0 < cond b 192 256
multiple_pos true = omega arith
multiple_pos false = omega arith

-- an accepted rate has a main clock
clock_pos : (rate slots bits : ℕ) → out_of_range rate slots bits ≡ false → 0 < mclk_of rate bits
clock_pos rate slots bits e =
    let rated : rate ≡ 0 → ⊥ = λ zero. false≢true (sym e ∙ ap (λ (x : ℕ). out_of_range x slots bits) zero) in
    let some : 0 < rate = ⊎_elim (λ zero. absurd (rated zero)) (λ way. ⊎_elim (λ l. absurd (omega (arith, l))) (λ l. l) way) (cases_order rate 0) in
    le_trans some (le-mul_of_pos_right rate (multiple_pos (bits == 24)))

in_range : (b : Bool) → None ≡ refused_when b 4 → b ≡ false
in_range true e = absurd (none-some _ e)
in_range false e = refl

-- so is that of an answer
pub answers_nearest : (rate slots bits max : ℕ) (r : Result I2sClockDividers ConfigError)
    → Accepts r (DividersRule rate slots bits max) → refused_by r ≡ refused_when (out_of_range rate slots bits) 4
    → 3 ≤ max → max ≤ 1000 → IfOk r (λ d. FractionNearest (mclk_of rate bits) max d)
answers_nearest rate slots bits max (Ok d) rule gate three most = λ some. rule_nearest (mclk_of rate bits) max (clock_pos rate slots bits (in_range _ gate)) three most d.denominator d.numerator rule.pair some
answers_nearest rate slots bits max (Err x) rule gate three most = record {}
