-- A word with no blank is the first word of a text where a blank or nothing follows it. Assumes nothing.
use Rattle.std.proofs.Common.{◌≡◌, ℕ, ◌<◌, true, not, List, [], ◌∷◌, ◌++◌, length, take, drop, refl, ap, one-add, arith}
use lib.Seq.{take-append_seam, drop-append_seam}
use Rattle.std.proofs.lemmas.Bool.{and_from, and_parts}
use Rattle.std.proofs.lemmas.Bool.Decides.{nat_tests}
use Rattle.std.specs.Char.{is_ascii_digit}
use Rattle.std.specs.List.{position_or_len}
use Rattle.words.specs.Numbers.{is_digits}
use Rattle.words.specs.Parts.{is_blank, is_unbroken, past_blanks, past_word, word_in}

digit_not_blank : (b : ℕ) → is_ascii_digit b ≡ true → not (is_blank b) ≡ true
digit_not_blank b d = grind (arith, nat_tests)

-- digits are no blanks
pub digits_unbroken : (w : List ℕ) → is_digits w ≡ true → is_unbroken w ≡ true
digits_unbroken [] d = refl
digits_unbroken (b ∷ w) d =
    let digits = and_parts (is_ascii_digit b) (is_digits w) d in
    and_from (not (is_blank b)) (is_unbroken w) (digit_not_blank b digits.0) (digits_unbroken w digits.1)

-- a word is counted whole, and stops where a blank or nothing follows it
word_ends : (w t : List ℕ) → is_unbroken w ≡ true → position_or_len is_blank t ≡ 0 → position_or_len is_blank (w ++ t) ≡ length w
word_ends [] t u stop = stop
word_ends (b ∷ w) t u stop =
    let parts = and_parts (not (is_blank b)) (is_unbroken w) u in
    let first = parts.0 in
    let rest = word_ends w t parts.1 stop in grind arith

module _ (w t : List ℕ) (u : is_unbroken w ≡ true) (some : 0 < length w) (stop : position_or_len is_blank t ≡ 0) where
  starts : past_blanks (w ++ t) ≡ w ++ t
  starts = go w u some where
    go : (v : List ℕ) → is_unbroken v ≡ true → 0 < length v → past_blanks (v ++ t) ≡ v ++ t
    go [] e h = absurd (omega arith)
    go (b ∷ v) e h = let first = (and_parts (not (is_blank b)) (is_unbroken v) e).0 in grind arith

  pub first_word : word_in (w ++ t) ≡ w
  first_word = grind (arith, starts, word_ends w t u stop, take-append_seam w t)

  pub past_word_lem : past_word (w ++ t) ≡ t
  past_word_lem = grind (arith, starts, word_ends w t u stop, drop-append_seam w t)

-- a space before a word is passed
past_space : (bs : List ℕ) → past_blanks (32 ∷ bs) ≡ past_blanks bs
past_space bs = ap (λ (n : ℕ). drop n (32 ∷ bs)) (one-add (position_or_len (λ b. not (is_blank b)) bs))

pub space_word : (bs : List ℕ) → word_in (32 ∷ bs) ≡ word_in bs
space_word bs = ap (λ (cs : List ℕ). take (position_or_len is_blank cs) cs) (past_space bs)

pub space_past : (bs : List ℕ) → past_word (32 ∷ bs) ≡ past_word bs
space_past bs = ap (λ (cs : List ℕ). drop (position_or_len is_blank cs) cs) (past_space bs)
