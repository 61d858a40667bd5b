-- The lines of a text, one after the other. Assumes nothing.
use Rattle.std.proofs.Common.{◌≡◌, ℕ, ◌+◌, ◌<◌, Bool, true, false, cond, not, suc, List, [], ◌∷◌, length, take, drop, refl, arith}
use Rattle.std.specs.List.{position_or_len}
use Rattle.words.specs.Lines.{is_line_feed, line_in, lines_of, longer, past_line}

-- by whether the first byte ends a line
begun : (b : ℕ) (bs : List ℕ) (t : Bool) (n : ℕ) → n ≡ position_or_len is_line_feed bs
    → (0 < length bs → lines_of bs ≡ take n bs ∷ lines_of (drop (n + 1) bs))
    → cond t ([] ∷ lines_of bs) (longer b (lines_of bs))
    ≡ take (cond (not t) (1 + n) 0) (b ∷ bs) ∷ lines_of (drop (cond (not t) (1 + n) 0 + 1) (b ∷ bs))
begun b bs true n e h = refl
begun b [] false n e h = rw e refl
begun b (c ∷ cs) false n e h =
    let step : 1 + n ≡ suc n = omega arith in
    let more : suc n + 1 ≡ suc (n + 1) = omega arith in rw (step, more, h (omega arith)) refl

-- a text that is not empty has its first line, and then the lines of the rest
pub lines_of-first : (text : List ℕ) → 0 < length text → lines_of text ≡ line_in text ∷ lines_of (past_line text)
lines_of-first [] h = absurd (omega arith)
lines_of-first (b ∷ bs) h = begun b bs (is_line_feed b) (position_or_len is_line_feed bs) refl (lines_of-first bs)
