-- The lines of a text. Assumes nothing.
--     is_line_feed b              whether a byte ends a line
--     line_in, past_line          the first line of a text, and what follows its end
--     lines_of text               the lines of a text, in order
--     IsFirstLine text line rest  the line has no line feed, and the text is the line, a line feed and the rest, or the line alone
--     text_left lines             what the lines are still to be taken from
--     TakesLine text r rest       the first line of a text is taken, or there is none
use Rattle.std.specs.Prelude.{◌≡◌, ℕ, ◌<◌, Bool, true, cond, not, ◌⊎◌, List, [], ◌∷◌, ◌++◌, length, Some, None, Option, ◌==◌}
use Rattle.std.specs.List.{list_all, before_first, after_first}
use Rattle.std.specs.Borrow.{Bor}
use Rattle.words.specs.declared.lines.Lines.{Lines}

abbrev pub is_line_feed : ℕ → Bool
is_line_feed b = b == 10

abbrev pub line_in : List ℕ → List ℕ
line_in text = before_first is_line_feed text

abbrev pub past_line : List ℕ → List ℕ
past_line text = after_first is_line_feed text

-- a text that begins with this byte, which ends no line
abbrev pub longer : ℕ → List (List ℕ) → List (List ℕ)
longer b [] = (b ∷ []) ∷ []
longer b (line ∷ lines) = (b ∷ line) ∷ lines

-- the last line may lack its end
abbrev pub lines_of : List ℕ → List (List ℕ)
lines_of [] = []
lines_of (b ∷ bs) = cond (is_line_feed b) ([] ∷ lines_of bs) (longer b (lines_of bs))

pub record IsFirstLine (text line rest : List ℕ) : Type 0 where
  pub unbroken : list_all (λ b. not (is_line_feed b)) line ≡ true
  pub whole : (text ≡ line ++ (10 ∷ rest)) ⊎ ((text ≡ line) × (rest ≡ []))

abbrev pub text_left : Lines → List ℕ
text_left lines = lines.text.now

abbrev pub TakesLine : List ℕ → Option (Bor (List ℕ)) → List ℕ → Type 0
TakesLine text None rest = (text ≡ []) × (rest ≡ [])
TakesLine text (Some line) rest = (0 < length text) × (line.now ≡ line_in text) × (rest ≡ past_line text)
