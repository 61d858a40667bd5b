-- The closing line. Assumes nothing.
--     all_of tally                  how many lines were counted, up to 2 ^ 64 - 1
--     lines_word n                  the word for so many lines
--     closing_text all lines tally  the line, from their number and the word for it
--     summary_text tally            the line: how many lines there were, and what came of them
use Rattle.std.specs.Prelude.{ℕ, ◌+◌, ◌-◌, ◌^◌, min, List, ◌++◌, ◌==◌, codes, decimal, if◌then◌else◌}
use Rattle.plans.specs.declared.counting.Tally.{Tally}

abbrev pub all_of : Tally → ℕ
all_of t = min (t.planned + t.refused + t.unread) (2 ^ 64 - 1)

abbrev pub lines_word : ℕ → List ℕ
lines_word n = if n == 1 then codes "line" else codes "lines"

abbrev pub closing_text : ℕ → List ℕ → Tally → List ℕ
closing_text all lines t =
    decimal all ++ (codes " " ++ (lines ++ (codes ": " ++ (decimal t.planned ++ (codes " planned, "
    ++ (decimal t.refused ++ (codes " refused, " ++ (decimal t.unread ++ codes " not read\n"))))))))

abbrev pub summary_text : Tally → List ℕ
summary_text t = closing_text (all_of t) (lines_word (all_of t)) t
