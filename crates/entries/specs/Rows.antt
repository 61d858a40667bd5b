-- The row of active slots. Assumes nothing.
--     is_binary word  whether each byte is a 0 or a 1
--     is_row word     whether a word is 1 to 16 of these
--     mask_of digits  the slots with a 1, the first in the least significant bit
--     row_in word     a word as a row
use Rattle.std.specs.Prelude.{ℕ, ◌+◌, ◌*◌, Bool, cond, not, ◌&&◌, ◌||◌, List, [], ◌∷◌, length, Some, None, Option, ◌==◌, nat_lt}
use Rattle.std.specs.List.{list_all}
use Rattle.entries.specs.declared.row.Row.{Row}

-- 48 is the code of a 0, 49 of a 1
abbrev pub is_binary : List ℕ → Bool
is_binary word = list_all (λ b. b == 48 || b == 49) word

abbrev pub is_row : List ℕ → Bool
is_row word = not (length word == 0) && not (nat_lt 16 (length word)) && is_binary word

abbrev pub active : ℕ → ℕ
active digit = cond (digit == 49) 1 0

abbrev pub mask_of : List ℕ → ℕ
mask_of [] = 0
mask_of (digit ∷ digits) = active digit + 2 * mask_of digits

abbrev pub row_in : List ℕ → Option Row
row_in word = cond (is_row word) (Some (record { digits = length word; mask = mask_of word })) None
