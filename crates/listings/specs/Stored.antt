-- What a put stores, in words. Assumes nothing.
--     bits_word w    the word for so many bits
--     stored_text s  the text NUMBER (WIDTH bits)
use Rattle.std.specs.Prelude.{ℕ, List, ◌++◌, ◌==◌, codes, decimal, if◌then◌else◌}
use Rattle.listings.specs.declared.row.StoredText.{StoredText}

abbrev pub bits_word : ℕ → List ℕ
bits_word w = if w == 1 then codes "bit" else codes "bits"

abbrev pub stored_text : StoredText → List ℕ
stored_text s = decimal s.number ++ (codes " (" ++ (decimal s.width ++ (codes " " ++ (bits_word s.width ++ codes ")"))))
