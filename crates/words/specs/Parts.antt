-- The words of a text. Assumes nothing.
--     is_blank b                  whether a byte stands between words
--     word_in, past_word          the first word of a text, and what follows it
--     past_blanks text            a text from its first word on
--     is_empty text               whether it has no byte
--     is_unbroken word            whether it has no blank
--     is_word_end rest            whether a word ends before this
--     IsFirstWord text word rest  blanks alone stand before the word, which has none and ends at one or at the text's end
use Rattle.std.specs.Prelude.{◌≡◌, ℕ, Bool, true, not, ◌||◌, List, [], ◌∷◌, ◌++◌, length, drop, ◌==◌}
use Rattle.std.specs.List.{list_all, position_or_len, before_first}

-- a space, a tab or a carriage return
abbrev pub is_blank : ℕ → Bool
is_blank b = b == 32 || b == 9 || b == 13

abbrev pub is_empty : List ℕ → Bool
is_empty text = length text == 0

abbrev pub past_blanks : List ℕ → List ℕ
past_blanks text = drop (position_or_len (λ b. not (is_blank b)) text) text

abbrev pub word_in : List ℕ → List ℕ
word_in text = before_first is_blank (past_blanks text)

abbrev pub past_word : List ℕ → List ℕ
past_word text = drop (position_or_len is_blank (past_blanks text)) (past_blanks text)

abbrev pub is_unbroken : List ℕ → Bool
is_unbroken word = list_all (λ b. not (is_blank b)) word

abbrev pub is_word_end : List ℕ → Bool
is_word_end [] = true
is_word_end (b ∷ bs) = is_blank b

-- a word is empty only where the whole text is blank
pub record IsFirstWord (text word rest : List ℕ) : Type 0 where
  pub before : List ℕ
  pub whole : text ≡ before ++ (word ++ rest)
  pub blanks : list_all is_blank before ≡ true
  pub unbroken : is_unbroken word ≡ true
  pub ends : is_word_end rest ≡ true
  pub longest : word ≡ [] → rest ≡ []
