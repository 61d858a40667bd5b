-- Words that are decimal numbers. Assumes nothing.
--     is_digits, value_of       whether a word is made of digits, and what it then stands for
--     number_in word most       a word as a number of at most `most`
--     up_to most n              a number, if it is at most `most`
--     ReadsDecimal word most r  what is written in decimal is read as that number, up to `most`
use Rattle.std.specs.Prelude.{◌≡◌, ℕ, ◌+◌, ◌-◌, ◌*◌, ◌^◌, ◌<◌, Bool, cond, not, ◌||◌, List, Ok, Err, decimal, fold, Result, nat_lt}
use Rattle.std.specs.Char.{is_ascii_digit}
use Rattle.std.specs.List.{list_all}
use Rattle.words.specs.declared.numbers.NoNumber.{NoNumber}
use Rattle.words.specs.declared.numbers.NoNumber.TheVariants.{NotDigits, TooLarge}
use Rattle.words.specs.Parts.{is_empty}

abbrev pub is_digits : List ℕ → Bool
is_digits word = list_all is_ascii_digit word

abbrev pub value_of : List ℕ → ℕ
value_of bs = fold (λ n b. n * 10 + (b - 48)) 0 bs

abbrev pub up_to : ℕ → ℕ → Result ℕ NoNumber
up_to most n = cond (nat_lt most n) (Err TooLarge) (Ok n)

abbrev pub number_in : List ℕ → ℕ → Result ℕ NoNumber
number_in word most = cond (is_empty word || not (is_digits word)) (Err NotDigits) (up_to most (value_of word))

abbrev pub ReadsDecimal : List ℕ → ℕ → Result ℕ NoNumber → Type 0
ReadsDecimal word most r = (n : ℕ) → n < 2 ^ 64 → word ≡ decimal n → r ≡ up_to most n
