-- Words of digits, as the library reads and writes them. Assumes nothing.
use Rattle.std.proofs.Common.{◌≡◌, ℕ, true, List, rules, ◌+◌, ◌-◌, ◌*◌, ◌^◌, ◌<◌, fold, length, decimal, arith}
use Rattle.std.proofs.lemmas.Fmt.{IsAscii-from_digits, digits_decimal, digits_value-decimal, decimal_is_IsNumeral}
use Rattle.std.proofs.lemmas.Bool.Decides.{nat_tests}
use Rattle.std.proofs.lemmas.Str.{IsUtf8-from_ascii}
use Rattle.std.proofs.lemmas.Str.Parse.{IsNumeralModel, numerals_by_fold}
use Rattle.std.specs.Str.{IsUtf8}
use Rattle.words.specs.Numbers.{ReadsDecimal, is_digits, number_in, up_to, value_of}

pub numerals : IsNumeralModel (λ word. is_digits word ≡ true) value_of
numerals = numerals_by_fold _ (search rules) (λ m word. fold (λ n b. n * 10 + (b - 48)) m word) (search rules)

pub digits_are_text : (word : List ℕ) → is_digits word ≡ true → IsUtf8 word
digits_are_text word d = IsUtf8-from_ascii word (IsAscii-from_digits word (numerals.to word d))

-- a number in decimal: digits, and their value
pub record Spelt (n : ℕ) (ds : List ℕ) : Type 0 where
  pub some : 0 < length ds
  pub digits : is_digits ds ≡ true
  pub value : value_of ds ≡ n

pub spelt : (n : ℕ) → n < 2 ^ 64 → Spelt n (decimal n)
spelt n h = record { some = (decimal_is_IsNumeral n h).0.0; digits = digits_decimal numerals n h; value = digits_value-decimal numerals n h }

-- it is read as that number
pub reads : (word : List ℕ) (n most : ℕ) → Spelt n word → number_in word most ≡ up_to most n
reads word n most h = grind (arith, nat_tests, h.some, h.digits, h.value)

pub reads_decimal : (word : List ℕ) (most : ℕ) → ReadsDecimal word most (number_in word most)
reads_decimal word most n h e = rw e (reads (decimal n) n most (spelt n h))
