-- Lines that ask for a plan. Assumes nothing.
--     number_of bs what most  a word as a number of at most `most`
--     ask_of rate slots bits  the three numbers, or the first that is none
--     reading_of line         what a line asks, if anything, or why it is not read
--     ReadsWritten line r     what is written as three numbers is read as them
use Rattle.std.specs.Prelude.{◌≡◌, ℕ, ◌-◌, ◌^◌, ◌<◌, cond, ◌||◌, List, ◌∷◌, ◌++◌, Some, None, Ok, Err, decimal, Option, Result, ◌==◌, slice_index}
use Rattle.plans.specs.declared.read.Ask.{Ask}
use Rattle.plans.specs.declared.read.Number.{Number}
use Rattle.plans.specs.declared.read.Number.TheVariants.{Rate, Slots, Bits}
use Rattle.plans.specs.declared.read.Unread.{Unread}
use Rattle.plans.specs.declared.read.Unread.TheVariants.{Short, Long, NotANumber, TooLarge}
use Rattle.words.specs.declared.numbers.NoNumber as Why
use Rattle.words.specs.declared.numbers.NoNumber.TheVariants as WhyNot
use Rattle.words.specs.Numbers.{number_in}
use Rattle.words.specs.Parts.{is_empty, past_word, word_in}

abbrev pub number_as : Number → ℕ → Result ℕ Why.NoNumber → Result ℕ Unread
number_as what most (Ok n) = Ok n
number_as what most (Err WhyNot.NotDigits) = Err (NotANumber what)
number_as what most (Err WhyNot.TooLarge) = Err (TooLarge what most)

abbrev pub number_of : List ℕ → Number → ℕ → Result ℕ Unread
number_of word what most = number_as what most (number_in word most)

abbrev asked : ℕ → ℕ → Result ℕ Unread → Result Ask Unread
asked rate slots (Ok bits) = Ok (record { rate = rate; slots = slots; bits = bits })
asked rate slots (Err e) = Err e

abbrev asked_slots : ℕ → Result ℕ Unread → Result ℕ Unread → Result Ask Unread
asked_slots rate (Ok slots) bits = asked rate slots bits
asked_slots rate (Err e) bits = Err e

abbrev pub asked_rate : Result ℕ Unread → Result ℕ Unread → Result ℕ Unread → Result Ask Unread
asked_rate (Ok rate) slots bits = asked_slots rate slots bits
asked_rate (Err e) slots bits = Err e

abbrev pub ask_of : List ℕ → List ℕ → List ℕ → Result Ask Unread
ask_of rate slots bits = asked_rate (number_of rate Rate (2 ^ 32 - 1)) (number_of slots Slots 255) (number_of bits Bits 255)

abbrev pub read_as : Result Ask Unread → Result (Option Ask) Unread
read_as (Ok ask) = Ok (Some ask)
read_as (Err e) = Err e

-- the first, second, third and fourth word
abbrev pub second_word : List ℕ → List ℕ
second_word line = word_in (past_word line)

abbrev pub third_word : List ℕ → List ℕ
third_word line = word_in (past_word (past_word line))

abbrev pub fourth_word : List ℕ → List ℕ
fourth_word line = word_in (past_word (past_word (past_word line)))

-- by its first four words: blank, or a remark: nothing; else three numbers, and no fourth word
abbrev pub reading_by : List ℕ → List ℕ → List ℕ → List ℕ → Result (Option Ask) Unread
reading_by first second third fourth =
    cond (is_empty first || slice_index first 0 == 35) (Ok None)
    (cond (is_empty third) (Err Short) (cond (is_empty fourth) (read_as (ask_of first second third)) (Err Long)))

abbrev pub reading_of : List ℕ → Result (Option Ask) Unread
reading_of line = reading_by (word_in line) (second_word line) (third_word line) (fourth_word line)

-- three numbers in decimal, with a space between them
abbrev pub written : Ask → List ℕ
written ask = decimal ask.rate ++ (32 ∷ (decimal ask.slots ++ (32 ∷ decimal ask.bits)))

-- such a line is read as these numbers
abbrev pub ReadsWritten : List ℕ → Result (Option Ask) Unread → Type 0
ReadsWritten line r = (ask : Ask) → ask.rate < 2 ^ 32 → ask.slots < 2 ^ 8 → ask.bits < 2 ^ 8 → line ≡ written ask → r ≡ Ok (Some ask)
