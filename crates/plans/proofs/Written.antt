-- A line of three numbers, written with a space between them, is read as these numbers. Assumes nothing.
use Rattle.std.proofs.Common.{◌≡◌, ℕ, ◌-◌, ◌^◌, ◌<◌, ◌≤◌, true, false, eqb, List, [], ◌∷◌, ◌++◌, length, get_or, Ok, sym, refl, ap, ◌∙◌, append-nil, arith}
use Rattle.std.proofs.lemmas.Bool.{ne_eqb}
use Rattle.std.proofs.lemmas.Bool.Decides.{nat_tests}
use Rattle.std.proofs.lemmas.Str.Parse.{not_in_digits}
use Rattle.plans.specs.declared.read.Number.{Number}
use Rattle.plans.specs.declared.read.Number.TheVariants.{Rate, Slots, Bits}
use Rattle.plans.specs.Lines.{ReadsWritten, ask_of, fourth_word, number_of, read_as, reading_by, reading_of, second_word, third_word}
use Rattle.words.specs.Numbers.{is_digits}
use Rattle.words.specs.Parts.{past_word, word_in}
use Rattle.words.proofs.Decimals.{Spelt, numerals, spelt}
use Rattle.words.proofs.Spaced.{digits_unbroken, first_word, past_word_lem, space_past, space_word}

reads : (w : List ℕ) (n most : ℕ) (what : Number) → Spelt n w → n ≤ most → number_of w what most ≡ Ok n
reads w n most what h le = grind (arith, nat_tests, h.some, h.digits, h.value)

-- the first byte of a number begins no remark
no_remark : (w : List ℕ) → is_digits w ≡ true → 0 < length w → eqb (get_or w 0 0) 35 ≡ false
no_remark w d h = ne_eqb (get_or w 0 0) 35 (not_in_digits numerals w 35 d (λ r. omega arith) 0 h)

-- three words of digits with a space between them, and what is read of them
module _ (r s b : List ℕ) (i j k : ℕ) (hr : Spelt i r) (hs : Spelt j s) (hb : Spelt k b) where
  past_1 : past_word (r ++ (32 ∷ (s ++ (32 ∷ b)))) ≡ 32 ∷ (s ++ (32 ∷ b))
  past_1 = past_word_lem r (32 ∷ (s ++ (32 ∷ b))) (digits_unbroken r hr.digits) hr.some refl

  past_2 : past_word (past_word (r ++ (32 ∷ (s ++ (32 ∷ b))))) ≡ 32 ∷ b
  past_2 = ap past_word past_1 ∙ space_past (s ++ (32 ∷ b)) ∙ past_word_lem s (32 ∷ b) (digits_unbroken s hs.digits) hs.some refl

  past_3 : past_word (past_word (past_word (r ++ (32 ∷ (s ++ (32 ∷ b)))))) ≡ []
  past_3 = ap past_word past_2 ∙ space_past b ∙ ap past_word (sym (append-nil b)) ∙ past_word_lem b [] (digits_unbroken b hb.digits) hb.some refl

  word_1 : word_in (r ++ (32 ∷ (s ++ (32 ∷ b)))) ≡ r
  word_1 = first_word r (32 ∷ (s ++ (32 ∷ b))) (digits_unbroken r hr.digits) hr.some refl

  word_2 : second_word (r ++ (32 ∷ (s ++ (32 ∷ b)))) ≡ s
  word_2 = ap word_in past_1 ∙ space_word (s ++ (32 ∷ b)) ∙ first_word s (32 ∷ b) (digits_unbroken s hs.digits) hs.some refl

  word_3 : third_word (r ++ (32 ∷ (s ++ (32 ∷ b)))) ≡ b
  word_3 = ap word_in past_2 ∙ space_word b ∙ ap word_in (sym (append-nil b)) ∙ first_word b [] (digits_unbroken b hb.digits) hb.some refl

  word_4 : fourth_word (r ++ (32 ∷ (s ++ (32 ∷ b)))) ≡ []
  word_4 = ap word_in past_3

  by_words : reading_of (r ++ (32 ∷ (s ++ (32 ∷ b)))) ≡ reading_by r s b []
  by_words = cc (word_1, word_2, word_3, word_4)

  three : reading_by r s b [] ≡ read_as (ask_of r s b)
  three = grind (arith, nat_tests, hr.some, hb.some, no_remark r hr.digits hr.some)

pub reads_written : (line : List ℕ) → ReadsWritten line (reading_of line)
reads_written line ask rate slots bits e =
    let hr = spelt ask.rate (omega arith) in
    let hs = spelt ask.slots (omega arith) in
    let hb = spelt ask.bits (omega arith) in
    let read = by_words _ _ _ _ _ _ hr hs hb ∙ three _ _ _ _ _ _ hr hs hb in
    let rate_read = reads _ _ (2 ^ 32 - 1) Rate hr (omega arith) in
    let slots_read = reads _ _ 255 Slots hs (omega arith) in
    let bits_read = reads _ _ 255 Bits hb (omega arith) in
    rw (e, read, rate_read, slots_read, bits_read)
