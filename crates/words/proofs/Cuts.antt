-- Where lines and words are cut. Assumes nothing.
use Rattle.std.proofs.Common.{◌≡◌, ℕ, ◌+◌, Bool, true, false, cond, not, List, [], ◌∷◌, ◌++◌, length, take, drop, get_or, suc, refl, sym, ap, ◌∙◌, inl, inr, arith, take-append-drop}
use Rattle.std.proofs.lemmas.Bool.{and_from, cases_lt, eqb-true}
use Rattle.std.proofs.lemmas.List.{take_all, drop_all}
use Rattle.std.proofs.lemmas.List.Sums.{split_at_first, passes_at_first}
use Rattle.std.specs.List.{list_all, prefix_len, position_or_len, before_first}
use Rattle.words.specs.Lines.{IsFirstLine, is_line_feed, line_in, past_line}
use Rattle.words.specs.Parts.{IsFirstWord, is_blank, is_word_end, past_blanks, past_word, word_in}

-- whether a text is empty or begins with a byte that fails the test
unfoldable stops : (ℕ → Bool) → List ℕ → Bool
stops q [] = true
stops q (b ∷ bs) = not (q b)

-- what passes from the front on passes also where more does
module _ (p q : ℕ → Bool) (means : (b : ℕ) → q b ≡ true → p b ≡ true) where
  front : (bs : List ℕ) → list_all p (take (prefix_len q bs) bs) ≡ true
  front [] = refl
  front (b ∷ bs) = by (q b) refl (front bs) where
    by : (t : Bool) → q b ≡ t → list_all p (take (prefix_len q bs) bs) ≡ true → list_all p (take (cond t (1 + prefix_len q bs) 0) (b ∷ bs)) ≡ true
    by true e r =
        let n : 1 + prefix_len q bs ≡ suc (prefix_len q bs) = omega arith in
        rw n (and_from (p b) _ (means b e) r)
    by false e r = refl

-- what follows is empty or begins with a byte that fails
module _ (q : ℕ → Bool) where
  back : (r : List ℕ → Bool) → r [] ≡ true → ((b : ℕ) (bs : List ℕ) → q b ≡ false → r (b ∷ bs) ≡ true) → (bs : List ℕ) → r (drop (prefix_len q bs) bs) ≡ true
  back r none some [] = none
  back r none some (b ∷ bs) = by (q b) refl (back r none some bs) where
    by : (t : Bool) → q b ≡ t → r (drop (prefix_len q bs) bs) ≡ true → r (drop (cond t (1 + prefix_len q bs) 0) (b ∷ bs)) ≡ true
    by true e h = let n : 1 + prefix_len q bs ≡ suc (prefix_len q bs) = omega arith in rw n h
    by false e h = some b bs e

passed : (b : ℕ) → not (not (is_blank b)) ≡ true → is_blank b ≡ true
passed b e = go (is_blank b) e where
  go : (t : Bool) → not (not t) ≡ true → t ≡ true
  go true e = refl
  go false e = e

failed : (t : Bool) → not t ≡ false → t ≡ true
failed true e = refl
failed false e = sym e

-- past the blanks, a word that is empty has nothing after it
empty_word : (bs : List ℕ) → stops is_blank bs ≡ true → before_first is_blank bs ≡ [] → drop (position_or_len is_blank bs) bs ≡ []
unfolding stops
empty_word [] s e = refl
empty_word (b ∷ bs) s e = by (is_blank b) s e where
  by : (t : Bool) → not t ≡ true → take (cond (not t) (1 + position_or_len is_blank bs) 0) (b ∷ bs) ≡ []
      → drop (cond (not t) (1 + position_or_len is_blank bs) 0) (b ∷ bs) ≡ []
  by true h e = absurd (cc)
  by false h e = let n : 1 + position_or_len is_blank bs ≡ suc (position_or_len is_blank bs) = omega arith in absurd (some_left (rw n at e)) where
    some_left : {b : ℕ} {bs : List ℕ} → b ∷ bs ≡ [] → ⊥
    some_left e = cc

first_word : (text : List ℕ) → IsFirstWord text (word_in text) (past_word text)
unfolding stops
first_word text =
    let n = position_or_len (λ b. not (is_blank b)) text in
    let bs = past_blanks text in
    record {
      before = take n text;
      whole = sym (take-append-drop n text) ∙ ap (λ (l : List ℕ). take n text ++ l) (sym (take-append-drop (position_or_len is_blank bs) bs));
      blanks = front is_blank (λ b. not (not (is_blank b))) passed text;
      unbroken = front (λ b. not (is_blank b)) (λ b. not (is_blank b)) (λ b e. e) bs;
      ends = back (λ b. not (is_blank b)) is_word_end refl (λ b cs e. failed (is_blank b) e) bs;
      longest = empty_word bs (back (λ b. not (not (is_blank b))) (stops is_blank) refl (λ b cs e. failed (not (is_blank b)) e) text);
    }

pub first_word_is : (text word rest : List ℕ) → word ≡ word_in text → rest ≡ past_word text → IsFirstWord text word rest
first_word_is text word rest w r = rw (w, r) (first_word text)

first_line : (text : List ℕ) → IsFirstLine text (line_in text) (past_line text)
first_line text = record {
  unbroken = front (λ b. not (is_line_feed b)) (λ b. not (is_line_feed b)) (λ b e. e) text;
  whole = elim (cases_lt (position_or_len is_line_feed text) (length text)) [
    | inl inside ↦
        let feed : get_or text (position_or_len is_line_feed text) 0 ≡ 10 = eqb-true _ _ (passes_at_first is_line_feed text 0 inside) in
        inl (split_at_first is_line_feed text 0 inside ∙ ap (λ (b : ℕ). line_in text ++ (b ∷ past_line text)) feed)
    | inr outside ↦ inr (sym (take_all _ text outside), drop_all _ text (omega arith))
  ];
}

pub first_line_is : (text line rest : List ℕ) → line ≡ line_in text → rest ≡ past_line text → IsFirstLine text line rest
first_line_is text line rest l r = rw (l, r) (first_line text)
