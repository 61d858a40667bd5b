-- Two lists with the same calls of each unit, on blocks alike. Assumes nothing.
use Rattle.std.proofs.Common.{◌≡◌, ℕ, List, [], ◌∷◌, map, refl, sym, ap, ◌∙◌}
use Rattle.fields.specs.declared.RxField.{RxField}
use Rattle.fields.specs.declared.TxField.{TxField}
use Rattle.errors.proofs.Apart.{error_of, told}
use Rattle.blocks.specs.Half.{Half}
use Rattle.calls.specs.declared.call.Answer.{Answer}
use Rattle.calls.specs.declared.call.Answer.TheVariants as answer
use Rattle.calls.specs.declared.call.UnitAnswer.{UnitAnswer}
use Rattle.calls.specs.declared.call.UnitAnswer.TheVariants.{Done, Polled, Refused, NotTaken}
use Rattle.calls.specs.declared.call.Call.{Call}
use Rattle.calls.specs.Runs.{Both, end_of, heard, picked, rx_heard, says_of, Sides, tx_heard}
use Rattle.calls.proofs.Alone.{rx_alone, tx_alone}
use Rattle.chips.specs.Moves.{Opens, Whole}
use Rattle.calls.specs.Steps.{done, not_taken, polled, refused, Said, said_of, Side}
use Rattle.calls.specs.Opening.{at_open}
use Rattle.calls.specs.Agree.{AnswersAlike, HalfAlike, rx_answer, SameCalls, tx_answer}

-- what a unit heard is what its answers say
tx_heard_of : (a : List Answer) → picked tx_heard (map heard a) ≡ map said_of (picked tx_answer a)
tx_heard_of [] = refl
tx_heard_of ((answer.Transmit a) ∷ rest) = ap (λ xs. said_of a ∷ xs) (tx_heard_of rest)
tx_heard_of ((answer.Receive a) ∷ rest) = tx_heard_of rest

rx_heard_of : (a : List Answer) → picked rx_heard (map heard a) ≡ map said_of (picked rx_answer a)
rx_heard_of [] = refl
rx_heard_of ((answer.Transmit a) ∷ rest) = rx_heard_of rest
rx_heard_of ((answer.Receive a) ∷ rest) = ap (λ xs. said_of a ∷ xs) (rx_heard_of rest)

-- an answer is told by what it says
abbrev unsaid : Said → UnitAnswer
unsaid done = Done
unsaid (polled n) = Polled n
unsaid (refused r) = Refused (error_of r)
unsaid not_taken = NotTaken

unsaid_said : (a : UnitAnswer) → unsaid (said_of a) ≡ a
unsaid_said Done = refl
unsaid_said (Polled n) = refl
unsaid_said (Refused e) = ap Refused (told e)
unsaid_said NotTaken = refl

all_unsaid : (xs : List UnitAnswer) → map unsaid (map said_of xs) ≡ xs
all_unsaid [] = refl
all_unsaid (x ∷ xs) = λ i. unsaid_said x i ∷ all_unsaid xs i

same_answers : (xs ys : List UnitAnswer) → map said_of xs ≡ map said_of ys → xs ≡ ys
same_answers xs ys e = sym (all_unsaid xs) ∙ ap (map unsaid) e ∙ all_unsaid ys

pub answers_alike : (a b : List Answer) → picked tx_heard (map heard a) ≡ picked tx_heard (map heard b) → picked rx_heard (map heard a) ≡ picked rx_heard (map heard b) → AnswersAlike a b
answers_alike a b t r = record {
  tx = same_answers _ _ (sym (tx_heard_of a) ∙ t ∙ tx_heard_of b);
  rx = same_answers _ _ (sym (rx_heard_of a) ∙ r ∙ rx_heard_of b);
}

pub half_alike : {F : Type 0} (a b : Half F) → a ≡ b → HalfAlike a b
half_alike {F = F} a b e = record { fields = λ f. ap (λ (h : Half F). h.fields f) e; marks = ap (λ (h : Half F). h.marks) e; draws = λ n. ap (λ (h : Half F). h.draws n) e }

pub half_same : {F : Type 0} (a b : Half F) → HalfAlike a b → a ≡ b
half_same a b l = λ i. record { fields = λ f. l.fields f i; marks = l.marks i; draws = λ n. l.draws n i }

-- two lists from openings alike
module _ {U D G : Type 0} (k : Both U D) (masters : Whole) (opens : Opens G) (updates : Whole) (keeps : G → D) (config : G) (tx_limit rx_limit : ℕ)
    (t u : Half TxField) (r v : Half RxField) (xs ys : List (Call U)) (calls : SameCalls xs ys) (tx : HalfAlike t u) (rx : HalfAlike r v) where
  abbrev pub one : Sides D
  one = at_open masters opens updates keeps config tx_limit rx_limit t r

  abbrev pub other : Sides D
  other = at_open masters opens updates keeps config tx_limit rx_limit u v

  begin : one ≡ other
  begin = λ i. at_open masters opens updates keeps config tx_limit rx_limit (half_same t u tx i) (half_same r v rx i)

  pub answers_agree : (a b : List Answer) → map heard a ≡ says_of k xs one → map heard b ≡ says_of k ys other → AnswersAlike a b
  answers_agree a b p q = answers_alike a b
      (ap (picked tx_heard) p ∙ (tx_alone k xs ys one other calls.tx (ap (λ (s : Sides D). s.tx) begin)).0 ∙ sym (ap (picked tx_heard) q))
      (ap (picked rx_heard) p ∙ (rx_alone k xs ys one other calls.rx (ap (λ (s : Sides D). s.rx) begin)).0 ∙ sym (ap (picked rx_heard) q))

  pub tx_ends_alike : (x y : Sides D) → x ≡ end_of k xs one → y ≡ end_of k ys other → HalfAlike x.tx.half y.tx.half
  tx_ends_alike x y p q = half_alike _ _ (ap (λ (s : Sides D). s.tx.half) p ∙ ap (λ (s : Side TxField D). s.half) (tx_alone k xs ys one other calls.tx (ap (λ (s : Sides D). s.tx) begin)).1 ∙ sym (ap (λ (s : Sides D). s.tx.half) q))

  pub rx_ends_alike : (x y : Sides D) → x ≡ end_of k xs one → y ≡ end_of k ys other → HalfAlike x.rx.half y.rx.half
  rx_ends_alike x y p q = half_alike _ _ (ap (λ (s : Sides D). s.rx.half) p ∙ ap (λ (s : Side RxField D). s.half) (rx_alone k xs ys one other calls.rx (ap (λ (s : Sides D). s.rx) begin)).1 ∙ sym (ap (λ (s : Sides D). s.rx.half) q))
