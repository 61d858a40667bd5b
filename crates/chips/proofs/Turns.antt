-- One poll more, seen from the polls still allowed. Assumes nothing.
use Rattle.std.proofs.Common.{◌≡◌, ℕ, suc, ◌+◌, ◌-◌, ◌<◌, true, false, Some, None, Option, sym, refl, ap, ◌∙◌, arith}
use Rattle.std.proofs.lemmas.Bool.{cond-false, cond-true}
use Rattle.fields.specs.declared.Side.{Side}
use Rattle.fields.specs.declared.Side.TheVariants.{Receive, Transmit}
use Rattle.marks.specs.declared.Marks.{Marks}
use Rattle.fields.specs.declared.RxField.{RxField}
use Rattle.fields.specs.declared.TxField.{TxField}
use Rattle.blocks.specs.Half.{Half, marks_on, moved, upon}
use Rattle.chips.specs.declared.polls.Awaited.{Awaited}
use Rattle.chips.specs.Polls.{after_polls, finds, first_found, polled_by}

module _ (a : Awaited) (n k : ℕ) (m : Marks) (more : k < n) where
  left : n - k ≡ suc (n - (k + 1))
  left = omega (arith, more)

  pub found : finds a m ≡ true → first_found a (n - k) k m ≡ Some (k + 1)
  found e = ap (λ (i : ℕ). first_found a i k m) left ∙ cond-true _ _ _ e

  pub passed : finds a m ≡ false → first_found a (n - k) k m ≡ first_found a (n - (k + 1)) (k + 1) (polled_by a m)
  passed e = ap (λ (i : ℕ). first_found a i k m) left ∙ cond-false _ _ _ e

  pub found_after : finds a m ≡ true → after_polls a (n - k) m ≡ polled_by a m
  found_after e = ap (λ (i : ℕ). after_polls a i m) left ∙ cond-true _ _ _ e

  pub passed_after : finds a m ≡ false → after_polls a (n - k) m ≡ after_polls a (n - (k + 1)) (polled_by a m)
  passed_after e = ap (λ (i : ℕ). after_polls a i m) left ∙ cond-false _ _ _ e

-- the half that is polled is moved by what its marks are moved by, and the other is not
module _ (t : Half TxField) (r : Half RxField) where
  tx_alike : (s : Side) (f g : Marks → Marks) → f (marks_on s t r) ≡ g (marks_on s t r) → moved (upon Transmit s f) t ≡ moved (upon Transmit s g) t
  tx_alike Transmit f g e = ap (λ m. record { fields = t.fields; marks = m; draws = t.draws }) e
  tx_alike Receive f g e = refl

  rx_alike : (s : Side) (f g : Marks → Marks) → f (marks_on s t r) ≡ g (marks_on s t r) → moved (upon Receive s f) r ≡ moved (upon Receive s g) r
  rx_alike Transmit f g e = refl
  rx_alike Receive f g e = ap (λ m. record { fields = r.fields; marks = m; draws = r.draws }) e

  pub polled_marks : (s : Side) (p : Marks → Marks) (u : Half TxField) (v : Half RxField) → u ≡ moved (upon Transmit s p) t → v ≡ moved (upon Receive s p) r → marks_on s u v ≡ p (marks_on s t r)
  polled_marks Transmit p u v e d = ap (λ h. h.marks) e
  polled_marks Receive p u v e d = ap (λ h. h.marks) d

  tx_twice : (s : Side) (f p : Marks → Marks) → moved (upon Transmit s f) (moved (upon Transmit s p) t) ≡ moved (upon Transmit s (λ m. f (p m))) t
  tx_twice Transmit f p = refl
  tx_twice Receive f p = refl

  rx_twice : (s : Side) (f p : Marks → Marks) → moved (upon Receive s f) (moved (upon Receive s p) r) ≡ moved (upon Receive s (λ m. f (p m))) r
  rx_twice Transmit f p = refl
  rx_twice Receive f p = refl

  -- at the poll that finds it, and at one that does not
  module _ (s : Side) (a : Awaited) (n k : ℕ) (more : k < n) where
    pub tx_found : finds a (marks_on s t r) ≡ true → moved (upon Transmit s (after_polls a (n - k))) t ≡ moved (upon Transmit s (polled_by a)) t
    tx_found e = tx_alike s (after_polls a (n - k)) (polled_by a) (found_after a n k (marks_on s t r) more e)

    pub rx_found : finds a (marks_on s t r) ≡ true → moved (upon Receive s (after_polls a (n - k))) r ≡ moved (upon Receive s (polled_by a)) r
    rx_found e = rx_alike s (after_polls a (n - k)) (polled_by a) (found_after a n k (marks_on s t r) more e)

    pub tx_passed : (u : Half TxField) → u ≡ moved (upon Transmit s (polled_by a)) t → finds a (marks_on s t r) ≡ false → moved (upon Transmit s (after_polls a (n - (k + 1)))) u ≡ moved (upon Transmit s (after_polls a (n - k))) t
    tx_passed u d e =
        ap (moved (upon Transmit s (after_polls a (n - (k + 1))))) d ∙ tx_twice s (after_polls a (n - (k + 1))) (polled_by a)
        ∙ sym (tx_alike s (after_polls a (n - k)) (λ m. after_polls a (n - (k + 1)) (polled_by a m)) (passed_after a n k (marks_on s t r) more e))

    pub rx_passed : (v : Half RxField) → v ≡ moved (upon Receive s (polled_by a)) r → finds a (marks_on s t r) ≡ false → moved (upon Receive s (after_polls a (n - (k + 1)))) v ≡ moved (upon Receive s (after_polls a (n - k))) r
    rx_passed v d e =
        ap (moved (upon Receive s (after_polls a (n - (k + 1))))) d ∙ rx_twice s (after_polls a (n - (k + 1))) (polled_by a)
        ∙ sym (rx_alike s (after_polls a (n - k)) (λ m. after_polls a (n - (k + 1)) (polled_by a m)) (passed_after a n k (marks_on s t r) more e))
