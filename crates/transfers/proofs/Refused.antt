-- What a refused start and a refused wait leave. Assumes nothing.
use Rattle.std.proofs.Common.{◌≡◌, ℕ, ltb, ◌==◌, suc, Bool, true, false, cond, Some, None, Option, Ok, Err, Result, refl, sym, ap, ◌∙◌, subst}
use Rattle.std.proofs.lemmas.Bool.{false≢true}
use Rattle.dividers.specs.Refusals.{Refusal}
use Rattle.blocks.specs.Half.{Half, moved}
use Rattle.chips.specs.declared.Awaited.{Awaited}
use Rattle.chips.specs.Handles.{Halts, Handles}
use Rattle.chips.specs.Moves.{ended_if, Moves, polled_for, start_polls, started, wait_polls, waited}
use Rattle.chips.specs.Polls.{after_polls}
use Rattle.errors.specs.Refusals.{dma_error, illegal_argument, start_timed_out, timed_out}
use Rattle.transfers.specs.Calls.{illegal_rx, illegal_tx, polls_or, raise_leaves, rx_start_leaves, rx_start_says, stopped_unless, tx_start_leaves, tx_start_says, wait_says}
use Rattle.transfers.specs.Refused.{StartRefused, StartUnfound, Unfound, WaitRefused}

-- whether an answer is the refusal of that number
abbrev is : ℕ → Result ℕ Refusal → Bool
is n (Ok p) = false
is n (Err r) = r.number == n

module _ {F U : Type 0} (m : Moves F U) (handles : Handles m) where
  -- by whether the length is one that the unit takes, and whether it is above the limit
  cases : (limit len : ℕ) (h g : Half F) (said : Result ℕ Refusal) → is 6 said ≡ false → is 7 said ≡ false → (b c : Bool)
      → StartRefused (cond b (Err illegal_argument) (cond c (Err (dma_error len limit)) said)) h (cond b h (cond c (m.resets h) g))
  cases limit len h g said six seven true c = record { as_found = λ e. refl; over = λ l k e. absurd (false≢true (ap (is 7) e)) }
  cases limit len h g said six seven false true = record {
    as_found = λ e. absurd (false≢true (ap (is 6) e));
    over = λ l k e. record { busy = handles.reset_busy h; stale = handles.reset_stale h; draws = handles.reset_draws h };
  }
  cases limit len h g said six seven false false = record {
    as_found = λ e. absurd (false≢true (sym six ∙ ap (is 6) e));
    over = λ l k e. absurd (false≢true (sym seven ∙ ap (is 7) e));
  }

  refused : (p q : Result ℕ Refusal) (h g x : Half F) → p ≡ q → g ≡ x → StartRefused q h x → StartRefused p h g
  refused p q h g x e d r = subst (λ a. StartRefused a h g) (sym e) (subst (λ y. StartRefused q h y) (sym d) r)

  not_six : (n : ℕ) (o : Option ℕ) → is 6 (polls_or (start_timed_out n) o) ≡ false
  not_six n (Some p) = refl
  not_six n None = refl

  not_seven : (n : ℕ) (o : Option ℕ) → is 7 (polls_or (start_timed_out n) o) ≡ false
  not_seven n (Some p) = refl
  not_seven n None = refl

  pub tx_start_refused : (limit len n : ℕ) (said : Result ℕ Refusal) (h g : Half F)
      → said ≡ tx_start_says m limit len n h → g ≡ tx_start_leaves m limit len n h → StartRefused said h g
  tx_start_refused limit len n said h g p q =
      let o = start_polls m n (m.starts 0 (m.resets h)) in
      refused _ _ h g _ p q (cases limit len h (raise_leaves m n (m.resets h)) (polls_or (start_timed_out n) o) (not_six n o) (not_seven n o) (illegal_tx len) (ltb limit len))

  pub rx_start_refused : (limit len : ℕ) (said : Result ℕ Refusal) (h g : Half F)
      → said ≡ rx_start_says limit len → g ≡ rx_start_leaves m limit len h → StartRefused said h g
  rx_start_refused limit len said h g p q =
      refused _ _ h g _ p q (cases limit len h (m.starts len (m.resets h)) (Ok 0) refl refl (illegal_rx len) (ltb limit len))

  module _ (start : F) (halts : Halts m start) where
    polls_draw : (b : Option Awaited) (n : ℕ) (h : Half F) (k : ℕ) → (polled_for b n h).draws k ≡ h.draws k
    polls_draw None n h k = refl
    polls_draw (Some a) n h k = refl

    stopped : (n : ℕ) (h : Half F) → Unfound m start n h (m.stops (started m n (m.starts 0 (m.resets h))))
    stopped n h = record {
      stopped = halts.stopped _;
      marks = halts.marks _;
      spent = λ k. halts.draws _ k ∙ polls_draw m.busy n _ k ∙ handles.start_draws 0 (m.resets h) k ∙ handles.reset_draws h (suc k);
    }

    unfound_cases : (limit len n : ℕ) (h : Half F) (b c : Bool) (o : Option ℕ)
        → StartUnfound m start n
        (cond b (Err illegal_argument) (cond c (Err (dma_error len limit)) (polls_or (start_timed_out n) o))) h
        (cond b h (cond c (m.resets h) (stopped_unless m o (started m n (m.starts 0 (m.resets h))))))
    unfound_cases limit len n h true c o e = absurd (false≢true (ap (is 8) e))
    unfound_cases limit len n h false true o e = absurd (false≢true (ap (is 8) e))
    unfound_cases limit len n h false false (Some p) e = absurd (false≢true (ap (is 8) e))
    unfound_cases limit len n h false false None e = stopped n h

    pub tx_start_unfound : (limit len n : ℕ) (said : Result ℕ Refusal) (h g : Half F)
        → said ≡ tx_start_says m limit len n h → g ≡ tx_start_leaves m limit len n h → StartUnfound m start n said h g
    tx_start_unfound limit len n said h g p q e =
        subst (λ x. Unfound m start n h x) (sym q) (unfound_cases limit len n h (illegal_tx len) (ltb limit len) (start_polls m n (m.starts 0 (m.resets h))) (sym p ∙ e))

module _ {F U : Type 0} (m : Moves F U) where
  wait_cases : (n : ℕ) (h : Half F) (o : Option ℕ) → WaitRefused m n (polls_or (timed_out n) o) h (ended_if m o (moved (after_polls m.done n) h))
  wait_cases n h (Some p) = record { fields = λ e. absurd (false≢true (ap (is 9) e)); marks = λ e. absurd (false≢true (ap (is 9) e)); draws = λ e. absurd (false≢true (ap (is 9) e)) }
  wait_cases n h None = record { fields = λ e f. refl; marks = λ e. refl; draws = λ e k. refl }

  pub wait_refused : (n : ℕ) (said : Result ℕ Refusal) (h g : Half F) → said ≡ wait_says m n h → g ≡ waited m n h → WaitRefused m n said h g
  wait_refused n said h g p q =
      subst (λ a. WaitRefused m n a h g) (sym p) (subst (λ x. WaitRefused m n (wait_says m n h) h x) (sym q) (wait_cases n h (wait_polls m n h)))
