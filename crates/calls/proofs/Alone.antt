-- A unit's part of a list is the run of its own calls. Assumes nothing.
use Rattle.std.proofs.Common.{◌≡◌, List, [], ◌∷◌, Some, None, Option, refl, sym, ap, ◌∙◌}
use Rattle.calls.specs.declared.call.Call.{Call}
use Rattle.calls.specs.declared.call.Call.TheVariants.{Transmit, Receive}
use Rattle.calls.specs.Steps.{next, says}
use Rattle.calls.specs.Runs.{after, answer_of, answers, Both, end_of, kept, picked, rx_call, rx_heard, RxAlone, says_of, Sides, step_of, tx_call, tx_heard, TxAlone}

-- a state moved by one of its own calls, or left by another's
abbrev moved : {Q S : Type 0} → (Q → S → S) → Option Q → S → S
moved step (Some q) s = step q s
moved step None s = s

abbrev spoken : {Q S A : Type 0} → (Q → S → A) → Option Q → S → Option A
spoken say (Some q) s = Some (say q s)
spoken say None s = None

-- a whole that is stepped by calls C, and a part of it that is stepped by its own calls Q alone
module _ {C W A Q S B : Type 0} (step : C → W → W) (say : C → W → A) (step′ : Q → S → S) (say′ : Q → S → B)
    (mine : C → Option Q) (said : A → Option B) (part : W → S)
    (moves : (c : C) (w : W) → part (step c w) ≡ moved step′ (mine c) (part w))
    (speaks : (c : C) (w : W) → said (say c w) ≡ spoken say′ (mine c) (part w)) where
  first_end : (o : Option Q) (qs : List Q) (s : S) → after step′ qs (moved step′ o s) ≡ after step′ (kept o qs) s
  first_end (Some q) qs s = refl
  first_end None qs s = refl

  first_says : (o : Option Q) (qs : List Q) (s : S) → kept (spoken say′ o s) (answers step′ say′ qs (moved step′ o s)) ≡ answers step′ say′ (kept o qs) s
  first_says (Some q) qs s = refl
  first_says None qs s = refl

  pub own_end : (cs : List C) (w : W) → part (after step cs w) ≡ after step′ (picked mine cs) (part w)
  own_end [] w = refl
  own_end (c ∷ cs) w = own_end cs (step c w) ∙ ap (after step′ (picked mine cs)) (moves c w) ∙ first_end (mine c) (picked mine cs) (part w)

  pub own_says : (cs : List C) (w : W) → picked said (answers step say cs w) ≡ answers step′ say′ (picked mine cs) (part w)
  own_says [] w = refl
  own_says (c ∷ cs) w =
      (λ i. kept (speaks c w i) (own_says cs (step c w) i))
      ∙ ap (λ s. kept (spoken say′ (mine c) (part w)) (answers step′ say′ (picked mine cs) s)) (moves c w)
      ∙ first_says (mine c) (picked mine cs) (part w)

  pub alone : (cs ds : List C) (w v : W) → picked mine cs ≡ picked mine ds → part w ≡ part v
      → (picked said (answers step say cs w) ≡ picked said (answers step say ds v)) × (part (after step cs w) ≡ part (after step ds v))
  alone cs ds w v e p = (
    own_says cs w ∙ (λ i. answers step′ say′ (e i) (p i)) ∙ sym (own_says ds v),
    own_end cs w ∙ (λ i. after step′ (e i) (p i)) ∙ sym (own_end ds v),
  )

module _ {U D : Type 0} (k : Both U D) where
  tx_moves : (c : Call U) (s : Sides D) → (step_of k c s).tx ≡ moved (next k.tx) (tx_call c) s.tx
  tx_moves (Transmit c) s = refl
  tx_moves (Receive c) s = refl

  tx_speaks : (c : Call U) (s : Sides D) → tx_heard (answer_of k c s) ≡ spoken (says k.tx) (tx_call c) s.tx
  tx_speaks (Transmit c) s = refl
  tx_speaks (Receive c) s = refl

  rx_moves : (c : Call U) (s : Sides D) → (step_of k c s).rx ≡ moved (next k.rx) (rx_call c) s.rx
  rx_moves (Transmit c) s = refl
  rx_moves (Receive c) s = refl

  rx_speaks : (c : Call U) (s : Sides D) → rx_heard (answer_of k c s) ≡ spoken (says k.rx) (rx_call c) s.rx
  rx_speaks (Transmit c) s = refl
  rx_speaks (Receive c) s = refl

  pub tx_alone : TxAlone k
  tx_alone = alone (step_of k) (answer_of k) (next k.tx) (says k.tx) tx_call tx_heard (λ s. s.tx) tx_moves tx_speaks

  pub rx_alone : RxAlone k
  rx_alone = alone (step_of k) (answer_of k) (next k.rx) (says k.rx) rx_call rx_heard (λ s. s.rx) rx_moves rx_speaks

  pub tx_end : (cs : List (Call U)) (s : Sides D) → (end_of k cs s).tx ≡ after (next k.tx) (picked tx_call cs) s.tx
  tx_end = own_end (step_of k) (answer_of k) (next k.tx) (says k.tx) tx_call tx_heard (λ s. s.tx) tx_moves tx_speaks

  pub tx_says : (cs : List (Call U)) (s : Sides D) → picked tx_heard (says_of k cs s) ≡ answers (next k.tx) (says k.tx) (picked tx_call cs) s.tx
  tx_says = own_says (step_of k) (answer_of k) (next k.tx) (says k.tx) tx_call tx_heard (λ s. s.tx) tx_moves tx_speaks

  pub rx_end : (cs : List (Call U)) (s : Sides D) → (end_of k cs s).rx ≡ after (next k.rx) (picked rx_call cs) s.rx
  rx_end = own_end (step_of k) (answer_of k) (next k.rx) (says k.rx) rx_call rx_heard (λ s. s.rx) rx_moves rx_speaks

  pub rx_says : (cs : List (Call U)) (s : Sides D) → picked rx_heard (says_of k cs s) ≡ answers (next k.rx) (says k.rx) (picked rx_call cs) s.rx
  rx_says = own_says (step_of k) (answer_of k) (next k.rx) (says k.rx) rx_call rx_heard (λ s. s.rx) rx_moves rx_speaks
