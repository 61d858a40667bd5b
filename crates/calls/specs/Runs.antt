-- Lists of calls on the two units of one block. Assumes nothing.
--     after step cs s, answers step say cs s
--                          where a list of calls ends, and what its calls answer
--     Sides D              both units with their halves
--     Both U D, both t r refusal own
--                          what the calls of both units rest on; those of a chip, by its moves, refusals and events
--     Heard, heard a       an answer of either unit, by what it says
--     step_of, answer_of   one call of either unit
--     end_of k cs s, says_of k cs s
--                          where a list ends, and what its calls answer
--     picked mine cs       what one unit has of a list, in its order
--     TxAlone k, RxAlone k a unit's part of a list depends on its own calls alone
use Rattle.std.specs.Prelude.{◌≡◌, List, [], ◌∷◌, Some, None, Option}
use Rattle.dividers.specs.declared.ConfigError.{ConfigError}
use Rattle.fields.specs.declared.RxField.{RxField}
use Rattle.fields.specs.declared.TxField.{TxField}
use Rattle.marks.specs.declared.Events.{Events}
use Rattle.chips.specs.Moves.{Moves}
use Rattle.calls.specs.declared.call.Answer.{Answer}
use Rattle.calls.specs.declared.call.Answer.TheVariants as answer
use Rattle.calls.specs.declared.call.Call.{Call}
use Rattle.calls.specs.declared.call.Call.TheVariants.{Transmit, Receive}
use Rattle.calls.specs.declared.call.UnitCall.{UnitCall}
use Rattle.calls.specs.Rules.{Rules, rx_rules, tx_rules}
use Rattle.calls.specs.Steps.{Said, Side, next, said_of, says}

abbrev pub after : {Q S : Type 0} → (Q → S → S) → List Q → S → S
after step [] s = s
after step (c ∷ cs) s = after step cs (step c s)

abbrev pub answers : {Q S A : Type 0} → (Q → S → S) → (Q → S → A) → List Q → S → List A
answers step say [] s = []
answers step say (c ∷ cs) s = say c s ∷ answers step say cs (step c s)

pub record Sides (D : Type 0) : Type 0 where
  pub tx : Side TxField D
  pub rx : Side RxField D

pub record Both (U D : Type 0) : Type 0 where
  pub tx : Rules TxField U D
  pub rx : Rules RxField U D

abbrev pub both : {U D : Type 0} → Moves TxField (U × D) → Moves RxField (U × D) → (U × D → Option ConfigError) → Events → Both U D
both t r refusal own = record { tx = tx_rules t refusal own; rx = rx_rules r refusal own }

pub data Heard : Type 0 where
  tx_said : Said → Heard
  rx_said : Said → Heard

abbrev pub heard : Answer → Heard
heard (answer.Transmit a) = tx_said (said_of a)
heard (answer.Receive a) = rx_said (said_of a)

module _ {U D : Type 0} (k : Both U D) where
  abbrev pub step_of : Call U → Sides D → Sides D
  step_of (Transmit c) s = record { tx = next k.tx c s.tx; rx = s.rx }
  step_of (Receive c) s = record { tx = s.tx; rx = next k.rx c s.rx }

  abbrev pub answer_of : Call U → Sides D → Heard
  answer_of (Transmit c) s = tx_said (says k.tx c s.tx)
  answer_of (Receive c) s = rx_said (says k.rx c s.rx)

  abbrev pub end_of : List (Call U) → Sides D → Sides D
  end_of = after step_of

  abbrev pub says_of : List (Call U) → Sides D → List Heard
  says_of = answers step_of answer_of

-- what one unit has of a list, in its order
abbrev pub kept : {Q : Type 0} → Option Q → List Q → List Q
kept (Some q) qs = q ∷ qs
kept None qs = qs

abbrev pub picked : {C Q : Type 0} → (C → Option Q) → List C → List Q
picked mine [] = []
picked mine (c ∷ cs) = kept (mine c) (picked mine cs)

abbrev pub tx_call : {U : Type 0} → Call U → Option (UnitCall U)
tx_call (Transmit c) = Some c
tx_call (Receive c) = None

abbrev pub rx_call : {U : Type 0} → Call U → Option (UnitCall U)
rx_call (Transmit c) = None
rx_call (Receive c) = Some c

abbrev pub tx_heard : Heard → Option Said
tx_heard (tx_said a) = Some a
tx_heard (rx_said a) = None

abbrev pub rx_heard : Heard → Option Said
rx_heard (tx_said a) = None
rx_heard (rx_said a) = Some a

-- Two lists with the same calls of a unit, from where that unit and its half are the same, give it the same answers and
-- leave it and its half the same, whatever the other unit was told between.
abbrev pub TxAlone : {U D : Type 0} → Both U D → Type 0
TxAlone {U = U} {D = D} k = (cs ds : List (Call U)) (s t : Sides D) → picked tx_call cs ≡ picked tx_call ds → s.tx ≡ t.tx
    → (picked tx_heard (says_of k cs s) ≡ picked tx_heard (says_of k ds t)) × ((end_of k cs s).tx ≡ (end_of k ds t).tx)

abbrev pub RxAlone : {U D : Type 0} → Both U D → Type 0
RxAlone {U = U} {D = D} k = (cs ds : List (Call U)) (s t : Sides D) → picked rx_call cs ≡ picked rx_call ds → s.rx ≡ t.rx
    → (picked rx_heard (says_of k cs s) ≡ picked rx_heard (says_of k ds t)) × ((end_of k cs s).rx ≡ (end_of k ds t).rx)
