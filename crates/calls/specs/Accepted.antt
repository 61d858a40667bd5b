-- The set-up that a unit last accepted, and its divider at every point of a list. Assumes nothing.
--     accepted_by c a so     the set-up last accepted, so far `so`, once the call c was answered by a
--     accepted cs said so    the same after calls and their answers
--     last_divider own d so at_open
--                            the divider of the set-up last accepted, at the format d that the unit keeps; where there is none since the
--                            opening, or a unit's set-up has none, that of the opening
--     TxDivided, RxDivided   after every number of calls of a list that is the divider read from the unit's fields
use Rattle.std.specs.Prelude.{◌≡◌, ℕ, List, [], ◌∷◌, Some, None, Option, take}
use Rattle.fields.specs.declared.RxField.{RxField}
use Rattle.fields.specs.declared.TxField.{TxField}
use Rattle.chips.specs.Dividers.{Divider, settled}
use Rattle.calls.specs.declared.call.Call.{Call}
use Rattle.calls.specs.declared.call.UnitCall.{UnitCall}
use Rattle.calls.specs.declared.call.UnitCall.TheVariants.{ApplyConfig, Start, Wait, Stop, Listen, Unlisten, ClearInterrupts}
use Rattle.calls.specs.Steps.{Said, done, not_taken, polled, refused}
use Rattle.calls.specs.Runs.{Both, Sides, end_of, picked, rx_call, rx_heard, says_of, tx_call, tx_heard}

abbrev pub if_done : {U : Type 0} → Said → U → Option U → Option U
if_done done u so = Some u
if_done (polled n) u so = so
if_done (refused r) u so = so
if_done not_taken u so = so

abbrev pub accepted_by : {U : Type 0} → UnitCall U → Said → Option U → Option U
accepted_by (ApplyConfig u) a so = if_done a u so
accepted_by (Start len n) a so = so
accepted_by (Wait n) a so = so
accepted_by Stop a so = so
accepted_by (Listen i) a so = so
accepted_by (Unlisten i) a so = so
accepted_by (ClearInterrupts i) a so = so

abbrev pub accepted : {U : Type 0} → List (UnitCall U) → List Said → Option U → Option U
accepted [] said so = so
accepted (c ∷ cs) [] so = so
accepted (c ∷ cs) (a ∷ said) so = accepted cs said (accepted_by c a so)

abbrev pub last_divider : {U D : Type 0} → Option (U × D → Divider) → D → Option U → Divider → Divider
last_divider own d None at_open = at_open
last_divider own d (Some u) at_open = settled own (u, d) at_open

module _ {U D : Type 0} (k : Both U D) (own : Option (U × D → Divider)) (calls : List (Call U)) (s : Sides D) (at_open : Divider) where
  abbrev pub TxDivided : ((TxField → ℕ) → Divider) → Type 0
  TxDivided read = (n : ℕ) → read (end_of k (take n calls) s).tx.half.fields
      ≡ last_divider own s.tx.format (accepted (picked tx_call (take n calls)) (picked tx_heard (says_of k (take n calls) s)) None) at_open

  abbrev pub RxDivided : ((RxField → ℕ) → Divider) → Type 0
  RxDivided read = (n : ℕ) → read (end_of k (take n calls) s).rx.half.fields
      ≡ last_divider own s.rx.format (accepted (picked rx_call (take n calls)) (picked rx_heard (says_of k (take n calls) s)) None) at_open
