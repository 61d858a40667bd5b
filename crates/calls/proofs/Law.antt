-- The laws of lists of calls, from what a chip promises. Assumes nothing.
use Rattle.std.proofs.Common.{◌≡◌, ℕ, List, Option}
use Rattle.dividers.specs.declared.ConfigError.{ConfigError}
use Rattle.fields.specs.declared.RxField.{RxField}
use Rattle.fields.specs.declared.TxField.{TxField}
use Rattle.marks.specs.declared.Events.{Events}
use Rattle.chips.specs.Dividers.{Divider, Divides}
use Rattle.chips.specs.Moves.{Moves}
use Rattle.calls.specs.declared.call.Call.{Call}
use Rattle.calls.specs.Runs.{both, Sides}
use Rattle.calls.proofs.Alone.{rx_alone, tx_alone}
use Rattle.calls.proofs.Divided.{rx_divided, tx_divided}
use Rattle.calls.proofs.Kept.{rx_steady, tx_steady}
use Rattle.calls.specs.Laws.{OrderLaws}

pub order_laws : {U D : Type 0} (m : Moves TxField (U × D)) (n : Moves RxField (U × D)) (refusal : U × D → Option ConfigError) (events : Events)
    (own : Option (U × D → Divider)) (t : (TxField → ℕ) → Divider) (r : (RxField → ℕ) → Divider) (calls : List (Call U)) (s : Sides D) (dt dr : Divider)
    → Divides m refusal own t → Divides n refusal own r → t s.tx.half.fields ≡ dt → r s.rx.half.fields ≡ dr → OrderLaws (both m n refusal events) own t r calls s dt dr
order_laws m n refusal events own t r calls s dt dr tx rx et er =
    let k = both m n refusal events in
    record {
      tx_alone = tx_alone k;
      rx_alone = rx_alone k;
      tx_divided = tx_divided k own calls s dt t (tx_steady refusal events own m t tx) et;
      rx_divided = rx_divided k own calls s dr r (rx_steady refusal events own n r rx) er;
    }
