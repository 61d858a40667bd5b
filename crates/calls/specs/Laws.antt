-- The laws of lists of calls. Assumes nothing.
--     OrderLaws k own t r calls s dt dr
--         Each unit's part of any list depends on its own calls alone; and at every point of the list `calls` from s on, the divider that
--         stands in a unit's fields, as t or r reads it, is that of the set-up that the unit last accepted, or else dt or dr.
use Rattle.std.specs.Prelude.{ℕ, List, Option}
use Rattle.fields.specs.declared.RxField.{RxField}
use Rattle.fields.specs.declared.TxField.{TxField}
use Rattle.chips.specs.Dividers.{Divider}
use Rattle.calls.specs.declared.call.Call.{Call}
use Rattle.calls.specs.Accepted.{RxDivided, TxDivided}
use Rattle.calls.specs.Runs.{Both, RxAlone, Sides, TxAlone}

pub record OrderLaws {U D : Type 0} (k : Both U D) (own : Option (U × D → Divider)) (t : (TxField → ℕ) → Divider) (r : (RxField → ℕ) → Divider) (calls : List (Call U)) (s : Sides D) (dt dr : Divider) : Type 0 where
  pub tx_alone : TxAlone k
  pub rx_alone : RxAlone k
  pub tx_divided : TxDivided k own calls s dt t
  pub rx_divided : RxDivided k own calls s dr r
