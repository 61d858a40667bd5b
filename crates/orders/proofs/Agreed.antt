-- Two lists with the same calls of each unit, on openings alike, agree. Assumes nothing.
use Rattle.std.proofs.Common.{ℕ, List, Ok, Err, Option, Result, sym, ap, ◌∙◌}
use Rattle.dividers.specs.declared.ConfigError.{ConfigError}
use Rattle.fields.specs.declared.CommonField.{CommonField}
use Rattle.fields.specs.declared.RxField.{RxField}
use Rattle.fields.specs.declared.Side.{Side}
use Rattle.fields.specs.declared.TxField.{TxField}
use Rattle.blocks.specs.Half.{Half}
use Rattle.chips.specs.Moves.{Opens, Whole}
use Rattle.calls.specs.declared.Call.{Call}
use Rattle.calls.specs.Agree.{BlocksAlike, SameCalls}
use Rattle.calls.specs.Runs.{Both}
use Rattle.calls.proofs.Alike.{answers_agree, rx_ends_alike, tx_ends_alike}
use Rattle.units.specs.declared.Opened.{Opened}
use Rattle.orders.specs.declared.operate.Denied.{Denied}
use Rattle.orders.specs.declared.run.Ran.{Ran}
use Rattle.orders.specs.Agreed.{AgreedOn}
use Rattle.orders.specs.Outcome.{RunsAs}

module _ {C U D S G O : Type 0} (tx : C → Half TxField) (rx : C → Half RxField) (common : C → CommonField → ℕ)
    (k : Both U D) (masters : Whole) (opens : Opens G) (updates : Whole) (keeps : G → D) (refusal : G → Option (Side × ConfigError))
    (config : G) (tx_limit rx_limit : ℕ) (one other : C) (xs ys : List (Call U)) (calls : SameCalls xs ys) (blocks : BlocksAlike tx rx common one other) where
  pub agreed : (p q : Result (Opened C × Ran C U D S G O) (C × Denied))
      → RunsAs tx rx common k masters opens updates keeps refusal config tx_limit rx_limit xs one p
      → RunsAs tx rx common k masters opens updates keeps refusal config tx_limit rx_limit ys other q
      → AgreedOn tx rx common p q
  agreed (Ok p) (Ok q) a b = (
    answers_agree k masters opens updates keeps config tx_limit rx_limit (tx one) (tx other) (rx one) (rx other) xs ys calls blocks.of_tx blocks.of_rx _ _ a.answers b.answers,
    record {
      of_tx = tx_ends_alike k masters opens updates keeps config tx_limit rx_limit (tx one) (tx other) (rx one) (rx other) xs ys calls blocks.of_tx blocks.of_rx _ _ a.ends b.ends;
      of_rx = rx_ends_alike k masters opens updates keeps config tx_limit rx_limit (tx one) (tx other) (rx one) (rx other) xs ys calls blocks.of_tx blocks.of_rx _ _ a.ends b.ends;
      of_common = λ f. ap (λ (c : CommonField → ℕ). c f) (a.shared ∙ (λ i. updates.common (opens.common config (masters.common (λ g. blocks.of_common g i)))) ∙ sym b.shared);
    },
  )
  agreed (Ok p) (Err e) a b = record {}
  agreed (Err e) (Ok q) a b = record {}
  agreed (Err e) (Err f) a b = record {}
