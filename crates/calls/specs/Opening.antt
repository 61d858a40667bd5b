-- Where lists of calls begin. Assumes nothing.
--     at_open ..  both units at rest, with their limits and formats, on the halves as an accepted opening leaves them
use Rattle.std.specs.Prelude.{ℕ, false}
use Rattle.fields.specs.declared.RxField.{RxField}
use Rattle.fields.specs.declared.TxField.{TxField}
use Rattle.blocks.specs.Half.{Half}
use Rattle.chips.specs.Moves.{Opens, Whole}
use Rattle.calls.specs.Runs.{Sides}

abbrev pub at_open : {G D : Type 0} → Whole → Opens G → Whole → (G → D) → G → ℕ → ℕ → Half TxField → Half RxField → Sides D
at_open masters opens updates keeps config tx_limit rx_limit t r = record {
  tx = record { running = false; limit = tx_limit; format = keeps config; half = updates.tx (opens.tx config (masters.tx t)) };
  rx = record { running = false; limit = rx_limit; format = keeps config; half = updates.rx (opens.rx config (masters.rx r)) };
}
