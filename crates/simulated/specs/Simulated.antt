-- A simulated block as two halves and a common part; `comes` says what a half's draws to come are. Assumes nothing.
use Rattle.std.specs.Prelude.{ℕ}
use Rattle.fields.specs.declared.CommonField.{CommonField}
use Rattle.fields.specs.declared.RxField.{RxField}
use Rattle.fields.specs.declared.TxField.{TxField}
use Rattle.marks.specs.declared.Draw.{Draw}
use Rattle.simulated.specs.declared.block.Simulated.{Simulated}
use Rattle.blocks.specs.Half.{Half}
use Rattle.tables.specs.Plain.{common_in, rx_in, tx_in}

abbrev pub tx_of : {D : Type 0} → (D → ℕ → Draw) → Simulated D → Half TxField
tx_of comes b = tx_in b.plain (comes b.tx_draws)

abbrev pub rx_of : {D : Type 0} → (D → ℕ → Draw) → Simulated D → Half RxField
rx_of comes b = rx_in b.plain (comes b.rx_draws)

abbrev pub common_of : {D : Type 0} → Simulated D → CommonField → ℕ
common_of b = common_in b.plain
