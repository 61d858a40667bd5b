-- The units of an opened block with its halves. Assumes nothing.
--     tx_side u h, rx_side v h  a unit, at rest or running, with its half
--     sides u v t r             both
use Rattle.fields.specs.declared.RxField.{RxField}
use Rattle.fields.specs.declared.TxField.{TxField}
use Rattle.blocks.specs.Half.{Half}
use Rattle.calls.specs.Runs.{Sides}
use Rattle.calls.specs.Steps.{Side}
use Rattle.units.specs.declared.RxResting.{RxResting}
use Rattle.units.specs.declared.RxRunning.{RxRunning}
use Rattle.units.specs.declared.TxResting.{TxResting}
use Rattle.units.specs.declared.TxRunning.{TxRunning}
use Rattle.units.specs.declared.Unit.{Unit}
use Rattle.units.specs.Which.{runs, rx_format, rx_limit, tx_format, tx_limit}

module _ {C U D S G O : Type 0} where
  abbrev pub tx_side : Unit (TxResting C U D S G O) (TxRunning C U D S G O) → Half TxField → Side TxField D
  tx_side u h = record { running = runs u; limit = tx_limit u; format = tx_format u; half = h }

  abbrev pub rx_side : Unit (RxResting C U D S G O) (RxRunning C U D S G O) → Half RxField → Side RxField D
  rx_side u h = record { running = runs u; limit = rx_limit u; format = rx_format u; half = h }

  abbrev pub sides : Unit (TxResting C U D S G O) (TxRunning C U D S G O) → Unit (RxResting C U D S G O) (RxRunning C U D S G O) → Half TxField → Half RxField → Sides D
  sides u v t r = record { tx = tx_side u t; rx = rx_side v r }
