-- A unit that is either at rest or running, by its numbers. Assumes nothing.
--     runs u                whether it runs
--     tx_limit, tx_format, rx_limit, rx_format
--                           its limit, and the format that it keeps
use Rattle.std.specs.Prelude.{ℕ, Bool, true, false}
use Rattle.units.specs.declared.rx_resting.RxResting.{RxResting}
use Rattle.units.specs.declared.rx_running.RxRunning.{RxRunning}
use Rattle.units.specs.declared.tx_resting.TxResting.{TxResting}
use Rattle.units.specs.declared.tx_running.TxRunning.{TxRunning}
use Rattle.units.specs.declared.unit.Unit.{Unit}
use Rattle.units.specs.declared.unit.Unit.TheVariants.{Resting, Running}

abbrev pub runs : {R S : Type 0} → Unit R S → Bool
runs (Resting u) = false
runs (Running u) = true

module _ {C U D S G O : Type 0} where
  abbrev pub tx_limit : Unit (TxResting C U D S G O) (TxRunning C U D S G O) → ℕ
  tx_limit (Resting u) = u.limit
  tx_limit (Running u) = u.limit

  abbrev pub tx_format : Unit (TxResting C U D S G O) (TxRunning C U D S G O) → D
  tx_format (Resting u) = u.format
  tx_format (Running u) = u.format

  abbrev pub rx_limit : Unit (RxResting C U D S G O) (RxRunning C U D S G O) → ℕ
  rx_limit (Resting u) = u.limit
  rx_limit (Running u) = u.limit

  abbrev pub rx_format : Unit (RxResting C U D S G O) (RxRunning C U D S G O) → D
  rx_format (Resting u) = u.format
  rx_format (Running u) = u.format
