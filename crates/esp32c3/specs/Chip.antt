-- The new chip, as the units know it. Assumes nothing.
use Rattle.std.specs.Prelude.{ℕ, [], ◌∷◌, Some, None, Option}
use Rattle.dividers.specs.declared.ConfigError.{ConfigError}
use Rattle.dividers.specs.Answers.{eight_bit_range}
use Rattle.fields.specs.declared.CommonField.{CommonField}
use Rattle.fields.specs.declared.Field.TheVariants.{Tx, Rx}
use Rattle.fields.specs.declared.RxField.{RxField}
use Rattle.fields.specs.declared.RxField.TheVariants.{NewRxBckDivNum, NewRxClkmDivNum, NewRxClkmDivX, NewRxClkmDivY, NewRxClkmDivYn1, NewRxClkmDivZ, NewRxSlaveMod}
use Rattle.fields.specs.declared.Side.{Side}
use Rattle.fields.specs.declared.Side.TheVariants.{Transmit, Receive}
use Rattle.fields.specs.declared.TxField.{TxField}
use Rattle.fields.specs.declared.TxField.TheVariants.{NewTxBckDivNum, NewTxClkmDivNum, NewTxClkmDivX, NewTxClkmDivY, NewTxClkmDivYn1, NewTxClkmDivZ, NewTxSlaveMod}
use Rattle.marks.specs.declared.Events.{Events}
use Rattle.setups.specs.declared.esp32c3.Config.{Config}
use Rattle.setups.specs.declared.esp32c3.DataFormat.{DataFormat}
use Rattle.setups.specs.declared.esp32c3.UnitConfig.{UnitConfig}
use Rattle.setups.specs.declared.esp32c3.UnitNumbers.{UnitNumbers}
use Rattle.setups.specs.Check.{numbers_of, refusal_of}
use Rattle.chips.specs.declared.Awaited.TheVariants.{TxIdle, RxDone}
use Rattle.chips.specs.Dividers.{Divider}
use Rattle.chips.specs.Moves.{Moves, Opens, Whole}
use Rattle.chips.specs.Puts.{puts_rx, puts_tx}
use Rattle.new_registers.specs.Registers.{done_and_hung, rx_ended, rx_reset, rx_started, rx_updated, tx_reset, tx_started, tx_stopped, tx_updated}
use Rattle.new_registers.specs.Rows.{bit, rx_set, tx_set}

abbrev pub new_own_events : Events
new_own_events = done_and_hung

-- These two are not unfolded where they are used: at 511 denominators the pair would be computed.
unfoldable pub unit_refusal : UnitConfig → Option ConfigError
unit_refusal u = refusal_of 511 eight_bit_range u

unfoldable pub unit_numbers : UnitConfig → UnitNumbers
unit_numbers u = numbers_of 511 u

abbrev pub new_refusal : UnitConfig × DataFormat → Option ConfigError
new_refusal u = unit_refusal u.0

abbrev pub on_side : Side → Option ConfigError → Option (Side × ConfigError) → Option (Side × ConfigError)
on_side s (Some e) next = Some (s, e)
on_side s None next = next

-- the transmit set-up is looked at first
abbrev pub new_open_refusal : Config → Option (Side × ConfigError)
new_open_refusal c = on_side Transmit (unit_refusal c.tx_config) (on_side Receive (unit_refusal c.rx_config) None)

abbrev pub new_keeps : Config → DataFormat
new_keeps c = c.tx_config.data_format

abbrev pub new_tx : Moves TxField (UnitConfig × DataFormat)
new_tx = record {
  sets = λ u. puts_tx (tx_set (unit_numbers u.0));
  resets = tx_reset;
  starts = λ _. tx_started;
  busy = None;
  done = TxIdle;
  ends = tx_stopped;
  stops = tx_stopped;
}

abbrev pub new_rx : Moves RxField (UnitConfig × DataFormat)
new_rx = record {
  sets = λ u. puts_rx (rx_set (unit_numbers u.0));
  resets = rx_reset;
  starts = rx_started;
  busy = None;
  done = RxDone;
  ends = rx_ended;
  stops = rx_reset;
}

abbrev pub new_opens : Opens Config
new_opens = record {
  tx = λ c. puts_tx (tx_set (unit_numbers c.tx_config));
  rx = λ c. puts_rx (rx_set (unit_numbers c.rx_config));
  common = λ c m. m;
}

abbrev pub new_masters : Whole
new_masters = record { tx = puts_tx ((Tx NewTxSlaveMod, 0) ∷ []); rx = puts_rx ((Rx NewRxSlaveMod, 0) ∷ []); common = λ c. c }

abbrev pub new_updates : Whole
new_updates = record { tx = tx_updated; rx = rx_updated; common = λ c. c }

abbrev pub new_tx_divider : (TxField → ℕ) → (CommonField → ℕ) → Divider
new_tx_divider t c = record {
  integer = t NewTxClkmDivNum;
  bit = t NewTxBckDivNum;
  fraction = t NewTxClkmDivX ∷ t NewTxClkmDivY ∷ t NewTxClkmDivZ ∷ t NewTxClkmDivYn1 ∷ [];
}

abbrev pub new_rx_divider : (RxField → ℕ) → (CommonField → ℕ) → Divider
new_rx_divider r c = record {
  integer = r NewRxClkmDivNum;
  bit = r NewRxBckDivNum;
  fraction = r NewRxClkmDivX ∷ r NewRxClkmDivY ∷ r NewRxClkmDivZ ∷ r NewRxClkmDivYn1 ∷ [];
}

-- what the definitions store for a set-up
abbrev pub stored : UnitNumbers → Divider
stored n =
    record { integer = n.clkm_div_num; bit = n.bck_div_num; fraction = n.clkm_div_x ∷ n.clkm_div_y ∷ n.clkm_div_z ∷ bit n.clkm_div_yn1 ∷ [] }

abbrev pub new_divider : UnitConfig × DataFormat → Divider
new_divider u = stored (unit_numbers u.0)

abbrev pub new_tx_at_open : Config → Divider
new_tx_at_open c = stored (unit_numbers c.tx_config)

abbrev pub new_rx_at_open : Config → Divider
new_rx_at_open c = stored (unit_numbers c.rx_config)
