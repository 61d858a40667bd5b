-- The old chip, as the units know it. Assumes nothing.
--     old_own_events                  the events that it has: hung
--     unit_refusal, open_refusal      how a set-up is refused, if it is: a unit's never, that of both by its rate
--     open_numbers c                  the numbers of the rate and the format
--     old_tx, old_rx                  what its functions make of a half
--     old_masters, old_opens, old_updates  what an opening makes of all
--     old_tx_divider, old_rx_divider  the divider that stands in the fields: the integer part and the pair in the common part
--     old_at_open c                   what the definitions store for a set-up of both units
use Rattle.std.specs.Prelude.{ℕ, List, [], ◌∷◌, Some, None, Option}
use Rattle.dividers.specs.declared.ConfigError.{ConfigError}
use Rattle.dividers.specs.Answers.{eight_bit_range}
use Rattle.fields.specs.declared.CommonField.{CommonField}
use Rattle.fields.specs.declared.CommonField.TheVariants.{OldClkmDivA, OldClkmDivB, OldClkmDivNum}
use Rattle.fields.specs.declared.Field.{Field}
use Rattle.fields.specs.declared.Field.TheVariants.{Tx, Rx}
use Rattle.fields.specs.declared.RxField.{RxField}
use Rattle.fields.specs.declared.RxField.TheVariants.{OldRxBckDivNum, OldRxSlaveMod}
use Rattle.fields.specs.declared.Side.{Side}
use Rattle.fields.specs.declared.Side.TheVariants.{Transmit}
use Rattle.fields.specs.declared.TxField.{TxField}
use Rattle.fields.specs.declared.TxField.TheVariants.{OldTxBckDivNum, OldTxSlaveMod}
use Rattle.marks.specs.declared.Events.{Events}
use Rattle.old_setups.specs.declared.ClockNumbers.{ClockNumbers}
use Rattle.old_setups.specs.declared.Config.{Config}
use Rattle.old_setups.specs.declared.DataFormat.{DataFormat}
use Rattle.old_setups.specs.declared.UnitConfig.{UnitConfig}
use Rattle.old_setups.specs.Configs.{clock_numbers, refusal_of}
use Rattle.old_setups.specs.Units.{numbers_of}
use Rattle.chips.specs.declared.Awaited.TheVariants.{TxBusy, TxIdle, RxEof}
use Rattle.chips.specs.Dividers.{Divider}
use Rattle.chips.specs.Moves.{Moves, Opens, Whole}
use Rattle.chips.specs.Puts.{puts_common, puts_rx, puts_tx}
use Rattle.old_registers.specs.Registers.{hung_alone, rx_ended, rx_reset, rx_started, tx_raised, tx_reset, tx_stopped}
use Rattle.old_registers.specs.Rows.{opening, rx_set, tx_set}

abbrev pub old_own_events : Events
old_own_events = hung_alone

abbrev pub unit_refusal : UnitConfig × DataFormat → Option ConfigError
unit_refusal u = None

-- These two are not unfolded where they are used: at 63 denominators the pair would be computed.
unfoldable pub open_refused : Config → Option ConfigError
open_refused c = refusal_of eight_bit_range c

unfoldable pub open_numbers : Config → ClockNumbers
open_numbers c = clock_numbers 63 c

abbrev pub on_transmit : Option ConfigError → Option (Side × ConfigError)
on_transmit (Some e) = Some (Transmit, e)
on_transmit None = None

-- the one rate's refusal names the transmit unit
abbrev pub open_refusal : Config → Option (Side × ConfigError)
open_refusal c = on_transmit (open_refused c)

abbrev pub old_tx : Moves TxField (UnitConfig × DataFormat)
old_tx = record {
  sets = λ u. puts_tx (tx_set (numbers_of u.0 u.1));
  resets = tx_reset;
  starts = λ _. tx_raised;
  busy = Some TxBusy;
  done = TxIdle;
  ends = tx_stopped;
  stops = tx_stopped;
}

abbrev pub old_rx : Moves RxField (UnitConfig × DataFormat)
old_rx = record {
  sets = λ u. puts_rx (rx_set (numbers_of u.0 u.1));
  resets = rx_reset;
  starts = rx_started;
  busy = None;
  done = RxEof;
  ends = rx_ended;
  stops = rx_reset;
}

abbrev row_of : Config → List (Field × ℕ)
row_of c = opening (numbers_of c.tx_config c.data_format) (numbers_of c.rx_config c.data_format) (open_numbers c)

abbrev pub old_opens : Opens Config
old_opens = record { tx = λ c. puts_tx (row_of c); rx = λ c. puts_rx (row_of c); common = λ c. puts_common (row_of c) }

abbrev pub old_masters : Whole
old_masters = record { tx = puts_tx ((Tx OldTxSlaveMod, 0) ∷ []); rx = puts_rx ((Rx OldRxSlaveMod, 0) ∷ []); common = λ c. c }

abbrev pub old_updates : Whole
old_updates = record { tx = λ h. h; rx = λ h. h; common = λ c. c }

abbrev pub old_tx_divider : (TxField → ℕ) → (CommonField → ℕ) → Divider
old_tx_divider t c = record { integer = c OldClkmDivNum; bit = t OldTxBckDivNum; fraction = c OldClkmDivA ∷ c OldClkmDivB ∷ [] }

abbrev pub old_rx_divider : (RxField → ℕ) → (CommonField → ℕ) → Divider
old_rx_divider r c = record { integer = c OldClkmDivNum; bit = r OldRxBckDivNum; fraction = c OldClkmDivA ∷ c OldClkmDivB ∷ [] }

abbrev pub stored : ClockNumbers → Divider
stored n = record { integer = n.clkm_div_num; bit = n.bck_div_num; fraction = n.clkm_div_a ∷ n.clkm_div_b ∷ [] }

abbrev pub old_at_open : Config → Divider
old_at_open c = stored (open_numbers c)
