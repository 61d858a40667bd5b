-- What an opening answers and leaves. Assumes nothing.
--     fault_of e      the unit and what is wrong with its set-up
--     OpenedBy ..     a block became another by set_master, configure and update, in that order
use Rattle.std.specs.Prelude.{◌≡◌, ℕ}
use Rattle.dividers.specs.declared.ConfigError.{ConfigError}
use Rattle.fields.specs.declared.CommonField.{CommonField}
use Rattle.fields.specs.declared.RxField.{RxField}
use Rattle.fields.specs.declared.Side.{Side}
use Rattle.fields.specs.declared.TxField.{TxField}
use Rattle.blocks.specs.Half.{Half}
use Rattle.chips.specs.Moves.{Opens, Whole}
use Rattle.errors.specs.declared.OpenError.{OpenError}

abbrev pub fault_of : OpenError → Side × ConfigError
fault_of e = (e.unit, e.error)

pub record OpenedBy {S G : Type 0} (tx : S → Half TxField) (rx : S → Half RxField) (common : S → CommonField → ℕ) (masters : Whole) (opens : Opens G) (updates : Whole) (config : G) (a b : S) : Type 0 where
  pub of_tx : tx b ≡ updates.tx (opens.tx config (masters.tx (tx a)))
  pub of_rx : rx b ≡ updates.rx (opens.rx config (masters.rx (rx a)))
  pub of_common : common b ≡ updates.common (opens.common config (masters.common (common a)))
