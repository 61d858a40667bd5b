-- An opening with a list of calls on its units. Assumes nothing.
--     Denies refusal d    why nothing was done: there was no memory, or the opening was refused by that
--     Ordered ..          the answers of the calls, both units with their halves after them, and the common part of the opening
--     RunsAs ..           a list is answered and leaves what is ordered, or nothing was done and the chip is given back
use Rattle.std.specs.Prelude.{◌≡◌, ℕ, List, ⊤, map, Some, None, Option, Ok, Err, Result}
use Rattle.dividers.specs.declared.ConfigError.{ConfigError}
use Rattle.fields.specs.declared.CommonField.{CommonField}
use Rattle.fields.specs.declared.RxField.{RxField}
use Rattle.fields.specs.declared.Side.{Side}
use Rattle.fields.specs.declared.TxField.{TxField}
use Rattle.blocks.specs.Half.{Half}
use Rattle.chips.specs.Moves.{Opens, Whole}
use Rattle.calls.specs.declared.Call.{Call}
use Rattle.calls.specs.Opening.{at_open}
use Rattle.calls.specs.Runs.{Both, end_of, heard, says_of}
use Rattle.units.specs.declared.Opened.{Opened}
use Rattle.units.specs.Opening.{fault_of}
use Rattle.steps.specs.Sides.{sides}
use Rattle.orders.specs.declared.operate.Denied.{Denied}
use Rattle.orders.specs.declared.operate.Denied.TheVariants.{NoMemory, Refused}
use Rattle.orders.specs.declared.run.Ran.{Ran}

abbrev pub Denies : Option (Side × ConfigError) → Denied → Type 0
Denies refusal NoMemory = ⊤
Denies refusal (Refused e) = refusal ≡ Some (fault_of e)

module _ {C U D S G O : Type 0} (tx : C → Half TxField) (rx : C → Half RxField) (common : C → CommonField → ℕ)
    (k : Both U D) (masters : Whole) (opens : Opens G) (updates : Whole) (keeps : G → D) (refusal : G → Option (Side × ConfigError))
    (config : G) (tx_limit rx_limit : ℕ) (calls : List (Call U)) (chip : C) where
  pub record Ordered (opened : Opened C) (ran : Ran C U D S G O) : Type 0 where
    pub accepted : refusal config ≡ None
    pub answers : map heard ran.answers.items ≡ says_of k calls (at_open masters opens updates keeps config tx_limit rx_limit (tx chip) (rx chip))
    pub ends : sides ran.tx ran.rx (tx opened.chip) (rx opened.chip) ≡ end_of k calls (at_open masters opens updates keeps config tx_limit rx_limit (tx chip) (rx chip))
    pub shared : common opened.chip ≡ updates.common (opens.common config (masters.common (common chip)))

  abbrev pub RunsAs : Result (Opened C × Ran C U D S G O) (C × Denied) → Type 0
  RunsAs (Ok p) = Ordered p.0 p.1
  RunsAs (Err e) = (e.0 ≡ chip) × Denies (refusal config) e.1
