-- What the calls of a unit rest on, on either side. Assumes nothing.
--     Rules F U D            what a unit's calls answer and leave of its half with the fields F, under set-ups U and formats D
--     tx_rules m refusal own, rx_rules m refusal own
--                            those of a chip's units, by its moves, its refusals and the events that it has
use Rattle.std.specs.Prelude.{ℕ, Option, Result}
use Rattle.dividers.specs.declared.ConfigError.{ConfigError}
use Rattle.dividers.specs.Refusals.{Refusal}
use Rattle.fields.specs.declared.RxField.{RxField}
use Rattle.fields.specs.declared.TxField.{TxField}
use Rattle.marks.specs.declared.Events.{Events}
use Rattle.blocks.specs.Half.{Half}
use Rattle.chips.specs.declared.I2sInterrupts.{I2sInterrupts}
use Rattle.chips.specs.Moves.{Moves, waited}
use Rattle.transfers.specs.Calls as Unit
use Rattle.transfers.specs.Events as Own

pub record Rules (F U D : Type 0) : Type 0 where
  -- how a set-up is refused at the format that the unit keeps, and the half after it
  pub refusal : U × D → Option ConfigError
  pub applied : U × D → Half F → Half F
  -- the answer of a start under a limit, of a length, with so many polls allowed, and the half after it
  pub start_says : ℕ → ℕ → ℕ → Half F → Result ℕ Refusal
  pub started : ℕ → ℕ → ℕ → Half F → Half F
  -- the answer of a wait with so many polls allowed, and the half after it
  pub wait_says : ℕ → Half F → Result ℕ Refusal
  pub waited : ℕ → Half F → Half F
  -- the half after a stop
  pub stopped : Half F → Half F
  -- the unit's own events
  pub own : I2sInterrupts → Events

abbrev pub tx_rules : {U D : Type 0} → Moves TxField (U × D) → (U × D → Option ConfigError) → Events → Rules TxField U D
tx_rules m refusal own = record {
  refusal = refusal;
  applied = Unit.apply_leaves m refusal;
  start_says = Unit.tx_start_says m;
  started = Unit.tx_start_leaves m;
  wait_says = Unit.wait_says m;
  waited = waited m;
  stopped = m.stops;
  own = λ i. Own.tx_own i own;
}

abbrev pub rx_rules : {U D : Type 0} → Moves RxField (U × D) → (U × D → Option ConfigError) → Events → Rules RxField U D
rx_rules m refusal own = record {
  refusal = refusal;
  applied = Unit.apply_leaves m refusal;
  start_says = λ limit len n h. Unit.rx_start_says limit len;
  started = λ limit len n h. Unit.rx_start_leaves m limit len h;
  wait_says = Unit.wait_says m;
  waited = waited m;
  stopped = m.resets;
  own = λ i. Own.rx_own i own;
}
