-- What a chip's functions make of a half and of the common part. Assumes nothing.
--     Moves F U              those on a half with the fields F, under set-ups U of its unit
--     Opens G                those of configure, under set-ups G of both units
--     Whole                  those of a function that takes nothing
--     started m n h          the half h once n polls were allowed to find the start
--     start_polls m n h      the polls that a start makes, if it is found within n; 0 where it does not poll
--     wait_polls m n h       the number of the poll that finds the unit finished, if one of n does
--     waited m n h           the half after such a wait
--     OnTx, OnRx             a call that changes that half alone, by what is said
--     Checked from refusal u r  a check answers the refusal that is named, or what was checked, made from what was handed in
use Rattle.std.specs.Prelude.{◌≡◌, ℕ, Some, None, Option, Ok, Err, Result}
use Rattle.fields.specs.declared.CommonField.{CommonField}
use Rattle.fields.specs.declared.RxField.{RxField}
use Rattle.fields.specs.declared.TxField.{TxField}
use Rattle.blocks.specs.Half.{Half, moved}
use Rattle.chips.specs.declared.polls.Awaited.{Awaited}
use Rattle.chips.specs.Polls.{after_polls, first_found}

pub record Moves (F U : Type 0) : Type 0 where
  -- configure_tx or configure_rx
  pub sets : U → Half F → Half F
  -- reset_tx or reset_rx
  pub resets : Half F → Half F
  -- tx_start or rx_start at a length, before its polls
  pub starts : ℕ → Half F → Half F
  -- what a start polls for, if it does
  pub busy : Option Awaited
  -- what a wait polls for
  pub done : Awaited
  -- what a wait does once that is found
  pub ends : Half F → Half F
  -- tx_stop, or for the receive unit reset_rx
  pub stops : Half F → Half F

pub record Opens (G : Type 0) : Type 0 where
  pub tx : G → Half TxField → Half TxField
  pub rx : G → Half RxField → Half RxField
  pub common : G → (CommonField → ℕ) → (CommonField → ℕ)

pub record Whole : Type 0 where
  pub tx : Half TxField → Half TxField
  pub rx : Half RxField → Half RxField
  pub common : (CommonField → ℕ) → (CommonField → ℕ)

abbrev pub polls_for : Option Awaited → ℕ → {F : Type 0} → Half F → Option ℕ
polls_for None n h = Some 0
polls_for (Some a) n h = first_found a n 0 h.marks

abbrev pub polled_for : Option Awaited → ℕ → {F : Type 0} → Half F → Half F
polled_for None n h = h
polled_for (Some a) n h = moved (after_polls a n) h

abbrev pub start_polls : {F U : Type 0} → Moves F U → ℕ → Half F → Option ℕ
start_polls m n h = polls_for m.busy n h

abbrev pub started : {F U : Type 0} → Moves F U → ℕ → Half F → Half F
started m n h = polled_for m.busy n h

abbrev pub wait_polls : {F U : Type 0} → Moves F U → ℕ → Half F → Option ℕ
wait_polls m n h = first_found m.done n 0 h.marks

abbrev pub ended_if : {F U : Type 0} → Moves F U → Option ℕ → Half F → Half F
ended_if m (Some p) h = m.ends h
ended_if m None h = h

abbrev pub waited : {F U : Type 0} → Moves F U → ℕ → Half F → Half F
waited m n h = ended_if m (wait_polls m n h) (moved (after_polls m.done n) h)

pub record OnTx {S : Type 0} (tx : S → Half TxField) (rx : S → Half RxField) (common : S → CommonField → ℕ) (f : Half TxField → Half TxField) (a b : S) : Type 0 where
  pub half : tx b ≡ f (tx a)
  pub other : rx b ≡ rx a
  pub shared : common b ≡ common a

pub record OnRx {S : Type 0} (tx : S → Half TxField) (rx : S → Half RxField) (common : S → CommonField → ℕ) (f : Half RxField → Half RxField) (a b : S) : Type 0 where
  pub half : rx b ≡ f (rx a)
  pub other : tx b ≡ tx a
  pub shared : common b ≡ common a

abbrev pub Checked : {G S E : Type 0} → (S → G) → (G → Option E) → G → Result S E → Type 0
Checked from refusal u (Ok s) = (refusal u ≡ None) × (from s ≡ u)
Checked from refusal u (Err e) = refusal u ≡ Some e
