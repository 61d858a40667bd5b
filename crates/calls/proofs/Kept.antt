-- Of all that is done to a half, only an accepted set-up changes its divider. Assumes nothing.
use Rattle.std.proofs.Common.{◌≡◌, ℕ, ltb, Bool, true, false, cond, Some, None, Option, refl, ap, ◌∙◌}
use Rattle.dividers.specs.declared.ConfigError.{ConfigError}
use Rattle.fields.specs.declared.RxField.{RxField}
use Rattle.fields.specs.declared.TxField.{TxField}
use Rattle.marks.specs.declared.Events.{Events}
use Rattle.blocks.specs.Half.{Half}
use Rattle.chips.specs.declared.Awaited.{Awaited}
use Rattle.chips.specs.Dividers.{Divider, Divides, settled}
use Rattle.chips.specs.Moves.{ended_if, Moves, polled_for, start_polls, started, wait_polls, waited}
use Rattle.calls.specs.Rules.{Rules, rx_rules, tx_rules}
use Rattle.transfers.specs.Calls.{apply_leaves, illegal_rx, illegal_tx, raise_leaves, rx_begin_leaves, rx_start_leaves, stopped_unless, tx_begin_leaves, tx_start_leaves, unless}

-- what is needed of a unit's rules: a set-up that passes settles the divider, and nothing else changes it
pub record Steady {F U D : Type 0} (k : Rules F U D) (own : Option (U × D → Divider)) (read : (F → ℕ) → Divider) : Type 0 where
  pub taken : (u : U × D) (h : Half F) → k.refusal u ≡ None → read (k.applied u h).fields ≡ settled own u (read h.fields)
  pub refused : (u : U × D) (h : Half F) (e : ConfigError) → k.refusal u ≡ Some e → read (k.applied u h).fields ≡ read h.fields
  pub started : (limit len n : ℕ) (h : Half F) → read (k.started limit len n h).fields ≡ read h.fields
  pub waited : (n : ℕ) (h : Half F) → read (k.waited n h).fields ≡ read h.fields
  pub stopped : (h : Half F) → read (k.stopped h).fields ≡ read h.fields

module _ {F U D : Type 0} (m : Moves F (U × D)) (refusal : U × D → Option ConfigError) (own : Option (U × D → Divider)) (read : (F → ℕ) → Divider) (law : Divides m refusal own read) where
  either : (b : Bool) (x y : Half F) (d : Divider) → read x.fields ≡ d → read y.fields ≡ d → read (cond b x y).fields ≡ d
  either true x y d p q = p
  either false x y d p q = q

  pub taken : (u : U × D) (h : Half F) → refusal u ≡ None → read (apply_leaves m refusal u h).fields ≡ settled own u (read h.fields)
  taken u h e = ap (λ o. read (unless o (m.sets u h) h).fields) e ∙ law.sets u h e

  pub refused : (u : U × D) (h : Half F) (x : ConfigError) → refusal u ≡ Some x → read (apply_leaves m refusal u h).fields ≡ read h.fields
  refused u h x e = ap (λ o. read (unless o (m.sets u h) h).fields) e

  polls_keep : (b : Option Awaited) (n : ℕ) (h : Half F) → read (polled_for b n h).fields ≡ read h.fields
  polls_keep None n h = refl
  polls_keep (Some a) n h = refl

  unless_keeps : (o : Option ℕ) (h : Half F) → read (stopped_unless m o h).fields ≡ read h.fields
  unless_keeps (Some p) h = refl
  unless_keeps None h = law.stops h

  ended_keeps : (o : Option ℕ) (h : Half F) → read (ended_if m o h).fields ≡ read h.fields
  ended_keeps (Some p) h = law.ends h
  ended_keeps None h = refl

  pub wait_keeps : (n : ℕ) (h : Half F) → read (waited m n h).fields ≡ read h.fields
  wait_keeps n h = ended_keeps (wait_polls m n h) _

  raise_keeps : (n : ℕ) (h : Half F) → read (raise_leaves m n h).fields ≡ read h.fields
  raise_keeps n h = unless_keeps (start_polls m n (m.starts 0 h)) (started m n (m.starts 0 h)) ∙ polls_keep m.busy n (m.starts 0 h) ∙ law.starts 0 h

  pub tx_start_keeps : (limit len n : ℕ) (h : Half F) → read (tx_start_leaves m limit len n h).fields ≡ read h.fields
  tx_start_keeps limit len n h = either (illegal_tx len) h (tx_begin_leaves m limit len n h) _ refl
      (either (ltb limit len) (m.resets h) (raise_leaves m n (m.resets h)) _ (law.resets h) (raise_keeps n (m.resets h) ∙ law.resets h))

  pub rx_start_keeps : (limit len : ℕ) (h : Half F) → read (rx_start_leaves m limit len h).fields ≡ read h.fields
  rx_start_keeps limit len h = either (illegal_rx len) h (rx_begin_leaves m limit len h) _ refl
      (either (ltb limit len) (m.resets h) (m.starts len (m.resets h)) _ (law.resets h) (law.starts len (m.resets h) ∙ law.resets h))

module _ {U D : Type 0} (refusal : U × D → Option ConfigError) (events : Events) (own : Option (U × D → Divider)) where
  pub tx_steady : (m : Moves TxField (U × D)) (read : (TxField → ℕ) → Divider) → Divides m refusal own read → Steady (tx_rules m refusal events) own read
  tx_steady m read law = record {
    taken = taken m refusal own read law;
    refused = refused m refusal own read law;
    started = tx_start_keeps m refusal own read law;
    waited = wait_keeps m refusal own read law;
    stopped = law.stops;
  }

  pub rx_steady : (m : Moves RxField (U × D)) (read : (RxField → ℕ) → Divider) → Divides m refusal own read → Steady (rx_rules m refusal events) own read
  rx_steady m read law = record {
    taken = taken m refusal own read law;
    refused = refused m refusal own read law;
    started = λ limit len n h. rx_start_keeps m refusal own read law limit len h;
    waited = wait_keeps m refusal own read law;
    stopped = law.resets;
  }
