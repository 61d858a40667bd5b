-- The divider of a unit at every point of a list. Assumes nothing.
use Rattle.std.proofs.Common.{◌≡◌, ℕ, List, [], ◌∷◌, take, Bool, true, false, cond, Some, None, Option, refl, sym, ap, ◌∙◌}
use Rattle.dividers.specs.declared.ConfigError.{ConfigError}
use Rattle.fields.specs.declared.RxField.{RxField}
use Rattle.fields.specs.declared.TxField.{TxField}
use Rattle.chips.specs.Dividers.{Divider, settled}
use Rattle.calls.specs.declared.call.Call.{Call}
use Rattle.calls.specs.declared.call.UnitCall.{UnitCall}
use Rattle.calls.specs.declared.call.UnitCall.TheVariants.{ApplyConfig, Start, Wait, Stop, Listen, Unlisten, ClearInterrupts}
use Rattle.calls.specs.Rules.{Rules}
use Rattle.calls.specs.Steps.{apply_said, leaves, next, not_taken, runs_after, says, says_taken, Side, takes}
use Rattle.calls.specs.Accepted.{accepted, accepted_by, if_done, last_divider, RxDivided, TxDivided}
use Rattle.calls.specs.Runs.{after, answers, Both, picked, rx_call, Sides, tx_call}
use Rattle.calls.proofs.Alone.{rx_end, rx_says, tx_end, tx_says}
use Rattle.calls.proofs.Kept.{Steady}

passed_over : {U : Type 0} (c : UnitCall U) (so : Option U) → accepted_by c not_taken so ≡ so
passed_over (ApplyConfig u) so = refl
passed_over (Start len n) so = refl
passed_over (Wait n) so = refl
passed_over Stop so = refl
passed_over (Listen i) so = refl
passed_over (Unlisten i) so = refl
passed_over (ClearInterrupts i) so = refl

-- once a set-up is accepted, the one before counts no more
now_settled : {U D : Type 0} (own : Option (U × D → Divider)) (f : D) (so : Option U) (u : U) (d : Divider) → settled own (u, f) (last_divider own f so d) ≡ settled own (u, f) d
now_settled (Some g) f so u d = refl
now_settled None f (Some x) u d = refl
now_settled None f None u d = refl

module _ {F U D : Type 0} (k : Rules F U D) (own : Option (U × D → Divider)) (read : (F → ℕ) → Divider) (law : Steady k own read) (d : Divider) where
  applied : (u : U) (s : Side F D) (so : Option U) → read s.half.fields ≡ last_divider own s.format so d
      → (o : Option ConfigError) → k.refusal (u, s.format) ≡ o → read (k.applied (u, s.format) s.half).fields ≡ last_divider own s.format (if_done (apply_said o) u so) d
  applied u s so e None q = law.taken (u, s.format) s.half q ∙ ap (settled own (u, s.format)) e ∙ now_settled own s.format so u d
  applied u s so e (Some x) q = law.refused (u, s.format) s.half x q ∙ e

  taken : (c : UnitCall U) (s : Side F D) (so : Option U) → read s.half.fields ≡ last_divider own s.format so d
      → read (leaves k c s).fields ≡ last_divider own s.format (accepted_by c (says_taken k c s) so) d
  taken (ApplyConfig u) s so e = applied u s so e (k.refusal (u, s.format)) refl
  taken (Start len n) s so e = law.started s.limit len n s.half ∙ e
  taken (Wait n) s so e = law.waited n s.half ∙ e
  taken Stop s so e = law.stopped s.half ∙ e
  taken (Listen i) s so e = e
  taken (Unlisten i) s so e = e
  taken (ClearInterrupts i) s so e = e

  same_format : (c : UnitCall U) (s : Side F D) → (next k c s).format ≡ s.format
  same_format c s = go (takes c s.running)
    where
      go : (b : Bool) → (cond b (record { running = runs_after k c s; limit = s.limit; format = s.format; half = leaves k c s }) s).format ≡ s.format
      go true = refl
      go false = refl

  step : (c : UnitCall U) (s : Side F D) (so : Option U) → read s.half.fields ≡ last_divider own s.format so d
      → read (next k c s).half.fields ≡ last_divider own s.format (accepted_by c (says k c s) so) d
  step c s so e = go (takes c s.running)
    where
      moved : Side F D
      moved = record { running = runs_after k c s; limit = s.limit; format = s.format; half = leaves k c s }

      go : (b : Bool) → read (cond b moved s).half.fields ≡ last_divider own s.format (accepted_by c (cond b (says_taken k c s) not_taken) so) d
      go true = taken c s so e
      go false = e ∙ ap (λ o. last_divider own s.format o d) (sym (passed_over c so))

  along : (cs : List (UnitCall U)) (s : Side F D) (so : Option U) → read s.half.fields ≡ last_divider own s.format so d
      → read (after (next k) cs s).half.fields ≡ last_divider own s.format (accepted cs (answers (next k) (says k) cs s) so) d
  along [] s so e = e
  along (c ∷ cs) s so e =
      along cs (next k c s) (accepted_by c (says k c s) so) (step c s so e ∙ ap (λ f. last_divider own f (accepted_by c (says k c s) so) d) (sym (same_format c s)))
      ∙ ap (λ f. last_divider own f (accepted cs (answers (next k) (says k) cs (next k c s)) (accepted_by c (says k c s) so)) d) (same_format c s)

module _ {U D : Type 0} (k : Both U D) (own : Option (U × D → Divider)) (calls : List (Call U)) (s : Sides D) (d : Divider) where
  pub tx_divided : (read : (TxField → ℕ) → Divider) → Steady k.tx own read → read s.tx.half.fields ≡ d → TxDivided k own calls s d read
  tx_divided read law e n =
      ap (λ (x : Side TxField D). read x.half.fields) (tx_end k (take n calls) s)
      ∙ along k.tx own read law d (picked tx_call (take n calls)) s.tx None e
      ∙ ap (λ said. last_divider own s.tx.format (accepted (picked tx_call (take n calls)) said None) d) (sym (tx_says k (take n calls) s))

  pub rx_divided : (read : (RxField → ℕ) → Divider) → Steady k.rx own read → read s.rx.half.fields ≡ d → RxDivided k own calls s d read
  rx_divided read law e n =
      ap (λ (x : Side RxField D). read x.half.fields) (rx_end k (take n calls) s)
      ∙ along k.rx own read law d (picked rx_call (take n calls)) s.rx None e
      ∙ ap (λ said. last_divider own s.rx.format (accepted (picked rx_call (take n calls)) said None) d) (sym (rx_says k (take n calls) s))
