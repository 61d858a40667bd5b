-- What puts leave, in the words of fields, marks and draws. Assumes nothing.
--     PutsReadBack    after a put the field reads as what was stored, and every other field as before
--     PutsStayApart   a put into one half or into the common part leaves the other parts whole: fields, marks and draws
--     Started h g     the half g is what a start leaves of the half h
--     StartsLeave     every put that starts a half leaves it so, also where it was busy
--     Undrawn h g     the half g has drawn nothing since it was h, has the same events, and has no mark but pending raised
--     OnlyStartsDraw  every other put into a half leaves it so
use Rattle.std.specs.Prelude.{◌≡◌, ℕ, suc, true, false, ◌≢◌}
use Rattle.fields.specs.declared.CommonField.{CommonField}
use Rattle.fields.specs.declared.Field.{Field}
use Rattle.fields.specs.declared.Field.TheVariants.{Tx, Rx, Common}
use Rattle.fields.specs.declared.RxField.{RxField}
use Rattle.fields.specs.declared.TxField.{TxField}
use Rattle.blocks.specs.Half.{Half, number_in}
use Rattle.blocks.specs.Puts.{stored_in, starting, put_tx, put_rx, put_common}
use Rattle.fields.specs.Table.{kind_of}

-- the number of the field g after a put of v into f
abbrev pub read_after : Half TxField → Half RxField → (CommonField → ℕ) → Field → ℕ → Field → ℕ
read_after t r c f v g = number_in (put_tx f v t) (put_rx f v r) (put_common f v c) g

pub record PutsReadBack : Type 0 where
  pub itself : (t : Half TxField) (r : Half RxField) (c : CommonField → ℕ) (f : Field) (v : ℕ) → read_after t r c f v f ≡ stored_in f v
  pub others : (t : Half TxField) (r : Half RxField) (c : CommonField → ℕ) (f g : Field) (v : ℕ) → (g ≢ f) → read_after t r c f v g ≡ number_in t r c g

pub record PutsStayApart : Type 0 where
  pub tx_put : (f : TxField) (v : ℕ) (r : Half RxField) (c : CommonField → ℕ) → (put_rx (Tx f) v r ≡ r) × (put_common (Tx f) v c ≡ c)
  pub rx_put : (f : RxField) (v : ℕ) (t : Half TxField) (c : CommonField → ℕ) → (put_tx (Rx f) v t ≡ t) × (put_common (Rx f) v c ≡ c)
  pub common_put : (f : CommonField) (v : ℕ) (t : Half TxField) (r : Half RxField) → (put_tx (Common f) v t ≡ t) × (put_rx (Common f) v r ≡ r)

pub record Started {F : Type 0} (h g : Half F) : Type 0 where
  pub busy : g.marks.busy ≡ true
  pub stale : g.marks.stale ≡ true
  pub link : g.marks.link ≡ true
  pub late : g.marks.late ≡ (h.draws 0).late
  pub wait : g.marks.wait ≡ (h.draws 0).wait
  pub hung : g.marks.hung ≡ (h.draws 0).hung
  pub pending : g.marks.pending ≡ h.marks.pending
  pub events : g.marks.events ≡ h.marks.events
  pub enabled : g.marks.enabled ≡ h.marks.enabled
  pub draws : (n : ℕ) → g.draws n ≡ h.draws (suc n)

pub record StartsLeave : Type 0 where
  pub tx : (f : TxField) (v : ℕ) (h : Half TxField) → starting (kind_of (Tx f)) (stored_in (Tx f) v) ≡ true → Started h (put_tx (Tx f) v h)
  pub rx : (f : RxField) (v : ℕ) (h : Half RxField) → starting (kind_of (Rx f)) (stored_in (Rx f) v) ≡ true → Started h (put_rx (Rx f) v h)

pub record Undrawn {F : Type 0} (h g : Half F) : Type 0 where
  pub busy : g.marks.busy ≡ true → h.marks.busy ≡ true
  pub stale : g.marks.stale ≡ true → h.marks.stale ≡ true
  pub link : g.marks.link ≡ true → h.marks.link ≡ true
  pub late : g.marks.late ≡ h.marks.late
  pub wait : g.marks.wait ≡ h.marks.wait
  pub hung : g.marks.hung ≡ h.marks.hung
  pub events : g.marks.events ≡ h.marks.events
  pub enabled : g.marks.enabled ≡ h.marks.enabled
  pub draws : (n : ℕ) → g.draws n ≡ h.draws n

pub record OnlyStartsDraw : Type 0 where
  pub tx : (f : TxField) (v : ℕ) (h : Half TxField) → starting (kind_of (Tx f)) (stored_in (Tx f) v) ≡ false → Undrawn h (put_tx (Tx f) v h)
  pub rx : (f : RxField) (v : ℕ) (h : Half RxField) → starting (kind_of (Rx f)) (stored_in (Rx f) v) ≡ false → Undrawn h (put_rx (Rx f) v h)
