-- A put into the table, seen as a put into each half and the common part.
use Rattle.std.proofs.Common.{◌≡◌, ℕ, ◌%◌, ◌^◌, ◌<◌, ◌≢◌, List, length, get_or, set, Some, None, Option, sym, refl, ap, ◌∙◌, subst, ⊎_elim, arith, get_or-set_other, get_or-set_same}
use mathlib.Core.Path.{fun_ext}
use Rattle.std.proofs.lemmas.Bool.{cases_eq, eq-eqb, ne_eqb, cond-true, cond-false}
use Rattle.fields.specs.declared.CommonField.{CommonField}
use Rattle.fields.specs.declared.Field.{Field}
use Rattle.fields.specs.declared.Field.TheVariants.{Tx, Rx, Common}
use Rattle.fields.specs.Table.{Row, place_of, tx_row, rx_row, common_row}
use Rattle.fields.proofs.Known.{place_below, place_between}
use Rattle.marks.specs.declared.Draw.{Draw}
use Rattle.marks.specs.declared.Marks.{Marks}
use Rattle.tables.specs.Plain.{half_in}
use Rattle.blocks.specs.Puts.{draws_on, in_common, in_rx, in_tx, later, marks_after, put_on, stored_in, stored_on, storing}

-- a put at the place p of the number n is one of v into the field o of these rows, or at no place of theirs
abbrev Lands : {F : Type 0} → (F → Row) → Option F → ℕ → ℕ → ℕ → Type 0
Lands row (Some f) p n v = (p ≡ (row f).place) × (n ≡ v % 2 ^ (row f).width)
Lands {F} row None p n v = (g : F) → (row g).place ≢ p

module _ {F : Type 0} (row : F → Row) (t : List ℕ) (v : ℕ) where
  abbrev numbers : List ℕ → F → ℕ
  numbers s = λ g. get_or s (row g).place 0

  set_one : (f : F) (n : ℕ) → (row f).place < length t → numbers (set t (row f).place n) ≡ storing (λ g. (row g).place) f n (numbers t)
  set_one f n h = fun_ext (λ g. ⊎_elim
      (λ e. ap (λ p. get_or (set t (row f).place n) p 0) e ∙ get_or-set_same t (row f).place n 0 h ∙ sym (cond-true _ _ _ (eq-eqb (row g).place (row f).place e)))
      (λ e. get_or-set_other t (row f).place (row g).place n 0 e ∙ sym (cond-false _ _ _ (ne_eqb (row g).place (row f).place e)))
      (cases_eq (row g).place (row f).place))

  numbers_put : (o : Option F) (p n : ℕ) → p < length t → Lands row o p n v → numbers (set t p n) ≡ stored_on row o v (numbers t)
  numbers_put (Some f) p n h l =
      (λ i. numbers (set t (l.0 i) (l.1 i))) ∙ set_one f (v % 2 ^ (row f).width) (subst (λ (q : ℕ). q < length t) l.0 h)
  numbers_put None p n h l = fun_ext (λ g. get_or-set_other t p (row g).place n 0 (l g))

  half_put : (o : Option F) (p n : ℕ) (s : List ℕ) (m m' : Marks) (ds ds' : ℕ → Draw) → p < length t → Lands row o p n v → s ≡ set t p n → m' ≡ marks_after row o v (ds 0) m → ds' ≡ later (draws_on row o v) ds → half_in row s m' ds' ≡ put_on row o v (half_in row t m ds)
  half_put o p n s m m' ds ds' h l put marks draws =
      λ i. record { fields = (ap numbers put ∙ numbers_put o p n h l) i; marks = marks i; draws = draws i }

tx_lands : (f : Field) (v : ℕ) → Lands tx_row (in_tx f) (place_of f) (stored_in f v) v
tx_lands (Tx f) v = (refl, refl)
tx_lands (Rx f) v = λ g. omega (arith, place_between (Tx g), place_between (Rx f))
tx_lands (Common f) v = λ g. omega (arith, place_between (Tx g), place_between (Common f))

rx_lands : (f : Field) (v : ℕ) → Lands rx_row (in_rx f) (place_of f) (stored_in f v) v
rx_lands (Tx f) v = λ g. omega (arith, place_between (Rx g), place_between (Tx f))
rx_lands (Rx f) v = (refl, refl)
rx_lands (Common f) v = λ g. omega (arith, place_between (Rx g), place_between (Common f))

common_lands : (f : Field) (v : ℕ) → Lands common_row (in_common f) (place_of f) (stored_in f v) v
common_lands (Tx f) v = λ g. omega (arith, place_between (Common g), place_between (Tx f))
common_lands (Rx f) v = λ g. omega (arith, place_between (Common g), place_between (Rx f))
common_lands (Common f) v = (refl, refl)

module _ (f : Field) (v : ℕ) (t s : List ℕ) (sized : length t ≡ 160) (put : s ≡ set t (place_of f) (stored_in f v)) where
  inside : place_of f < length t
  inside = omega (arith, place_below f)

  pub tx_put : (m m' : Marks) (ds ds' : ℕ → Draw) → m' ≡ marks_after tx_row (in_tx f) v (ds 0) m → ds' ≡ later (draws_on tx_row (in_tx f) v) ds → half_in tx_row s m' ds' ≡ put_on tx_row (in_tx f) v (half_in tx_row t m ds)
  tx_put m m' ds ds' = half_put tx_row t v (in_tx f) (place_of f) (stored_in f v) s m m' ds ds' inside (tx_lands f v) put

  pub rx_put : (m m' : Marks) (ds ds' : ℕ → Draw) → m' ≡ marks_after rx_row (in_rx f) v (ds 0) m → ds' ≡ later (draws_on rx_row (in_rx f) v) ds → half_in rx_row s m' ds' ≡ put_on rx_row (in_rx f) v (half_in rx_row t m ds)
  rx_put m m' ds ds' = half_put rx_row t v (in_rx f) (place_of f) (stored_in f v) s m m' ds ds' inside (rx_lands f v) put

  pub common_put : ◌≡◌ {A = CommonField → ℕ} (λ g. get_or s (common_row g).place 0) (stored_on common_row (in_common f) v (λ g. get_or t (common_row g).place 0))
  common_put = ap (λ u g. get_or u (common_row g).place 0) put ∙ numbers_put common_row t v (in_common f) (place_of f) (stored_in f v) inside (common_lands f v)
