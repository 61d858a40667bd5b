-- After a put the field reads as what was stored, and every other field as before.
use Rattle.std.proofs.Common.{◌≡◌, ℕ, ◌≢◌, refl}
use Rattle.std.proofs.lemmas.Bool.{cond-true, cond-false, eq-eqb, ne_eqb}
use Rattle.fields.specs.declared.CommonField.{CommonField}
use Rattle.fields.specs.declared.Field.{Field}
use Rattle.fields.specs.declared.Field.TheVariants.{Tx, Rx, Common}
use Rattle.fields.specs.declared.RxField.{RxField}
use Rattle.fields.specs.declared.TxField.{TxField}
use Rattle.fields.specs.Table.{place_of}
use Rattle.fields.proofs.Known.{no_place_twice}
use Rattle.blocks.specs.Half.{Half, number_in}
use Rattle.blocks.specs.Laws.{PutsReadBack, read_after}
use Rattle.blocks.specs.Puts.{stored_in}

module _ (t : Half TxField) (r : Half RxField) (c : CommonField → ℕ) where
  itself : (f : Field) (v : ℕ) → read_after t r c f v f ≡ stored_in f v
  itself (Tx f) v = cond-true _ _ _ (eq-eqb (place_of (Tx f)) (place_of (Tx f)) refl)
  itself (Rx f) v = cond-true _ _ _ (eq-eqb (place_of (Rx f)) (place_of (Rx f)) refl)
  itself (Common f) v = cond-true _ _ _ (eq-eqb (place_of (Common f)) (place_of (Common f)) refl)

  others : (f g : Field) (v : ℕ) → g ≢ f → read_after t r c f v g ≡ number_in t r c g
  others (Tx f) (Tx g) v n = cond-false _ _ _ (ne_eqb (place_of (Tx g)) (place_of (Tx f)) (λ e. n (no_place_twice.one (Tx g) (Tx f) e)))
  others (Tx f) (Rx g) v n = refl
  others (Tx f) (Common g) v n = refl
  others (Rx f) (Tx g) v n = refl
  others (Rx f) (Rx g) v n = cond-false _ _ _ (ne_eqb (place_of (Rx g)) (place_of (Rx f)) (λ e. n (no_place_twice.one (Rx g) (Rx f) e)))
  others (Rx f) (Common g) v n = refl
  others (Common f) (Tx g) v n = refl
  others (Common f) (Rx g) v n = refl
  others (Common f) (Common g) v n = cond-false _ _ _ (ne_eqb (place_of (Common g)) (place_of (Common f)) (λ e. n (no_place_twice.one (Common g) (Common f) e)))

pub puts_read_back : PutsReadBack
puts_read_back = record { itself = itself; others = others }
