-- What a put does. Assumes nothing.
--     stored_in f v      the number that a put of v into f stores
--     storing at f n ns  the numbers ns with n in the field f; at says where a field stands
--     starting k n       whether a stored n in a field of kind k is a start
--     later b ds         the draws to come, one less where b holds
-- Of a half with the rows row, where the put is of v into its field o, or not into this half:
--     draws_on row o v         whether it draws
--     stored_on row o v ns     its numbers after the put
--     marks_after row o v d m  its marks after the put, where a start draws d
--     put_on row o v h         the half after the put
-- Of a block:
--     in_tx f, in_rx f, in_common f                 the field f, if it is one of that part
--     put_tx f v h, put_rx f v h, put_common f v c  what a put makes of each part
use Rattle.std.specs.Prelude.{ℕ, suc, ◌%◌, ◌^◌, Bool, false, cond, Some, None, Option, ◌==◌}
use Rattle.fields.specs.declared.CommonField.{CommonField}
use Rattle.fields.specs.declared.Field.{Field}
use Rattle.fields.specs.declared.Field.TheVariants.{Tx, Rx, Common}
use Rattle.fields.specs.declared.Kind.{Kind}
use Rattle.fields.specs.declared.Kind.TheVariants.{Start, Reset, FifoReset, LinkReset, Update, Setting}
use Rattle.fields.specs.declared.RxField.{RxField}
use Rattle.fields.specs.declared.TxField.{TxField}
use Rattle.fields.specs.Table.{Row, tx_row, rx_row, common_row, width_of}
use Rattle.marks.specs.declared.Draw.{Draw}
use Rattle.marks.specs.declared.Marks.{Marks}
use Rattle.marks.specs.Marks.{after_put}
use Rattle.blocks.specs.Half.{Half}

abbrev pub stored_in : Field → ℕ → ℕ
stored_in f v = v % 2 ^ width_of f

abbrev pub starting : Kind → ℕ → Bool
starting Start n = n == 1
starting Reset n = false
starting FifoReset n = false
starting LinkReset n = false
starting Update n = false
starting Setting n = false

abbrev pub storing : {F : Type 0} → (F → ℕ) → F → ℕ → (F → ℕ) → (F → ℕ)
storing at f n ns = λ g. cond (at g == at f) n (ns g)

abbrev pub later : Bool → (ℕ → Draw) → (ℕ → Draw)
later b ds = λ n. ds (cond b (suc n) n)

abbrev pub draws_on : {F : Type 0} → (F → Row) → Option F → ℕ → Bool
draws_on row (Some f) v = starting (row f).kind (v % 2 ^ (row f).width)
draws_on row None v = false

abbrev pub stored_on : {F : Type 0} → (F → Row) → Option F → ℕ → (F → ℕ) → (F → ℕ)
stored_on row (Some f) v ns = storing (λ g. (row g).place) f (v % 2 ^ (row f).width) ns
stored_on row None v ns = ns

abbrev pub marks_after : {F : Type 0} → (F → Row) → Option F → ℕ → Draw → Marks → Marks
marks_after row (Some f) v d m = after_put (row f).kind (v % 2 ^ (row f).width) d m
marks_after row None v d m = m

abbrev pub put_on : {F : Type 0} → (F → Row) → Option F → ℕ → Half F → Half F
put_on row o v h = record {
  fields = stored_on row o v h.fields;
  marks = marks_after row o v (h.draws 0) h.marks;
  draws = later (draws_on row o v) h.draws;
}

abbrev pub in_tx : Field → Option TxField
in_tx (Tx f) = Some f
in_tx (Rx f) = None
in_tx (Common f) = None

abbrev pub in_rx : Field → Option RxField
in_rx (Tx f) = None
in_rx (Rx f) = Some f
in_rx (Common f) = None

abbrev pub in_common : Field → Option CommonField
in_common (Tx f) = None
in_common (Rx f) = None
in_common (Common f) = Some f

abbrev pub put_tx : Field → ℕ → Half TxField → Half TxField
put_tx f v h = put_on tx_row (in_tx f) v h

abbrev pub put_rx : Field → ℕ → Half RxField → Half RxField
put_rx f v h = put_on rx_row (in_rx f) v h

abbrev pub put_common : Field → ℕ → (CommonField → ℕ) → (CommonField → ℕ)
put_common f v c = stored_on common_row (in_common f) v c
