-- A table and two sets of marks, seen as the halves of a block. Assumes nothing.
--     half_in row t m ds  the half whose fields stand at the rows' places in t
--     tx_in p ds          the transmit half in p, with the draws ds to come; rx_in the like
--     common_in p         the common part in p
--     marks_of side p     the marks of that half
--     JustMade p          every number 0 and every mark down
--     UnusedKept p q      q has p's numbers at the places that no field has
--     MarksMoved t r p q  q is p with the transmit half's marks moved by t and the receive half's by r
use Rattle.std.specs.Prelude.{◌≡◌, ℕ, List, replicate, ◌≢◌, slice_index}
use Rattle.fields.specs.declared.CommonField.{CommonField}
use Rattle.fields.specs.declared.Field.{Field}
use Rattle.fields.specs.declared.RxField.{RxField}
use Rattle.fields.specs.declared.Side.{Side}
use Rattle.fields.specs.declared.Side.TheVariants.{Transmit, Receive}
use Rattle.fields.specs.declared.TxField.{TxField}
use Rattle.fields.specs.Table.{Row, place_of, tx_row, rx_row, common_row}
use Rattle.marks.specs.declared.Draw.{Draw}
use Rattle.marks.specs.declared.Marks.{Marks}
use Rattle.marks.specs.Marks.{new_marks}
use Rattle.tables.specs.declared.plain.Plain.{Plain}
use Rattle.blocks.specs.Half.{Half}

abbrev pub half_in : {F : Type 0} → (F → Row) → List ℕ → Marks → (ℕ → Draw) → Half F
half_in row t m ds = record { fields = λ f. slice_index t (row f).place; marks = m; draws = ds }

abbrev pub tx_in : Plain → (ℕ → Draw) → Half TxField
tx_in p ds = half_in tx_row p.table p.tx ds

abbrev pub rx_in : Plain → (ℕ → Draw) → Half RxField
rx_in p ds = half_in rx_row p.table p.rx ds

abbrev pub common_in : Plain → CommonField → ℕ
common_in p = λ f. slice_index p.table (common_row f).place

abbrev pub marks_of : Side → Plain → Marks
marks_of Transmit p = p.tx
marks_of Receive p = p.rx

pub record JustMade (p : Plain) : Type 0 where
  pub table : p.table ≡ replicate 160 0
  pub tx : p.tx ≡ new_marks
  pub rx : p.rx ≡ new_marks

abbrev pub UnusedKept : Plain → Plain → Type 0
UnusedKept p q = (k : ℕ) → ((f : Field) → place_of f ≢ k) → slice_index q.table k ≡ slice_index p.table k

pub record MarksMoved (t r : Marks → Marks) (p q : Plain) : Type 0 where
  pub table : q.table ≡ p.table
  pub tx : q.tx ≡ t p.tx
  pub rx : q.rx ≡ r p.rx
