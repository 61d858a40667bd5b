-- The two halves of a block and its common part. Assumes nothing.
--     Half F             a half with the fields F: its numbers, its marks and its draws to come, one for each start
--     new_half ds        all numbers 0, all marks down, and the draws ds to come
--     new_common         all numbers 0
--     number_in t r c f  the number of the field f in the halves t and r and the common part c
--     marks_on side t r  the marks of that half
--     moved m h          the half h with its marks moved by m
--     upon one side m    m upon the half `one` if that is the side meant, and else nothing
use Rattle.std.specs.Prelude.{ℕ}
use Rattle.fields.specs.declared.CommonField.{CommonField}
use Rattle.fields.specs.declared.Field.{Field}
use Rattle.fields.specs.declared.Field.TheVariants.{Tx, Rx, Common}
use Rattle.fields.specs.declared.RxField.{RxField}
use Rattle.fields.specs.declared.Side.{Side}
use Rattle.fields.specs.declared.Side.TheVariants.{Transmit, Receive}
use Rattle.fields.specs.declared.TxField.{TxField}
use Rattle.marks.specs.declared.Draw.{Draw}
use Rattle.marks.specs.declared.Marks.{Marks}
use Rattle.marks.specs.Marks.{new_marks}

pub record Half (F : Type 0) : Type 0 where
  pub fields : F → ℕ
  pub marks : Marks
  pub draws : ℕ → Draw

abbrev pub new_half : {F : Type 0} → (ℕ → Draw) → Half F
new_half ds = record { fields = λ _. 0; marks = new_marks; draws = ds }

abbrev pub new_common : CommonField → ℕ
new_common = λ _. 0

abbrev pub number_in : Half TxField → Half RxField → (CommonField → ℕ) → Field → ℕ
number_in t r c (Tx f) = t.fields f
number_in t r c (Rx f) = r.fields f
number_in t r c (Common f) = c f

abbrev pub marks_on : Side → Half TxField → Half RxField → Marks
marks_on Transmit t r = t.marks
marks_on Receive t r = r.marks

abbrev pub moved : {F : Type 0} → (Marks → Marks) → Half F → Half F
moved m h = record { fields = h.fields; marks = m h.marks; draws = h.draws }

abbrev pub upon : Side → Side → (Marks → Marks) → Marks → Marks
upon Transmit Transmit m x = m x
upon Transmit Receive m x = x
upon Receive Transmit m x = x
upon Receive Receive m x = m x
