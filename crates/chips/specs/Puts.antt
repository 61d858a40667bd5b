-- Rows of puts, seen by each part of a block. Assumes nothing.
--     puts_tx row h, puts_rx row h, puts_common row c  what the row makes of that part
use Rattle.std.specs.Prelude.{ℕ, List, [], ◌∷◌}
use Rattle.fields.specs.declared.CommonField.{CommonField}
use Rattle.fields.specs.declared.Field.{Field}
use Rattle.fields.specs.declared.RxField.{RxField}
use Rattle.fields.specs.declared.TxField.{TxField}
use Rattle.blocks.specs.Half.{Half}
use Rattle.blocks.specs.Puts.{put_common, put_rx, put_tx}

abbrev pub puts_tx : List (Field × ℕ) → Half TxField → Half TxField
puts_tx [] h = h
puts_tx (p ∷ row) h = puts_tx row (put_tx p.0 p.1 h)

abbrev pub puts_rx : List (Field × ℕ) → Half RxField → Half RxField
puts_rx [] h = h
puts_rx (p ∷ row) h = puts_rx row (put_rx p.0 p.1 h)

abbrev pub puts_common : List (Field × ℕ) → (CommonField → ℕ) → (CommonField → ℕ)
puts_common [] c = c
puts_common (p ∷ row) c = puts_common row (put_common p.0 p.1 c)
