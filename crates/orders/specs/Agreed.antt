-- Two lists of calls on two openings. Assumes nothing.
--     AgreedOn ..   where both were opened, all answers and both blocks are alike
use Rattle.std.specs.Prelude.{ℕ, ⊤, Ok, Err, Result}
use Rattle.fields.specs.declared.CommonField.{CommonField}
use Rattle.fields.specs.declared.RxField.{RxField}
use Rattle.fields.specs.declared.TxField.{TxField}
use Rattle.blocks.specs.Half.{Half}
use Rattle.calls.specs.Agree.{AnswersAlike, BlocksAlike}
use Rattle.units.specs.declared.Opened.{Opened}
use Rattle.orders.specs.declared.operate.Denied.{Denied}
use Rattle.orders.specs.declared.run.Ran.{Ran}

abbrev pub AgreedOn : {C U D S G O : Type 0} → (C → Half TxField) → (C → Half RxField) → (C → CommonField → ℕ)
    → Result (Opened C × Ran C U D S G O) (C × Denied) → Result (Opened C × Ran C U D S G O) (C × Denied) → Type 0
AgreedOn tx rx common (Ok p) (Ok q) = AnswersAlike p.1.answers.items q.1.answers.items × BlocksAlike tx rx common p.0.chip q.0.chip
AgreedOn tx rx common (Ok p) (Err e) = ⊤
AgreedOn tx rx common (Err e) (Ok q) = ⊤
AgreedOn tx rx common (Err e) (Err f) = ⊤
