-- Two lists of calls with the same calls of each unit, on blocks alike. Assumes nothing.
--     SameCalls xs ys       the same transmit calls and the same receive calls, each in its order, whatever stands between them
--     HalfAlike a b         two halves that are the same in fields, marks, events, late, wait, hung and draws to come
--     BlocksAlike ..        two blocks with halves and common part alike
--     AnswersAlike a b      the same answers of each unit, in order
use Rattle.std.specs.Prelude.{◌≡◌, ℕ, List, Some, None, Option}
use Rattle.fields.specs.declared.CommonField.{CommonField}
use Rattle.fields.specs.declared.RxField.{RxField}
use Rattle.fields.specs.declared.TxField.{TxField}
use Rattle.blocks.specs.Half.{Half}
use Rattle.calls.specs.declared.call.Answer.{Answer}
use Rattle.calls.specs.declared.call.Answer.TheVariants as answer
use Rattle.calls.specs.declared.call.Call.{Call}
use Rattle.calls.specs.declared.call.UnitAnswer.{UnitAnswer}
use Rattle.calls.specs.Runs.{picked, rx_call, tx_call}

pub record SameCalls {U : Type 0} (xs ys : List (Call U)) : Type 0 where
  pub tx : picked tx_call xs ≡ picked tx_call ys
  pub rx : picked rx_call xs ≡ picked rx_call ys

pub record HalfAlike {F : Type 0} (a b : Half F) : Type 0 where
  pub fields : (f : F) → a.fields f ≡ b.fields f
  pub marks : a.marks ≡ b.marks
  pub draws : (n : ℕ) → a.draws n ≡ b.draws n

pub record BlocksAlike {S : Type 0} (tx : S → Half TxField) (rx : S → Half RxField) (common : S → CommonField → ℕ) (a b : S) : Type 0 where
  pub of_tx : HalfAlike (tx a) (tx b)
  pub of_rx : HalfAlike (rx a) (rx b)
  pub of_common : (f : CommonField) → common a f ≡ common b f

abbrev pub tx_answer : Answer → Option UnitAnswer
tx_answer (answer.Transmit a) = Some a
tx_answer (answer.Receive a) = None

abbrev pub rx_answer : Answer → Option UnitAnswer
rx_answer (answer.Transmit a) = None
rx_answer (answer.Receive a) = Some a

pub record AnswersAlike (a b : List Answer) : Type 0 where
  pub tx : picked tx_answer a ≡ picked tx_answer b
  pub rx : picked rx_answer a ≡ picked rx_answer b
