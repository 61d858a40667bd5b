-- What a refused start and a refused wait leave, in the words of the half. Assumes nothing.
--     OverLimit h g         after 7: the half g is reset and at rest, and nothing is drawn
--     Unfound m start n h g after 8: the start field is 0, the marks are as n polls of the started half left them, and one draw is spent
--     StartRefused said h g what a start that answers `said` leaves of h where it is refused by 6 or 7
--     StartUnfound m start n said h g
--                           the same by 8, with n polls allowed
--     WaitRefused m n said h g
--                           after 9: only the polls moved the half
use Rattle.std.specs.Prelude.{◌≡◌, ℕ, suc, false, Err, Result}
use Rattle.dividers.specs.Refusals.{Refusal}
use Rattle.blocks.specs.Half.{Half}
use Rattle.chips.specs.Moves.{Moves, started}
use Rattle.chips.specs.Polls.{after_polls}
use Rattle.errors.specs.Refusals.{dma_error, illegal_argument, start_timed_out, timed_out}

pub record OverLimit {F : Type 0} (h g : Half F) : Type 0 where
  pub busy : g.marks.busy ≡ false
  pub stale : g.marks.stale ≡ false
  pub draws : (k : ℕ) → g.draws k ≡ h.draws k

pub record Unfound {F U : Type 0} (m : Moves F U) (start : F) (n : ℕ) (h g : Half F) : Type 0 where
  pub stopped : g.fields start ≡ 0
  pub marks : g.marks ≡ (started m n (m.starts 0 (m.resets h))).marks
  pub spent : (k : ℕ) → g.draws k ≡ h.draws (suc k)

pub record StartRefused {F : Type 0} (said : Result ℕ Refusal) (h g : Half F) : Type 0 where
  pub as_found : said ≡ Err illegal_argument → g ≡ h
  pub over : (len limit : ℕ) → said ≡ Err (dma_error len limit) → OverLimit h g

abbrev pub StartUnfound : {F U : Type 0} → Moves F U → F → ℕ → Result ℕ Refusal → Half F → Half F → Type 0
StartUnfound m start n said h g = said ≡ Err (start_timed_out n) → Unfound m start n h g

pub record WaitRefused {F U : Type 0} (m : Moves F U) (n : ℕ) (said : Result ℕ Refusal) (h g : Half F) : Type 0 where
  pub fields : said ≡ Err (timed_out n) → (f : F) → g.fields f ≡ h.fields f
  pub marks : said ≡ Err (timed_out n) → g.marks ≡ after_polls m.done n h.marks
  pub draws : said ≡ Err (timed_out n) → (k : ℕ) → g.draws k ≡ h.draws k
