-- What the calls of a unit answer, and what they leave of its half. Assumes nothing.
--     told r, polls_told r    an answer in numbers: the polls, or the refusal
--     apply_told r            how a set-up was refused, if it was
--     apply_leaves m refusal u h
--                             the half h after apply_config of u
--     illegal_tx, illegal_rx  the lengths that the unit does not take
--     raise_says m n h, raise_leaves m n h
--                             the answer of the start of a transmit unit that was reset, where n polls are allowed, and the half after it
--     tx_begin_says m limit len n h, tx_begin_leaves ..
--                             the same with its reset, for a length that the unit takes
--     tx_start_says m limit len n h, tx_start_leaves ..
--                             the same for every length
--     rx_begin_says limit len, rx_begin_leaves m limit len h, rx_start_says, rx_start_leaves
--                             the like of the receive unit, whose start makes no polls
--     wait_says m n h         the answer of a wait of either unit; waited of chips.specs.Moves is the half after it
use Rattle.std.specs.Prelude.{ℕ, ◌%◌, Bool, cond, not, ◌||◌, ltb, Some, None, Option, Ok, Err, Result, ◌==◌}
use Rattle.dividers.specs.declared.ConfigError.{ConfigError}
use Rattle.dividers.specs.Refusals.{Refusal}
use Rattle.blocks.specs.Half.{Half}
use Rattle.chips.specs.Moves.{Moves, start_polls, started, wait_polls}
use Rattle.errors.specs.declared.Error.{Error}
use Rattle.errors.specs.Refusals.{refusal_of, illegal_argument, dma_error, start_timed_out, timed_out}

abbrev pub told : {A R : Type 0} → Result (A × ℕ) (R × Error) → Result ℕ Refusal
told (Ok p) = Ok p.1
told (Err e) = Err (refusal_of e.1)

abbrev pub polls_told : Result ℕ Error → Result ℕ Refusal
polls_told (Ok p) = Ok p
polls_told (Err e) = Err (refusal_of e)

abbrev pub apply_told : {A R : Type 0} → Result A (R × ConfigError) → Option ConfigError
apply_told (Ok u) = None
apply_told (Err e) = Some e.1

-- a refused set-up leaves the half as it was
abbrev pub unless : {F : Type 0} → Option ConfigError → Half F → Half F → Half F
unless None taken kept = taken
unless (Some e) taken kept = kept

abbrev pub apply_leaves : {F U : Type 0} → Moves F U → (U → Option ConfigError) → U → Half F → Half F
apply_leaves m refusal u h = unless (refusal u) (m.sets u h) h

abbrev pub illegal_tx : ℕ → Bool
illegal_tx len = len == 0 || ltb 65535 len

abbrev pub illegal_rx : ℕ → Bool
illegal_rx len = len == 0 || (ltb 4096 len || not (len % 4 == 0))

abbrev pub polls_or : Refusal → Option ℕ → Result ℕ Refusal
polls_or r (Some p) = Ok p
polls_or r None = Err r

-- a start that no poll finds is stopped
abbrev pub stopped_unless : {F U : Type 0} → Moves F U → Option ℕ → Half F → Half F
stopped_unless m (Some p) h = h
stopped_unless m None h = m.stops h

abbrev pub raise_says : {F U : Type 0} → Moves F U → ℕ → Half F → Result ℕ Refusal
raise_says m n h = polls_or (start_timed_out n) (start_polls m n (m.starts 0 h))

abbrev pub raise_leaves : {F U : Type 0} → Moves F U → ℕ → Half F → Half F
raise_leaves m n h = stopped_unless m (start_polls m n (m.starts 0 h)) (started m n (m.starts 0 h))

abbrev pub tx_begin_says : {F U : Type 0} → Moves F U → ℕ → ℕ → ℕ → Half F → Result ℕ Refusal
tx_begin_says m limit len n h = cond (ltb limit len) (Err (dma_error len limit)) (raise_says m n (m.resets h))

abbrev pub tx_begin_leaves : {F U : Type 0} → Moves F U → ℕ → ℕ → ℕ → Half F → Half F
tx_begin_leaves m limit len n h = cond (ltb limit len) (m.resets h) (raise_leaves m n (m.resets h))

abbrev pub tx_start_says : {F U : Type 0} → Moves F U → ℕ → ℕ → ℕ → Half F → Result ℕ Refusal
tx_start_says m limit len n h = cond (illegal_tx len) (Err illegal_argument) (tx_begin_says m limit len n h)

abbrev pub tx_start_leaves : {F U : Type 0} → Moves F U → ℕ → ℕ → ℕ → Half F → Half F
tx_start_leaves m limit len n h = cond (illegal_tx len) h (tx_begin_leaves m limit len n h)

abbrev pub rx_begin_says : ℕ → ℕ → Result ℕ Refusal
rx_begin_says limit len = cond (ltb limit len) (Err (dma_error len limit)) (Ok 0)

abbrev pub rx_begin_leaves : {F U : Type 0} → Moves F U → ℕ → ℕ → Half F → Half F
rx_begin_leaves m limit len h = cond (ltb limit len) (m.resets h) (m.starts len (m.resets h))

abbrev pub rx_start_says : ℕ → ℕ → Result ℕ Refusal
rx_start_says limit len = cond (illegal_rx len) (Err illegal_argument) (rx_begin_says limit len)

abbrev pub rx_start_leaves : {F U : Type 0} → Moves F U → ℕ → ℕ → Half F → Half F
rx_start_leaves m limit len h = cond (illegal_rx len) h (rx_begin_leaves m limit len h)

abbrev pub wait_says : {F U : Type 0} → Moves F U → ℕ → Half F → Result ℕ Refusal
wait_says m n h = polls_or (timed_out n) (wait_polls m n h)
