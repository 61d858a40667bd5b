-- One call of a unit: what it answers, and what it leaves of the unit and its half. Assumes nothing.
--     Said          an answer: done, done with so many polls, a refusal, or not taken
--     said_of a     what a unit's answer says
--     Side F D      a unit with its half: whether it runs, its limit, the format that it keeps, the half
--     takes c r     whether a unit takes the call c, where r says whether it runs
--     says k c s    the answer of c on the side s, by the unit's rules k
--     next k c s    the side after c
use Rattle.std.specs.Prelude.{ℕ, Bool, true, false, cond, not, Some, None, Option, Ok, Err, Result}
use Rattle.dividers.specs.declared.ConfigError.{ConfigError}
use Rattle.dividers.specs.Refusals as Config
use Rattle.dividers.specs.Refusals.{Refusal}
use Rattle.blocks.specs.Half.{Half}
use Rattle.errors.specs.Refusals.{refusal_of}
use Rattle.calls.specs.declared.call.UnitAnswer.{UnitAnswer}
use Rattle.calls.specs.declared.call.UnitAnswer.TheVariants.{Done, Polled, Refused, NotTaken}
use Rattle.calls.specs.declared.call.UnitCall.{UnitCall}
use Rattle.calls.specs.declared.call.UnitCall.TheVariants.{ApplyConfig, Start, Wait, Stop, Listen, Unlisten, ClearInterrupts}
use Rattle.calls.specs.Rules.{Rules}
use Rattle.transfers.specs.Events.{forgotten, listened}

pub data Said : Type 0 where
  done : Said
  polled : ℕ → Said
  refused : Refusal → Said
  not_taken : Said

abbrev pub said_of : UnitAnswer → Said
said_of Done = done
said_of (Polled n) = polled n
said_of (Refused e) = refused (refusal_of e)
said_of NotTaken = not_taken

pub record Side (F D : Type 0) : Type 0 where
  pub running : Bool
  pub limit : ℕ
  pub format : D
  pub half : Half F

abbrev pub takes : {U : Type 0} → UnitCall U → Bool → Bool
takes (ApplyConfig u) running = not running
takes (Start len n) running = not running
takes (Wait n) running = running
takes Stop running = running
takes (Listen i) running = true
takes (Unlisten i) running = true
takes (ClearInterrupts i) running = true

abbrev pub apply_said : Option ConfigError → Said
apply_said None = done
apply_said (Some e) = refused (Config.refusal_of e)

abbrev pub polls_said : Result ℕ Refusal → Said
polls_said (Ok n) = polled n
polls_said (Err r) = refused r

abbrev pub accepted : Result ℕ Refusal → Bool
accepted (Ok n) = true
accepted (Err r) = false

module _ {F U D : Type 0} (k : Rules F U D) where
  -- the answer of a call that is taken
  abbrev pub says_taken : UnitCall U → Side F D → Said
  says_taken (ApplyConfig u) s = apply_said (k.refusal (u, s.format))
  says_taken (Start len n) s = polls_said (k.start_says s.limit len n s.half)
  says_taken (Wait n) s = polls_said (k.wait_says n s.half)
  says_taken Stop s = done
  says_taken (Listen i) s = done
  says_taken (Unlisten i) s = done
  says_taken (ClearInterrupts i) s = done

  -- whether the unit runs after it
  abbrev pub runs_after : UnitCall U → Side F D → Bool
  runs_after (ApplyConfig u) s = false
  runs_after (Start len n) s = accepted (k.start_says s.limit len n s.half)
  runs_after (Wait n) s = not (accepted (k.wait_says n s.half))
  runs_after Stop s = false
  runs_after (Listen i) s = s.running
  runs_after (Unlisten i) s = s.running
  runs_after (ClearInterrupts i) s = s.running

  -- the half after it
  abbrev pub leaves : UnitCall U → Side F D → Half F
  leaves (ApplyConfig u) s = k.applied (u, s.format) s.half
  leaves (Start len n) s = k.started s.limit len n s.half
  leaves (Wait n) s = k.waited n s.half
  leaves Stop s = k.stopped s.half
  leaves (Listen i) s = listened (k.own i) true s.half
  leaves (Unlisten i) s = listened (k.own i) false s.half
  leaves (ClearInterrupts i) s = forgotten (k.own i) s.half

  -- a call that is not taken is answered so, and changes nothing
  abbrev pub says : UnitCall U → Side F D → Said
  says c s = cond (takes c s.running) (says_taken c s) not_taken

  abbrev pub next : UnitCall U → Side F D → Side F D
  next c s = cond (takes c s.running) (record { running = runs_after c s; limit = s.limit; format = s.format; half = leaves c s }) s
