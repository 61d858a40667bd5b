-- What comes of a line, and the count of it. Assumes nothing.
--     outcome_of reading  planned where at least one chip has a plan
--     counted tally o     one more of an outcome; a count stops at 2 ^ 64 - 1
use Rattle.std.specs.Prelude.{ℕ, ◌+◌, ◌-◌, ◌^◌, min, cond, Some, None, Ok, Err, Option, Result}
use Rattle.plans.specs.declared.counting.Outcome.{Outcome}
use Rattle.plans.specs.declared.counting.Outcome.TheVariants.{Passed, Planned, Refused, Unread}
use Rattle.plans.specs.declared.counting.Tally.{Tally}
use Rattle.plans.specs.declared.read.Ask.{Ask}
use Rattle.plans.specs.declared.read.Unread as Why
use Rattle.plans.specs.Chips.{chips_known}
use Rattle.plans.specs.Plans.{any_planned}

abbrev pub outcome_of : Result (Option Ask) Why.Unread → Outcome
outcome_of (Ok None) = Passed
outcome_of (Ok (Some ask)) = cond (any_planned chips_known ask) Planned Refused
outcome_of (Err why) = Unread

abbrev pub nothing_counted : Tally
nothing_counted = record { planned = 0; refused = 0; unread = 0 }

abbrev pub one_more : ℕ → ℕ
one_more n = min (n + 1) (2 ^ 64 - 1)

abbrev pub counted : Tally → Outcome → Tally
counted t Passed = t
counted t Planned = record { planned = one_more t.planned; refused = t.refused; unread = t.unread }
counted t Refused = record { planned = t.planned; refused = one_more t.refused; unread = t.unread }
counted t Unread = record { planned = t.planned; refused = t.refused; unread = one_more t.unread }
