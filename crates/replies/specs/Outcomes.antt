-- What comes of a sheet. Assumes nothing.
--     outcome_by refusal        accepted where nothing is refused
--     outcome_of reaches text   what comes of the lines of a text
use Rattle.std.specs.Prelude.{ℕ, List, Some, None, Option}
use Rattle.dividers.specs.declared.ConfigError.{ConfigError}
use Rattle.old_setups.specs.Configs as OldConfigs
use Rattle.replies.specs.declared.reply.Outcome.{Outcome}
use Rattle.replies.specs.declared.reply.Outcome.TheVariants.{Unread, Accepted, Refused}
use Rattle.replies.specs.declared.reply.Reaches.{Reaches}
use Rattle.setups.specs.Check.{refusal_of}
use Rattle.sheets.specs.declared.Asked.{Asked}
use Rattle.sheets.specs.declared.Asked.TheVariants.{Esp32, Esp32C3}
use Rattle.sheets.specs.Asked.{reading_asked}
use Rattle.sheets.specs.Readings.{reading_of}

abbrev pub outcome_by : Option ConfigError → Outcome
outcome_by None = Accepted
outcome_by (Some e) = Refused e

abbrev pub asked_outcome : Reaches → Option Asked → Outcome
asked_outcome reaches None = Unread
asked_outcome reaches (Some (Esp32 c)) = outcome_by (OldConfigs.refusal_of reaches.esp32.range c)
asked_outcome reaches (Some (Esp32C3 u)) = outcome_by (refusal_of reaches.esp32c3.max reaches.esp32c3.range u)

abbrev pub outcome_of : Reaches → List ℕ → Outcome
outcome_of reaches text = asked_outcome reaches (reading_asked (reading_of text))
