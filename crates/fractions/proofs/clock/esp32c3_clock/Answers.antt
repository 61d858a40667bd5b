use Rattle.std.proofs.Common.{◌∙◌}
use Rattle.fractions.proofs.Early.{passed}
use Rattle.fractions.proofs.clock.esp32c3_clock.Goals as goal

pub returns-in-Ok-clause-refused : goal.returns-in-Ok-clause-refused
returns-in-Ok-clause-refused c = c.unit_clock.ensures.refused ∙ passed _ _ c.args.config.now c.in-Ok.field-0 c.in-Ok.ensures.checked
