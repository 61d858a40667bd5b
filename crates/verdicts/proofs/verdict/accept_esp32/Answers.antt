use Rattle.verdicts.proofs.Blamed.{old_blamed}
use Rattle.verdicts.proofs.verdict.accept_esp32.Goals as goal

pub returns-in-Err-clause-blamed : goal.returns-in-Err-clause-blamed
returns-in-Err-clause-blamed c = rw c.esp32_fault-fault.ensures (old_blamed c.args.config.now c.args.reach.max c.args.reach.range c.in-Err.error c.in-Err.ensures.checked)
