use Rattle.std.proofs.Common.{ap, ◌∙◌, is_some}
use Rattle.sheets.proofs.Whole.{asks, ready}
use Rattle.sheets.proofs.sheet.Sheet.asked.Goals as goal

pub returns-clause-asks : goal.returns-clause-asks
returns-clause-asks c = rw c.chip_asked.ensures (asks c.args.self.now)

pub returns-clause-ready : goal.returns-clause-ready
returns-clause-ready c = ap is_some c.chip_asked.ensures ∙ ready c.args.self.now
