use Rattle.coded.proofs.NewRows.{reads_unit}
use Rattle.coded.proofs.new_chip.esp32c3_unit.Goals as goal

pub returns-clause-reads : goal.returns-clause-reads
returns-clause-reads c = λ unit. rw c.read_unit.ensures (reads_unit c.args.numbers.now unit)
