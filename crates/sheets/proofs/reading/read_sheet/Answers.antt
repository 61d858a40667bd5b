use Rattle.words.proofs.Listed.{lines_of-first}
use Rattle.words.specs.Lines.{text_left}
use Rattle.sheets.proofs.reading.read_sheet.Goals as goal

pub loop-line-preserved : goal.loop-line-preserved
loop-line-preserved c =
    let step = c.in-Some.ensures.steps in
    let lines = lines_of-first (text_left c.loop-line.line-iterator) step.0 in
    rw (c.take_line.ensures, step.1, step.2) (rw lines at c.loop-line.invariant)
