use Rattle.words.proofs.Cuts.{first_line_is}
use Rattle.words.proofs.lines.first_line.Goals as goal

pub returns-clause-cut : goal.returns-clause-cut
returns-clause-cut c = first_line_is _ _ _ c.cut_line.ensures.line c.cut_line.ensures.rest
