use Rattle.std.proofs.Common.{◌∙◌}
use Rattle.entries.proofs.Written.{reads_written}
use Rattle.entries.proofs.read.read_entry.Goals as goal

pub returns-clause-written : goal.returns-clause-written
returns-clause-written c = λ entry h e. c.read_words.ensures ∙ reads_written c.args.line.now entry h e
