use Rattle.std.proofs.Common.{◌≡◌, fold}
use Rattle.sheets.specs.Readings.{reading_after, reading_of}
use Rattle.words.specs.Lines.{lines_of, text_left}
use Rattle.sheets.proofs.reading.read_sheet.Given as goal

abbrev pub invariant-loop-line : goal.invariant-loop-line
invariant-loop-line l = fold reading_after l.reading (lines_of (text_left l.line-iterator)) ≡ reading_of l.fn.text
