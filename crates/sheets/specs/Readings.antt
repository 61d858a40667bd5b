-- A sheet read line by line. Assumes nothing.
--     line_answer sheet line       whether a line counts, or why it does not
--     sheet_after_line sheet line  the sheet after a line
--     nothing_read                 before the first line
--     reading_after r line         after one line more
--     reading_of text              after all lines of a text, the first line first
use Rattle.std.specs.Prelude.{ℕ, true, cond, List, Some, None, Ok, Err, Option, Result, fold, is_ok, ◌&&◌}
use Rattle.entries.specs.declared.Entry.{Entry}
use Rattle.entries.specs.declared.Unread as Why
use Rattle.entries.specs.Entries.{entry_of, key_of}
use Rattle.sheets.specs.declared.reading.BadLine.{BadLine}
use Rattle.sheets.specs.declared.reading.BadLine.TheVariants.{Unread, Twice}
use Rattle.sheets.specs.declared.reading.Reading.{Reading}
use Rattle.sheets.specs.declared.sheet.Sheet.{Sheet}
use Rattle.sheets.specs.Sheets.{nothing_said, says, sheet_after}
use Rattle.words.specs.Lines.{lines_of}

abbrev pub entry_answer : Sheet → Result (Option Entry) Why.Unread → Result Unit BadLine
entry_answer sheet (Err why) = Err (Unread why)
entry_answer sheet (Ok None) = Ok tt
entry_answer sheet (Ok (Some e)) = cond (says sheet (key_of e)) (Err (Twice (key_of e))) (Ok tt)

abbrev pub line_answer : Sheet → List ℕ → Result Unit BadLine
line_answer sheet line = entry_answer sheet (entry_of line)

abbrev pub sheet_by : Sheet → Result (Option Entry) Why.Unread → Sheet
sheet_by sheet (Err why) = sheet
sheet_by sheet (Ok None) = sheet
sheet_by sheet (Ok (Some e)) = sheet_after sheet e

abbrev pub sheet_after_line : Sheet → List ℕ → Sheet
sheet_after_line sheet line = sheet_by sheet (entry_of line)

abbrev pub nothing_read : Reading
nothing_read = record { sheet = nothing_said; all_read = true }

abbrev pub reading_after : Reading → List ℕ → Reading
reading_after r line = record { sheet = sheet_after_line r.sheet line; all_read = r.all_read && is_ok (line_answer r.sheet line) }

abbrev pub reading_of : List ℕ → Reading
reading_of text = fold reading_after nothing_read (lines_of text)
