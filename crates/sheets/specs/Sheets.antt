-- What a sheet has said of each key. Assumes nothing.
--     nothing_said         a sheet with no line
--     says sheet key       whether it has said something of a key
--     sheet_with sheet e   the sheet with what an entry says
--     sheet_after sheet e  the sheet after an entry, of which nothing is taken where its key stands already
--     taken sheet e        whether the entry is taken
use Rattle.std.specs.Prelude.{Bool, cond, Some, None, Ok, Err, Result, is_some}
use Rattle.entries.specs.declared.Entry.{Entry}
use Rattle.entries.specs.declared.Entry.TheVariants as E
use Rattle.entries.specs.declared.Key.{Key}
use Rattle.entries.specs.declared.Key.TheVariants.{Chip, Rate, Slots, Active, Fill, Format, Width, Polarity, Shift, Endianness, Order}
use Rattle.entries.specs.Entries.{key_of}
use Rattle.sheets.specs.declared.sheet.Sheet.{Sheet}
use Rattle.sheets.specs.declared.sheet.Twice as Why

abbrev pub nothing_said : Sheet
nothing_said = record {
  chip = None;
  rate = None;
  slots = None;
  active = None;
  fill = None;
  format = None;
  width = None;
  polarity = None;
  shift = None;
  endianness = None;
  order = None;
}

abbrev pub says : Sheet → Key → Bool
says s Chip = is_some s.chip
says s Rate = is_some s.rate
says s Slots = is_some s.slots
says s Active = is_some s.active
says s Fill = is_some s.fill
says s Format = is_some s.format
says s Width = is_some s.width
says s Polarity = is_some s.polarity
says s Shift = is_some s.shift
says s Endianness = is_some s.endianness
says s Order = is_some s.order

abbrev pub sheet_with : Sheet → Entry → Sheet
sheet_with s (E.Chip x) = record s { chip = Some x }
sheet_with s (E.Rate x) = record s { rate = Some x }
sheet_with s (E.Slots x) = record s { slots = Some x }
sheet_with s (E.Active x) = record s { active = Some x }
sheet_with s (E.Fill x) = record s { fill = Some x }
sheet_with s (E.Format x) = record s { format = Some x }
sheet_with s (E.Width x) = record s { width = Some x }
sheet_with s (E.Polarity x) = record s { polarity = Some x }
sheet_with s (E.Shift x) = record s { shift = Some x }
sheet_with s (E.Endianness x) = record s { endianness = Some x }
sheet_with s (E.Order x) = record s { order = Some x }

abbrev pub sheet_after : Sheet → Entry → Sheet
sheet_after s e = cond (says s (key_of e)) s (sheet_with s e)

abbrev pub taken : Sheet → Entry → Result Unit Why.Twice
taken s e = cond (says s (key_of e)) (Err (record {})) (Ok tt)
