-- What a line of a sheet says. Assumes nothing.
--     key_of entry        the key of an entry
--     value_at key word   a word as the value of a key, with that key
--     entry_of line       what a line says, if anything, or why it is not read
use Rattle.std.specs.Prelude.{ℕ, ◌-◌, ◌^◌, cond, ◌||◌, List, Some, None, Ok, Err, Option, Result, ◌==◌, slice_index}
use Rattle.std.specs.Option.{option_map}
use Rattle.entries.specs.declared.entry.Entry.{Entry}
use Rattle.entries.specs.declared.entry.Entry.TheVariants as E
use Rattle.entries.specs.declared.key.Key.{Key}
use Rattle.entries.specs.declared.key.Key.TheVariants.{Chip, Rate, Slots, Active, Fill, Format, Width, Polarity, Shift, Endianness, Order}
use Rattle.entries.specs.declared.read.Unread.{Unread}
use Rattle.entries.specs.declared.read.Unread.TheVariants.{NoKey, NoValue, ManyValues, NotAValue}
use Rattle.entries.specs.Keys.{key_named}
use Rattle.entries.specs.Rows.{row_in}
use Rattle.entries.specs.Values.{chip_in, endianness_in, fill_in, format_in, number_up_to, order_in, polarity_in, shift_in, width_in}
use Rattle.words.specs.Parts.{is_empty, past_word, word_in}

abbrev pub key_of : Entry → Key
key_of (E.Chip x) = Chip
key_of (E.Rate x) = Rate
key_of (E.Slots x) = Slots
key_of (E.Active x) = Active
key_of (E.Fill x) = Fill
key_of (E.Format x) = Format
key_of (E.Width x) = Width
key_of (E.Polarity x) = Polarity
key_of (E.Shift x) = Shift
key_of (E.Endianness x) = Endianness
key_of (E.Order x) = Order

abbrev pub value_at : Key → List ℕ → Option Entry
value_at Chip word = option_map E.Chip (chip_in word)
value_at Rate word = option_map E.Rate (number_up_to (2 ^ 32 - 1) word)
value_at Slots word = option_map E.Slots (number_up_to 255 word)
value_at Active word = option_map E.Active (row_in word)
value_at Fill word = option_map E.Fill (fill_in word)
value_at Format word = option_map E.Format (format_in word)
value_at Width word = option_map E.Width (width_in word)
value_at Polarity word = option_map E.Polarity (polarity_in word)
value_at Shift word = option_map E.Shift (shift_in word)
value_at Endianness word = option_map E.Endianness (endianness_in word)
value_at Order word = option_map E.Order (order_in word)

abbrev pub read_as : Key → Option Entry → Result (Option Entry) Unread
read_as key None = Err (NotAValue key)
read_as key (Some entry) = Ok (Some entry)

-- by the key, its value and what follows that
abbrev pub entry_with : Option Key → List ℕ → List ℕ → Result (Option Entry) Unread
entry_with None value more = Err NoKey
entry_with (Some key) value more =
    cond (is_empty value) (Err (NoValue key)) (cond (is_empty more) (read_as key (value_at key value)) (Err (ManyValues key)))

-- by the first three words: blank, or a remark: nothing; else a key and one value
abbrev pub entry_by : List ℕ → List ℕ → List ℕ → Result (Option Entry) Unread
entry_by name value more = cond (is_empty name || slice_index name 0 == 35) (Ok None) (entry_with (key_named name) value more)

abbrev pub entry_of : List ℕ → Result (Option Entry) Unread
entry_of line = entry_by (word_in line) (word_in (past_word line)) (word_in (past_word (past_word line)))
