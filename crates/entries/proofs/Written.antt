-- A line that is written as an entry is read as that entry. Assumes nothing.
use Rattle.std.proofs.Common.{◌≡◌, ℕ, ◌+◌, ◌-◌, ◌*◌, ◌/◌, ◌%◌, ◌^◌, ◌<◌, ◌≤◌, true, false, cond, not, ◌||◌, eqb, zero, suc, List, [], ◌∷◌, ◌++◌, length, get_or, Some, codes, decimal, refl, sym, ap, ◌∙◌, append-nil, arith}
use Rattle.std.proofs.Math.Nat.{pow-suc}
use Rattle.std.proofs.lemmas.Bool.{and_from, and_parts}
use Rattle.std.proofs.lemmas.Bool.Decides.{nat_tests}
use Rattle.std.specs.Char.{is_ascii_digit}
use Rattle.std.specs.Str.{bytes_eq}
use Rattle.entries.specs.declared.entry.Chip.TheVariants.{Esp32, Esp32C3}
use Rattle.entries.specs.declared.entry.Entry.{Entry}
use Rattle.entries.specs.declared.entry.Entry.TheVariants as E
use Rattle.entries.specs.declared.entry.Fill.TheVariants.{Repeat, Number}
use Rattle.entries.specs.declared.key.Key.{Key}
use Rattle.entries.specs.declared.key.Key.TheVariants.{Chip, Rate, Slots, Active, Fill, Format, Width, Polarity, Shift, Endianness, Order}
use Rattle.setups.specs.declared.esp32c3.DataFormat.TheVariants.{Data32Channel32, Data32Channel24, Data32Channel16, Data32Channel8, Data16Channel16, Data16Channel8, Data8Channel8}
use Rattle.setups.specs.declared.esp32c3.WsWidth.TheVariants.{HalfFrame, OneChannel, Bit, Bits}
use Rattle.setups.specs.declared.BitOrder.TheVariants.{MsbFirst, LsbFirst}
use Rattle.setups.specs.declared.Endianness.TheVariants.{LittleEndian, BigEndian}
use Rattle.setups.specs.declared.Polarity.TheVariants.{ActiveHigh, ActiveLow}
use Rattle.entries.specs.Entries.{entry_by, entry_of, key_of, value_at}
use Rattle.entries.specs.Keys.{key_named, key_text}
use Rattle.entries.specs.Rows.{is_binary, mask_of, row_in}
use Rattle.entries.specs.Written.{ReadsWritten, Sayable, row_text, value_text}
use Rattle.words.specs.Numbers.{is_digits}
use Rattle.words.specs.Parts.{is_blank, is_unbroken, past_word, word_in}
use Rattle.words.proofs.Decimals.{reads, spelt}
use Rattle.words.proofs.Spaced.{digits_unbroken, first_word, past_word_lem, space_past, space_word}

-- a word: some bytes, of which none is a blank
record Word (w : List ℕ) : Type 0 where
  some : 0 < length w
  unbroken : is_unbroken w ≡ true

named : (key : Key) → key_named (key_text key) ≡ Some key
named Chip = refl
named Rate = refl
named Slots = refl
named Active = refl
named Fill = refl
named Format = refl
named Width = refl
named Polarity = refl
named Shift = refl
named Endianness = refl
named Order = refl

key_word : (key : Key) → Word (key_text key)
key_word Chip = record { some = omega arith; unbroken = refl }
key_word Rate = record { some = omega arith; unbroken = refl }
key_word Slots = record { some = omega arith; unbroken = refl }
key_word Active = record { some = omega arith; unbroken = refl }
key_word Fill = record { some = omega arith; unbroken = refl }
key_word Format = record { some = omega arith; unbroken = refl }
key_word Width = record { some = omega arith; unbroken = refl }
key_word Polarity = record { some = omega arith; unbroken = refl }
key_word Shift = record { some = omega arith; unbroken = refl }
key_word Endianness = record { some = omega arith; unbroken = refl }
key_word Order = record { some = omega arith; unbroken = refl }

decimal_word : (n : ℕ) → n < 2 ^ 64 → Word (decimal n)
decimal_word n h = let s = spelt n h in record { some = s.some; unbroken = digits_unbroken (decimal n) s.digits }

-- a word of digits is no word that begins with a letter
digits_not : (w : List ℕ) (c : ℕ) (cs : List ℕ) → is_digits w ≡ true → is_ascii_digit c ≡ false → bytes_eq w (c ∷ cs) ≡ false
digits_not [] c cs d e = refl
digits_not (b ∷ w) c cs d e =
    let first = (and_parts (is_ascii_digit b) (is_digits w) d).0 in grind (arith, nat_tests)

-- a row's digits: how many, that they are 0 and 1, and their mask
row_length : (n m : ℕ) → length (row_text n m) ≡ n
row_length zero m = refl
row_length (suc n) m = ap suc (row_length n (m / 2))

digit_binary : (b : ℕ) → b < 2 → (eqb (48 + b) 48 || eqb (48 + b) 49) ≡ true
digit_binary b h = grind (arith, nat_tests)

row_binary : (n m : ℕ) → is_binary (row_text n m) ≡ true
row_binary zero m = refl
row_binary (suc n) m = and_from _ _ (digit_binary (m % 2) (omega arith)) (row_binary n (m / 2))

digit_active : (b : ℕ) → b < 2 → cond (eqb (48 + b) 49) 1 0 ≡ b
digit_active b h = grind (arith, nat_tests)

row_mask : (n m : ℕ) → m < 2 ^ n → mask_of (row_text n m) ≡ m
row_mask zero m h = omega arith
row_mask (suc n) m h =
    let double : 2 ^ suc n ≡ 2 ^ n * 2 = pow-suc 2 n in
    let rest = row_mask n (m / 2) (omega arith) in
    let first = digit_active (m % 2) (omega arith) in omega arith

binary_unbroken : (w : List ℕ) → is_binary w ≡ true → is_unbroken w ≡ true
binary_unbroken [] e = refl
binary_unbroken (b ∷ w) e =
    let parts = and_parts (eqb b 48 || eqb b 49) (is_binary w) e in
    and_from (not (is_blank b)) (is_unbroken w) (let first = parts.0 in grind (arith, nat_tests)) (binary_unbroken w parts.1)

row_read : (n m : ℕ) → 1 ≤ n → n ≤ 16 → m < 2 ^ n → row_in (row_text n m) ≡ Some (record { digits = n; mask = m })
row_read n m low high fits =
    let long = row_length n m in
    let binary = row_binary n m in
    let mask = row_mask n m fits in grind (arith, nat_tests)

value_read : (entry : Entry) → Sayable entry → value_at (key_of entry) (value_text entry) ≡ Some entry
value_read (E.Chip Esp32) h = refl
value_read (E.Chip Esp32C3) h = refl
value_read (E.Rate n) h = let r = reads (decimal n) n (2 ^ 32 - 1) (spelt n (omega arith)) in grind (arith, nat_tests)
value_read (E.Slots n) h = let r = reads (decimal n) n 255 (spelt n (omega arith)) in grind (arith, nat_tests)
value_read (E.Active row) h = let r = row_read row.digits row.mask h.0 h.1 h.2 in cc
value_read (E.Fill Repeat) h = refl
value_read (E.Fill (Number n)) h =
    let s = spelt n (omega arith) in
    let r = reads (decimal n) n (2 ^ 32 - 1) s in
    let other = digits_not (decimal n) 114 (codes "epeat") s.digits refl in grind (arith, nat_tests)
value_read (E.Format Data32Channel32) h = refl
value_read (E.Format Data32Channel24) h = refl
value_read (E.Format Data32Channel16) h = refl
value_read (E.Format Data32Channel8) h = refl
value_read (E.Format Data16Channel16) h = refl
value_read (E.Format Data16Channel8) h = refl
value_read (E.Format Data8Channel8) h = refl
value_read (E.Width HalfFrame) h = refl
value_read (E.Width OneChannel) h = refl
value_read (E.Width Bit) h = refl
value_read (E.Width (Bits n)) h =
    let s = spelt n (omega arith) in
    let r = reads (decimal n) n (2 ^ 16 - 1) s in
    let not_half = digits_not (decimal n) 104 (codes "alf") s.digits refl in
    let not_slot = digits_not (decimal n) 115 (codes "lot") s.digits refl in
    let not_bit = digits_not (decimal n) 98 (codes "it") s.digits refl in grind (arith, nat_tests)
value_read (E.Polarity ActiveHigh) h = refl
value_read (E.Polarity ActiveLow) h = refl
value_read (E.Shift true) h = refl
value_read (E.Shift false) h = refl
value_read (E.Endianness LittleEndian) h = refl
value_read (E.Endianness BigEndian) h = refl
value_read (E.Order MsbFirst) h = refl
value_read (E.Order LsbFirst) h = refl

value_word : (entry : Entry) → Sayable entry → Word (value_text entry)
value_word (E.Chip Esp32) h = record { some = omega arith; unbroken = refl }
value_word (E.Chip Esp32C3) h = record { some = omega arith; unbroken = refl }
value_word (E.Rate n) h = decimal_word n (omega arith)
value_word (E.Slots n) h = decimal_word n (omega arith)
value_word (E.Active row) h = record {
  some = omega (arith, row_length row.digits row.mask);
  unbroken = binary_unbroken (row_text row.digits row.mask) (row_binary row.digits row.mask);
}
value_word (E.Fill Repeat) h = record { some = omega arith; unbroken = refl }
value_word (E.Fill (Number n)) h = decimal_word n (omega arith)
value_word (E.Format Data32Channel32) h = record { some = omega arith; unbroken = refl }
value_word (E.Format Data32Channel24) h = record { some = omega arith; unbroken = refl }
value_word (E.Format Data32Channel16) h = record { some = omega arith; unbroken = refl }
value_word (E.Format Data32Channel8) h = record { some = omega arith; unbroken = refl }
value_word (E.Format Data16Channel16) h = record { some = omega arith; unbroken = refl }
value_word (E.Format Data16Channel8) h = record { some = omega arith; unbroken = refl }
value_word (E.Format Data8Channel8) h = record { some = omega arith; unbroken = refl }
value_word (E.Width HalfFrame) h = record { some = omega arith; unbroken = refl }
value_word (E.Width OneChannel) h = record { some = omega arith; unbroken = refl }
value_word (E.Width Bit) h = record { some = omega arith; unbroken = refl }
value_word (E.Width (Bits n)) h = decimal_word n (omega arith)
value_word (E.Polarity ActiveHigh) h = record { some = omega arith; unbroken = refl }
value_word (E.Polarity ActiveLow) h = record { some = omega arith; unbroken = refl }
value_word (E.Shift true) h = record { some = omega arith; unbroken = refl }
value_word (E.Shift false) h = record { some = omega arith; unbroken = refl }
value_word (E.Endianness LittleEndian) h = record { some = omega arith; unbroken = refl }
value_word (E.Endianness BigEndian) h = record { some = omega arith; unbroken = refl }
value_word (E.Order MsbFirst) h = record { some = omega arith; unbroken = refl }
value_word (E.Order LsbFirst) h = record { some = omega arith; unbroken = refl }

-- two words with a space between them
module _ (k v : List ℕ) (hk : Word k) (hv : Word v) where
  past_1 : past_word (k ++ (32 ∷ v)) ≡ 32 ∷ v
  past_1 = past_word_lem k (32 ∷ v) hk.unbroken hk.some refl

  past_2 : past_word (past_word (k ++ (32 ∷ v))) ≡ []
  past_2 = ap past_word past_1 ∙ space_past v ∙ ap past_word (sym (append-nil v)) ∙ past_word_lem v [] hv.unbroken hv.some refl

  word_1 : word_in (k ++ (32 ∷ v)) ≡ k
  word_1 = first_word k (32 ∷ v) hk.unbroken hk.some refl

  word_2 : word_in (past_word (k ++ (32 ∷ v))) ≡ v
  word_2 = ap word_in past_1 ∙ space_word v ∙ ap word_in (sym (append-nil v)) ∙ first_word v [] hv.unbroken hv.some refl

  word_3 : word_in (past_word (past_word (k ++ (32 ∷ v)))) ≡ []
  word_3 = ap word_in past_2

  by_words : entry_of (k ++ (32 ∷ v)) ≡ entry_by k v []
  by_words = cc (word_1, word_2, word_3)

no_remark : (key : Key) → (eqb (length (key_text key)) 0 || eqb (get_or (key_text key) 0 0) 35) ≡ false
no_remark Chip = refl
no_remark Rate = refl
no_remark Slots = refl
no_remark Active = refl
no_remark Fill = refl
no_remark Format = refl
no_remark Width = refl
no_remark Polarity = refl
no_remark Shift = refl
no_remark Endianness = refl
no_remark Order = refl

pub reads_written : (line : List ℕ) → ReadsWritten line (entry_of line)
reads_written line entry h e =
    let key = key_of entry in
    let v = value_text entry in
    let hv = value_word entry h in
    let some : eqb (length v) 0 ≡ false = grind (arith, nat_tests, hv.some) in
    rw (e, by_words (key_text key) v (key_word key) hv, no_remark key, named key, some, value_read entry h)
