-- The keys of a sheet. Assumes nothing.
--     keys_known         the keys, in the order of the answers
--     key_text key       the word by which a sheet names it
--     key_named word     the key that a word names
--     expected_text key  what its value may be, in words
use Rattle.std.specs.Prelude.{ℕ, List, [], ◌∷◌, Option, codes, find}
use Rattle.std.specs.Str.{bytes_eq}
use Rattle.entries.specs.declared.key.Key.{Key}
use Rattle.entries.specs.declared.key.Key.TheVariants.{Chip, Rate, Slots, Active, Fill, Format, Width, Polarity, Shift, Endianness, Order}

abbrev pub keys_known : List Key
keys_known =
    Chip ∷ Rate ∷ Slots ∷ Active ∷ Fill ∷ Format ∷ Width ∷ Polarity ∷ Shift ∷ Endianness ∷ Order ∷ []

abbrev pub key_text : Key → List ℕ
key_text Chip = codes "chip"
key_text Rate = codes "rate"
key_text Slots = codes "slots"
key_text Active = codes "active"
key_text Fill = codes "fill"
key_text Format = codes "format"
key_text Width = codes "width"
key_text Polarity = codes "polarity"
key_text Shift = codes "shift"
key_text Endianness = codes "endianness"
key_text Order = codes "order"

abbrev pub key_named : List ℕ → Option Key
key_named word = find (λ key. bytes_eq word (key_text key)) keys_known

abbrev pub expected_text : Key → List ℕ
expected_text Chip = codes "ESP32 or ESP32-C3"
expected_text Rate = codes "hertz, a number up to 4294967295"
expected_text Slots = codes "a number up to 255"
expected_text Active = codes "a 0 or a 1 for each slot, the first slot first, 1 to 16 of them"
expected_text Fill = codes "repeat, or a number up to 4294967295"
expected_text Format = codes "32/32, 32/24, 32/16, 32/8, 16/16, 16/8 or 8/8"
expected_text Width = codes "half, slot, bit, or a number of bits up to 65535"
expected_text Polarity = codes "high or low"
expected_text Shift = codes "yes or no"
expected_text Endianness = codes "little or big"
expected_text Order = codes "msb or lsb"
