use Rattle.std.proofs.Common.{◌≡◌, rules}
use Rattle.std.proofs.lemmas.Str.Parse.{parse_digits}
use Rattle.words.proofs.Decimals.{digits_are_text, numerals}
use Rattle.words.proofs.numbers.value.Goals as goal

-- the search does not name the text that the digits are, nor what is parsed of it
pub unwrap-requires : goal.unwrap-requires
unwrap-requires c = let text = digits_are_text c.args.digits.now (search rules) in search rules

pub returns : goal.returns
returns c =
    let same : c.unwrap.result.now ≡ c.args.digits.now = search rules in
    let parsed = parse_digits numerals 32 c.args.digits.now c.parse.result (rw same at c.parse.ensures.value.0) (search rules) in search rules
