-- Answers as C has them. Assumes nothing.
--     dividers_in_c r  dividers, or a refusal's number and zeros
--     split_in_c r     a split pair, or a refusal's number and zeros
--     within_in_c b    0 within the range, 5 outside
use Rattle.std.specs.Prelude.{ℕ, Bool, cond, Ok, Err, Result}
use mir.Val.{bool_byte}
use Rattle.dividers.specs.declared.dividers.I2sClockDividers.{I2sClockDividers}
use Rattle.dividers.specs.declared.error.ConfigError.{ConfigError}
use Rattle.dividers.specs.declared.split.I2sMclkDividers.{I2sMclkDividers}
use Rattle.dividers.specs.Refusals.{refusal_of}
use Rattle.dividers_c.specs.declared.Dividers.{Dividers}
use Rattle.dividers_c.specs.declared.MclkDividers.{MclkDividers}

abbrev pub dividers_in_c : Result I2sClockDividers ConfigError → Dividers
dividers_in_c (Ok d) = record {
  refusal = 0;
  mclk_divider = d.mclk_divider;
  bclk_divider = d.bclk_divider;
  denominator = d.denominator;
  numerator = d.numerator;
}
dividers_in_c (Err e) = record { refusal = (refusal_of e).number; mclk_divider = 0; bclk_divider = 0; denominator = 0; numerator = 0 }

abbrev pub split_in_c : Result I2sMclkDividers ConfigError → MclkDividers
split_in_c (Ok s) = record { refusal = 0; x = s.x; y = s.y; z = s.z; yn1 = bool_byte s.yn1 }
split_in_c (Err e) = record { refusal = (refusal_of e).number; x = 0; y = 0; z = 0; yn1 = 0 }

abbrev pub within_in_c : Bool → ℕ
within_in_c b = cond b 0 5
