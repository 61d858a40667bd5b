-- Which refusal is met before the clock's reach is looked at. Assumes nothing.
use Rattle.std.proofs.Common.{◌≡◌, ℕ, Bool, true, false, cond, Some, None, Option, Ok, Err, Result, refl, sym, ap, ◌∙◌}
use Rattle.std.proofs.lemmas.Bool.{false≢true}
use Rattle.std.specs.Result.{result_err}
use Rattle.dividers.specs.declared.ConfigError.{ConfigError}
use Rattle.dividers.specs.declared.ConfigError.TheVariants.{ChannelsOutOfRange, WsWidthOutOfRange, FrameTooLong, RateOutOfRange, ClockOutOfReach}
use Rattle.dividers.specs.declared.DividerRange.{DividerRange}
use Rattle.dividers.specs.declared.I2sClockDividers.{I2sClockDividers}
use Rattle.dividers.specs.Answers.{answer_of, dividers_of}
use Rattle.dividers.specs.Clock.{out_of_range}
use Rattle.setups.specs.declared.esp32c3.Setup.{Setup}
use Rattle.setups.specs.declared.esp32c3.UnitConfig.{UnitConfig}
use Rattle.setups.specs.Check.{channels_wrong, clock_wrong, frame_wrong, rate_wrong, refusal_of, ws_width_wrong}
use Rattle.setups.specs.Passing.{PassedAs}
use Rattle.setups.specs.Refused.{refused}
use Rattle.fractions.specs.Early.{by_reach, new_early}

pub answer_refused : (rate slots bits max : ℕ) (r : Result I2sClockDividers ConfigError) → r ≡ answer_of rate slots bits max
    → result_err r ≡ refused (out_of_range rate slots bits) RateOutOfRange None
answer_refused rate slots bits max r e = ap result_err e ∙ go (out_of_range rate slots bits)
  where
    go : (b : Bool) → result_err (cond b (Err RateOutOfRange) (Ok (dividers_of rate slots bits max))) ≡ refused b RateOutOfRange None
    go true = refl
    go false = refl

-- by the five reasons in their order
module _ (a b c d e : Bool) where
  abbrev all : Option ConfigError
  all = refused a ChannelsOutOfRange (refused b WsWidthOutOfRange (refused c FrameTooLong (refused d RateOutOfRange (refused e ClockOutOfReach None))))

  abbrev four : Option ConfigError
  four = refused a ChannelsOutOfRange (refused b WsWidthOutOfRange (refused c FrameTooLong (refused d RateOutOfRange None)))

abbrev late : Option ConfigError → Bool
late None = true
late (Some e) = by_reach e

late_early : (a b c d e : Bool) → late (all a b c d e) ≡ true → (four a b c d e ≡ None) × (d ≡ false)
late_early true b c d e h = absurd (false≢true h)
late_early false true c d e h = absurd (false≢true h)
late_early false false true d e h = absurd (false≢true h)
late_early false false false true e h = absurd (false≢true h)
late_early false false false false e h = (refl, refl)

other_early : (a b c d e : Bool) → late (all a b c d e) ≡ false → all a b c d e ≡ four a b c d e
other_early true b c d e h = refl
other_early false true c d e h = refl
other_early false false true d e h = refl
other_early false false false true e h = refl
other_early false false false false true h = absurd (false≢true (sym h))
other_early false false false false false h = absurd (false≢true (sym h))

module _ (max : ℕ) (range : DividerRange) (u : UnitConfig) where
  -- what is refused by the clock's reach, or not at all, is refused by none of the four
  reach_alone : (x : Option ConfigError) → refusal_of max range u ≡ x → late x ≡ true → (new_early u ≡ None) × (rate_wrong u ≡ false)
  reach_alone x e h = late_early (channels_wrong u) (ws_width_wrong u) (frame_wrong u) (rate_wrong u) (clock_wrong max range u) (ap late e ∙ h)

  refused_rate : (x : Option ConfigError) → refusal_of max range u ≡ x → late x ≡ true → refused (rate_wrong u) RateOutOfRange None ≡ new_early u
  refused_rate x e h = ap (λ b. refused b RateOutOfRange None) (reach_alone x e h).1 ∙ sym (reach_alone x e h).0

  pub passed : (s : Setup) → PassedAs max range u s → refused (rate_wrong u) RateOutOfRange None ≡ new_early u
  passed s as_checked = refused_rate None as_checked.passes refl

  pub out_of_reach : (x : ConfigError) → refusal_of max range u ≡ Some x → by_reach x ≡ true → refused (rate_wrong u) RateOutOfRange None ≡ new_early u
  out_of_reach x e h = refused_rate (Some x) e h

  pub one_of_four : (x : ConfigError) → refusal_of max range u ≡ Some x → by_reach x ≡ false → Some x ≡ new_early u
  one_of_four x e h = sym e ∙ other_early (channels_wrong u) (ws_width_wrong u) (frame_wrong u) (rate_wrong u) (clock_wrong max range u) (ap late e ∙ h)
