-- What a refusal names is wrong. Assumes nothing.
use Rattle.std.proofs.Common.{◌≡◌, ℕ, ◌*◌, ◌^◌, ◌<◌, ◌≤◌, max, min, Bool, true, false, not, ◌||◌, eqb, ltb, leb, Some, None, refl, subst, zero, suc, zero-mul, inl, inr, ◌⊎◌, count_ones, arith}
use Rattle.std.proofs.lemmas.Bool.{cases_lt, cond_both, eqb-true, ltb-true}
use Rattle.std.proofs.lemmas.Bool.Decides.{nat_tests}
use Rattle.dividers.specs.declared.ConfigError.{ConfigError}
use Rattle.dividers.specs.declared.ConfigError.TheVariants.{ChannelsOutOfRange, WsWidthOutOfRange, FrameTooLong, RateOutOfRange, ClockOutOfReach}
use Rattle.dividers.specs.declared.DividerRange.{DividerRange}
use Rattle.dividers.specs.Answers.{dividers_of}
use Rattle.dividers.specs.Clock.{bclk_of, mclk_of, out_of_range, within_range}
use Rattle.dividers.specs.Split.{unsplittable}
use Rattle.old_setups.specs.declared.Config.{Config}
use Rattle.old_setups.specs.declared.DataFormat as OldFormat
use Rattle.old_setups.specs.declared.DataFormat.TheVariants as OldFormats
use Rattle.old_setups.specs.Configs as OldConfigs
use Rattle.old_setups.specs.Units as OldUnits
use Rattle.setups.specs.declared.esp32c3.UnitConfig.{UnitConfig}
use Rattle.setups.specs.declared.esp32c3.DataFormat.{DataFormat}
use Rattle.setups.specs.declared.esp32c3.DataFormat.TheVariants.{Data32Channel32, Data32Channel24, Data32Channel16, Data32Channel8, Data16Channel16, Data16Channel8, Data8Channel8}
use Rattle.setups.specs.Check.{bits_of, channels_wrong, clock_wrong, frame_wrong, rate_wrong, refusal_of, slots_of, ws_width_of, ws_width_wrong}
use Rattle.setups.specs.Formats.{data_bits_of}
use Rattle.setups.specs.Refused.{refused}
use Rattle.verdicts.specs.declared.fault.Fault.{Fault}
use Rattle.verdicts.specs.declared.fault.Fault.TheVariants.{NoneActive, Slots, WsWidth, Frame, NoRate, Clock, IntegerPart, Pair}
use Rattle.verdicts.specs.Blame.{ClockWrong, IsWrongNew, IsWrongOld}
use Rattle.verdicts.specs.Faults.{channels_fault, clock_fault, esp32_fault, esp32c3_fault, rate_fault}

-- a clock passes 32 bits where nothing is 0
passes : (r s b m c : ℕ) → eqb r 0 ≡ false → 0 < s → 0 < b
    → (eqb r 0 || eqb s 0 || eqb b 0 || leb (2 ^ 32) m || leb (2 ^ 32) c) ≡ true → 2 ^ 32 ≤ max m c
passes r s b m c hr hs hb h = grind (arith, nat_tests)

rate_blamed : (rate slots bits most : ℕ) (range : DividerRange) → 0 < slots → 0 < bits → out_of_range rate slots bits ≡ true
    → ClockWrong rate slots bits most range (rate_fault rate slots bits)
rate_blamed rate slots bits most range hs hb h =
    cond_both (eqb rate 0) _ _ (ClockWrong rate slots bits most range) (λ zero. eqb-true _ _ zero)
    (λ some. (refl, passes rate slots bits (mclk_of rate bits) (bclk_of rate slots bits) some hs hb h))

clock_blamed : (rate slots bits most : ℕ) (range : DividerRange) → out_of_range rate slots bits ≡ false
    → (not (within_range (dividers_of rate slots bits most).mclk_divider range.least range.most)
    || unsplittable (dividers_of rate slots bits most).denominator (dividers_of rate slots bits most).numerator) ≡ true
    → ClockWrong rate slots bits most range (clock_fault rate slots bits most range)
clock_blamed rate slots bits most range in_range h =
    rw in_range
    (cond_both (within_range (dividers_of rate slots bits most).mclk_divider range.least range.most) _ _ (ClockWrong rate slots bits most range)
    (λ within. (refl, refl, splits _ _ within h)) (λ outside. (refl, outside))) where
      splits : (w u : Bool) → w ≡ true → (not w || u) ≡ true → u ≡ true
      splits true u e h = h
      splits false u e h = absurd (cc)

-- the first of five tests that applies
unfoldable Found : Bool → Bool → Bool → Bool → Bool → ConfigError → Type 0
Found a b c d e ChannelsOutOfRange = a ≡ true
Found a b c d e WsWidthOutOfRange = b ≡ true
Found a b c d e FrameTooLong = c ≡ true
Found a b c d e RateOutOfRange = (b ≡ false) × (d ≡ true)
Found a b c d e ClockOutOfReach = (d ≡ false) × (e ≡ true)

found : (a b c d e : Bool) (x : ConfigError)
    → refused a ChannelsOutOfRange (refused b WsWidthOutOfRange (refused c FrameTooLong (refused d RateOutOfRange (refused e ClockOutOfReach None)))) ≡ Some x
    → Found a b c d e x
unfolding Found
found true b c d e x h = let is : ChannelsOutOfRange ≡ x = cc in subst (λ y. Found true b c d e y) is refl
found false true c d e x h = let is : WsWidthOutOfRange ≡ x = cc in subst (λ y. Found false true c d e y) is refl
found false false true d e x h = let is : FrameTooLong ≡ x = cc in subst (λ y. Found false false true d e y) is refl
found false false false true e x h = let is : RateOutOfRange ≡ x = cc in subst (λ y. Found false false false true e y) is (refl, refl)
found false false false false true x h = let is : ClockOutOfReach ≡ x = cc in subst (λ y. Found false false false false true y) is (refl, refl)
found false false false false false x h = absurd (cc)

-- a width that passes leaves the frame some bits, and so some slots
some_slots : (slots bits width : ℕ) → (eqb width 0 || ltb 128 width || ltb (slots * bits) width) ≡ false → 0 < slots
some_slots zero bits width h = let none : zero * bits ≡ 0 = zero-mul bits in absurd (grind (arith, nat_tests))
some_slots (suc slots) bits width h = omega arith

some_bits : (f : DataFormat) → 0 < data_bits_of f
some_bits Data32Channel32 = omega arith
some_bits Data32Channel24 = omega arith
some_bits Data32Channel16 = omega arith
some_bits Data32Channel8 = omega arith
some_bits Data16Channel16 = omega arith
some_bits Data16Channel8 = omega arith
some_bits Data8Channel8 = omega arith

too_wide : (width frame : ℕ) → (eqb width 0 || ltb 128 width || ltb frame width) ≡ true → (width ≡ 0) ⊎ (min frame 128 < width)
too_wide width frame h = elim (cases_lt (min frame 128) width) [ inl above ↦ inr above | inr below ↦ inl (grind (arith, nat_tests)) ]

module _ (u : UnitConfig) (most : ℕ) (range : DividerRange) where
  clock_part : (f : Fault) → ClockWrong u.sample_rate.0 (slots_of u) (bits_of u) most range f → IsWrongNew u most range f
  clock_part NoRate h = h
  clock_part (Clock n) h = h
  clock_part (IntegerPart n) h = h
  clock_part (Pair a n) h = h
  clock_part NoneActive h = absurd h
  clock_part (Slots n) h = absurd h
  clock_part (WsWidth n limit) h = absurd h
  clock_part (Frame n) h = absurd h

  channels_blamed : channels_wrong u ≡ true → IsWrongNew u most range (channels_fault u)
  channels_blamed h =
      cond_both (eqb (count_ones u.channels.mask) 0) _ _ (IsWrongNew u most range) (λ none. eqb-true _ _ none)
      (λ some. (refl, ltb-true _ _ (rw some at h)))

  by_error : (e : ConfigError) → Found (channels_wrong u) (ws_width_wrong u) (frame_wrong u) (rate_wrong u) (clock_wrong most range u) e
      → IsWrongNew u most range (esp32c3_fault u most range e)
  unfolding Found
  by_error ChannelsOutOfRange h = channels_blamed h
  by_error WsWidthOutOfRange h = (refl, refl, too_wide _ _ h)
  by_error FrameTooLong h = (refl, ltb-true _ _ h)
  by_error RateOutOfRange h =
      clock_part _ (rate_blamed _ _ _ most range (some_slots (slots_of u) (bits_of u) (ws_width_of u) h.0) (some_bits u.data_format) h.1)
  by_error ClockOutOfReach h = clock_part _ (clock_blamed _ _ _ most range h.0 h.1)

  pub new_blamed : (e : ConfigError) → refusal_of most range u ≡ Some e → IsWrongNew u most range (esp32c3_fault u most range e)
  new_blamed e h = by_error e (found _ _ _ _ _ e h)

-- the first of the two tests of the old chip that applies
unfoldable FoundOld : Bool → Bool → ConfigError → Type 0
FoundOld d e RateOutOfRange = d ≡ true
FoundOld d e ClockOutOfReach = (d ≡ false) × (e ≡ true)
FoundOld d e ChannelsOutOfRange = ⊥
FoundOld d e WsWidthOutOfRange = ⊥
FoundOld d e FrameTooLong = ⊥

found_old : (d e : Bool) (x : ConfigError) → refused d RateOutOfRange (refused e ClockOutOfReach None) ≡ Some x → FoundOld d e x
unfolding FoundOld
found_old true e x h = let is : RateOutOfRange ≡ x = cc in subst (λ y. FoundOld true e y) is refl
found_old false true x h = let is : ClockOutOfReach ≡ x = cc in subst (λ y. FoundOld false true y) is (refl, refl)
found_old false false x h = absurd (cc)

some_old_bits : (f : OldFormat.DataFormat) → 0 < OldUnits.data_bits_of f
some_old_bits OldFormats.Data32Channel32 = omega arith
some_old_bits OldFormats.Data16Channel16 = omega arith

left_holds : (a b : Bool) → a ≡ true → (a || b) ≡ true
left_holds true b e = refl
left_holds false b e = absurd (cc)

module _ (c : Config) (most : ℕ) (range : DividerRange) where
  old_by_error : (e : ConfigError) → FoundOld (OldConfigs.rate_wrong c) (OldConfigs.clock_wrong range c) e
      → IsWrongOld c most range (esp32_fault c most range e)
  unfolding FoundOld
  old_by_error RateOutOfRange h = rate_blamed _ 2 _ most range (omega arith) (some_old_bits c.data_format) h
  old_by_error ClockOutOfReach h = clock_blamed _ 2 _ most range h.0 (left_holds _ _ h.1)
  old_by_error ChannelsOutOfRange h = absurd h
  old_by_error WsWidthOutOfRange h = absurd h
  old_by_error FrameTooLong h = absurd h

  pub old_blamed : (e : ConfigError) → OldConfigs.refusal_of range c ≡ Some e → IsWrongOld c most range (esp32_fault c most range e)
  old_blamed e h = old_by_error e (found_old _ _ e h)
