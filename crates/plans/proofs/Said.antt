-- A plan says what holds. Assumes nothing.
use Rattle.std.proofs.Common.{◌≡◌, true, eqb, Some, None, Ok, Err, Option, Result, refl}
use Rattle.std.proofs.lemmas.Bool.{cond_both, eqb-true}
use Rattle.dividers.specs.declared.dividers.I2sClockDividers.{I2sClockDividers}
use Rattle.dividers.specs.declared.error.ConfigError.{ConfigError}
use Rattle.dividers.specs.declared.split.I2sMclkDividers.{I2sMclkDividers}
use Rattle.dividers.specs.Answers.{answer_of}
use Rattle.dividers.specs.Clock.{within_range}
use Rattle.dividers.specs.Split.{split_answer}
use Rattle.plans.specs.declared.read.Ask.{Ask}
use Rattle.plans.specs.declared.targets.Chip.{Chip}
use Rattle.plans.specs.declared.targets.Lack.{Lack}
use Rattle.plans.specs.Chips.{lack_of}
use Rattle.plans.specs.Plans.{Blames, Divides, Says, chip_plan, clock_plan, plan_of, planned_of, split_plan}

module _ (chip : Chip) (ask : Ask) where
  split_says : (d : I2sClockDividers) → Divides chip ask d → chip.splits ≡ true → (r : Result I2sMclkDividers ConfigError)
      → split_answer d.denominator d.numerator ≡ r → Says chip ask (split_plan d r)
  split_says d h splits (Ok s) e = (h, (splits, e))
  split_says d h splits (Err x) e = (h.set_up, (d, h, splits, refl, refl, e))

  planned_says : (d : I2sClockDividers) → lack_of chip ask ≡ None → answer_of ask.rate ask.slots ask.bits chip.max ≡ Ok d
      → Says chip ask (planned_of chip d)
  planned_says d none e =
      cond_both (within_range d.mclk_divider chip.range.least chip.range.most) _ _ (Says chip ask)
      (λ within.
      let h : Divides chip ask d = record { set_up = none; dividers = e; within = within } in
      cond_both chip.splits _ _ (Says chip ask) (λ splits. split_says d h splits _ refl) (λ whole. (h, whole)))
      (λ outside. (none, (d, e, refl, outside, refl)))

  clock_says : lack_of chip ask ≡ None → (r : Result I2sClockDividers ConfigError) → answer_of ask.rate ask.slots ask.bits chip.max ≡ r
      → Says chip ask (clock_plan chip ask r)
  clock_says none (Ok d) e = planned_says d none e
  clock_says none (Err x) e =
      (none, cond_both (eqb ask.rate 0) _ _ (Blames chip ask x) (λ zero. (e, eqb-true _ _ zero)) (λ some. (e, refl)))

  lack_says : (o : Option Lack) → lack_of chip ask ≡ o → Says chip ask (chip_plan chip ask o)
  lack_says (Some l) e = e
  lack_says None e = clock_says e _ refl

  pub plan_says : Says chip ask (plan_of chip ask)
  plan_says = lack_says _ refl
