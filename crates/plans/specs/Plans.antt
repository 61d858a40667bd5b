-- The plan of a chip. Assumes nothing.
--     plan_of chip ask       dividers that the chip takes, or the refusal and what is out of range, or what it lacks
--     planned_of chip d      the plan of dividers: the integer part within the chip's, and the pair split where it stores it so
--     fault_of ask           which clock is out of range
--     Says chip ask plan     what a plan says: that its dividers are those of what is asked and the chip takes them, or what
--                            is out of range, or what the chip lacks
--     any_planned chips ask  whether one of the chips has a plan
use Rattle.std.specs.Prelude.{◌≡◌, max, Bool, true, false, cond, List, Some, None, Ok, Err, Option, Result, ◌==◌, is_ok}
use Rattle.std.specs.List.{list_any}
use Rattle.dividers.specs.declared.dividers.I2sClockDividers.{I2sClockDividers}
use Rattle.dividers.specs.declared.error.ConfigError.{ConfigError}
use Rattle.dividers.specs.declared.error.ConfigError.TheVariants.{ClockOutOfReach}
use Rattle.dividers.specs.declared.split.I2sMclkDividers.{I2sMclkDividers}
use Rattle.dividers.specs.Answers.{answer_of}
use Rattle.dividers.specs.Clock.{mclk_of, bclk_of, within_range}
use Rattle.dividers.specs.Split.{split_answer}
use Rattle.plans.specs.declared.targets.Chip.{Chip}
use Rattle.plans.specs.declared.targets.Lack.{Lack}
use Rattle.plans.specs.declared.planning.Fault.{Fault}
use Rattle.plans.specs.declared.planning.Fault.TheVariants.{NoRate, Clock, IntegerPart, Pair}
use Rattle.plans.specs.declared.planning.NoPlan.{NoPlan}
use Rattle.plans.specs.declared.planning.NoPlan.TheVariants.{Refused, NoSetUp}
use Rattle.plans.specs.declared.planning.Plan.{Plan}
use Rattle.plans.specs.declared.read.Ask.{Ask}
use Rattle.plans.specs.Chips.{lack_of}

abbrev pub fault_of : Ask → Fault
fault_of ask =
    cond (ask.rate == 0) NoRate (Clock (max (mclk_of ask.rate ask.bits) (bclk_of ask.rate ask.slots ask.bits)))

abbrev pub split_plan : I2sClockDividers → Result I2sMclkDividers ConfigError → Result Plan NoPlan
split_plan d (Ok s) = Ok (record { dividers = d; split = Some s })
split_plan d (Err e) = Err (Refused e (Pair d.denominator d.numerator))

abbrev pub planned_of : Chip → I2sClockDividers → Result Plan NoPlan
planned_of chip d =
    cond (within_range d.mclk_divider chip.range.least chip.range.most)
    (cond chip.splits (split_plan d (split_answer d.denominator d.numerator)) (Ok (record { dividers = d; split = None })))
    (Err (Refused ClockOutOfReach (IntegerPart d.mclk_divider)))

abbrev pub clock_plan : Chip → Ask → Result I2sClockDividers ConfigError → Result Plan NoPlan
clock_plan chip ask (Ok d) = planned_of chip d
clock_plan chip ask (Err e) = Err (Refused e (fault_of ask))

abbrev pub chip_plan : Chip → Ask → Option Lack → Result Plan NoPlan
chip_plan chip ask (Some lack) = Err (NoSetUp lack)
chip_plan chip ask None = clock_plan chip ask (answer_of ask.rate ask.slots ask.bits chip.max)

abbrev pub plan_of : Chip → Ask → Result Plan NoPlan
plan_of chip ask = chip_plan chip ask (lack_of chip ask)

-- dividers of what is asked, which the chip takes
pub record Divides (chip : Chip) (ask : Ask) (d : I2sClockDividers) : Type 0 where
  pub set_up : lack_of chip ask ≡ None
  pub dividers : answer_of ask.rate ask.slots ask.bits chip.max ≡ Ok d
  pub within : within_range d.mclk_divider chip.range.least chip.range.most ≡ true

-- a refusal, and what is out of range
abbrev pub Blames : Chip → Ask → ConfigError → Fault → Type 0
Blames chip ask e NoRate = (answer_of ask.rate ask.slots ask.bits chip.max ≡ Err e) × (ask.rate ≡ 0)
Blames chip ask e (Clock hertz) =
    (answer_of ask.rate ask.slots ask.bits chip.max ≡ Err e)
    × (hertz ≡ max (mclk_of ask.rate ask.bits) (bclk_of ask.rate ask.slots ask.bits))
Blames chip ask e (IntegerPart n) =
    (d : I2sClockDividers) × (answer_of ask.rate ask.slots ask.bits chip.max ≡ Ok d) × (n ≡ d.mclk_divider)
    × (within_range n chip.range.least chip.range.most ≡ false) × (e ≡ ClockOutOfReach)
Blames chip ask e (Pair a n) =
    (d : I2sClockDividers) × Divides chip ask d × (chip.splits ≡ true) × (a ≡ d.denominator) × (n ≡ d.numerator)
    × (split_answer a n ≡ Err e)

-- whether the pair is stored split, and how
abbrev pub Splits : Chip → I2sClockDividers → Option I2sMclkDividers → Type 0
Splits chip d None = chip.splits ≡ false
Splits chip d (Some s) = (chip.splits ≡ true) × (split_answer d.denominator d.numerator ≡ Ok s)

-- what a plan says of the chip and of what is asked
abbrev pub Says : Chip → Ask → Result Plan NoPlan → Type 0
Says chip ask (Ok p) = Divides chip ask p.dividers × Splits chip p.dividers p.split
Says chip ask (Err (Refused e f)) = (lack_of chip ask ≡ None) × Blames chip ask e f
Says chip ask (Err (NoSetUp l)) = lack_of chip ask ≡ Some l

abbrev pub any_planned : List Chip → Ask → Bool
any_planned chips ask = list_any (λ chip. is_ok (plan_of chip ask)) chips
