-- What is out of range where a set-up is refused. Assumes nothing.
--     rate_fault rate slots bits             the rate 0, or the faster clock
--     clock_fault rate slots bits max range  the integer part, or the pair
--     esp32c3_fault u max range e            what is out of range in a set-up of the new chip that is refused by e
--     esp32_fault c max range e              the same of the old chip
use Rattle.std.specs.Prelude.{ℕ, min, max, cond, ◌==◌, Ok, Err, Result, count_ones}
use Rattle.dividers.specs.declared.ConfigError.{ConfigError}
use Rattle.dividers.specs.declared.ConfigError.TheVariants.{ChannelsOutOfRange, WsWidthOutOfRange, FrameTooLong, RateOutOfRange, ClockOutOfReach}
use Rattle.dividers.specs.declared.DividerRange.{DividerRange}
use Rattle.dividers.specs.declared.I2sClockDividers.{I2sClockDividers}
use Rattle.dividers.specs.Answers.{answer_of}
use Rattle.dividers.specs.Clock.{bclk_of, mclk_of, within_range}
use Rattle.old_setups.specs.declared.Config.{Config}
use Rattle.setups.specs.declared.esp32c3.UnitConfig.{UnitConfig}
use Rattle.setups.specs.Check.{bits_of, frame_of, slots_of, ws_width_of}
use Rattle.old_setups.specs.Configs as OldConfigs
use Rattle.verdicts.specs.declared.fault.Fault.{Fault}
use Rattle.verdicts.specs.declared.fault.Fault.TheVariants.{NoneActive, Slots, WsWidth, Frame, NoRate, Clock, IntegerPart, Pair}

abbrev pub rate_fault : ℕ → ℕ → ℕ → Fault
rate_fault rate slots bits = cond (rate == 0) NoRate (Clock (max (mclk_of rate bits) (bclk_of rate slots bits)))

abbrev pub divider_fault : DividerRange → I2sClockDividers → Fault
divider_fault range d =
    cond (within_range d.mclk_divider range.least range.most) (Pair d.denominator d.numerator) (IntegerPart d.mclk_divider)

abbrev pub fault_by : DividerRange → Fault → Result I2sClockDividers ConfigError → Fault
fault_by range otherwise (Ok d) = divider_fault range d
fault_by range otherwise (Err e) = otherwise

abbrev pub clock_fault : ℕ → ℕ → ℕ → ℕ → DividerRange → Fault
clock_fault rate slots bits max range = fault_by range (rate_fault rate slots bits) (answer_of rate slots bits max)

abbrev pub channels_fault : UnitConfig → Fault
channels_fault u = cond (count_ones u.channels.mask == 0) NoneActive (Slots (slots_of u))

abbrev pub esp32c3_fault : UnitConfig → ℕ → DividerRange → ConfigError → Fault
esp32c3_fault u max range ChannelsOutOfRange = channels_fault u
esp32c3_fault u max range WsWidthOutOfRange = WsWidth (ws_width_of u) (min (frame_of u) 128)
esp32c3_fault u max range FrameTooLong = Frame (frame_of u)
esp32c3_fault u max range RateOutOfRange = rate_fault u.sample_rate.0 (slots_of u) (bits_of u)
esp32c3_fault u max range ClockOutOfReach = clock_fault u.sample_rate.0 (slots_of u) (bits_of u) max range

abbrev pub esp32_fault : Config → ℕ → DividerRange → ConfigError → Fault
esp32_fault c max range ClockOutOfReach = clock_fault c.sample_rate.0 2 (OldConfigs.bits_of c) max range
esp32_fault c max range _ = rate_fault c.sample_rate.0 2 (OldConfigs.bits_of c)
