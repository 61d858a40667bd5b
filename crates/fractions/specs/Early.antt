-- Set-ups refused before their clock's reach is looked at. Assumes nothing.
--     by_reach e    whether e is the refusal of the clock's reach
--     new_early u   the first of the refusals 1 to 4 that applies to a set-up of the new chip
--     old_early c   the same on the old chip, which has 4 alone
use Rattle.std.specs.Prelude.{Bool, true, false, None, Option}
use Rattle.dividers.specs.declared.ConfigError.{ConfigError}
use Rattle.dividers.specs.declared.ConfigError.TheVariants.{ChannelsOutOfRange, WsWidthOutOfRange, FrameTooLong, RateOutOfRange, ClockOutOfReach}
use Rattle.dividers.specs.Clock.{out_of_range}
use Rattle.old_setups.specs.declared.Config.{Config}
use Rattle.old_setups.specs.Configs.{bits_of}
use Rattle.setups.specs.declared.esp32c3.UnitConfig.{UnitConfig}
use Rattle.setups.specs.Check.{channels_wrong, frame_wrong, rate_wrong, ws_width_wrong}
use Rattle.setups.specs.Refused.{refused}

abbrev pub by_reach : ConfigError → Bool
by_reach ClockOutOfReach = true
by_reach ChannelsOutOfRange = false
by_reach WsWidthOutOfRange = false
by_reach FrameTooLong = false
by_reach RateOutOfRange = false

abbrev pub new_early : UnitConfig → Option ConfigError
new_early u =
    refused (channels_wrong u) ChannelsOutOfRange
    (refused (ws_width_wrong u) WsWidthOutOfRange (refused (frame_wrong u) FrameTooLong (refused (rate_wrong u) RateOutOfRange None)))

abbrev pub old_early : Config → Option ConfigError
old_early c = refused (out_of_range c.sample_rate.0 2 (bits_of c)) RateOutOfRange None
