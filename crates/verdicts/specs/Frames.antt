-- A frame of a unit and its marks. Assumes nothing.
--     ShowsNew u frame     the frame is that of a set-up of the new chip
--     ShowsOld c frame     the frame is that of a set-up of the old chip
--     slot_begun frame b   the number of the slot that begins with bit b, if one does
--     is_active frame s    whether a slot is active; here slots count from 0
--     data_mark frame b    the mark of a bit of the data line: # in an active slot, . in any other
--     is_high frame b      whether word select is high
--     ws_mark frame b      the mark of a bit of word select: - where it is high, _ where it is low
use Rattle.std.specs.Prelude.{◌≡◌, ℕ, ◌+◌, ◌*◌, ◌/◌, ◌%◌, ◌^◌, Bool, cond, not, ◌&&◌, Some, None, Option, ◌==◌, nat_lt}
use Rattle.verdicts.specs.declared.frame.Frame.{Frame}
use Rattle.old_setups.specs.declared.Channels as Old
use Rattle.old_setups.specs.declared.Channels.TheVariants.{Stereo, Mono, Left, Right}
use Rattle.old_setups.specs.declared.Config.{Config}
use Rattle.old_setups.specs.declared.WsWidth as OldWidth
use Rattle.old_setups.specs.declared.WsWidth.TheVariants.{HalfFrame, Bit}
use Rattle.setups.specs.declared.esp32c3.UnitConfig.{UnitConfig}
use Rattle.setups.specs.declared.Polarity.{Polarity}
use Rattle.setups.specs.declared.Polarity.TheVariants.{ActiveHigh, ActiveLow}
use Rattle.setups.specs.Check.{ws_width_of}
use Rattle.setups.specs.Formats.{data_bits_of}
use Rattle.old_setups.specs.Units as OldUnits

pub record ShowsNew (u : UnitConfig) (frame : Frame) : Type 0 where
  pub slots : frame.slots ≡ u.channels.count
  pub slot_bits : frame.slot_bits ≡ data_bits_of u.data_format
  pub active : frame.active ≡ u.channels.mask
  pub ws_width : frame.ws_width ≡ ws_width_of u
  pub ws_polarity : frame.ws_polarity ≡ u.ws_polarity

-- both slots, the first, the second
abbrev pub active_of : Old.Channels → ℕ
active_of Stereo = 3
active_of Mono = 1
active_of Left = 1
active_of Right = 2

-- half of two slots is a slot
abbrev pub width_of : OldWidth.WsWidth → ℕ → ℕ
width_of HalfFrame bits = bits
width_of Bit bits = 1

pub record ShowsOld (c : Config) (frame : Frame) : Type 0 where
  pub slots : frame.slots ≡ 2
  pub slot_bits : frame.slot_bits ≡ OldUnits.data_bits_of c.data_format
  pub active : frame.active ≡ active_of c.tx_config.channels
  pub ws_width : frame.ws_width ≡ width_of c.tx_config.ws_width (OldUnits.data_bits_of c.data_format)
  pub ws_polarity : frame.ws_polarity ≡ c.tx_config.ws_polarity

abbrev pub slot_begun : Frame → ℕ → Option ℕ
slot_begun frame b =
    cond (nat_lt b (frame.slots * frame.slot_bits) && b % frame.slot_bits == 0) (Some (b / frame.slot_bits + 1)) None

abbrev pub is_active : Frame → ℕ → Bool
is_active frame slot = nat_lt slot 16 && (frame.active / 2 ^ slot) % 2 == 1

-- 35 is the code of #, 46 of .
abbrev pub data_mark : Frame → ℕ → ℕ
data_mark frame b = cond (is_active frame (b / frame.slot_bits)) 35 46

abbrev pub high_by : Polarity → Bool → Bool
high_by ActiveHigh active = active
high_by ActiveLow active = not active

-- word select is active from the first bit on, for its width
abbrev pub is_high : Frame → ℕ → Bool
is_high frame b = high_by frame.ws_polarity (nat_lt b frame.ws_width)

-- 45 is the code of -, 95 of _
abbrev pub ws_mark : Frame → ℕ → ℕ
ws_mark frame b = cond (is_high frame b) 45 95
