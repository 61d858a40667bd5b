-- Set-ups refused. Assumes nothing.
--     RefusedNew max range u r, RefusedOld max range c r  r is the first refusal that applies, with what is out of range
use Rattle.std.specs.Prelude.{◌≡◌, ℕ, Some}
use Rattle.dividers.specs.declared.DividerRange.{DividerRange}
use Rattle.old_setups.specs.declared.Config.{Config}
use Rattle.old_setups.specs.Configs as OldConfigs
use Rattle.setups.specs.declared.esp32c3.UnitConfig.{UnitConfig}
use Rattle.setups.specs.Check.{refusal_of}
use Rattle.verdicts.specs.declared.verdict.Refused.{Refused}
use Rattle.verdicts.specs.Faults.{esp32_fault, esp32c3_fault}

pub record RefusedNew (max : ℕ) (range : DividerRange) (u : UnitConfig) (r : Refused) : Type 0 where
  pub error : refusal_of max range u ≡ Some r.error
  pub fault : r.fault ≡ esp32c3_fault u max range r.error

pub record RefusedOld (max : ℕ) (range : DividerRange) (c : Config) (r : Refused) : Type 0 where
  pub error : OldConfigs.refusal_of range c ≡ Some r.error
  pub fault : r.fault ≡ esp32_fault c max range r.error
