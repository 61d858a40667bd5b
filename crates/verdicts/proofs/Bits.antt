-- A slot of the old chip has bits. Assumes nothing.
use Rattle.std.proofs.Common.{◌≡◌, ℕ, ◌<◌, arith}
use Rattle.old_setups.specs.declared.DataFormat.{DataFormat}
use Rattle.old_setups.specs.declared.DataFormat.TheVariants.{Data32Channel32, Data16Channel16}
use Rattle.old_setups.specs.Units.{data_bits_of}

some : (f : DataFormat) → 0 < data_bits_of f
some Data32Channel32 = omega arith
some Data16Channel16 = omega arith

pub some_bits : (n : ℕ) (f : DataFormat) → n ≡ data_bits_of f → 0 < n
some_bits n f e = rw e (some f)
