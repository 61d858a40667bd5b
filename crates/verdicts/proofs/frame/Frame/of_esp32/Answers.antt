use Rattle.verdicts.proofs.Bits.{some_bits}
use Rattle.verdicts.proofs.frame.Frame.of_esp32.Goals as goal

pub invariant_of-result : goal.invariant_of-result
invariant_of-result c = record { some_bits = some_bits _ _ c.data_bits-slot_bits.ensures }
