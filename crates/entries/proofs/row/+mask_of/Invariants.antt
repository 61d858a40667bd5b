use Rattle.std.proofs.Common.{length}
use Rattle.entries.proofs.row.+mask_of.Given as goal

abbrev pub decreases-mask_of : goal.decreases-mask_of
decreases-mask_of l = length l.digits.now
