-- The settled figures, computed. Assumes nothing.
use lib.Count.{ones}
use Rattle.std.proofs.Common.{refl}
use Rattle.fractions.specs.Settled.{Settled}

pub settled : Settled
unfolding ones
settled = record { new_figures_are = refl; old_figures_are = refl; new_rates_pass = refl; old_rates_pass = refl; new_limits_are = refl; old_limits_are = refl; frames_are = refl }
