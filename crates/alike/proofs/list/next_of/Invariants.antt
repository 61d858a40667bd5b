use Rattle.std.proofs.Common.{◌≡◌, drop, length}
use Rattle.calls.specs.Runs.{picked}
use Rattle.alike.specs.Of.{call_of}
use Rattle.alike.proofs.list.next_of.Given as goal

-- none of the calls before the place is the unit's
abbrev pub invariant-loop-place : goal.invariant-loop-place
invariant-loop-place g l =
    record {
      end : l.place-end ≡ length l.calls;
      passed : picked (call_of l.unit) (drop l.from l.calls) ≡ picked (call_of l.unit) (drop l.place l.calls);
    }
