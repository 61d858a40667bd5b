use Rattle.std.proofs.Common.{◌≡◌, ◌≤◌, drop, length}
use Rattle.calls.specs.Runs.{picked}
use Rattle.alike.specs.Of.{call_of}
use Rattle.alike.proofs.list.same_of.Given as goal

-- what is left of both lists is the same exactly where the lists are
abbrev pub invariant-loop-call : goal.invariant-loop-call
invariant-loop-call g l =
    let mine = call_of l.unit in
    let left = picked mine (drop l.call-index l.calls) ≡ picked mine (drop l.from l.other) in
    let whole = picked mine l.calls ≡ picked mine l.other in
    record { inside : l.call-index ≤ length l.calls; there : left → whole; back : whole → left }
