use Rattle.std.proofs.Common.{◌≡◌, ◌≤◌, ◌++◌, drop, length, map}
use Rattle.std.specs.Vec.{vec_capacity, vec_len}
use Rattle.calls.specs.Runs.{both, end_of, heard, says_of}
use Rattle.steps.specs.Sides.{sides}
use Rattle.orders.proofs.run.make_all.Given as goal

-- what is left of the list answers and leaves, from here, what the whole list does from the start
abbrev pub invariant-loop-call : goal.invariant-loop-call
invariant-loop-call g l =
    let c = g.C.RegisterAccessPrivate in
    let b = g.C.RegBlock in
    let k = both c.tx_moves c.rx_moves c.refusal c.own_events in
    let here = sides l.tx l.rx (b.tx l.opened.chip) (b.rx l.opened.chip) in
    let start = sides l.initial.tx l.initial.rx (b.tx l.initial.opened.chip) (b.rx l.initial.opened.chip) in
    let left = drop l.call-index l.calls in
    record {
      inside : l.call-index ≤ length l.calls;
      said : map heard l.answers.items ++ says_of k left here ≡ says_of k l.calls start;
      ends : end_of k left here ≡ end_of k l.calls start;
      common_kept : b.common l.opened.chip ≡ b.common l.initial.opened.chip;
      counted : vec_len l.answers ≡ l.call-index;
      room : length l.calls ≤ vec_capacity l.answers;
    }
