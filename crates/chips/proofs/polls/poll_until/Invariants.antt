use Rattle.std.proofs.Common.{◌≡◌, ◌-◌, ◌≤◌}
use Rattle.fields.specs.declared.Side.TheVariants.{Receive, Transmit}
use Rattle.blocks.specs.Half.{marks_on, moved, upon}
use Rattle.chips.specs.Polls.{after_polls, first_found, side_of}
use Rattle.chips.proofs.polls.poll_until.Given as goal

-- what is still allowed finds and leaves, from here, what all that is allowed does from the start
abbrev pub invariant-loop-made : goal.invariant-loop-made
invariant-loop-made g l =
    let tx = g.B.RegBlock.tx in
    let rx = g.B.RegBlock.rx in
    let a = l.awaited in
    let s = side_of a in
    let b = l.block in
    let c = l.initial.block in
    record {
      same : a ≡ l.initial.awaited;
      count : first_found a (l.allowance - l.made) l.made (marks_on s (tx b) (rx b)) ≡ first_found a l.allowance 0 (marks_on s (tx c) (rx c));
      tx_left : moved (upon Transmit s (after_polls a (l.allowance - l.made))) (tx b) ≡ moved (upon Transmit s (after_polls a l.allowance)) (tx c);
      rx_left : moved (upon Receive s (after_polls a (l.allowance - l.made))) (rx b) ≡ moved (upon Receive s (after_polls a l.allowance)) (rx c);
      common_kept : g.B.RegBlock.common b ≡ g.B.RegBlock.common c;
    }
