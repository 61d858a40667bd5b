use Rattle.std.proofs.Common.{◌≡◌, ◌≤◌, drop, length}
use Rattle.chips.specs.Puts.{puts_common, puts_rx, puts_tx}
use Rattle.chips.proofs.puts.put_row.Given as goal

-- what is left of the row makes, from here, what the whole row makes from the start
abbrev pub invariant-loop-field : goal.invariant-loop-field
invariant-loop-field g l =
    let left = drop l.field-index l.row in
    record {
      inside : l.field-index ≤ length l.row;
      tx_left : puts_tx left (g.B.RegBlock.tx l.block) ≡ puts_tx l.row (g.B.RegBlock.tx l.initial.block);
      rx_left : puts_rx left (g.B.RegBlock.rx l.block) ≡ puts_rx l.row (g.B.RegBlock.rx l.initial.block);
      common_left : puts_common left (g.B.RegBlock.common l.block) ≡ puts_common l.row (g.B.RegBlock.common l.initial.block);
    }
