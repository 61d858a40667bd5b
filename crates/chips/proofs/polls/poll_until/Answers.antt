use Rattle.std.proofs.Common.{◌≡◌, ℕ, ◌+◌, ◌-◌, Some, sym, refl, ap, ◌∙◌}
use Rattle.marks.specs.declared.Marks.{Marks}
use Rattle.chips.specs.Polls.{first_found, side_of}
use Rattle.chips.proofs.Turns.{found, passed, polled_marks, rx_found, rx_passed, tx_found, tx_passed}
use Rattle.chips.proofs.polls.poll_until.Goals as goal

pub returns-then-poll-clause-answer : goal.returns-then-poll-clause-answer
returns-then-poll-clause-answer g c =
    ap (λ (n : ℕ). Some (n + 1)) c.from.ensures
    ∙ sym (found c.args.awaited c.args.allowance c.loop-made.made _ c.loop-made-test.true (sym c.poll.ensures.answer ∙ c.if-poll.true))
    ∙ c.loop-made.invariant.count

pub returns-then-poll-clause-tx : goal.returns-then-poll-clause-tx
returns-then-poll-clause-tx g c =
    c.poll.ensures.tx
    ∙ sym (tx_found (g.B.RegBlock.tx c.loop-made.block) (g.B.RegBlock.rx c.loop-made.block) (side_of c.args.awaited) c.args.awaited c.args.allowance c.loop-made.made c.loop-made-test.true (sym c.poll.ensures.answer ∙ c.if-poll.true))
    ∙ c.loop-made.invariant.tx_left

pub returns-then-poll-clause-rx : goal.returns-then-poll-clause-rx
returns-then-poll-clause-rx g c =
    c.poll.ensures.rx
    ∙ sym (rx_found (g.B.RegBlock.tx c.loop-made.block) (g.B.RegBlock.rx c.loop-made.block) (side_of c.args.awaited) c.args.awaited c.args.allowance c.loop-made.made c.loop-made-test.true (sym c.poll.ensures.answer ∙ c.if-poll.true))
    ∙ c.loop-made.invariant.rx_left

pub loop-made-preserved : goal.loop-made-preserved
loop-made-preserved g c =
    let t = g.B.RegBlock.tx c.loop-made.block in
    let r = g.B.RegBlock.rx c.loop-made.block in
    let a = c.args.awaited in
    let s = side_of a in
    let n = c.args.allowance in
    let k = c.loop-made.made in
    let more = c.loop-made-test.true in
    let p = c.poll.ensures in
    let i = c.loop-made.invariant in
    let missed = sym p.answer ∙ c.if-poll.false in
    record {
      same = refl;
      count = ap (λ (m : Marks). first_found a (n - (k + 1)) (k + 1) m) (polled_marks t r s _ _ _ p.tx p.rx) ∙ sym (passed a n k _ more missed) ∙ i.count;
      tx_left = tx_passed t r s a n k more _ p.tx missed ∙ i.tx_left;
      rx_left = rx_passed t r s a n k more _ p.rx missed ∙ i.rx_left;
      common_kept = p.common ∙ i.common_kept;
    }
