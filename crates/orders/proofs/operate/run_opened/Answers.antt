use Rattle.std.proofs.Common.{sym, ◌∙◌}
use Rattle.calls.proofs.Law.{order_laws}
use Rattle.orders.proofs.operate.run_opened.Goals as goal

pub returns-clause-laws : goal.returns-clause-laws
returns-clause-laws g c =
    let of = g.met.C.RegisterAccessPrivate in
    let a = g.C.RegisterAccessPrivate in
    let o = c.in-Ok-open.ensures in
    let same = c.make_all-ran.ensures.common in
    order_laws _ _ _ a.own_events _ _ _ c.args.calls.now _ _ _ (of.tx_divides _) (of.rx_divides _)
    ((λ i. a.tx_divider (sym o.leaves.of_tx i).fields (same i)) ∙ o.tx_divider)
    ((λ i. a.rx_divider (sym o.leaves.of_rx i).fields (same i)) ∙ o.rx_divider)
