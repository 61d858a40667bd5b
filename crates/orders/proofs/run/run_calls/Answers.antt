use Rattle.std.proofs.Common.{refl}
use Rattle.calls.proofs.Law.{order_laws}
use Rattle.orders.proofs.run.run_calls.Goals as goal

pub returns-in_default-clause-laws : goal.returns-in_default-clause-laws
returns-in_default-clause-laws g c =
    let of = g.met.C.RegisterAccessPrivate in
    let common = g.C.RegBlock.common c.args.opened.now.chip in
    order_laws _ _ _ g.C.RegisterAccessPrivate.own_events _ _ _ c.args.calls.now _ _ _ (of.tx_divides common) (of.rx_divides common) refl refl

pub returns-clause-laws : goal.returns-clause-laws
returns-clause-laws g c =
    let of = g.met.C.RegisterAccessPrivate in
    let common = g.C.RegBlock.common c.args.opened.now.chip in
    order_laws _ _ _ g.C.RegisterAccessPrivate.own_events _ _ _ c.args.calls.now _ _ _ (of.tx_divides common) (of.rx_divides common) refl refl
