use Rattle.tables.proofs.Landing.{common_put, rx_put, tx_put}
use Rattle.tables.proofs.plain.Plain.put.Goals as goal

-- the lemmas take four facts each, which the search does not bring together
pub returns-clause-tx : goal.returns-clause-tx
returns-clause-tx g c =
    let e = c.put_and_draw.ensures in
    tx_put c.args.field c.args.value _ _ e.sized e.table c.args.self.now.tx _ (g.T.Draws.to_come c.args.tx.now) _ e.tx e.tx_draws

pub returns-clause-rx : goal.returns-clause-rx
returns-clause-rx g c =
    let e = c.put_and_draw.ensures in
    rx_put c.args.field c.args.value _ _ e.sized e.table c.args.self.now.rx _ (g.R.Draws.to_come c.args.rx.now) _ e.rx e.rx_draws

pub returns-clause-common : goal.returns-clause-common
returns-clause-common g c = let e = c.put_and_draw.ensures in common_put c.args.field c.args.value _ _ e.sized e.table
