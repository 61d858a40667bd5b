use Rattle.esp32.specs.Laws.{rx_settles, tx_settles}
use Rattle.esp32.proofs.chip.Esp32RegisterAccessPrivate.configure.Goals as goal

-- named on the function, the lemmas are not found
pub returns-clause-tx_divider : goal.returns-clause-tx_divider
returns-clause-tx_divider g c =
    let o = c.args.opening.now in
    let e = c.configure.ensures in
    tx_settles o.tx.numbers o.rx.numbers o.numbers o.config (g.B.RegBlock.tx c.args.self.now.block) _ (g.B.RegBlock.common c.args.self.now.block) _ o.passed o.numbers_are e.tx e.common

pub returns-clause-rx_divider : goal.returns-clause-rx_divider
returns-clause-rx_divider g c =
    let o = c.args.opening.now in
    let e = c.configure.ensures in
    rx_settles o.tx.numbers o.rx.numbers o.numbers o.config (g.B.RegBlock.rx c.args.self.now.block) _ (g.B.RegBlock.common c.args.self.now.block) _ o.passed o.numbers_are e.rx e.common
