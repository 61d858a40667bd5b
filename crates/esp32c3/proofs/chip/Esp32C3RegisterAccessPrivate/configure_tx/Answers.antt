use Rattle.esp32c3.specs.Laws.{tx_settles}
use Rattle.esp32c3.proofs.chip.Esp32C3RegisterAccessPrivate.configure_tx.Goals as goal

-- named on the function, the lemma is not found
pub returns-clause-divider : goal.returns-clause-divider
returns-clause-divider g c =
    let s = c.args.setup.now in
    tx_settles s.config s.numbers (g.B.RegBlock.tx c.args.self.now.block) _ (g.B.RegBlock.common c.configure_tx.new.block) s.passed s.numbers_are c.configure_tx.ensures.half
