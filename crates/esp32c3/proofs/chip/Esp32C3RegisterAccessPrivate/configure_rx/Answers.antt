use Rattle.esp32c3.specs.Laws.{rx_settles}
use Rattle.esp32c3.proofs.chip.Esp32C3RegisterAccessPrivate.configure_rx.Goals as goal

-- named on the function, the lemma is not found
pub returns-clause-divider : goal.returns-clause-divider
returns-clause-divider g c =
    let s = c.args.setup.now in
    rx_settles s.config s.numbers (g.B.RegBlock.rx c.args.self.now.block) _ (g.B.RegBlock.common c.configure_rx.new.block) s.passed s.numbers_are c.configure_rx.ensures.half
