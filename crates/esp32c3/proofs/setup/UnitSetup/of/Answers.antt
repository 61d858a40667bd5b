use Rattle.std.proofs.Common.{sym, ◌∙◌, rules}
use Rattle.setups.specs.Check.{numbers_of}
use Rattle.esp32c3.specs.Laws.{numbers_at, refusal_at}
use Rattle.esp32c3.proofs.setup.UnitSetup.of.Goals as goal

pub returns-in_err-setup-clause-refused : goal.returns-in_err-setup-clause-refused
returns-in_err-setup-clause-refused c =
    let same = refusal_at c.esp32c3.result.max c.esp32c3.result.range c.args.config.now c.esp32c3.ensures.max c.esp32c3.ensures.range in
    search rules

pub invariant_of-result : goal.invariant_of-result
invariant_of-result c =
    let same = refusal_at c.esp32c3.result.max c.esp32c3.result.range c.args.config.now c.esp32c3.ensures.max c.esp32c3.ensures.range in
    let alike = numbers_at c.esp32c3.result.max c.args.config.now c.esp32c3.ensures.max in
    let p = c.in_ok-setup.ensures.checked in
    record { passed = sym same ∙ p.passes; numbers_are = c.numbers.ensures.numbers ∙ (λ i. numbers_of (p.max_is i) (p.config i)) ∙ alike }
