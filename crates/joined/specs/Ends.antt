-- What a joined call gives back. Assumes nothing.
--     end_said r   its answer: the polls of start and wait, or the refusal
--     end_unit r   its unit: at rest once it is done, or as it was given back
use Rattle.std.specs.Prelude.{ℕ, Ok, Err, Result}
use Rattle.errors.specs.declared.Error.{Error}
use Rattle.errors.specs.Refusals.{refusal_of}
use Rattle.calls.specs.Steps.{polled, refused, Said}
use Rattle.units.specs.declared.Unit.{Unit}
use Rattle.units.specs.declared.Unit.TheVariants.{Resting}

module _ {R S : Type 0} where
  abbrev pub end_said : Result (R × ℕ) (Unit R S × Error) → Said
  end_said (Ok p) = polled p.1
  end_said (Err e) = refused (refusal_of e.1)

  abbrev pub end_unit : Result (R × ℕ) (Unit R S × Error) → Unit R S
  end_unit (Ok p) = Resting p.0
  end_unit (Err e) = e.0
