-- A start and a wait joined in one call. Assumes nothing.
--     joined a b n        the answer, where the start answered a, the wait b, and n polls were allowed to the wait
--     joined_says k len n m s
--                         the answer on the side s of a start of len bytes with n polls allowed, and a wait with m polls allowed
--     joined_next k len n m s
--                         the side after both
-- After a refused start the unit is at rest and takes no wait, so that nothing more is done.
use Rattle.std.specs.Prelude.{ℕ, ◌+◌, [], ◌∷◌}
use Rattle.errors.specs.Refusals.{timed_out}
use Rattle.calls.specs.declared.call.UnitCall.TheVariants.{Start, Wait}
use Rattle.calls.specs.Rules.{Rules}
use Rattle.calls.specs.Runs.{after}
use Rattle.calls.specs.Steps.{done, next, not_taken, polled, refused, Said, says, Side}

-- the polls are counted together
abbrev pub counted : ℕ → ℕ → Said → Said
counted n s (polled p) = polled (s + p)
counted n s (refused r) = refused (timed_out (s + n))
counted n s done = done
counted n s not_taken = not_taken

abbrev pub joined : Said → Said → ℕ → Said
joined (polled s) b n = counted n s b
joined (refused r) b n = refused r
joined done b n = done
joined not_taken b n = not_taken

module _ {F U D : Type 0} (k : Rules F U D) where
  abbrev pub joined_says : ℕ → ℕ → ℕ → Side F D → Said
  joined_says len n m s = joined (says k (Start len n) s) (says k (Wait m) (next k (Start len n) s)) m

  abbrev pub joined_next : ℕ → ℕ → ℕ → Side F D → Side F D
  joined_next len n m s = after (next k) (Start len n ∷ Wait m ∷ []) s
