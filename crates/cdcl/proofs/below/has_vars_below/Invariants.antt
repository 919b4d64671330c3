use Rattle.std.proofs.Common.{◌≡◌, ◌<◌, ℕ, true}
use Rattle.std.specs.Option.{ForSome}
use Rattle.clause_arena.specs.Clause.{clause_at, is_below}
use Rattle.cdcl.proofs.below.has_vars_below.Given as goal

abbrev pub invariant-loop-i : goal.invariant-loop-i
invariant-loop-i l = (k : ℕ) → k < l.i → ForSome (clause_at l.arena.clauses k) (λ c. is_below l.vars c ≡ true)
