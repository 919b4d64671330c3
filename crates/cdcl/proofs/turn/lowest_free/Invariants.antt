use Rattle.std.proofs.Common.{◌≡◌, ◌<◌, ℕ, true, false}
use Rattle.clause_arena.specs.Clause.{lit}
use Rattle.res_log.specs.Partial.{is_free}
use Rattle.cdcl.proofs.turn.lowest_free.Given as goal

abbrev pub invariant-loop-var : goal.invariant-loop-var
invariant-loop-var l = (v : ℕ) → v < l.var → is_free l.trail.lits.items (lit true v) ≡ false
