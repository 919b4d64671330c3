use Rattle.std.proofs.Common.{◌≡◌, ◌<◌, ℕ, length, false}
use Rattle.clause_arena.specs.Clause.{has, lit}
use Rattle.cdcl.specs.Answer.{assignment}
use Rattle.cdcl.proofs.turn.model_of.Given as goal

abbrev pub invariant-loop-var : goal.invariant-loop-var
invariant-loop-var l = record {
  size : length l.bits ≡ l.var;
  values : (v : ℕ) → v < l.var → assignment l.bits v ≡ has l.trail.lits.items (lit false v);
}
