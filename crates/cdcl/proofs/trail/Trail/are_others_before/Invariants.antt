use Rattle.std.proofs.Common.{◌≡◌, true, take}
use Rattle.clause_arena.specs.declared.Lit.{Lit}
use Rattle.clause_arena.specs.Clause.{has, opposite}
use Rattle.cdcl.proofs.trail.Trail.are_others_before.Given as goal

abbrev pub invariant-loop-l : goal.invariant-loop-l
invariant-loop-l l = (m : Lit) → has (take l.l-index l.clause) m ≡ true → (m.var ≡ l.var → ⊥) → has (take l.start l.self.lits.items) (opposite m) ≡ true
