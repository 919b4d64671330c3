use Rattle.std.proofs.Common.{◌≡◌, true, false, take}
use Rattle.clause_arena.specs.declared.Lit.{Lit}
use Rattle.clause_arena.specs.Clause.{has, lit}
use Rattle.res_log.specs.Partial.{is_free}
use Rattle.cdcl.proofs.learn.asserted.Given as goal

abbrev pub invariant-loop-l : goal.invariant-loop-l
invariant-loop-l l = (m : Lit) → has (take l.l-index l.clause) m ≡ true → is_free l.trail.lits.items (lit true m.var) ≡ false
