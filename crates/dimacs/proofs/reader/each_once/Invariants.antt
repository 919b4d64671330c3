use Rattle.std.proofs.Common.{◌≡◌, take}
use Rattle.clause_arena.specs.declared.Lit.{Lit}
use Rattle.clause_arena.specs.Clause.{has, IsEachOnce}
use Rattle.dimacs.proofs.reader.each_once.Given as goal

abbrev pub invariant-loop-l : goal.invariant-loop-l
invariant-loop-l l = ((m : Lit) → has l.out.items m ≡ has (take l.l-index l.lits) m) × IsEachOnce l.out.items
