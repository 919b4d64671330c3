use Rattle.std.proofs.Common.{take}
use Rattle.clause_arena.specs.Clause.{IsEachOnce}
use Rattle.show_log.proofs.making.is_each_once.Given as goal

abbrev pub invariant-loop-i : goal.invariant-loop-i
invariant-loop-i l = IsEachOnce (take l.i l.lits)
