use Rattle.std.proofs.Common.{◌++◌, take}
use Rattle.clause_arena.specs.Clause.{Clause, without}
use Rattle.res_log.specs.Marks.{Marks}
use Rattle.res_log.proofs.marks.MarkedClause.add_without.Given as goal

abbrev pub invariant-loop-lit : goal.invariant-loop-lit
invariant-loop-lit l = (c : Clause) → Marks l.fn.self c → Marks l.self (c ++ without l.var (take l.lit-index l.clause))
