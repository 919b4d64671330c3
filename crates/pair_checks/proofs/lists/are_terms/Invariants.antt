use Rattle.std.proofs.Common.{take}
use Rattle.joint_ir.specs.WellFormed.{AreTerms}
use Rattle.pair_checks.proofs.lists.are_terms.Given as goal

abbrev pub invariant-loop-k : goal.invariant-loop-k
invariant-loop-k l = AreTerms l.terms (take l.k l.ids) (take l.k l.widths)
