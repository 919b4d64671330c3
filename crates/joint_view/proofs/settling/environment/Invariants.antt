use Rattle.std.proofs.Common.{◌≡◌, ◌++◌, drop}
use Rattle.joint_ir.specs.Views.{worded}
use Rattle.joint_view.proofs.settling.environment.Given as goal

abbrev pub invariant-loop-k : goal.invariant-loop-k
invariant-loop-k l = l.env ++ worded (drop l.k l.terms.vars) (drop l.k l.numbers) ≡ worded l.terms.vars l.numbers
