use Rattle.std.proofs.Common.{◌≡◌, ◌++◌}
use Rattle.joint_ir.specs.States.{copies}
use Rattle.joint_view.proofs.choices.push_copies.Given as goal

abbrev pub invariant-loop-k : goal.invariant-loop-k
invariant-loop-k l = l.widths ≡ l.initial.widths ++ copies l.k l.bits
