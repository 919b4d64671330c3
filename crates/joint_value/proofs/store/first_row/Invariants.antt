use Rattle.std.proofs.Common.{◌≡◌}
use Rattle.joint_ir.specs.States.{filled_up}
use Rattle.joint_value.proofs.store.first_row.Given as goal

abbrev pub invariant-loop-k : goal.invariant-loop-k
invariant-loop-k l = l.row.items ≡ filled_up l.firsts l.k
