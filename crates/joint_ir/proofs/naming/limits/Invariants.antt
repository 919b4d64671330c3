use Rattle.std.proofs.Common.{◌≡◌, ◌++◌, drop}
use Rattle.std.specs.List.{flat_map}
use Rattle.joint_ir.specs.Naming.{limit_named}
use Rattle.joint_ir.proofs.naming.limits.Given as goal

abbrev pub invariant-loop-entry : goal.invariant-loop-entry
invariant-loop-entry l =
    flat_map (limit_named l.program.props) l.named_limits ≡ l.limits ++ flat_map (limit_named l.program.props) (drop l.entry-index l.named_limits)
