use Rattle.std.proofs.Common.{◌≡◌, drop, if◌then◌else◌, false}
use Rattle.std.specs.Prelude.{bytes_eq}
use Rattle.std.specs.List.{position_from}
use Rattle.joint_ir.specs.Statements.{is_recursion}
use Rattle.joint_ir.proofs.lookup.recursion.Given as goal

abbrev pub invariant-loop-i : goal.invariant-loop-i
invariant-loop-i l =
    position_from (λ x. if is_recursion x.kind then bytes_eq x.function l.function.name else false) 0 l.program.props
    ≡ position_from (λ x. if is_recursion x.kind then bytes_eq x.function l.function.name else false) l.i (drop l.i l.program.props)
