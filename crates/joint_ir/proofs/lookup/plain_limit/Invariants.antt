use Rattle.std.proofs.Common.{◌≡◌, drop, eqb}
use Rattle.std.specs.List.{find}
use Rattle.joint_ir.specs.Statements.{recursion_prop}
use Rattle.joint_ir.proofs.lookup.plain_limit.Given as goal

abbrev pub invariant-loop-limit : goal.invariant-loop-limit
invariant-loop-limit l =
    find (λ x. eqb x.prop.0 (recursion_prop l.program l.function).0) l.bounds.limits
    ≡ find (λ x. eqb x.prop.0 (recursion_prop l.program l.function).0) (drop l.limit-index l.bounds.limits)
