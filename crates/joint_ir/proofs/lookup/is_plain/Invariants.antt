use Rattle.std.proofs.Common.{◌≡◌, ◌<◌, ℕ, eqb, get_or}
use Rattle.joint_ir.specs.declared.bounds.Limit.{Limit}
use Rattle.joint_ir.specs.Statements.{recursion_prop}
use Rattle.joint_ir.specs.Weighed.{names_function}
use Rattle.joint_ir.proofs.lookup.is_plain.Given as goal

abbrev pub invariant-loop-limit : goal.invariant-loop-limit
invariant-loop-limit l =
    (k : ℕ) (d : Limit) → k < l.limit-index →
    names_function l.program l.function (get_or l.bounds.limits k d) ≡ eqb (get_or l.bounds.limits k d).prop.0 (recursion_prop l.program l.function).0
