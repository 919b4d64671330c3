use Rattle.std.proofs.Common.{◌<◌, ℕ, get_or}
use Rattle.std.specs.Prelude.{IfSome}
use Rattle.joint_ir.specs.declared.program.Function.{Function}
use Rattle.joint_ir.specs.Weighed.{HasPlainLimit}
use Rattle.joint_ir.proofs.lookup.are_plain.Given as goal

abbrev pub invariant-loop-function : goal.invariant-loop-function
invariant-loop-function l =
    (k : ℕ) (d : Function) → k < l.function-index →
    IfSome (get_or l.program.functions k d).body (λ body. HasPlainLimit l.program l.bounds (get_or l.program.functions k d))
