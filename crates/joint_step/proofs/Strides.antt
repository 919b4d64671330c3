-- A bound on what one activation adds to the measure of a walk.
use Rattle.std.proofs.Common.{ℕ, ◌+◌, ◌*◌, List}
use denote.Param.Weighed.{most}
use Rattle.joint_ir.specs.declared.program.Function.{Function}
use Rattle.joint_ir.proofs.Sizes.{body_size}

-- more than three times the size of any function's body, and more
abbrev pub stride : List Function → ℕ
stride functions = 3 * most (λ (f : Function). body_size f.body) functions + 6
