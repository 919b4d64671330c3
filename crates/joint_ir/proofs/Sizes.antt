-- The sizes of functions' bodies, for recursions that enter them.
use Rattle.std.proofs.Common.{ℕ, ◌+◌, ◌*◌, List}
use Rattle.std.specs.Prelude.{Option, Some, None}
use denote.Param.Weighed.{most}
use Rattle.joint_ir.specs.declared.program.Function.{Function}
use Rattle.joint_ir.specs.declared.stmt.TStmt.{TStmt, size-TStmt}

abbrev pub body_size : Option TStmt → ℕ
body_size None = 0
body_size (Some s) = size-TStmt s

-- more than three times the size of any function's body
abbrev pub stride : List Function → ℕ
stride functions = 3 * most (λ (f : Function). body_size f.body) functions + 4
