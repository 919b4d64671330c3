-- What lists and parts of statements weigh, as the functions that weigh them see them.
use Rattle.std.specs.Prelude.{ℕ, ◌≡◌, Bool, true, false, if◌then◌else◌, eqb, bytes_eq, List, sum_by, slice_get, Option, Some, None, IfSome}
use Rattle.std.specs.List.{All}
use Rattle.joint_ir.specs.declared.bounds.Bounds.{Bounds}
use Rattle.joint_ir.specs.declared.bounds.Limit.{Limit}
use Rattle.joint_ir.specs.declared.program.CProgram.{CProgram}
use Rattle.joint_ir.specs.declared.program.Function.{Function}
use Rattle.joint_ir.specs.declared.program.Prop.{Prop}
use Rattle.joint_ir.specs.declared.stmt.Group.{Group}
use Rattle.joint_ir.specs.declared.stmt.TStmt.{TStmt}
use Rattle.joint_ir.specs.declared.weighing.stmts.Scale.{Scale}
use Rattle.joint_ir.specs.Statements.{is_recursion, recursion_prop}
use Rattle.joint_ir.specs.Steps.{Setting}
use Rattle.joint_ir.specs.Weights.{CallWeights, weight, group_weight, calls_weight}

-- a property is a `recursion` with the name of a function
abbrev pub is_recursion_of : Function → Option Prop → Bool
is_recursion_of fn None = false
is_recursion_of fn (Some prop) = if is_recursion prop.kind then bytes_eq prop.function fn.name else false

-- a limit is of such a property
abbrev pub names_function : CProgram → Function → Limit → Bool
names_function p fn limit = is_recursion_of fn (slice_get p.props limit.prop.0)

-- of all limits, those of a function's own property are the ones of a `recursion` with its name
abbrev pub HasPlainLimit : CProgram → Bounds → Function → Type 0
HasPlainLimit p b fn = All (λ limit. names_function p fn limit ≡ eqb limit.prop.0 (recursion_prop p fn).0) b.limits

-- it is so for each function with a body
abbrev pub HavePlainLimits : CProgram → Bounds → Type 0
HavePlainLimits p b = All (λ fn. IfSome fn.body (λ body. HasPlainLimit p b fn)) p.functions

-- where a limit is told by name alone, it is so
abbrev pub IsPlain : Scale → Type 0
IsPlain a = a.plain ≡ true → HavePlainLimits a.pair.now.program a.bounds.now

-- where a statement is weighed, as a setting
abbrev pub setting_of : Scale → Setting
setting_of a = record { pair = a.pair.now; bounds = a.bounds.now; here = a.here }

-- what calls weigh there, where the functions in `standing` have activations
abbrev pub calls_of : Scale → (standing : List ℕ) → CallWeights
calls_of a standing = calls_weight a.pair.now a.bounds.now a.left standing

-- statements one after another
abbrev pub stmts_weight : Setting → CallWeights → List TStmt → ℕ
stmts_weight k calls items = sum_by (λ s. weight k calls s.node) items

-- a statement that may be left out
abbrev pub option_stmt_weight : Setting → CallWeights → Option TStmt → ℕ
option_stmt_weight k calls None = 0
option_stmt_weight k calls (Some s) = weight k calls s.node

-- the groups of a `switch` over a type of w bits
abbrev pub groups_of_weight : Setting → CallWeights → (w : ℕ) → List Group → ℕ
groups_of_weight k calls w groups = sum_by (group_weight k calls w) groups
