-- Which statements are of forms that are unwound today. A form more is a line more of `stmt_is_made`.
use Rattle.std.specs.Prelude.{ℕ, nat_eq, Bool, true, false, ◌&&◌, if◌then◌else◌, List, [], ◌∷◌, Option, Some, None, slice_get}
use Rattle.joint_ir.specs.declared.ctype.IntType.{IntType}
use Rattle.joint_ir.specs.declared.program.CProgram.{CProgram}
use Rattle.joint_ir.specs.declared.program.Function.{Function}
use Rattle.joint_ir.specs.declared.stmt.Group.{Group, Group', out-Group}
use Rattle.joint_ir.specs.declared.stmt.SNode.{SNode, Block', Declare, Store, Update, Call, If', Loop, Switch', Break, Continue, Return, Assert, Assume, SetInputs, NextFrame, Row_of-TStmt, end_of-TStmt, more_of-TStmt, Held-SNode-If-2, None', Some', Row_of-Group, end_of-Group, more_of-Group}
use Rattle.joint_ir.specs.declared.stmt.TCall.{TCall}
use Rattle.joint_ir.specs.declared.stmt.TInit.{TInit}
use Rattle.joint_ir.specs.declared.stmt.TInit.TheVariants.{Free, Values, Called}
use Rattle.joint_ir.specs.declared.stmt.TLoop.{TLoop, TLoop'}
use Rattle.joint_ir.specs.declared.stmt.TStmt.{TStmt}
use Rattle.joint_ir.specs.declared.expr.TExpr.{TExpr}
use Rattle.joint_ir.specs.declared.expr.Slot.TheVariants.{Local}
use Rattle.joint_ir.specs.Weights.{slot_length}

-- one expression
abbrev pub is_one : List TExpr → Bool
is_one [] = false
is_one (e ∷ []) = true
is_one (e ∷ e' ∷ es) = false

-- a function that can be called: it has a body, or gives any number of its result's type
abbrev pub answers : Option TStmt → Option IntType → Bool
answers (Some body) result = true
answers None None = false
answers None (Some t) = true

abbrev pub is_answered : Option Function → Bool
is_answered None = false
is_answered (Some fn) = answers fn.body fn.result

-- a call that is a statement
abbrev pub call_is_made : CProgram → TCall → Bool
call_is_made p call = is_answered (slice_get p.functions call.function)

-- a function with a result
abbrev pub gives : Option IntType → Bool
gives None = false
gives (Some t) = true

abbrev pub is_given : Option Function → Bool
is_given None = false
is_given (Some fn) = gives fn.result

-- a call whose result is used
abbrev pub result_is_made : CProgram → TCall → Bool
result_is_made p call = is_given (slice_get p.functions call.function)

-- what an object is set to, or what is returned
abbrev pub init_is_made : CProgram → TInit → Bool
init_is_made p Free = true
init_is_made p (Values es) = is_one es
init_is_made p (Called call) = result_is_made p call

-- what a `return` gives, if anything
abbrev pub return_is_made : CProgram → Option TInit → Bool
return_is_made p None = true
return_is_made p (Some init) = init_is_made p init

-- what an array is set to
abbrev pub array_is_made : TInit → Bool
array_is_made Free = true
array_is_made (Values es) = true
array_is_made (Called call) = false

-- a declaration of a local
abbrev pub declare_is_made : CProgram → ℕ → TInit → Bool
declare_is_made p x init = if nat_eq (slot_length p (Local x)) 0 then init_is_made p init else array_is_made init

-- a statement, with all that stands in it
abbrev mutual
  pub stmt_is_made : CProgram → SNode → Bool
  stmt_is_made p (Block' _ row) = row_is_made p row
  stmt_is_made p (Declare x init) = declare_is_made p x init
  stmt_is_made p (Store target init) = init_is_made p init
  stmt_is_made p (Update target u) = true
  stmt_is_made p (Call call) = call_is_made p call
  stmt_is_made p (If' e _ (more_of-TStmt q a _) other) = stmt_is_made p a && other_is_made p other
  stmt_is_made p (Loop loop) = loop_is_made p loop
  stmt_is_made p (Switch' e _ groups) = groups_are_made p groups
  stmt_is_made p Break = true
  stmt_is_made p Continue = true
  stmt_is_made p (Return init) = return_is_made p init
  stmt_is_made p (Assert e prop) = true
  stmt_is_made p (Assume e) = true
  stmt_is_made p SetInputs = true
  stmt_is_made p (NextFrame prop) = true

  -- statements one after another
  pub row_is_made : {m : _} → CProgram → Row_of-TStmt m → Bool
  row_is_made p end_of-TStmt = true
  row_is_made p (more_of-TStmt q a rest) = stmt_is_made p a && row_is_made p rest

  -- the `else` part of an `if`, or the last part of a `for`, if there is one
  pub other_is_made : CProgram → Held-SNode-If-2 → Bool
  other_is_made p None' = true
  other_is_made p (Some' _ (more_of-TStmt q a _)) = stmt_is_made p a

  -- the groups of a `switch`
  pub groups_are_made : {m : _} → CProgram → Row_of-Group m → Bool
  groups_are_made p end_of-Group = true
  groups_are_made p (more_of-Group g rest) = group_is_made p g && groups_are_made p rest

  -- the statements of a group
  pub group_is_made : CProgram → Group → Bool
  group_is_made p (Group' labels _ row) = row_is_made p row

  -- the first part of a loop, its body and its last part
  pub loop_is_made : CProgram → TLoop → Bool
  loop_is_made p (TLoop' tests_first _ heads cond step _ (more_of-TStmt q body _) prop) = row_is_made p heads && (stmt_is_made p body && other_is_made p step)

-- statements, as a list
abbrev pub items_are_made : CProgram → List TStmt → Bool
items_are_made p [] = true
items_are_made p (x ∷ items) = stmt_is_made p x.node && items_are_made p items

-- groups of a `switch`, as a list
abbrev pub cases_are_made : CProgram → List Group → Bool
cases_are_made p [] = true
cases_are_made p (g ∷ groups) = items_are_made p (out-Group g).body && cases_are_made p groups

-- a statement that may be left out
abbrev pub option_is_made : CProgram → Option TStmt → Bool
option_is_made p None = true
option_is_made p (Some x) = stmt_is_made p x.node

-- the body of a function, if it has one
abbrev pub function_is_made : CProgram → Function → Bool
function_is_made p fn = option_is_made p fn.body

-- functions
abbrev pub functions_are_made : CProgram → List Function → Bool
functions_are_made p [] = true
functions_are_made p (fn ∷ fns) = function_is_made p fn && functions_are_made p fns

-- all functions of a program
abbrev pub program_is_made : CProgram → Bool
program_is_made p = functions_are_made p p.functions
