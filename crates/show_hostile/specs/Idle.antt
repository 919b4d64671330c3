-- The program with many arrays in a function that is never called, and many calls of an empty one.
use Rattle.std.specs.Prelude.{ℕ, zero, suc, List, [], ◌∷◌, Some, None}
use Rattle.joint_ir.specs.declared.program.CProgram.{CProgram}
use Rattle.joint_ir.specs.declared.program.Function.{Function}
use Rattle.joint_ir.specs.declared.program.Prop.{Prop}
use Rattle.joint_ir.specs.declared.program.PropKind.TheVariants as kind
use Rattle.joint_ir.specs.declared.program.Var.{Var}
use Rattle.joint_ir.specs.declared.stmt.SNode.{Block, Declare, Call}
use Rattle.joint_ir.specs.declared.stmt.TInit.TheVariants.{Free}
use Rattle.joint_ir.specs.declared.stmt.TStmt.{TStmt}
use Rattle.show_hostile.specs.Nests.{here, stmt_of, main_of, main_name, property_of, var_of}

-- a list of one item, n times
abbrev pub copies : {X : Type 0} → (n : ℕ) → X → List X
copies zero x = []
copies (suc n) x = x ∷ copies n x

-- `e();`
abbrev pub empty_call : TStmt
empty_call = stmt_of (Call (record { place = here; function = 1; args = [] }))

-- declarations of the n locals from one on
abbrev pub declares : (first n : ℕ) → List TStmt
declares first zero = []
declares first (suc n) = stmt_of (Declare first Free) ∷ declares (suc first) n

-- `int t[64];`
abbrev pub array : Var
array = var_of (116 ∷ []) 64

-- the names `e` and `g`
abbrev pub e_name : List ℕ
e_name = 101 ∷ []

-- the name of the function that is never called
abbrev pub g_name : List ℕ
g_name = 103 ∷ []

-- a function without parameters and without result
abbrev pub void_of : (name : List ℕ) → TStmt → Function
void_of name body = record { name = name; result = None; first = 0; params = 0; body = Some body }

-- `main` with m calls of `e`, which is empty, and `g` with n arrays
abbrev pub idle_functions : (arrays calls : ℕ) → List Function
idle_functions n m = main_of (stmt_of (Block (copies m empty_call))) ∷ void_of e_name (stmt_of (Block [])) ∷ void_of g_name (stmt_of (Block (declares 0 n))) ∷ []

-- for each function, that its activations stay within their limit
abbrev pub idle_properties : List Prop
idle_properties = property_of main_name kind.Recursion ∷ property_of e_name kind.Recursion ∷ property_of g_name kind.Recursion ∷ []

-- the program with n arrays in `g` and m calls of `e`
abbrev pub idle_of : (arrays calls : ℕ) → CProgram
idle_of n m = record {
  functions = idle_functions n m;
  globals = [];
  locals = copies n array;
  mirror = None;
  props = idle_properties;
  main = 0;
}
