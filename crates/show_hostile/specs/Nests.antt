-- The programs that nest deeply: `int main(void) { f(1); }` and `int f(int x)`, whose body is a nest with a call of `f` inside.
use Rattle.std.specs.Prelude.{◌≡◌, ℕ, ◌<◌, false, pos, List, [], ◌∷◌, length, slice_get, Contains, Some, None, IsSome}
use Rattle.src_text.specs.declared.refusal.Place.{Place}
use Rattle.joint_ir.specs.declared.expr.Slot.TheVariants.{Local}
use Rattle.joint_ir.specs.declared.expr.TExpr.{TExpr}
use Rattle.joint_ir.specs.declared.expr.TNode.{TNode, Const}
use Rattle.joint_ir.specs.declared.module.FlatModule.{FlatModule}
use Rattle.joint_ir.specs.declared.pair.Pair.{Pair}
use Rattle.joint_ir.specs.declared.program.CProgram.{CProgram}
use Rattle.joint_ir.specs.declared.program.Function.{Function}
use Rattle.joint_ir.specs.declared.program.Prop.{Prop}
use Rattle.joint_ir.specs.declared.program.PropId.{PropId}
use Rattle.joint_ir.specs.declared.program.PropKind.{PropKind}
use Rattle.joint_ir.specs.declared.program.PropKind.TheVariants as kind
use Rattle.joint_ir.specs.declared.program.Var.{Var}
use Rattle.joint_ir.specs.declared.stmt.SNode.{SNode, Call}
use Rattle.joint_ir.specs.declared.stmt.TCall.{TCall}
use Rattle.joint_ir.specs.declared.stmt.TStmt.{TStmt}
use Rattle.joint_ir.specs.Types.{int}
use Rattle.joint_ir.specs.Steps.{slot_type}
use Rattle.joint_ir.specs.Weights.{slot_length}
use Rattle.joint_ir.specs.WellFormed.{Scope, IsProp, FitsAs, FitsStmt, declared_in}

-- each part stands on line 1
abbrev pub here : Place
here = record { line = 1; column = 1 }

-- an expression of type `int`
abbrev pub expr_of : TNode → TExpr
expr_of node = record { ty = int; place = here; node = node }

-- the constant n
abbrev pub number_of : ℕ → TExpr
number_of n = expr_of (Const (pos n))

-- a statement by its node
abbrev pub stmt_of : SNode → TStmt
stmt_of node = record { place = here; node = node }

-- the property of number i in the program's list
abbrev pub prop : ℕ → PropId
prop i = record { 0 = i }

-- `f(e)`
abbrev pub call_of : TExpr → TCall
call_of e = record { place = here; function = 1; args = e ∷ [] }

-- where `f` can be called, with what is seen there: it is the function 1 and the one whose body it is, its parameter is the
-- local 0, and each loop has the property 2
pub record CanCall (p : CProgram) (at : ℕ) (locals : List ℕ) : Type 0 where
  pub callee : (fn : Function) × (slice_get p.functions 1 ≡ Some fn) × (fn.first ≡ 0) × (fn.params ≡ 1) × IsSome fn.body × (fn.result ≡ Some int)
  pub own : at ≡ 1
  pub there : 0 < length p.locals
  pub type : slot_type p (Local 0) ≡ int
  pub scalar : slot_length p (Local 0) ≡ 0
  pub visible : Contains locals 0
  pub unwind : IsProp p kind.Unwind (prop 2)

-- a statement that fits wherever `f` can be called, and declares nothing
pub record IsNest (s : TStmt) : Type 0 where
  pub fits : (k : Scope) → CanCall k.program k.here k.locals → FitsStmt k s.node
  pub declares : declared_in s.node ≡ []

-- an expression of type `int` that fits anywhere
abbrev pub IsNumber : TExpr → Type 0
IsNumber e = (k : Scope) → FitsAs k int e

-- the names `main` and `f`
abbrev pub main_name : List ℕ
main_name = 109 ∷ 97 ∷ 105 ∷ 110 ∷ []

-- the name `f`
abbrev pub f_name : List ℕ
f_name = 102 ∷ []

-- `int main(void)` with this body
abbrev pub main_of : TStmt → Function
main_of body = record { name = main_name; result = Some int; first = 0; params = 0; body = Some body }

-- `int f(int x)` with this body, where `x` is the local 0
abbrev pub f_of : TStmt → Function
f_of body = record { name = f_name; result = Some int; first = 0; params = 1; body = Some body }

-- an object of type `int`, or an array of so many; 0 is for no array
abbrev pub var_of : (name : List ℕ) → (length : ℕ) → Var
var_of name n = record { name = name; ty = int; length = n; firsts = []; constant = false }

-- the first property of a kind in a function
abbrev pub property_of : (function : List ℕ) → PropKind → Prop
property_of name k = record { function = name; kind = k; number = 1; line = 1 }

-- the activations of `main` and of `f` stay within their limits, and so do the turns of loops in `f`
abbrev pub properties_of : List Prop
properties_of = property_of main_name kind.Recursion ∷ property_of f_name kind.Recursion ∷ property_of f_name kind.Unwind ∷ []

-- `int main(void) { f(1); }` and `int f(int x)` with this body
abbrev pub program_of : TStmt → CProgram
program_of body = record {
  functions = main_of (stmt_of (Call (call_of (number_of 1)))) ∷ f_of body ∷ [];
  globals = [];
  locals = var_of (120 ∷ []) 0 ∷ [];
  mirror = None;
  props = properties_of;
  main = 0;
}

-- a module of nothing
abbrev pub no_module_of : FlatModule
no_module_of = record {
  top = [];
  instances = [];
  signals = [];
  firsts = [];
  settle_terms = record { vars = []; terms = [] };
  settled = [];
  edge_terms = record { vars = []; terms = [] };
  next = [];
  settle_weight = 0;
  edge_weight = 0;
  settle_sites = [];
  edge_sites = [];
}

-- a program beside a module of nothing
abbrev pub pair_of : CProgram → Pair
pair_of p = record { program = p; «module» = no_module_of; binding = record { links = [] } }
