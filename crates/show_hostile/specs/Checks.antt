-- The program with many assertions and a function that calls itself twice.
use Rattle.std.specs.Prelude.{ℕ, zero, suc, List, [], ◌∷◌, ◌++◌, None}
use Rattle.joint_ir.specs.declared.program.CProgram.{CProgram}
use Rattle.joint_ir.specs.declared.program.Prop.{Prop}
use Rattle.joint_ir.specs.declared.program.PropKind.TheVariants as kind
use Rattle.joint_ir.specs.declared.stmt.SNode.{Assert, Block, Call}
use Rattle.joint_ir.specs.declared.stmt.TStmt.{TStmt}
use Rattle.show_hostile.specs.Nests.{stmt_of, number_of, prop, call_of, main_name, main_of, f_of, var_of, properties_of}

-- `assert(1);` with its property
abbrev pub assertion_of : ℕ → TStmt
assertion_of k = stmt_of (Assert (number_of 1) (prop k))

-- n assertions, whose properties stand one after another
abbrev pub assertions : (first n : ℕ) → List TStmt
assertions first zero = []
assertions first (suc n) = assertion_of first ∷ assertions (suc first) n

-- the property of the k-th assertion of `main`
abbrev pub check_of : ℕ → Prop
check_of k = record { function = main_name; kind = kind.Assertion; number = k; line = 1 }

-- the properties of n assertions
abbrev pub checks : (first n : ℕ) → List Prop
checks first zero = []
checks first (suc n) = check_of first ∷ checks (suc first) n

-- `f(1);`
abbrev pub call_stmt : TStmt
call_stmt = stmt_of (Call (call_of (number_of 1)))

-- n assertions and then a call of `f`
abbrev pub asserting_body : ℕ → List TStmt
asserting_body n = assertions 3 n ++ (call_stmt ∷ [])

-- `{ f(1); f(1); }`
abbrev pub twice_of : TStmt
twice_of = stmt_of (Block (call_stmt ∷ call_stmt ∷ []))

-- `main` with n assertions and a call of `f`, which calls itself twice
abbrev pub asserting_of : ℕ → CProgram
asserting_of n = record {
  functions = main_of (stmt_of (Block (asserting_body n))) ∷ f_of twice_of ∷ [];
  globals = [];
  locals = var_of (120 ∷ []) 0 ∷ [];
  mirror = None;
  props = properties_of ++ checks 1 n;
  main = 0;
}
