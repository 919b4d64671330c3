-- Small pairs. Each part stands on line 1.
use Rattle.std.specs.Prelude.{ℕ, zero, suc, true, pos, List, [], ◌∷◌, Some, None}
use Rattle.joint_ir.specs.declared.expr.BinaryOp.TheVariants as binary
use Rattle.joint_ir.specs.declared.expr.Slot.TheVariants.{Local, Member as InMirror}
use Rattle.joint_ir.specs.declared.expr.TExpr.{TExpr}
use Rattle.joint_ir.specs.declared.expr.TNode.{Const, Read, Index, Unary, Binary, Convert}
use Rattle.joint_ir.specs.declared.expr.UnaryOp.TheVariants as unary
use Rattle.joint_ir.specs.declared.module.FlatModule.{FlatModule}
use Rattle.joint_ir.specs.declared.pair.Pair.{Pair}
use Rattle.joint_ir.specs.declared.program.Function.{Function}
use Rattle.joint_ir.specs.declared.program.Prop.{Prop}
use Rattle.joint_ir.specs.declared.program.PropKind.{PropKind}
use Rattle.joint_ir.specs.declared.program.PropKind.TheVariants as kind
use Rattle.joint_ir.specs.declared.stmt.Group.{Group'}
use Rattle.joint_ir.specs.declared.stmt.Label.TheVariants.{Case, Default}
use Rattle.joint_ir.specs.declared.stmt.SNode.{SNode, Block, Declare, Store, Loop, Switch, Break, Return, Assert, Assume, SetInputs, NextFrame, end_of-TStmt, more_of-TStmt, None', Some'}
use Rattle.joint_ir.specs.declared.stmt.TLoop.{TLoop'}
use Rattle.joint_ir.specs.declared.program.Var.{Var}
use Rattle.joint_ir.specs.declared.stmt.TCall.{TCall}
use Rattle.joint_ir.specs.declared.stmt.TInit.TheVariants.{Free, Values, Called}
use Rattle.joint_ir.specs.Types.{int}
use Rattle.joint_laws.specs.Words.{here, byte, unsigned_int, prop, expr, stmt, stmts, number, local, member, sum, compare, target, declared, stored, stepped, var, int_var, nondet, main_of, property, properties, a_member, pair_of}
use Rattle.joint_laws.specs.Modules.{counter, enabled, memory}

-- a call of a function
abbrev call_of : ℕ → List TExpr → TCall
call_of f args = record { place = here; function = f; args = args }

-- so many locals of type `int`
abbrev pub ints : ℕ → List Var
ints zero = []
ints (suc n) = int_var ∷ ints n

-- a program beside the counter, with functions besides `main`
abbrev pub with_functions : List Function → (locals : ℕ) → List Prop → List SNode → Pair
with_functions functions n props body = pair_of (main_of body ∷ functions) (ints n) [] [] props counter

-- a program that doesn't look at the circuit
abbrev pub alone : (locals : ℕ) → List PropKind → List SNode → Pair
alone n kinds body = with_functions [] n (properties kinds) body

-- a program that sees the counter
abbrev pub seeing_counter : List PropKind → List SNode → Pair
seeing_counter kinds body = pair_of (main_of body ∷ []) [] (a_member 0 ∷ []) ((record { member = 0; signal = 1 }) ∷ []) (properties kinds) counter

-- `next_timeframe(); next_timeframe(); assert(counter.count == n);`
abbrev pub two_edges_to : ℕ → Pair
two_edges_to n = seeing_counter (kind.Frame ∷ kind.Frame ∷ kind.Assertion ∷ []) (
    NextFrame (prop 0) ∷ NextFrame (prop 1) ∷ Assert (compare binary.Eq (member 0) (number n)) (prop 2) ∷ [])

-- `int s = 0; for (int i = 0; i < 3; i++) s = s + i; assert(s == 3);`
abbrev pub summing : Pair
summing = alone 2 (kind.Overflow ∷ kind.Overflow ∷ kind.Unwind ∷ kind.Assertion ∷ []) (
    declared 0 (number 0)
    ∷ Loop (TLoop' true (tt ∷ []) (more_of-TStmt here (declared 1 (number 0)) end_of-TStmt)
    (Some (compare binary.Lt (local 1) (number 3)))
    (Some' _ (more_of-TStmt here (stepped 1 (prop 0)) end_of-TStmt))
    _ (more_of-TStmt here (stored 0 (sum (local 0) (local 1) (prop 1))) end_of-TStmt)
    (prop 2))
    ∷ Assert (compare binary.Eq (local 0) (number 3)) (prop 3) ∷ [])

-- `while (1) next_timeframe();`
abbrev pub endless : Pair
endless = seeing_counter (kind.Frame ∷ kind.Unwind ∷ []) (
    Loop (TLoop' true [] end_of-TStmt (Some (number 1)) None' _ (more_of-TStmt here (NextFrame (prop 0)) end_of-TStmt) (prop 1)) ∷ [])

-- `ce.enable = 0;`, perhaps `set_inputs();`, `next_timeframe(); assert(ce.count == 0);`
abbrev pub enabled_by : List SNode → Pair
enabled_by body = pair_of (main_of body ∷ []) []
    (a_member 0 ∷ a_member 0 ∷ []) ((record { member = 0; signal = 1 }) ∷ (record { member = 1; signal = 2 }) ∷ [])
    (properties (kind.Frame ∷ kind.Assertion ∷ [])) enabled

-- `ce.enable = 0;`
abbrev cleared : SNode
cleared = Store (target (InMirror 0)) (Values (expr byte (Convert (number 0)) ∷ []))

-- `assert(ce.count == 0);`
abbrev count_is_0 : SNode
count_is_0 = Assert (compare binary.Eq (member 1) (number 0)) (prop 1)

-- with `set_inputs();`
abbrev pub disabling : Pair
disabling = enabled_by (cleared ∷ SetInputs ∷ NextFrame (prop 0) ∷ count_is_0 ∷ [])

-- without `set_inputs();`
abbrev pub not_disabling : Pair
not_disabling = enabled_by (cleared ∷ NextFrame (prop 0) ∷ count_is_0 ∷ [])

-- `int x = nondet_int(); x = x + 1;` and the same of `unsigned`
abbrev pub adding_one : Pair
adding_one = with_functions (nondet int ∷ []) 1 (properties (kind.Overflow ∷ [])) (
    Declare 0 (Called (call_of 1 [])) ∷ stored 0 (sum (local 0) (number 1) (prop 0)) ∷ [])

-- `unsigned x = nondet_unsigned(); x = x + 1u;`
abbrev pub adding_one_unsigned : Pair
adding_one_unsigned = pair_of
    (main_of (Declare 0 (Called (call_of 1 []))
    ∷ stored 0 (expr unsigned_int (Binary binary.Add (expr unsigned_int (Read (Local 0))) (expr unsigned_int (Const (pos 1))) None None)) ∷ [])
    ∷ nondet unsigned_int ∷ []) (var unsigned_int 0 ∷ []) [] [] (properties []) counter

-- `int s = 32; int x = 1 << s;`
abbrev pub shifting : Pair
shifting = alone 2 (kind.Shift ∷ []) (
    declared 0 (number 32) ∷ declared 1 (expr int (Binary binary.Shl (number 1) (local 0) None (Some (prop 0)))) ∷ [])

-- `int z = 0; int x = 1 / z;`
abbrev pub dividing : Pair
dividing = alone 2 (kind.Division ∷ kind.Overflow ∷ []) (
    declared 0 (number 0) ∷ declared 1 (expr int (Binary binary.Div (number 1) (local 0) (Some (prop 0)) (Some (prop 1)))) ∷ [])

-- `int m = -2147483647 - 1; int q = m / -1;`, with the properties of overflow in the order of their operators
abbrev pub least_divided : Pair
least_divided = alone 2 (kind.Overflow ∷ kind.Overflow ∷ kind.Overflow ∷ kind.Overflow ∷ kind.Division ∷ []) (
    declared 0 (expr int (Binary binary.Sub (expr int (Unary unary.Minus (number 2147483647) (Some (prop 0)))) (number 1) None (Some (prop 1))))
    ∷ declared 1 (expr int (Binary binary.Div (local 0) (expr int (Unary unary.Minus (number 1) (Some (prop 3)))) (Some (prop 4)) (Some (prop 2)))) ∷ [])

-- `int t[4]; int y = t[4];`
abbrev pub past_the_end : Pair
past_the_end = pair_of (main_of (Declare 0 Free ∷ declared 1 (expr int (Index (Local 0) (number 4) (prop 0))) ∷ []) ∷ [])
    (var int 4 ∷ int_var ∷ []) [] [] (properties (kind.Bounds ∷ [])) counter

-- `int t[3] = {4, 5}; t[2] = t[0];`
abbrev pub filling : Pair
filling = pair_of (main_of (
    Declare 0 (Values (number 4 ∷ number 5 ∷ []))
    ∷ Store (record { place = here; slot = Local 0; index = Some (number 2); bounds = Some (prop 0) })
    (Values (expr int (Index (Local 0) (number 0) (prop 1)) ∷ [])) ∷ []) ∷ [])
    (var int 3 ∷ []) [] [] (properties (kind.Bounds ∷ kind.Bounds ∷ [])) counter

-- the properties of `main` and of a function `f`, whose name is one byte
abbrev two_recursions : List Prop
two_recursions = property kind.Recursion ∷ (record { function = 102 ∷ []; kind = kind.Recursion; number = 1; line = 1 }) ∷ []

-- `int f(int n) { int r = f(n); return r; }` and `int x = f(1);`
abbrev pub recursive : Pair
recursive = with_functions ((record {
  name = 102 ∷ [];
  result = Some int;
  first = 1;
  params = 1;
  body = Some (stmt (Block (stmts (Declare 2 (Called (call_of 1 (local 1 ∷ []))) ∷ Return (Some (Values (local 2 ∷ []))) ∷ []))));
}) ∷ []) 3 two_recursions (Declare 0 (Called (call_of 1 (number 1 ∷ []))) ∷ [])

-- `int f(void) { }` and `int x = f();`, where `f` comes to its end without a value
abbrev pub without_value : Pair
without_value = with_functions ((record { name = 102 ∷ []; result = Some int; first = 0; params = 0; body = Some (stmt (Block [])) }) ∷ []) 1 two_recursions
    (Declare 0 (Called (call_of 1 [])) ∷ [])

-- `__CPROVER_assume(0); assert(0);`
abbrev pub assuming : Pair
assuming = alone 0 (kind.Assertion ∷ []) (Assume (number 0) ∷ Assert (number 0) (prop 0) ∷ [])

-- `int x = 1; switch (x) { case 0: x = 10; case 1: x = 11; case 2: x = 12; break; default: x = 13; }`
abbrev pub falling_through : Pair
falling_through = alone 1 [] (
    declared 0 (number 1)
    ∷ Switch (local 0) (
    Group' (Case (pos 0) ∷ []) (tt ∷ []) (more_of-TStmt here (stored 0 (number 10)) end_of-TStmt)
    ∷ Group' (Case (pos 1) ∷ []) (tt ∷ []) (more_of-TStmt here (stored 0 (number 11)) end_of-TStmt)
    ∷ Group' (Case (pos 2) ∷ []) (tt ∷ tt ∷ []) (more_of-TStmt here (stored 0 (number 12)) (more_of-TStmt here Break end_of-TStmt))
    ∷ Group' (Default ∷ []) (tt ∷ []) (more_of-TStmt here (stored 0 (number 13)) end_of-TStmt) ∷ []) ∷ [])

-- an empty `main` beside a module
abbrev pub idle : FlatModule → Pair
idle m = pair_of (main_of [] ∷ []) [] [] [] (properties []) m

-- `mem.addr = 3; set_inputs(); assert(mem.ram[1] == 5); assert(mem.q == 0);`
abbrev pub reading_past_a_memory : Pair
reading_past_a_memory = pair_of (main_of (
    Store (target (InMirror 0)) (Values (expr byte (Convert (number 3)) ∷ []))
    ∷ SetInputs
    ∷ Assert (compare binary.Eq (expr int (Convert (expr byte (Index (InMirror 2) (number 1) (prop 0))))) (number 5)) (prop 1)
    ∷ Assert (compare binary.Eq (member 1) (number 0)) (prop 2) ∷ []) ∷ []) []
    (a_member 0 ∷ a_member 0 ∷ a_member 3 ∷ [])
    ((record { member = 0; signal = 1 }) ∷ (record { member = 1; signal = 2 }) ∷ (record { member = 2; signal = 3 }) ∷ [])
    (properties (kind.Bounds ∷ kind.Assertion ∷ kind.Assertion ∷ [])) memory
