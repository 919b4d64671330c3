-- Statements and their trees (ISO C99, 6.8).
use Rattle.std.specs.Prelude.{[], ◌∷◌, codes, Some, None}
use Rattle.c_tree.specs.declared.expressions.AssignmentOperator.TheVariants as Assignment
use Rattle.c_tree.specs.declared.expressions.BinaryOperator.TheVariants as Binary
use Rattle.c_tree.specs.declared.statements.BlockItem.TheVariants as BlockItem
use Rattle.c_tree.specs.declared.declarations.Declarator.TheVariants as Declarator
use Rattle.c_tree.specs.declared.statements.ForFirst.TheVariants as ForFirst
use Rattle.c_tree.specs.declared.declarations.Initializer.TheVariants as Initializer
use Rattle.c_tree.specs.declared.declarations.IntegerType.TheVariants as Integer
use Rattle.c_tree.specs.declared.statements.Label.TheVariants as Label
use Rattle.c_tree.specs.declared.expressions.Path.TheVariants as Path
use Rattle.c_tree.specs.declared.declarations.Sign.TheVariants as Sign
use Rattle.c_tree.specs.declared.statements.Simple.TheVariants as Simple
use Rattle.c_tree.specs.declared.statements.Statement.TheVariants as Statement
use Rattle.c_tree.specs.declared.expressions.StepOperator.TheVariants as Step
use Rattle.tree_laws.specs.CWords.{at, named, object, variable, assigned, HasItems, HasStatement, a, b, i, integer, binary, typed, called, local, updating, stepping, group}

-- statements in small texts, and their trees
pub record StatementTrees : Type 0 where
  -- `else` belongs to the nearest `if`
  pub nearest_if : HasStatement (codes "void f(void) { if (a) if (b) x = 1; else x = 2; }")
      (Statement.If (at 16) (a 20)
      (Statement.IfElse (at 23) (b 27)
      (Statement.Simple (assigned (variable 30 (codes "x")) (integer 34 (codes "1"))))
      (Statement.Simple (assigned (variable 42 (codes "x")) (integer 46 (codes "2"))))))
  -- unless a block ends that before
  pub farther_if : HasStatement (codes "void f(void) { if (a) { if (b) x = 1; } else x = 2; }")
      (Statement.IfElse (at 16) (a 20)
      (Statement.Compound (at 23) (BlockItem.Statement (Statement.If (at 25) (b 29) (Statement.Simple (assigned (variable 32 (codes "x")) (integer 36 (codes "1"))))) ∷ []))
      (Statement.Simple (assigned (variable 46 (codes "x")) (integer 50 (codes "2")))))
  -- loops
  pub while_loop : HasStatement (codes "void f(void) { while (a) ; }")
      (Statement.While (at 16) (a 23) (Statement.Empty (at 26)))
  pub do_loop : HasStatement (codes "void f(void) { do x++; while (a); }")
      (Statement.Do (at 16) (Statement.Simple (Simple.StepAfter (variable 19 (codes "x")) (stepping 20 Step.Increment))) (a 31))
  pub for_loop : HasStatement (codes "void f(void) { for (int i = 0; i < 4; i++) continue; }")
      (Statement.For (at 16)
      (ForFirst.Local (local None (typed 21 (Integer.Int Sign.Signed)) (Declarator.Initialized (named 25 (codes "i")) (Initializer.Value (integer 29 (codes "0"))) ∷ [])))
      (Some (binary (i 32) 34 Binary.Less (integer 36 (codes "4"))))
      (Some (Simple.StepAfter (variable 39 (codes "i")) (stepping 40 Step.Increment)))
      (Statement.Continue (at 44)))
  pub endless_loop : HasStatement (codes "void f(void) { for (;;) break; }")
      (Statement.For (at 16) ForFirst.Nothing None None (Statement.Break (at 25)))
  pub half_loop : HasStatement (codes "void f(void) { for (i = 0; ; ) { } }")
      (Statement.For (at 16) (ForFirst.Simple (assigned (variable 21 (codes "i")) (integer 25 (codes "0")))) None None (Statement.Compound (at 32) []))
  -- labels and the statements behind them
  pub switches : HasStatement (codes "void f(void) { switch (a) { case 0: case 1 + 1: ; x = 1; default: case 3: } }")
      (Statement.Switch (at 16) (a 24)
      (group 29
      (Label.Case (at 29) (integer 34 (codes "0")) ∷ Label.Case (at 37) (binary (integer 42 (codes "1")) 44 Binary.Add (integer 46 (codes "1"))) ∷ [])
      (Statement.Empty (at 49) ∷ Statement.Simple (assigned (variable 51 (codes "x")) (integer 55 (codes "1"))) ∷ [])
      ∷ group 58 (Label.Default (at 58) ∷ Label.Case (at 67) (integer 72 (codes "3")) ∷ []) []
      ∷ []))
  pub last_group : HasStatement (codes "void f(void) { switch (a) { case 0: x = 1; default: ; break; } }")
      (Statement.Switch (at 16) (a 24)
      (group 29 (Label.Case (at 29) (integer 34 (codes "0")) ∷ []) (Statement.Simple (assigned (variable 37 (codes "x")) (integer 41 (codes "1"))) ∷ [])
      ∷ group 44 (Label.Default (at 44) ∷ []) (Statement.Empty (at 53) ∷ Statement.Break (at 55) ∷ [])
      ∷ []))
  pub empty_switch : HasStatement (codes "void f(void) { switch (a) { } }") (Statement.Switch (at 16) (a 24) [])
  -- assignments, steps and calls
  pub assignment : HasStatement (codes "void f(void) { m.n = a; }")
      (Statement.Simple (assigned (Path.Object (object (named 16 (codes "m")) (named 18 (codes "n") ∷ []))) (a 22)))
  pub assigned_call : HasStatement (codes "void f(void) { x = g(a, 1); }")
      (Statement.Simple (Simple.Assign (variable 16 (codes "x")) (Initializer.Called (called (named 20 (codes "g")) (a 22 ∷ integer 25 (codes "1") ∷ [])))))
  pub update : HasStatement (codes "void f(void) { t[i] += 2; }")
      (Statement.Simple (Simple.Update (Path.Element (object (named 16 (codes "t")) []) (at 17) (i 18)) (updating 21 Assignment.Add) (integer 24 (codes "2"))))
  pub step_after : HasStatement (codes "void f(void) { x--; }")
      (Statement.Simple (Simple.StepAfter (variable 16 (codes "x")) (stepping 17 Step.Decrement)))
  pub step_before : HasStatement (codes "void f(void) { ++t[0]; }")
      (Statement.Simple (Simple.StepBefore (stepping 16 Step.Increment) (Path.Element (object (named 18 (codes "t")) []) (at 19) (integer 20 (codes "0")))))
  pub call : HasStatement (codes "void f(void) { g(); }") (Statement.Simple (Simple.Called (called (named 16 (codes "g")) [])))
  -- returns, assertions and assumptions
  pub plain_return : HasStatement (codes "void f(void) { return; }") (Statement.Return (at 16) None)
  pub value_return : HasStatement (codes "void f(void) { return a; }")
      (Statement.Return (at 16) (Some (Initializer.Value (a 23))))
  pub call_return : HasStatement (codes "void f(void) { return g(1); }")
      (Statement.Return (at 16) (Some (Initializer.Called (called (named 23 (codes "g")) (integer 25 (codes "1") ∷ [])))))
  pub assertion : HasStatement (codes "void f(void) { assert(a == b); }")
      (Statement.Assert (at 16) (binary (a 23) 25 Binary.Equal (b 28)))
  pub named_assertion : HasStatement (codes "void f(void) { __CPROVER_assert(a, \"s\"); }")
      (Statement.CproverAssert (at 16) (a 33))
  pub assumption : HasStatement (codes "void f(void) { __CPROVER_assume(a); }") (Statement.CproverAssume (at 16) (a 33))
  -- the other compound assignments
  pub updates : HasItems (codes "void f(void) { x -= a; x *= a; x /= a; x %= a; x &= a; x |= a; x ^= a; x <<= a; x >>= a; }")
      (BlockItem.Statement (Statement.Simple (Simple.Update (variable 16 (codes "x")) (updating 18 Assignment.Subtract) (a 21)))
      ∷ BlockItem.Statement (Statement.Simple (Simple.Update (variable 24 (codes "x")) (updating 26 Assignment.Multiply) (a 29)))
      ∷ BlockItem.Statement (Statement.Simple (Simple.Update (variable 32 (codes "x")) (updating 34 Assignment.Divide) (a 37)))
      ∷ BlockItem.Statement (Statement.Simple (Simple.Update (variable 40 (codes "x")) (updating 42 Assignment.Remainder) (a 45)))
      ∷ BlockItem.Statement (Statement.Simple (Simple.Update (variable 48 (codes "x")) (updating 50 Assignment.And) (a 53)))
      ∷ BlockItem.Statement (Statement.Simple (Simple.Update (variable 56 (codes "x")) (updating 58 Assignment.Or) (a 61)))
      ∷ BlockItem.Statement (Statement.Simple (Simple.Update (variable 64 (codes "x")) (updating 66 Assignment.Xor) (a 69)))
      ∷ BlockItem.Statement (Statement.Simple (Simple.Update (variable 72 (codes "x")) (updating 74 Assignment.ShiftLeft) (a 78)))
      ∷ BlockItem.Statement (Statement.Simple (Simple.Update (variable 81 (codes "x")) (updating 83 Assignment.ShiftRight) (a 87)))
      ∷ [])
  -- declarations in a block
  pub locals : HasItems (codes "void f(void) { int x = g(), y; const char t[2] = { 1, a, }; unsigned z[3]; }")
      (BlockItem.Local
      (local None
      (typed 16 (Integer.Int Sign.Signed))
      (Declarator.Initialized (named 20 (codes "x")) (Initializer.Called (called (named 24 (codes "g")) [])) ∷ Declarator.Plain (named 29 (codes "y")) ∷ []))
      ∷ BlockItem.Local
      (local (Some (at 32))
      (typed 38 (Integer.Char Sign.Signed))
      (Declarator.InitializedArray (named 43 (codes "t")) (integer 45 (codes "2")) (integer 52 (codes "1") ∷ a 55 ∷ []) ∷ []))
      ∷ BlockItem.Local (local None (typed 61 (Integer.Int Sign.Unsigned)) (Declarator.Array (named 70 (codes "z")) (integer 72 (codes "3")) ∷ []))
      ∷ [])
