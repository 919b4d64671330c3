-- Statements and their trees (IEEE 1364-2005, clause 9).
use Rattle.std.specs.Prelude.{[], ◌∷◌, codes, Some, None, false}
use Rattle.v_tree.specs.declared.expr.BinaryOp.TheVariants.{Add, Less}
use Rattle.v_tree.specs.declared.expr.Base.TheVariants as Base
use Rattle.v_tree.specs.declared.expr.Expr.TheVariants as Expr
use Rattle.v_tree.specs.declared.expr.Literal.TheVariants as Literal
use Rattle.v_tree.specs.declared.expr.Selection.TheVariants as Selection
use Rattle.v_tree.specs.declared.stmt.Target.TheVariants as Target
use Rattle.v_tree.specs.declared.stmt.Stmt.TheVariants as Stmt
use Rattle.v_tree.specs.declared.stmt.CaseItem.TheVariants as CaseItem
use Rattle.v_tree.specs.declared.stmt.CaseKind.TheVariants as CaseKind
use Rattle.tree_laws.specs.VerilogWords.{at, named, digits, a, b, i, decimal, based, binary, blocking, nonblocking, loop, stored, HasStatement}

-- statements in small texts, and their trees
pub record StatementTrees : Type 0 where
  -- `else` belongs to the nearest `if`
  pub nearest_if : HasStatement (codes "module m; initial if (a) if (b) x = 1; else x = 2; endmodule")
      (Stmt.If (at 19) (a 23) (Stmt.IfElse (at 26) (b 30) (stored 33 (codes "x") (decimal 37 (codes "1"))) (stored 45 (codes "x") (decimal 49 (codes "2")))))
  -- unless a block ends that before
  pub farther_if : HasStatement (codes "module m; initial if (a) begin if (b) x = 1; end else x = 2; endmodule")
      (Stmt.IfElse (at 19) (a 23)
      (Stmt.Block (at 26) None (Stmt.If (at 32) (b 36) (stored 39 (codes "x") (decimal 43 (codes "1"))) ∷ []))
      (stored 55 (codes "x") (decimal 59 (codes "2"))))
  -- blocks and empty statements
  pub labelled_block : HasStatement (codes "module m; initial begin : d ; x = a; end endmodule")
      (Stmt.Block (at 19) (Some (named 27 (codes "d"))) (Stmt.Empty (at 29) ∷ stored 31 (codes "x") (a 35) ∷ []))
  pub empty_block : HasStatement (codes "module m; initial begin end endmodule") (Stmt.Block (at 19) None [])
  -- assignments and their targets
  pub stored_at_once : HasStatement (codes "module m; initial t[i] = a; endmodule")
      (blocking (Target.Select (named 19 (codes "t")) (Selection.Index (i 21))) (a 26))
  pub stored_later : HasStatement (codes "module m; initial x[3:2] <= a; endmodule")
      (nonblocking (Target.Select (named 19 (codes "x")) (Selection.Range (decimal 21 (codes "3")) (decimal 23 (codes "2")))) (a 29))
  pub stored_together : HasStatement (codes "module m; initial {x, y[1]} <= a; endmodule")
      (nonblocking
      (Target.Concatenation (at 19) (Target.Name (named 20 (codes "x")) ∷ Target.Select (named 23 (codes "y")) (Selection.Index (decimal 25 (codes "1"))) ∷ []))
      (a 32))
  -- a loop
  pub loop_of_four : HasStatement (codes "module m; initial for (i = 0; i < 4; i = i + 1) ; endmodule")
      (loop 19 24 (codes "i")
      (decimal 28 (codes "0"))
      (binary (i 31) 33 Less (decimal 35 (codes "4")))
      38 (codes "i")
      (binary (i 42) 44 Add (decimal 46 (codes "1")))
      (Stmt.Empty (at 49)))
  -- `case` and `casez`, with several values, unknown digits, and both forms of `default`
  pub plain_case : HasStatement (codes "module m; initial case (a) 0, 1: x = b; default: ; endcase endmodule")
      (Stmt.Case (at 19) CaseKind.Case (a 25)
      (CaseItem.Values (decimal 28 (codes "0") ∷ decimal 31 (codes "1") ∷ []) (stored 34 (codes "x") (b 38)) ∷ CaseItem.Default (at 41) (Stmt.Empty (at 50)) ∷ []))
  pub case_with_unknowns : HasStatement (codes "module m; initial casez (a) 2'b1?: ; default x = b; endcase endmodule")
      (Stmt.Case (at 19) CaseKind.Casez (a 26)
      (CaseItem.Values (Expr.Literal (Literal.Sized (digits 29 (codes "2")) (based 30 false Base.Binary (codes "1?"))) ∷ []) (Stmt.Empty (at 36))
      ∷ CaseItem.Default (at 38) (stored 46 (codes "x") (b 50))
      ∷ []))
