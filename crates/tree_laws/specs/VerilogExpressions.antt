-- Expressions and their trees (IEEE 1364-2005, 3.5, 5.1 and 5.2).
use Rattle.std.specs.Prelude.{[], ◌∷◌, codes, false, true}
use Rattle.v_tree.specs.declared.expr.BinaryOp.TheVariants.{Add, Subtract, Multiply, Divide, Remainder, ShiftLeft, ShiftRight, ArithmeticShiftLeft, ArithmeticShiftRight, Less, LessEqual, Greater, GreaterEqual, Equal, NotEqual, BitAnd, BitXor, BitXnor, BitOr, LogicalAnd, LogicalOr}
use Rattle.v_tree.specs.declared.expr.UnaryOp.TheVariants.{Plus, Minus, LogicalNot, BitNot, ReduceAnd, ReduceNand, ReduceOr, ReduceNor, ReduceXor, ReduceXnor}
use Rattle.v_tree.specs.declared.expr.Base.TheVariants as Base
use Rattle.v_tree.specs.declared.expr.Expr.TheVariants as Expr
use Rattle.v_tree.specs.declared.expr.Literal.TheVariants as Literal
use Rattle.v_tree.specs.declared.expr.Selection.TheVariants as Selection
use Rattle.tree_laws.specs.VerilogWords.{at, named, digits, a, b, c, d, e, f, i, decimal, based, binary, unary, HasValue}

-- expressions in small texts, and their trees
pub record ExpressionTrees : Type 0 where
  -- each level binds more tightly than the one before
  pub logical_levels : HasValue (codes "module m; wire x = a ? b : c || d && e | f; endmodule")
      (Expr.Conditional (a 20) (b 24) (binary (c 28) 30 LogicalOr (binary (d 33) 35 LogicalAnd (binary (e 38) 40 BitOr (f 42)))))
  pub bit_levels : HasValue (codes "module m; wire x = a | b ^ c & d == e; endmodule")
      (binary (a 20) 22 BitOr (binary (b 24) 26 BitXor (binary (c 28) 30 BitAnd (binary (d 32) 34 Equal (e 37)))))
  pub order_levels : HasValue (codes "module m; wire x = a == b < c << d + e * f; endmodule")
      (binary (a 20) 22 Equal (binary (b 25) 27 Less (binary (c 29) 31 ShiftLeft (binary (d 34) 36 Add (binary (e 38) 40 Multiply (f 42))))))
  -- and so where the tighter one comes first
  pub logical_levels_turned : HasValue (codes "module m; wire x = a | b && c || d ? e : f; endmodule")
      (Expr.Conditional (binary (binary (binary (a 20) 22 BitOr (b 24)) 26 LogicalAnd (c 29)) 31 LogicalOr (d 34)) (e 38) (f 42))
  pub bit_levels_turned : HasValue (codes "module m; wire x = a == b & c ^ d | e; endmodule")
      (binary (binary (binary (binary (a 20) 22 Equal (b 25)) 27 BitAnd (c 29)) 31 BitXor (d 33)) 35 BitOr (e 37))
  pub order_levels_turned : HasValue (codes "module m; wire x = a * b + c << d < e == f; endmodule")
      (binary (binary (binary (binary (binary (a 20) 22 Multiply (b 24)) 26 Add (c 28)) 30 ShiftLeft (d 33)) 35 Less (e 37)) 39 Equal (f 42))
  -- operators of one level group to the left
  pub products : HasValue (codes "module m; wire x = a * b / c % d; endmodule")
      (binary (binary (binary (a 20) 22 Multiply (b 24)) 26 Divide (c 28)) 30 Remainder (d 32))
  pub sums : HasValue (codes "module m; wire x = a - b + c; endmodule")
      (binary (binary (a 20) 22 Subtract (b 24)) 26 Add (c 28))
  pub shifts : HasValue (codes "module m; wire x = a << b >> c <<< d >>> e; endmodule")
      (binary (binary (binary (binary (a 20) 22 ShiftLeft (b 25)) 27 ShiftRight (c 30)) 32 ArithmeticShiftLeft (d 36)) 38 ArithmeticShiftRight (e 42))
  pub orders : HasValue (codes "module m; wire x = a < b <= c > d >= e; endmodule")
      (binary (binary (binary (binary (a 20) 22 Less (b 24)) 26 LessEqual (c 29)) 31 Greater (d 33)) 35 GreaterEqual (e 38))
  pub equalities : HasValue (codes "module m; wire x = a == b != c; endmodule")
      (binary (binary (a 20) 22 Equal (b 25)) 27 NotEqual (c 30))
  pub ands : HasValue (codes "module m; wire x = a & b & c; endmodule")
      (binary (binary (a 20) 22 BitAnd (b 24)) 26 BitAnd (c 28))
  pub exclusive_ors : HasValue (codes "module m; wire x = a ^ b ~^ c ^~ d; endmodule")
      (binary (binary (binary (a 20) 22 BitXor (b 24)) 26 BitXnor (c 29)) 31 BitXnor (d 34))
  pub ors : HasValue (codes "module m; wire x = a | b | c; endmodule") (binary (binary (a 20) 22 BitOr (b 24)) 26 BitOr (c 28))
  pub logical_ands : HasValue (codes "module m; wire x = a && b && c; endmodule")
      (binary (binary (a 20) 22 LogicalAnd (b 25)) 27 LogicalAnd (c 30))
  pub logical_ors : HasValue (codes "module m; wire x = a || b || c; endmodule")
      (binary (binary (a 20) 22 LogicalOr (b 25)) 27 LogicalOr (c 30))
  -- conditionals group to the right
  pub last_conditional : HasValue (codes "module m; wire x = a ? b : c ? d : e; endmodule")
      (Expr.Conditional (a 20) (b 24) (Expr.Conditional (c 28) (d 32) (e 36)))
  pub middle_conditional : HasValue (codes "module m; wire x = a ? b ? c : d : e; endmodule")
      (Expr.Conditional (a 20) (Expr.Conditional (b 24) (c 28) (d 32)) (e 36))
  -- unary operators bind most tightly
  pub signs : HasValue (codes "module m; wire x = -a * - +b; endmodule")
      (binary (unary 20 Minus (a 21)) 23 Multiply (unary 25 Minus (unary 27 Plus (b 28))))
  pub nots : HasValue (codes "module m; wire x = !a && ~b; endmodule")
      (binary (unary 20 LogicalNot (a 21)) 23 LogicalAnd (unary 26 BitNot (b 27)))
  pub reductions : HasValue (codes "module m; wire x = &a && |b; endmodule")
      (binary (unary 20 ReduceAnd (a 21)) 23 LogicalAnd (unary 26 ReduceOr (b 27)))
  pub negated_reductions : HasValue (codes "module m; wire x = ~&a - ~|b; endmodule")
      (binary (unary 20 ReduceNand (a 22)) 24 Subtract (unary 26 ReduceNor (b 28)))
  pub exclusive_reductions : HasValue (codes "module m; wire x = ^a + ~^b + ^~c; endmodule")
      (binary (binary (unary 20 ReduceXor (a 21)) 23 Add (unary 25 ReduceXnor (b 27))) 29 Add (unary 31 ReduceXnor (c 33)))
  pub parentheses : HasValue (codes "module m; wire x = -(a - b) * c; endmodule")
      (binary (unary 20 Minus (Expr.Parentheses (at 21) (binary (a 22) 24 Subtract (b 26)))) 29 Multiply (c 31))
  pub calls : HasValue (codes "module m; wire x = $signed(a) + $unsigned(b - c); endmodule")
      (binary (Expr.Signed (at 20) (a 28)) 31 Add (Expr.Unsigned (at 33) (binary (b 43) 45 Subtract (c 47))))
  -- literals: unsized, sized and signed, with unknown digits
  pub decimal_number : HasValue (codes "module m; wire x = 1_2; endmodule") (decimal 20 (codes "1_2"))
  pub unsized_number : HasValue (codes "module m; wire x = 'hf; endmodule")
      (Expr.Literal (Literal.Based (based 20 false Base.Hexadecimal (codes "f"))))
  pub spaced_number : HasValue (codes "module m; wire x = 'd 9; endmodule")
      (Expr.Literal (Literal.Based (based 20 false Base.Decimal (codes "9"))))
  pub sized_number : HasValue (codes "module m; wire x = 4'b1x_z?; endmodule")
      (Expr.Literal (Literal.Sized (digits 20 (codes "4")) (based 21 false Base.Binary (codes "1x_z?"))))
  pub signed_number : HasValue (codes "module m; wire x = 8 'sh 7F; endmodule")
      (Expr.Literal (Literal.Sized (digits 20 (codes "8")) (based 22 true Base.Hexadecimal (codes "7F"))))
  pub octal_number : HasValue (codes "module m; wire x = 3'So7; endmodule")
      (Expr.Literal (Literal.Sized (digits 20 (codes "3")) (based 21 true Base.Octal (codes "7"))))
  -- selects: a bit, a range, from a base up and down
  pub bit_select : HasValue (codes "module m; wire x = a[3]; endmodule")
      (Expr.Select (named 20 (codes "a")) (Selection.Index (decimal 22 (codes "3"))))
  pub range_select : HasValue (codes "module m; wire x = a[7:0]; endmodule")
      (Expr.Select (named 20 (codes "a")) (Selection.Range (decimal 22 (codes "7")) (decimal 24 (codes "0"))))
  pub select_up : HasValue (codes "module m; wire x = a[i +: 4]; endmodule")
      (Expr.Select (named 20 (codes "a")) (Selection.Up (i 22) (decimal 27 (codes "4"))))
  pub select_down : HasValue (codes "module m; wire x = a[i + 1 -: 4]; endmodule")
      (Expr.Select (named 20 (codes "a")) (Selection.Down (binary (i 22) 24 Add (decimal 26 (codes "1"))) (decimal 31 (codes "4"))))
  -- concatenations and replications
  pub concatenation : HasValue (codes "module m; wire x = {a, b, 2'd1}; endmodule")
      (Expr.Concatenation (at 20) (a 21 ∷ b 24 ∷ Expr.Literal (Literal.Sized (digits 27 (codes "2")) (based 28 false Base.Decimal (codes "1"))) ∷ []))
  pub replication : HasValue (codes "module m; wire x = {4{a, b}}; endmodule")
      (Expr.Replication (at 20) (decimal 21 (codes "4")) (a 23 ∷ b 26 ∷ []))
  pub inner_replication : HasValue (codes "module m; wire x = {{2{a}}, b}; endmodule")
      (Expr.Concatenation (at 20) (Expr.Replication (at 21) (decimal 22 (codes "2")) (a 24 ∷ []) ∷ b 29 ∷ []))
