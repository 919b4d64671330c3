-- Expressions and their trees (ISO C99, 6.4.4 and 6.5).
use Rattle.std.specs.Prelude.{[], ◌∷◌, codes}
use Rattle.c_tree.specs.declared.expressions.BinaryOperator.TheVariants as Binary
use Rattle.c_tree.specs.declared.expressions.Expression.TheVariants as Expression
use Rattle.c_tree.specs.declared.declarations.IntegerType.TheVariants as Integer
use Rattle.c_tree.specs.declared.expressions.Path.TheVariants as Path
use Rattle.c_tree.specs.declared.declarations.Sign.TheVariants as Sign
use Rattle.c_tree.specs.declared.expressions.UnaryOperator.TheVariants as Unary
use Rattle.tree_laws.specs.CWords.{at, named, object, HasValue, a, b, c, d, e, f, i, integer, unary, binary, typed}

-- expressions in small texts, and their trees
pub record ExpressionTrees : Type 0 where
  -- each level binds more tightly than the one before
  pub logical_levels : HasValue (codes "int x = a ? b : c || d && e | f;")
      (Expression.Conditional (a 9) (at 11) (b 13) (binary (c 17) 19 Binary.LogicalOr (binary (d 22) 24 Binary.LogicalAnd (binary (e 27) 29 Binary.Or (f 31)))))
  pub bit_levels : HasValue (codes "int x = a | b ^ c & d == e;")
      (binary (a 9) 11 Binary.Or (binary (b 13) 15 Binary.Xor (binary (c 17) 19 Binary.And (binary (d 21) 23 Binary.Equal (e 26)))))
  pub order_levels : HasValue (codes "int x = a == b < c << d + e * f;")
      (binary (a 9) 11 Binary.Equal (binary (b 14) 16 Binary.Less (binary (c 18) 20 Binary.ShiftLeft (binary (d 23) 25 Binary.Add (binary (e 27) 29 Binary.Multiply (f 31))))))
  -- and so where the tighter one comes first
  pub logical_levels_turned : HasValue (codes "int x = a | b && c || d ? e : f;")
      (Expression.Conditional (binary (binary (binary (a 9) 11 Binary.Or (b 13)) 15 Binary.LogicalAnd (c 18)) 20 Binary.LogicalOr (d 23)) (at 25) (e 27) (f 31))
  pub bit_levels_turned : HasValue (codes "int x = a == b & c ^ d | e;")
      (binary (binary (binary (binary (a 9) 11 Binary.Equal (b 14)) 16 Binary.And (c 18)) 20 Binary.Xor (d 22)) 24 Binary.Or (e 26))
  pub order_levels_turned : HasValue (codes "int x = a * b + c << d < e == f;")
      (binary (binary (binary (binary (binary (a 9) 11 Binary.Multiply (b 13)) 15 Binary.Add (c 17)) 19 Binary.ShiftLeft (d 22)) 24 Binary.Less (e 26)) 28 Binary.Equal (f 31))
  -- operators of one level group to the left
  pub products : HasValue (codes "int x = a * b / c % d;")
      (binary (binary (binary (a 9) 11 Binary.Multiply (b 13)) 15 Binary.Divide (c 17)) 19 Binary.Remainder (d 21))
  pub sums : HasValue (codes "int x = a - b + c;") (binary (binary (a 9) 11 Binary.Subtract (b 13)) 15 Binary.Add (c 17))
  pub shifts : HasValue (codes "int x = a << b >> c;")
      (binary (binary (a 9) 11 Binary.ShiftLeft (b 14)) 16 Binary.ShiftRight (c 19))
  pub orders : HasValue (codes "int x = a < b <= c > d >= e;")
      (binary (binary (binary (binary (a 9) 11 Binary.Less (b 13)) 15 Binary.LessEqual (c 18)) 20 Binary.Greater (d 22)) 24 Binary.GreaterEqual (e 27))
  pub equalities : HasValue (codes "int x = a == b != c;")
      (binary (binary (a 9) 11 Binary.Equal (b 14)) 16 Binary.NotEqual (c 19))
  pub ands : HasValue (codes "int x = a & b & c;") (binary (binary (a 9) 11 Binary.And (b 13)) 15 Binary.And (c 17))
  pub exclusive_ors : HasValue (codes "int x = a ^ b ^ c;") (binary (binary (a 9) 11 Binary.Xor (b 13)) 15 Binary.Xor (c 17))
  pub ors : HasValue (codes "int x = a | b | c;") (binary (binary (a 9) 11 Binary.Or (b 13)) 15 Binary.Or (c 17))
  pub logical_ands : HasValue (codes "int x = a && b && c;")
      (binary (binary (a 9) 11 Binary.LogicalAnd (b 14)) 16 Binary.LogicalAnd (c 19))
  pub logical_ors : HasValue (codes "int x = a || b || c;")
      (binary (binary (a 9) 11 Binary.LogicalOr (b 14)) 16 Binary.LogicalOr (c 19))
  -- conditionals group to the right
  pub last_conditional : HasValue (codes "int x = a ? b : c ? d : e;")
      (Expression.Conditional (a 9) (at 11) (b 13) (Expression.Conditional (c 17) (at 19) (d 21) (e 25)))
  pub middle_conditional : HasValue (codes "int x = a ? b ? c : d : e;")
      (Expression.Conditional (a 9) (at 11) (Expression.Conditional (b 13) (at 15) (c 17) (d 21)) (e 25))
  -- unary operators and casts bind most tightly
  pub signs : HasValue (codes "int x = -a * - +b;")
      (binary (unary 9 Unary.Minus (a 10)) 12 Binary.Multiply (unary 14 Unary.Minus (unary 16 Unary.Plus (b 17))))
  pub nots : HasValue (codes "int x = !a && ~b;")
      (binary (unary 9 Unary.Not (a 10)) 12 Binary.LogicalAnd (unary 15 Unary.Complement (b 16)))
  pub cast : HasValue (codes "int x = (int)-a + b;")
      (binary (Expression.Cast (at 9) (typed 10 (Integer.Int Sign.Signed)) (unary 14 Unary.Minus (a 15))) 17 Binary.Add (b 19))
  pub operand_cast : HasValue (codes "int x = -(unsigned char)a * b;")
      (binary (unary 9 Unary.Minus (Expression.Cast (at 10) (typed 11 (Integer.Char Sign.Unsigned)) (a 25))) 27 Binary.Multiply (b 29))
  pub parentheses : HasValue (codes "int x = -(a - b) * c;")
      (binary (unary 9 Unary.Minus (Expression.Parentheses (at 10) (binary (a 11) 13 Binary.Subtract (b 15)))) 18 Binary.Multiply (c 20))
  -- what operators stand between
  pub integers : HasValue (codes "int x = 0x1Fu + 07 + 5LL;")
      (binary (binary (integer 9 (codes "0x1Fu")) 15 Binary.Add (integer 17 (codes "07"))) 20 Binary.Add (integer 22 (codes "5LL")))
  pub characters : HasValue (codes "int x = 'a' + '\\n';")
      (binary (Expression.Character (at 9) 97) 13 Binary.Add (Expression.Character (at 15) 10))
  pub truths : HasValue (codes "int x = true == false;")
      (binary (Expression.True (at 9)) 14 Binary.Equal (Expression.False (at 17)))
  pub members : HasValue (codes "int x = m.n.o - m.t[i + 1];")
      (binary
      (Expression.Read (Path.Object (object (named 9 (codes "m")) (named 11 (codes "n") ∷ named 13 (codes "o") ∷ []))))
      15 Binary.Subtract
      (Expression.Read (Path.Element (object (named 17 (codes "m")) (named 19 (codes "t") ∷ [])) (at 20) (binary (i 21) 23 Binary.Add (integer 25 (codes "1"))))))
