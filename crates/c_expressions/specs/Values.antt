-- The value of a C expression in a store, by the text of the standard (C99 6.5): operands first, from left to right, then
-- the checks of the operator. A check that fails is named by its kind and by the place of its operator.
use Rattle.std.specs.Prelude.{◌≡◌, ℕ, ◌+◌, ◌<◌, List, [], ◌∷◌, length, slice_get, slice_index_or, Option, Some, None, Bool, true, false, not, nat_lt, if◌then◌else◌}
use Rattle.std.specs.Prelude.{ℤ, pos, negsuc, neg_ℤ, ◌+ℤ◌, ◌-ℤ◌, ◌*ℤ◌, int_div, int_rem, int_lt, int_le, bit_and, bit_or, bit_xor}
use Rattle.std.specs.Ordering.{int_eq}
use Rattle.src_text.specs.declared.refusal.Place.{Place}
use Rattle.c_tree.specs.declared.expressions.Expression.{Expression}
use Rattle.c_tree.specs.declared.expressions.Expression as expression
use Rattle.c_tree.specs.declared.expressions.Path.{Path}
use Rattle.c_tree.specs.declared.expressions.Path as path
use Rattle.joint_ir.specs.declared.ctype.IntType.{IntType}
use Rattle.joint_ir.specs.declared.expr.BinaryOp.{BinaryOp}
use Rattle.joint_ir.specs.declared.expr.BinaryOp.TheVariants.{Add, Sub, Mul, Div, Rem, Shl, Shr, And, Or, Xor, Eq, Ne, Lt, Le, Gt, Ge}
use Rattle.joint_ir.specs.declared.expr.LogicOp.{LogicOp}
use Rattle.joint_ir.specs.declared.expr.LogicOp.TheVariants as logic
use Rattle.joint_ir.specs.declared.expr.UnaryOp.{UnaryOp}
use Rattle.joint_ir.specs.declared.expr.UnaryOp.TheVariants.{Plus, Minus, Flip, Not}
use Rattle.joint_ir.specs.declared.expr.TExpr.{TExpr}
use Rattle.joint_ir.specs.declared.program.PropKind.{PropKind}
use Rattle.joint_ir.specs.declared.program.PropKind.TheVariants as kind
use Rattle.joint_ir.specs.Types.{in_range, converted, truth_of}
use Rattle.joint_ir.specs.Values.{Answer, Value, Fault, Rows, first_of, bit_of, is_zero, bitwise, shifted_left, shifted_right, is_amount, may_shift_left, value_of}
use Rattle.c_words.specs.declared.marks.Meaning.{Meaning}
use Rattle.c_words.specs.declared.marks.Meaning.TheVariants as meaning
use Rattle.c_words.specs.declared.notes.Site.{Site}
use Rattle.c_words.specs.Types.{named, common, same_type}
use Rattle.c_words.specs.Literals.{literal_of}
use Rattle.c_words.specs.Marks.{unary_op, meaning_of, division_kind, other_kind, unary_kind}
use Rattle.c_names.specs.declared.paths.Found.{Found}
use Rattle.c_names.specs.declared.paths.Found.TheVariants.{Unknown, Other, Integer}
use Rattle.c_names.specs.Scope.{Scope}
use Rattle.c_names.specs.Paths.{found}
use Rattle.c_expressions.specs.Expressions.{type_of, operand_type, unary_type, left_type, right_type}

-- a number, or the check that fails
pub data CAnswer : Type 0 where
  Gives : (n : ℤ) → CAnswer
  Breaks : (kind : PropKind) (place : Place) → CAnswer

-- a number goes on to what needs it, and a check that fails ends the evaluation
abbrev pub then_with : CAnswer → (ℤ → CAnswer) → CAnswer
then_with (Gives n) go = go n
then_with (Breaks k p) go = Breaks k p

-- a check, where the operator has it
abbrev pub check : Option PropKind → Place → Bool → CAnswer → CAnswer
check None p test a = a
check (Some k) p true a = a
check (Some k) p false a = Breaks k p

-- an operand of one type in another
abbrev pub in_type : (from to : IntType) → ℤ → ℤ
in_type from to n = if same_type from to then n else converted to n

-- whether the result of an operator is in its type, or its amount is one
abbrev pub is_met : BinaryOp → IntType → ℤ → ℤ → Bool
is_met Add t x y = in_range t (x +ℤ y)
is_met Sub t x y = in_range t (x -ℤ y)
is_met Mul t x y = in_range t (x *ℤ y)
is_met Div t x y = in_range t (int_div x y)
is_met Rem t x y = in_range t (int_div x y)
is_met Shl t x y = may_shift_left t x y
is_met Shr t x y = is_amount t y
is_met And t x y = true
is_met Or t x y = true
is_met Xor t x y = true
is_met Eq t x y = true
is_met Ne t x y = true
is_met Lt t x y = true
is_met Le t x y = true
is_met Gt t x y = true
is_met Ge t x y = true

-- the result over whole numbers, modulo 2^bits
abbrev pub result_of : BinaryOp → IntType → ℤ → ℤ → ℤ
result_of Add t x y = converted t (x +ℤ y)
result_of Sub t x y = converted t (x -ℤ y)
result_of Mul t x y = converted t (x *ℤ y)
result_of Div t x y = converted t (int_div x y)
result_of Rem t x y = int_rem x y
result_of Shl t x y = converted t (shifted_left x y)
result_of Shr t x y = shifted_right x y
result_of And t x y = bitwise bit_and t x y
result_of Or t x y = bitwise bit_or t x y
result_of Xor t x y = bitwise bit_xor t x y
result_of Eq t x y = bit_of (int_eq x y)
result_of Ne t x y = bit_of (not (int_eq x y))
result_of Lt t x y = bit_of (int_lt x y)
result_of Le t x y = bit_of (int_le x y)
result_of Gt t x y = bit_of (int_lt y x)
result_of Ge t x y = bit_of (int_le y x)

-- an operator that works in a type, at a place
abbrev pub operated : BinaryOp → IntType → Place → ℤ → ℤ → CAnswer
operated op t p x y = check (division_kind op) p (not (is_zero y)) (check (other_kind op t.signed) p (is_met op t x y) (Gives (result_of op t x y)))

-- whether the result of a unary operator is in its type: only `-` can leave it
abbrev pub unary_met : UnaryOp → IntType → ℤ → Bool
unary_met Plus t x = true
unary_met Minus t x = in_range t (neg_ℤ x)
unary_met Flip t x = true
unary_met Not t x = true

-- the result of a unary operator: `~x` is -x - 1 and `!x` says whether x is 0 (C99 6.5.3.3)
abbrev pub unary_result : UnaryOp → IntType → ℤ → ℤ
unary_result Plus t x = x
unary_result Minus t x = converted t (neg_ℤ x)
unary_result Flip t x = converted t (neg_ℤ x -ℤ pos 1)
unary_result Not t x = bit_of (is_zero x)

-- a unary operator on an operand in its type: its check, then its result
abbrev pub unary_operated : UnaryOp → IntType → Place → ℤ → CAnswer
unary_operated op t p x = check (unary_kind op t.signed) p (unary_met op t x) (Gives (unary_result op t x))

-- `&&` and `||`, whose right operand is evaluated only where it decides
abbrev pub decided : LogicOp → ℤ → CAnswer → CAnswer
decided logic.And x right = if is_zero x then Gives (pos 0) else then_with right (λ y. Gives (truth_of y))
decided logic.Or x right = if is_zero x then then_with right (λ y. Gives (truth_of y)) else Gives (pos 1)

-- the number that a name's object holds
abbrev pub value_found : Rows → Found → ℤ
value_found rows Unknown = pos 0
value_found rows Other = pos 0
value_found rows (Integer o) = first_of (rows o.slot)

-- the element at an index, which breaks the bounds if it is negative or not below the length
abbrev pub element_in : List ℤ → Place → ℤ → CAnswer
element_in row p (pos i) = if nat_lt i (length row) then Gives (slice_index_or row i (pos 0)) else Breaks kind.Bounds p
element_in row p (negsuc i) = Breaks kind.Bounds p

-- an element, given the answer of its index
abbrev pub element_found : Rows → Found → Place → CAnswer → CAnswer
element_found rows Unknown p i = Gives (pos 0)
element_found rows Other p i = Gives (pos 0)
element_found rows (Integer o) p i = then_with i (element_in (rows o.slot) p)

-- operands converted to the types in which an operator works
abbrev pub binary_operated : Meaning → (t u : IntType) → Place → ℤ → CAnswer → CAnswer
binary_operated (meaning.Logic op) t u p x right = decided op x right
binary_operated (meaning.Arithmetic op) t u p x right = then_with right (λ y. operated op (common t u) p (in_type t (common t u) x) (in_type u (common t u) y))
binary_operated (meaning.Comparison op) t u p x right = then_with right (λ y. operated op (common t u) p (in_type t (common t u) x) (in_type u (common t u) y))
binary_operated (meaning.Shift op) t u p x right =
    then_with right (λ y. operated op (left_type (meaning.Shift op) t u) p (in_type t (left_type (meaning.Shift op) t u) x) (in_type u (right_type (meaning.Shift op) t u) y))

-- the value of an expression without offences
abbrev mutual
  -- an object's value, or that of an element once its index is evaluated
  pub path_value : List Scope → Rows → Path → CAnswer
  path_value env rows (path.Object o) = Gives (value_found rows (found env false o))
  path_value env rows (path.Element' o p _ (path.more_of-Expression e _)) = element_found rows (found env true o) p (c_value env rows e)

  -- operands first, then the check of the operator; `&&`, `||` and `?:` leave out what they do not need (C99 6.5.13 to 6.5.15)
  pub c_value : List Scope → Rows → Expression → CAnswer
  c_value env rows (expression.Integer p spelled) = Gives (pos (literal_of spelled).value)
  c_value env rows (expression.Character p value) = Gives (pos value)
  c_value env rows (expression.True p) = Gives (pos 1)
  c_value env rows (expression.False p) = Gives (pos 0)
  c_value env rows (expression.Read x) = path_value env rows x
  c_value env rows (expression.Parentheses' p _ (expression.more_of-Expression e _)) = c_value env rows e
  c_value env rows (expression.Unary' mark _ (expression.more_of-Expression e _)) =
      let op = unary_op mark.operator in
      let t = type_of env e in
      then_with (c_value env rows e) (λ x. unary_operated op (unary_type op t) mark.place (in_type t (operand_type op t) x))
  c_value env rows (expression.Cast' p ty _ (expression.more_of-Expression e _)) = then_with (c_value env rows e) (λ x. Gives (converted (named ty.integer) x))
  c_value env rows (expression.Binary' _ (expression.more_of-Expression left _) mark _ (expression.more_of-Expression right _)) =
      then_with (c_value env rows left) (λ x. binary_operated (meaning_of mark.operator) (type_of env left) (type_of env right) mark.place x (c_value env rows right))
  c_value env rows (expression.Conditional' _ (expression.more_of-Expression condition _) p _ (expression.more_of-Expression first _) _ (expression.more_of-Expression second _)) =
      let t = common (type_of env first) (type_of env second) in
      then_with (c_value env rows condition) (λ x.
      if is_zero x then then_with (c_value env rows second) (λ n. Gives (in_type (type_of env second) t n))
      else then_with (c_value env rows first) (λ n. Gives (in_type (type_of env first) t n)))

-- a typed answer, with its property told by kind and place
abbrev pub break_at : Option Site → CAnswer
break_at None = Breaks kind.Recursion (record { line = 0; column = 0 })
break_at (Some s) = Breaks s.kind s.place

-- the answer of a typed tree, with the property that it breaks told by kind and place
abbrev pub located : List Site → Answer → CAnswer
located all (Value n) = Gives n
located all (Fault id) = break_at (slice_get all id.0)

-- properties stand in a list from a place on, which has a number of 32 bits
abbrev pub StandAt : (all : List Site) → ℕ → List Site → Type 0
StandAt all at [] = Unit {0}
StandAt all at (s ∷ sites) = (at < 4294967296) × (slice_get all at ≡ Some s) × StandAt all (at + 1) sites

-- what a typed expression has of its source: its type, and its value in every store
pub record HasMeaning (env : List Scope) (all : List Site) (e : Expression) (t : TExpr) : Type 0 where
  pub ty : t.ty ≡ type_of env e
  pub value : (rows : Rows) → located all (value_of rows t) ≡ c_value env rows e
