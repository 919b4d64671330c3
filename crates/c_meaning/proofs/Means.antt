-- Typed expressions mean what their sources mean.
use Rattle.std.proofs.Common.{◌≡◌, ℕ, ◌+◌, ◌<◌, List, [], ◌∷◌, ◌++◌, length, Bool, true, false, refl, sym, ap, subst, ◌∙◌, arith, add-zero}
use Rattle.std.proofs.Math.Nat.{mod-eq_of_lt}
use Rattle.std.specs.Prelude.{ℤ, pos, negsuc, Option, Some, None, cond, not, nat_lt, slice_get, slice_index_or, if◌then◌else◌}
use Rattle.src_text.specs.declared.refusal.Place.{Place}
use Rattle.c_tree.specs.declared.expressions.BinaryOperator.{BinaryOperator}
use Rattle.c_tree.specs.declared.expressions.BinaryOperator.TheVariants as b
use Rattle.c_tree.specs.declared.expressions.UnaryMark.{UnaryMark}
use Rattle.c_tree.specs.declared.expressions.Expression.{Expression}
use Rattle.c_tree.specs.declared.expressions.Expression as expression
use Rattle.c_tree.specs.declared.expressions.Path.{Path}
use Rattle.c_tree.specs.declared.expressions.Path as path
use Rattle.joint_ir.specs.declared.ctype.IntType.{IntType}
use Rattle.joint_ir.specs.declared.expr.BinaryOp.{BinaryOp}
use Rattle.joint_ir.specs.declared.expr.BinaryOp.TheVariants.{Add, Sub, Mul, Div, Rem, Shl, Shr, And, Or, Xor, Eq, Ne, Lt, Le, Gt, Ge}
use Rattle.joint_ir.specs.declared.expr.LogicOp.{LogicOp}
use Rattle.joint_ir.specs.declared.expr.LogicOp.TheVariants as logic
use Rattle.joint_ir.specs.declared.expr.TExpr.{TExpr}
use Rattle.joint_ir.specs.declared.expr.TNode.{Convert}
use Rattle.joint_ir.specs.declared.expr.TNode.TheBlock.{hidden-the_row-TExpr-0}
use Rattle.joint_ir.specs.declared.expr.UnaryOp.{UnaryOp}
use Rattle.joint_ir.specs.declared.expr.UnaryOp.TheVariants.{Plus, Minus, Flip, Not}
use Rattle.joint_ir.specs.declared.program.PropKind.{PropKind}
use Rattle.joint_ir.specs.declared.program.PropKind.TheVariants.{Bounds}
use denote.Hole.Carrier.{hidden}
use Rattle.joint_ir.specs.Types.{int, converted, truth_of}
use Rattle.joint_ir.specs.Values.{Answer, Value, Fault, Rows, and_then, checked, is_zero, value_of, binary_value, unary_value, logic_value, element_at}
use Rattle.c_words.specs.declared.marks.Meaning.{Meaning}
use Rattle.c_words.specs.declared.marks.Meaning.TheVariants as meaning
use Rattle.c_words.specs.declared.notes.Site.{Site}
use Rattle.c_words.specs.Types.{named, common, promoted, same_type}
use Rattle.c_words.specs.Marks.{unary_op, meaning_of, division_kind, other_kind, unary_kind, sites_of, prop_at, number_of}
use Rattle.c_names.specs.declared.paths.Found.{Found}
use Rattle.c_names.specs.declared.paths.Found.TheVariants.{Unknown, Other, Integer}
use Rattle.c_names.specs.Scope.{Scope}
use Rattle.c_names.specs.Paths.{found}
use Rattle.c_expressions.specs.Expressions.{type_of, typed_of, path_typed, path_sites, sites_in, operand_type, unary_type, converted_to, object_typed, element_typed, unary_typed, unary_sites, cast_typed, operator_typed, operator_sites, comparison_typed, logic_typed, binary_typed, mark_sites, choice_typed, bounds_site}
use Rattle.c_expressions.specs.Values.{CAnswer, Gives, Breaks, then_with, check, in_type, is_met, result_of, operated, unary_met, unary_result, unary_operated, decided, value_found, element_in, element_found, binary_operated, path_value, c_value, break_at, located, StandAt, HasMeaning}
use Rattle.c_expressions.proofs.Cases.{has_type}

-- of lists of properties, one after the other
pub stand_left : (all : List Site) (at : ℕ) (a c : List Site) → StandAt all at (a ++ c) → StandAt all at a
stand_left all at [] c h = tt
stand_left all at (s ∷ a) c h = (h.0, h.1, stand_left all (at + 1) a c h.2)

pub stand_right : (all : List Site) (at : ℕ) (a c : List Site) → StandAt all at (a ++ c) → StandAt all (at + length a) c
stand_right all at [] c h = subst (λ n. StandAt all n c) (sym (add-zero at)) h
stand_right all at (s ∷ a) c h =
    let e : at + 1 + length a ≡ at + length (s ∷ a) = omega arith in
    subst (λ n. StandAt all n c) e (stand_right all (at + 1) a c h.2)

module _ (all : List Site) (rows : Rows) where
  abbrev given : TExpr → Answer
  given e = value_of rows e

  abbrev told : Answer → CAnswer
  told v = located all v

  told_then : (v : Answer) (f : ℤ → Answer) → told (and_then v f) ≡ then_with (told v) (λ x. told (f x))
  told_then (Value n) f = refl
  told_then (Fault id) f = pick (slice_get all id.0)
    where
      pick : (o : Option Site) → break_at o ≡ then_with (break_at o) (λ x. told (f x))
      pick None = refl
      pick (Some s) = refl

  then_same : (v : CAnswer) (f g : ℤ → CAnswer) → ((x : ℤ) → f x ≡ g x) → then_with v f ≡ then_with v g
  then_same (Gives n) f g h = h n
  then_same (Breaks k p) f g h = refl

  then_then : (v : CAnswer) (f g : ℤ → CAnswer) → then_with (then_with v f) g ≡ then_with v (λ x. then_with (f x) g)
  then_then (Gives n) f g = refl
  then_then (Breaks k p) f g = refl

  then_gives : (v : CAnswer) → then_with v Gives ≡ v
  then_gives (Gives n) = refl
  then_gives (Breaks k p) = refl

  given_convert : (t : IntType) (p : Place) (e : TExpr) → value_of rows (record { ty = t; place = p; node = Convert e }) ≡ and_then (given e) (λ x. Value (converted t x))
  unfolding hidden-the_row-TExpr-0 hidden
  given_convert t p e = refl

  told_converted : (t : IntType) (e : TExpr) → told (given (converted_to t e)) ≡ then_with (told (given e)) (λ x. Gives (in_type e.ty t x))
  told_converted t e = pick (same_type e.ty t)
    where
      pick : (c : Bool) → told (given (cond c e (record { ty = t; place = e.place; node = Convert e }))) ≡ then_with (told (given e)) (λ x. Gives (cond c x (converted t x)))
      pick true = sym (then_gives (told (given e)))
      pick false = ap told (given_convert t e.place e) ∙ told_then (given e) (λ x. Value (converted t x))

  number_small : (at : ℕ) → at < 4294967296 → number_of at ≡ at
  number_small at h = mod-eq_of_lt h

  told_check : (k : Option PropKind) (p : Place) (at : ℕ) (test : Bool) (a : Answer) → StandAt all at (sites_of k p) → told (checked (prop_at at (sites_of k p)) test a) ≡ check k p test (told a)
  told_check None p at test a h = refl
  told_check (Some k) p at true a h = refl
  told_check (Some k) p at false a h = ap (λ n. break_at (slice_get all n)) (number_small at h.0) ∙ ap break_at h.1

  unary_shape : (op : UnaryOp) (t : IntType) (p : Place) (at : ℕ) (x : ℤ) →
      unary_value op t (prop_at at (sites_of (unary_kind op t.signed) p)) x ≡ checked (prop_at at (sites_of (unary_kind op t.signed) p)) (unary_met op t x) (Value (unary_result op t x))
  unary_shape Plus t p at x = refl
  unary_shape Minus t p at x = refl
  unary_shape Flip t p at x = refl
  unary_shape Not t p at x = refl

  told_unary : (op : UnaryOp) (t : IntType) (p : Place) (at : ℕ) (x : ℤ) → StandAt all at (sites_of (unary_kind op t.signed) p) →
      told (unary_value op t (prop_at at (sites_of (unary_kind op t.signed) p)) x) ≡ unary_operated op t p x
  told_unary op t p at x h = ap told (unary_shape op t p at x) ∙ told_check (unary_kind op t.signed) p at (unary_met op t x) (Value (unary_result op t x)) h

  binary_shape : (op : BinaryOp) (t : IntType) (p : Place) (at then_at : ℕ) (x y : ℤ) →
      binary_value op t (prop_at at (sites_of (division_kind op) p)) (prop_at then_at (sites_of (other_kind op t.signed) p)) x y
      ≡ checked (prop_at at (sites_of (division_kind op) p)) (not (is_zero y)) (checked (prop_at then_at (sites_of (other_kind op t.signed) p)) (is_met op t x y) (Value (result_of op t x y)))
  binary_shape Add t p at then_at x y = refl
  binary_shape Sub t p at then_at x y = refl
  binary_shape Mul t p at then_at x y = refl
  binary_shape Div t p at then_at x y = refl
  binary_shape Rem t p at then_at x y = refl
  binary_shape Shl t p at then_at x y = refl
  binary_shape Shr t p at then_at x y = refl
  binary_shape And t p at then_at x y = refl
  binary_shape Or t p at then_at x y = refl
  binary_shape Xor t p at then_at x y = refl
  binary_shape Eq t p at then_at x y = refl
  binary_shape Ne t p at then_at x y = refl
  binary_shape Lt t p at then_at x y = refl
  binary_shape Le t p at then_at x y = refl
  binary_shape Gt t p at then_at x y = refl
  binary_shape Ge t p at then_at x y = refl

  told_binary : (op : BinaryOp) (t : IntType) (p : Place) (at : ℕ) (x y : ℤ) → StandAt all at (operator_sites op t.signed p) →
      told (binary_value op t (prop_at at (sites_of (division_kind op) p)) (prop_at (at + length (sites_of (division_kind op) p)) (sites_of (other_kind op t.signed) p)) x y) ≡ operated op t p x y
  told_binary op t p at x y h =
      let later = at + length (sites_of (division_kind op) p) in
      ap told (binary_shape op t p at later x y)
      ∙ told_check (division_kind op) p at (not (is_zero y)) (checked (prop_at later (sites_of (other_kind op t.signed) p)) (is_met op t x y) (Value (result_of op t x y))) (stand_left all at (sites_of (division_kind op) p) (sites_of (other_kind op t.signed) p) h)
      ∙ ap (check (division_kind op) p (not (is_zero y))) (told_check (other_kind op t.signed) p later (is_met op t x y) (Value (result_of op t x y)) (stand_right all at (sites_of (division_kind op) p) (sites_of (other_kind op t.signed) p) h))

  -- an operation over two operands that are converted
  told_both : (l r : IntType) (x y : TExpr) (f : ℤ → ℤ → Answer) (g : ℤ → ℤ → CAnswer) → ((n m : ℤ) → told (f n m) ≡ g n m) →
      told (and_then (given (converted_to l x)) (λ n. and_then (given (converted_to r y)) (f n)))
      ≡ then_with (told (given x)) (λ n. then_with (told (given y)) (λ m. g (in_type x.ty l n) (in_type y.ty r m)))
  told_both l r x y f g h =
      told_then (given (converted_to l x)) (λ n. and_then (given (converted_to r y)) (f n))
      ∙ ap (λ v. then_with v (λ n. told (and_then (given (converted_to r y)) (f n)))) (told_converted l x)
      ∙ then_then (told (given x)) (λ n. Gives (in_type x.ty l n)) (λ n. told (and_then (given (converted_to r y)) (f n)))
      ∙ then_same (told (given x)) (λ n. told (and_then (given (converted_to r y)) (f (in_type x.ty l n)))) (λ n. then_with (told (given y)) (λ m. g (in_type x.ty l n) (in_type y.ty r m))) (λ n. right (in_type x.ty l n))
    where
      right : (n : ℤ) → told (and_then (given (converted_to r y)) (f n)) ≡ then_with (told (given y)) (λ m. g n (in_type y.ty r m))
      right n =
          told_then (given (converted_to r y)) (f n)
          ∙ ap (λ v. then_with v (λ m. told (f n m))) (told_converted r y)
          ∙ then_then (told (given y)) (λ m. Gives (in_type y.ty r m)) (λ m. told (f n m))
          ∙ then_same (told (given y)) (λ m. told (f n (in_type y.ty r m))) (λ m. g n (in_type y.ty r m)) (λ m. h n (in_type y.ty r m))

  told_operator : (at : ℕ) (op : BinaryOp) (t r : IntType) (p : Place) (x y : TExpr) → StandAt all at (operator_sites op t.signed p) →
      told (given (operator_typed at op t.signed t t r p x y))
      ≡ then_with (told (given x)) (λ n. then_with (told (given y)) (λ m. operated op t p (in_type x.ty t n) (in_type y.ty r m)))
  unfolding hidden-the_row-TExpr-0 hidden
  told_operator at op t r p x y h =
      told_both t r x y (binary_value op t (prop_at at (sites_of (division_kind op) p)) (prop_at (at + length (sites_of (division_kind op) p)) (sites_of (other_kind op t.signed) p))) (operated op t p) (λ n m. told_binary op t p at n m h)

  abbrev compares : BinaryOp → Bool
  compares Eq = true
  compares Ne = true
  compares Lt = true
  compares Le = true
  compares Gt = true
  compares Ge = true
  compares _ = false

  -- operators of a meaning that are what it says
  abbrev Agrees : Meaning → Type 0
  Agrees (meaning.Logic op) = Unit {0}
  Agrees (meaning.Arithmetic op) = Unit {0}
  Agrees (meaning.Comparison op) = compares op ≡ true
  Agrees (meaning.Shift op) = Unit {0}

  agrees : (o : BinaryOperator) → Agrees (meaning_of o)
  agrees b.Multiply = tt
  agrees b.Divide = tt
  agrees b.Remainder = tt
  agrees b.Add = tt
  agrees b.Subtract = tt
  agrees b.ShiftLeft = tt
  agrees b.ShiftRight = tt
  agrees b.Less = refl
  agrees b.LessEqual = refl
  agrees b.Greater = refl
  agrees b.GreaterEqual = refl
  agrees b.Equal = refl
  agrees b.NotEqual = refl
  agrees b.And = tt
  agrees b.Xor = tt
  agrees b.Or = tt
  agrees b.LogicalAnd = tt
  agrees b.LogicalOr = tt

  told_compare : (op : BinaryOp) (t : IntType) (p : Place) (x y : ℤ) → compares op ≡ true → told (binary_value op int None None x y) ≡ operated op t p x y
  told_compare Add t p x y h = cc
  told_compare Sub t p x y h = cc
  told_compare Mul t p x y h = cc
  told_compare Div t p x y h = cc
  told_compare Rem t p x y h = cc
  told_compare Shl t p x y h = cc
  told_compare Shr t p x y h = cc
  told_compare And t p x y h = cc
  told_compare Or t p x y h = cc
  told_compare Xor t p x y h = cc
  told_compare Eq t p x y h = refl
  told_compare Ne t p x y h = refl
  told_compare Lt t p x y h = refl
  told_compare Le t p x y h = refl
  told_compare Gt t p x y h = refl
  told_compare Ge t p x y h = refl

  told_comparison : (op : BinaryOp) (p : Place) (x y : TExpr) → compares op ≡ true →
      told (given (comparison_typed op x y))
      ≡ then_with (told (given x)) (λ n. then_with (told (given y)) (λ m. operated op (common x.ty y.ty) p (in_type x.ty (common x.ty y.ty) n) (in_type y.ty (common x.ty y.ty) m)))
  unfolding hidden-the_row-TExpr-0 hidden
  told_comparison op p x y h =
      told_both (common x.ty y.ty) (common x.ty y.ty) x y (binary_value op int None None) (operated op (common x.ty y.ty) p) (λ n m. told_compare op (common x.ty y.ty) p n m h)

  told_decided : (op : LogicOp) (n : ℤ) (right : Answer) → told (logic_value op n right) ≡ decided op n (told right)
  told_decided logic.And n right = pick (is_zero n)
    where
      pick : (c : Bool) → told (cond c (Value (pos 0)) (and_then right (λ y. Value (truth_of y)))) ≡ cond c (Gives (pos 0)) (then_with (told right) (λ y. Gives (truth_of y)))
      pick true = refl
      pick false = told_then right (λ y. Value (truth_of y))
  told_decided logic.Or n right = pick (is_zero n)
    where
      pick : (c : Bool) → told (cond c (and_then right (λ y. Value (truth_of y))) (Value (pos 1))) ≡ cond c (then_with (told right) (λ y. Gives (truth_of y))) (Gives (pos 1))
      pick true = told_then right (λ y. Value (truth_of y))
      pick false = refl

  told_logic : (op : LogicOp) (x y : TExpr) → told (given (logic_typed op x y)) ≡ then_with (told (given x)) (λ n. decided op n (told (given y)))
  unfolding hidden-the_row-TExpr-0 hidden
  told_logic op x y =
      told_then (given x) (λ n. logic_value op n (given y))
      ∙ then_same (told (given x)) (λ n. told (logic_value op n (given y))) (λ n. decided op n (told (given y))) (λ n. told_decided op n (given y))

  told_binary_typed : (at : ℕ) (m : Meaning) (p : Place) (x y : TExpr) → Agrees m → StandAt all at (mark_sites m x.ty y.ty p) →
      told (given (binary_typed at m p x y)) ≡ then_with (told (given x)) (λ n. binary_operated m x.ty y.ty p n (told (given y)))
  told_binary_typed at (meaning.Logic op) p x y a h = told_logic op x y
  told_binary_typed at (meaning.Arithmetic op) p x y a h = told_operator at op (common x.ty y.ty) (common x.ty y.ty) p x y h
  told_binary_typed at (meaning.Comparison op) p x y a h = told_comparison op p x y a
  told_binary_typed at (meaning.Shift op) p x y a h = told_operator at op (promoted x.ty) (promoted y.ty) p x y h

  told_unary_typed : (at : ℕ) (mark : UnaryMark) (x : TExpr) → StandAt all at (unary_sites mark x.ty) →
      told (given (unary_typed at mark x)) ≡ then_with (told (given x)) (λ n. unary_operated (unary_op mark.operator) (unary_type (unary_op mark.operator) x.ty) mark.place (in_type x.ty (operand_type (unary_op mark.operator) x.ty) n))
  unfolding hidden-the_row-TExpr-0 hidden
  told_unary_typed at mark x h =
      let op = unary_op mark.operator in
      let t = unary_type op x.ty in
      let prop = prop_at at (unary_sites mark x.ty) in
      told_then (given (converted_to (operand_type op x.ty) x)) (unary_value op t prop)
      ∙ ap (λ v. then_with v (λ n. told (unary_value op t prop n))) (told_converted (operand_type op x.ty) x)
      ∙ then_then (told (given x)) (λ n. Gives (in_type x.ty (operand_type op x.ty) n)) (λ n. told (unary_value op t prop n))
      ∙ then_same (told (given x)) (λ n. told (unary_value op t prop (in_type x.ty (operand_type op x.ty) n))) (λ n. unary_operated op t mark.place (in_type x.ty (operand_type op x.ty) n)) (λ n. told_unary op t mark.place at (in_type x.ty (operand_type op x.ty) n) h)

  told_cast : (p : Place) (t : IntType) (x : TExpr) → told (given (cast_typed p t x)) ≡ then_with (told (given x)) (λ n. Gives (converted t n))
  told_cast p t x = ap told (given_convert t p x) ∙ told_then (given x) (λ n. Value (converted t n))

  told_choice : (c x y : TExpr) →
      told (given (choice_typed c x y))
      ≡ then_with (told (given c)) (λ n. if is_zero n then then_with (told (given y)) (λ m. Gives (in_type y.ty (common x.ty y.ty) m)) else then_with (told (given x)) (λ m. Gives (in_type x.ty (common x.ty y.ty) m)))
  unfolding hidden-the_row-TExpr-0 hidden
  told_choice c x y =
      let t = common x.ty y.ty in
      told_then (given c) (λ n. if is_zero n then given (converted_to t y) else given (converted_to t x))
      ∙ then_same (told (given c)) (λ n. told (if is_zero n then given (converted_to t y) else given (converted_to t x)))
      (λ n. if is_zero n then then_with (told (given y)) (λ m. Gives (in_type y.ty t m)) else then_with (told (given x)) (λ m. Gives (in_type x.ty t m))) (λ n. pick (is_zero n))
    where
      pick : (q : Bool) → told (cond q (given (converted_to (common x.ty y.ty) y)) (given (converted_to (common x.ty y.ty) x)))
          ≡ cond q (then_with (told (given y)) (λ m. Gives (in_type y.ty (common x.ty y.ty) m))) (then_with (told (given x)) (λ m. Gives (in_type x.ty (common x.ty y.ty) m)))
      pick true = told_converted (common x.ty y.ty) y
      pick false = told_converted (common x.ty y.ty) x

  abbrev chosen : (t u : IntType) → CAnswer → CAnswer → CAnswer → CAnswer
  chosen t u c x y = then_with c (λ n. if is_zero n then then_with y (λ m. Gives (in_type u (common t u) m)) else then_with x (λ m. Gives (in_type t (common t u) m)))

  told_object : (p : Place) (o : Found) → told (given (object_typed p o)) ≡ Gives (value_found rows o)
  told_object p Unknown = refl
  told_object p Other = refl
  told_object p (Integer o) = refl

  told_element_at : (row : List ℤ) (p : Place) (at : ℕ) (i : ℤ) → StandAt all at (bounds_site p) → told (element_at row (record { 0 = number_of at }) i) ≡ element_in row p i
  told_element_at row p at (pos i) h = pick (nat_lt i (length row))
    where
      pick : (q : Bool) → told (cond q (Value (slice_index_or row i (pos 0))) (Fault (record { 0 = number_of at }))) ≡ cond q (Gives (slice_index_or row i (pos 0))) (Breaks Bounds p)
      pick true = refl
      pick false = ap (λ n. break_at (slice_get all n)) (number_small at h.0) ∙ ap break_at h.1
  told_element_at row p at (negsuc i) h = ap (λ n. break_at (slice_get all n)) (number_small at h.0) ∙ ap break_at h.1

  told_element : (p q : Place) (o : Found) (x : TExpr) (at : ℕ) → StandAt all at (bounds_site q) →
      told (given (element_typed p o x at)) ≡ element_found rows o q (told (given x))
  unfolding hidden-the_row-TExpr-0 hidden
  told_element p q Unknown x at h = refl
  told_element p q Other x at h = refl
  told_element p q (Integer o) x at h =
      told_then (given x) (element_at (rows o.slot) (record { 0 = number_of at }))
      ∙ then_same (told (given x)) (λ n. told (element_at (rows o.slot) (record { 0 = number_of at }) n)) (element_in (rows o.slot) q) (λ n. told_element_at (rows o.slot) q at n h)

  mutual
    path_same : (env : List Scope) (at : ℕ) (x : Path) → StandAt all at (path_sites env x) → told (given (path_typed env at x)) ≡ path_value env rows x
    path_same env at (path.Object o) h = told_object o.name.place (found env false o)
    path_same env at (path.Element' o p _ (path.more_of-Expression e _)) h =
        told_element o.name.place p (found env true o) (typed_of env at e) (at + length (sites_in env e)) (stand_right all at (sites_in env e) (bounds_site p) h)
        ∙ ap (element_found rows (found env true o) p) (value_same env at e (stand_left all at (sites_in env e) (bounds_site p) h))

    value_same : (env : List Scope) (at : ℕ) (e : Expression) → StandAt all at (sites_in env e) → told (given (typed_of env at e)) ≡ c_value env rows e
    value_same env at (expression.Integer p spelled) h = refl
    value_same env at (expression.Character p value) h = refl
    value_same env at (expression.True p) h = refl
    value_same env at (expression.False p) h = refl
    value_same env at (expression.Read x) h = path_same env at x h
    value_same env at (expression.Parentheses' p _ (expression.more_of-Expression e _)) h = value_same env at e h
    value_same env at (expression.Unary' mark _ (expression.more_of-Expression e _)) h =
        let x = typed_of env at e in
        let after = at + length (sites_in env e) in
        let op = unary_op mark.operator in
        let is = has_type env at e in
        let there = stand_right all at (sites_in env e) (unary_sites mark (type_of env e)) h in
        told_unary_typed after mark x (subst (λ t. StandAt all after (unary_sites mark t)) (sym is) there)
        ∙ ap (λ t. then_with (told (given x)) (λ n. unary_operated op (unary_type op t) mark.place (in_type t (operand_type op t) n))) is
        ∙ ap (λ v. then_with v (λ n. unary_operated op (unary_type op (type_of env e)) mark.place (in_type (type_of env e) (operand_type op (type_of env e)) n))) (value_same env at e (stand_left all at (sites_in env e) (unary_sites mark (type_of env e)) h))
    value_same env at (expression.Cast' p ty _ (expression.more_of-Expression e _)) h =
        told_cast p (named ty.integer) (typed_of env at e) ∙ ap (λ v. then_with v (λ n. Gives (converted (named ty.integer) n))) (value_same env at e h)
    value_same env at (expression.Binary' _ (expression.more_of-Expression left _) mark _ (expression.more_of-Expression right _)) h =
        let m = meaning_of mark.operator in
        let between = at + length (sites_in env left) in
        let after = between + length (sites_in env right) in
        let x = typed_of env at left in
        let y = typed_of env between right in
        let own = mark_sites m (type_of env left) (type_of env right) mark.place in
        let later = stand_right all at (sites_in env left) (sites_in env right ++ own) h in
        let there : StandAt all after own = stand_right all between (sites_in env right) own later in
        told_binary_typed after m mark.place x y (agrees mark.operator)
        (subst (λ t. StandAt all after (mark_sites m t y.ty mark.place)) (sym (has_type env at left))
        (subst (λ t. StandAt all after (mark_sites m (type_of env left) t mark.place)) (sym (has_type env between right)) there))
        ∙ ap (λ t. then_with (told (given x)) (λ n. binary_operated m t y.ty mark.place n (told (given y)))) (has_type env at left)
        ∙ ap (λ t. then_with (told (given x)) (λ n. binary_operated m (type_of env left) t mark.place n (told (given y)))) (has_type env between right)
        ∙ ap (λ v. then_with v (λ n. binary_operated m (type_of env left) (type_of env right) mark.place n (told (given y)))) (value_same env at left (stand_left all at (sites_in env left) (sites_in env right ++ own) h))
        ∙ ap (λ v. then_with (c_value env rows left) (λ n. binary_operated m (type_of env left) (type_of env right) mark.place n v)) (value_same env between right (stand_left all between (sites_in env right) own later))
    value_same env at (expression.Conditional' _ (expression.more_of-Expression condition _) p _ (expression.more_of-Expression first _) _ (expression.more_of-Expression second _)) h =
        let one = at + length (sites_in env condition) in
        let two = one + length (sites_in env first) in
        let c = typed_of env at condition in
        let x = typed_of env one first in
        let y = typed_of env two second in
        let later = stand_right all at (sites_in env condition) (sites_in env first ++ sites_in env second) h in
        told_choice c x y
        ∙ ap (λ t. chosen t y.ty (told (given c)) (told (given x)) (told (given y))) (has_type env one first)
        ∙ ap (λ t. chosen (type_of env first) t (told (given c)) (told (given x)) (told (given y))) (has_type env two second)
        ∙ ap (λ v. chosen (type_of env first) (type_of env second) v (told (given x)) (told (given y))) (value_same env at condition (stand_left all at (sites_in env condition) (sites_in env first ++ sites_in env second) h))
        ∙ ap (λ v. chosen (type_of env first) (type_of env second) (c_value env rows condition) v (told (given y))) (value_same env one first (stand_left all one (sites_in env first) (sites_in env second) later))
        ∙ ap (λ v. chosen (type_of env first) (type_of env second) (c_value env rows condition) (c_value env rows first) v) (value_same env two second (stand_right all one (sites_in env first) (sites_in env second) later))

-- a typed expression has the type of its source, and its value in every store
pub has_meaning : (env : List Scope) (all : List Site) (at : ℕ) (e : Expression) → StandAt all at (sites_in env e) → HasMeaning env all e (typed_of env at e)
has_meaning env all at e h = record { ty = has_type env at e; value = λ rows. value_same all rows env at e h }
