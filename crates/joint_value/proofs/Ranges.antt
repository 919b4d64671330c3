-- A well-formed expression over objects that hold numbers of their types gives a number of its type, or a property that
-- breaks; and what its operators work on is what they can work on.
use Rattle.std.proofs.Common.{◌≡◌, ◌≤◌, Bool, true, false, refl, sym, subst, arith}
use Rattle.std.specs.Prelude.{ℤ, pos, negsuc, ◌<ℤ◌, zero, suc, Option, Some, None, IsSome, if◌then◌else◌, List, All, length, nat_lt, slice_index_or}
use Rattle.std.proofs.lemmas.Int.{ints}
use Rattle.joint_ir.specs.declared.ctype.IntType.{IntType}
use Rattle.joint_ir.specs.declared.expr.BinaryOp.{BinaryOp}
use Rattle.joint_ir.specs.declared.expr.BinaryOp.TheVariants.{Add, Sub, Mul, Div, Rem, Shl, Shr, And, Or, Xor, Eq, Ne, Lt, Le, Gt, Ge}
use Rattle.joint_ir.specs.declared.expr.LogicOp.{LogicOp}
use Rattle.joint_ir.specs.declared.expr.LogicOp.TheVariants as logic
use Rattle.joint_ir.specs.declared.expr.TExpr.{TExpr}
use Rattle.joint_ir.specs.declared.expr.TNode.{TNode, Const, Read, Index', Unary', Binary', Logic', Choose', Convert', more_of-TExpr}
use Rattle.joint_ir.specs.declared.expr.UnaryOp.{UnaryOp}
use Rattle.joint_ir.specs.declared.expr.UnaryOp.TheVariants.{Plus, Minus, Flip, Not}
use Rattle.joint_ir.specs.declared.program.CProgram.{CProgram}
use Rattle.joint_ir.specs.declared.program.PropId.{PropId}
use Rattle.joint_ir.specs.declared.program.PropKind.{PropKind}
use Rattle.joint_ir.specs.declared.program.PropKind.TheVariants as kind
use Rattle.joint_ir.specs.Types.{int, InRange, IsType, Truth, Byte, Half, Single, Double, truth_of}
use Rattle.joint_ir.specs.Values.{Answer, Value, Fault, Rows, and_then, checked, result_in, is_zero, unary_value, binary_value, logic_value, element_at, first_of, node_value, value_of}
use Rattle.joint_ir.specs.Steps.{slot_type}
use Rattle.joint_ir.specs.WellFormed.{Scope, FitsNode, FitsExpr, FitsAs, FitsUnary, FitsBinary, HasProp}
use Rattle.joint_value.specs.Answers.{AreFactors, CanOperate}
use Rattle.joint_value.specs.Evaluable.{HoldsTypes, IsEvaluable}
use Rattle.joint_value.proofs.Numbers.{width_of, converted_in, bit_in, truth_of_in, rest_in, shifted_in, and_in, or_in, xor_in, element_in}

-- a number of a type, or a property that breaks
abbrev pub Gives : IntType → Answer → Type 0
Gives t (Value n) = InRange t n
Gives t (Fault p) = Unit {0}

-- the type of `int`
pub int_is : (t : IntType) → t ≡ int → IsType t
int_is t e = subst IsType (sym e) (Single true)

in_int : (t : IntType) (n : ℤ) → t ≡ int → InRange int n → InRange t n
in_int t n e h = subst (λ (u : IntType). InRange u n) (sym e) h

pub then_gives : (t u : IntType) (a : Answer) (go : ℤ → Answer) → Gives u a → ((n : ℤ) → InRange u n → Gives t (go n)) → Gives t (and_then a go)
then_gives t u (Value n) go h next = next n h
then_gives t u (Fault p) go h next = tt

checked_gives : (t : IntType) (p : Option PropId) (test : Bool) (a : Answer) → Gives t a → Gives t (checked p test a)
checked_gives t None test a h = h
checked_gives t (Some p) true a h = h
checked_gives t (Some p) false a h = tt

result_gives : (t : IntType) (p : Option PropId) (n : ℤ) → IsType t → Gives t (result_in t p n)
result_gives t p n is = checked_gives t p _ _ (converted_in t n is)

pub unary_type : (c : CProgram) (op : UnaryOp) (t u : IntType) (p : Option PropId) → FitsUnary c op t u p → IsType t
unary_type c Plus t u p h = h.0.type
unary_type c Minus t u p h = h.0.type
unary_type c Flip t u p h = h.0.type
unary_type c Not t u p h = int_is t h.0

pub unary_gives : (c : CProgram) (op : UnaryOp) (t u : IntType) (p : Option PropId) (x : ℤ) → FitsUnary c op t u p → InRange u x → Gives t (unary_value op t p x)
unary_gives c Plus t u p x h r = subst (λ (v : IntType). InRange v x) h.1 r
unary_gives c Minus t u p x h r = result_gives t p _ h.0.type
unary_gives c Flip t u p x h r = converted_in t _ h.0.type
unary_gives c Not t u p x h r = in_int t _ h.0 (bit_in (is_zero x))

pub binary_type : (c : CProgram) (op : BinaryOp) (t u v : IntType) (d p : Option PropId) → FitsBinary c op t u v d p → IsType t
binary_type c Add t u v d p h = h.0.type
binary_type c Sub t u v d p h = h.0.type
binary_type c Mul t u v d p h = h.0.type
binary_type c Div t u v d p h = h.0.type
binary_type c Rem t u v d p h = h.0.type
binary_type c Shl t u v d p h = h.0.type
binary_type c Shr t u v d p h = h.0.type
binary_type c And t u v d p h = h.0.type
binary_type c Or t u v d p h = h.0.type
binary_type c Xor t u v d p h = h.0.type
binary_type c Eq t u v d p h = int_is t h.0
binary_type c Ne t u v d p h = int_is t h.0
binary_type c Lt t u v d p h = int_is t h.0
binary_type c Le t u v d p h = int_is t h.0
binary_type c Gt t u v d p h = int_is t h.0
binary_type c Ge t u v d p h = int_is t h.0

pub binary_gives : (c : CProgram) (op : BinaryOp) (t u v : IntType) (d p : Option PropId) (x y : ℤ) → FitsBinary c op t u v d p → InRange u x → InRange v y →
    Gives t (binary_value op t d p x y)
binary_gives c Add t u v d p x y h r s = result_gives t p _ h.0.type
binary_gives c Sub t u v d p x y h r s = result_gives t p _ h.0.type
binary_gives c Mul t u v d p x y h r s = result_gives t p _ h.0.type
binary_gives c Div t u v d p x y h r s = checked_gives t d _ _ (result_gives t p _ h.0.type)
binary_gives c Rem t u v d p x y h r s =
    let q : InRange t x = subst (λ (w : IntType). InRange w x) h.1 r in
    checked_gives t d _ _ (checked_gives t p _ _ (rest_in t x y q))
binary_gives c Shl t u v d p x y h r s = checked_gives t p _ _ (converted_in t _ h.0.type)
binary_gives c Shr t u v d p x y h r s =
    let q : InRange t x = subst (λ (w : IntType). InRange w x) h.2 r in
    checked_gives t p _ _ (shifted_in t x y q)
binary_gives c And t u v d p x y h r s = and_in t x y (width_of t h.0.type)
binary_gives c Or t u v d p x y h r s = or_in t x y (width_of t h.0.type)
binary_gives c Xor t u v d p x y h r s = xor_in t x y (width_of t h.0.type)
binary_gives c Eq t u v d p x y h r s = in_int t _ h.0 (bit_in _)
binary_gives c Ne t u v d p x y h r s = in_int t _ h.0 (bit_in _)
binary_gives c Lt t u v d p x y h r s = in_int t _ h.0 (bit_in _)
binary_gives c Le t u v d p x y h r s = in_int t _ h.0 (bit_in _)
binary_gives c Gt t u v d p x y h r s = in_int t _ h.0 (bit_in _)
binary_gives c Ge t u v d p x y h r s = in_int t _ h.0 (bit_in _)

truth_gives : (right : Answer) → Gives int (and_then right (λ y. Value (truth_of y)))
truth_gives (Value y) = truth_of_in y
truth_gives (Fault p) = tt

pub logic_gives : (op : LogicOp) (x : ℤ) (right : Answer) → Gives int (logic_value op x right)
logic_gives logic.And (pos zero) right = bit_in false
logic_gives logic.And (pos (suc n)) right = truth_gives right
logic_gives logic.And (negsuc n) right = truth_gives right
logic_gives logic.Or (pos zero) right = truth_gives right
logic_gives logic.Or (pos (suc n)) right = bit_in true
logic_gives logic.Or (negsuc n) right = bit_in true

within_gives : (t : IntType) (within : Bool) (n : ℤ) (p : PropId) → InRange t n → Gives t (if within then Value n else Fault p)
within_gives t true n p h = h
within_gives t false n p h = tt

at_gives : (t : IntType) (row : List ℤ) (p : PropId) (i : ℤ) → All (InRange t) row → Gives t (element_at row p i)
at_gives t row p (pos i) h = within_gives t (nat_lt i (length row)) (slice_index_or row i (pos 0)) p (element_in t row i h)
at_gives t row p (negsuc i) h = tt

choice_gives : (t : IntType) (zero : Bool) (a b : Answer) → Gives t a → Gives t b → Gives t (if zero then b else a)
choice_gives t true a b h i = i
choice_gives t false a b h i = h

-- what an operator of a promoted type may multiply
factors_of : (t : IntType) (x y : ℤ) → IsType t → 32 ≤ t.bits → InRange t x → InRange t y → AreFactors t x y
factors_of _ x y Truth wide hx hy = absurd (omega arith)
factors_of _ x y (Byte s) wide hx hy = absurd (omega arith)
factors_of _ x y (Half s) wide hx hy = absurd (omega arith)
factors_of _ x y (Single true) wide hx hy = record {
  truth = refl;
  signed_x = λ e. omega (arith, ints);
  signed_y = λ e. omega (arith, ints);
  low_x = λ e. cc;
  high_x = λ e. cc;
  low_y = λ e. cc;
  high_y = λ e. cc;
}
factors_of _ x y (Single false) wide hx hy = record {
  truth = refl;
  signed_x = λ e. cc;
  signed_y = λ e. cc;
  low_x = λ e. omega (arith, ints);
  high_x = λ e. omega (arith, ints);
  low_y = λ e. omega (arith, ints);
  high_y = λ e. omega (arith, ints);
}
factors_of _ x y (Double true) wide hx hy = record {
  truth = refl;
  signed_x = λ e. omega (arith, ints);
  signed_y = λ e. omega (arith, ints);
  low_x = λ e. cc;
  high_x = λ e. cc;
  low_y = λ e. cc;
  high_y = λ e. cc;
}
factors_of _ x y (Double false) wide hx hy = record {
  truth = refl;
  signed_x = λ e. cc;
  signed_y = λ e. cc;
  low_x = λ e. omega (arith, ints);
  high_x = λ e. omega (arith, ints);
  low_y = λ e. omega (arith, ints);
  high_y = λ e. omega (arith, ints);
}

some_of : (c : CProgram) (k : PropKind) (p : Option PropId) → HasProp c k true p → IsSome p
some_of c k None h = absurd h
some_of c k (Some p) h = refl

pub can_operate : (c : CProgram) (op : BinaryOp) (t u v : IntType) (d p : Option PropId) (x y : ℤ) → FitsBinary c op t u v d p → InRange u x → InRange v y →
    CanOperate op t d p x y
can_operate c Add t u v d p x y h r s = tt
can_operate c Sub t u v d p x y h r s = tt
can_operate c Mul t u v d p x y h r s =
    factors_of t x y h.0.type h.0.wide (subst (λ (w : IntType). InRange w x) h.1 r) (subst (λ (w : IntType). InRange w y) h.2 s)
can_operate c Div t u v d p x y h r s = some_of c kind.Division d h.3
can_operate c Rem t u v d p x y h r s = some_of c kind.Division d h.3
can_operate c Shl t u v d p x y h r s =
    let q : InRange t x = subst (λ (w : IntType). InRange w x) h.2 r in
    let f = factors_of t x x h.0.type h.0.wide q q in
    (some_of c kind.Shift p h.4, f.low_x, below t x h.0.type q)
  where
    below : (t : IntType) (x : ℤ) → IsType t → InRange t x → x <ℤ pos 18446744073709551616
    below _ x Truth q = omega (arith, ints)
    below _ x (Byte true) q = omega (arith, ints)
    below _ x (Byte false) q = omega (arith, ints)
    below _ x (Half true) q = omega (arith, ints)
    below _ x (Half false) q = omega (arith, ints)
    below _ x (Single true) q = omega (arith, ints)
    below _ x (Single false) q = omega (arith, ints)
    below _ x (Double true) q = omega (arith, ints)
    below _ x (Double false) q = omega (arith, ints)
can_operate c Shr t u v d p x y h r s = some_of c kind.Shift p h.4
can_operate c And t u v d p x y h r s = tt
can_operate c Or t u v d p x y h r s = tt
can_operate c Xor t u v d p x y h r s = tt
can_operate c Eq t u v d p x y h r s = tt
can_operate c Ne t u v d p x y h r s = tt
can_operate c Lt t u v d p x y h r s = tt
can_operate c Le t u v d p x y h r s = tt
can_operate c Gt t u v d p x y h r s = tt
can_operate c Ge t u v d p x y h r s = tt

module _ (c : Scope) (rows : Rows) (held : HoldsTypes c.program rows) where
  -- a node of a type: there is such a type, and its value is a number of it
  pub node_type : (t : IntType) (node : TNode) → FitsNode c t node → IsType t
  node_type t (Const n) h = h.0.type
  node_type t (Read slot) h = subst IsType (sym h.1) (held.types slot)
  node_type t (Index' slot _ (more_of-TExpr u q a _) p) h = subst IsType (sym h.1) (held.types slot)
  node_type t (Unary' op _ (more_of-TExpr u q a _) p) h = unary_type c.program op t u p h.0
  node_type t (Binary' op _ (more_of-TExpr u q a _) _ (more_of-TExpr v r b _) d p) h = binary_type c.program op t u v d p h.0
  node_type t (Logic' op _ (more_of-TExpr u q a _) _ (more_of-TExpr v r b _)) h = int_is t h.0
  node_type t (Choose' _ (more_of-TExpr u q x _) _ (more_of-TExpr v r a _) _ (more_of-TExpr w s b _)) h = h.0.type
  node_type t (Convert' _ (more_of-TExpr u q a _)) h = h.0

  pub node_gives : (t : IntType) (node : TNode) → FitsNode c t node → Gives t (node_value rows t node)
  node_gives t (Const n) h = h.1
  node_gives t (Read slot) h = subst (λ (u : IntType). InRange u (first_of (rows slot))) (sym h.1) (element_in (slot_type c.program slot) (rows slot) 0 (held.values slot))
  node_gives t (Index' slot _ (more_of-TExpr u q a _) p) h = then_gives t u (node_value rows u a) (element_at (rows slot) p) (node_gives u a h.3)
      (λ i r. subst (λ (w : IntType). Gives w (element_at (rows slot) p i)) (sym h.1) (at_gives (slot_type c.program slot) (rows slot) p i (held.values slot)))
  node_gives t (Unary' op _ (more_of-TExpr u q a _) p) h =
      then_gives t u (node_value rows u a) (unary_value op t p) (node_gives u a h.1) (λ x r. unary_gives c.program op t u p x h.0 r)
  node_gives t (Binary' op _ (more_of-TExpr u q a _) _ (more_of-TExpr v r b _) d p) h =
      then_gives t u (node_value rows u a) (λ x. and_then (node_value rows v b) (binary_value op t d p x)) (node_gives u a h.1)
      (λ x i. then_gives t v (node_value rows v b) (binary_value op t d p x) (node_gives v b h.2) (λ y j. binary_gives c.program op t u v d p x y h.0 i j))
  node_gives t (Logic' op _ (more_of-TExpr u q a _) _ (more_of-TExpr v r b _)) h =
      subst (λ (w : IntType). Gives w (and_then (node_value rows u a) (λ x. logic_value op x (node_value rows v b)))) (sym h.0)
      (then_gives int u (node_value rows u a) (λ x. logic_value op x (node_value rows v b)) (node_gives u a h.1) (λ x i. logic_gives op x (node_value rows v b)))
  node_gives t (Choose' _ (more_of-TExpr u q x _) _ (more_of-TExpr v r a _) _ (more_of-TExpr w s b _)) h =
      then_gives t u (node_value rows u x) (λ n. if is_zero n then node_value rows w b else node_value rows v a) (node_gives u x h.3)
      (λ n i. choice_gives t (is_zero n) (node_value rows v a) (node_value rows w b)
      (subst (λ (z : IntType). Gives z (node_value rows v a)) h.1 (node_gives v a h.4))
      (subst (λ (z : IntType). Gives z (node_value rows w b)) h.2 (node_gives w b h.5)))
  node_gives t (Convert' _ (more_of-TExpr u q a _)) h =
      then_gives t u (node_value rows u a) _ (node_gives u a h.1) (λ x i. converted_in t x h.0)

  pub expr_type : (e : TExpr) → FitsExpr c e → IsType e.ty
  expr_type e h = node_type e.ty e.node h

  pub expr_gives : (e : TExpr) → FitsExpr c e → Gives e.ty (value_of rows e)
  expr_gives e h = node_gives e.ty e.node h

-- the value of an expression is in the range of its type
pub value_in_range : (rows : Rows) (e : TExpr) (n : ℤ) → IsEvaluable rows e → Value n ≡ value_of rows e → InRange e.ty n
value_in_range rows e n h is = subst (Gives e.ty) (sym is) (expr_gives h.scope rows h.held e h.fits)

pub value_as : (c : Scope) (rows : Rows) (t : IntType) (e : TExpr) (n : ℤ) → FitsAs c t e → HoldsTypes c.program rows → Value n ≡ value_of rows e → InRange t n
value_as c rows t e n fits held is =
    subst (λ (u : IntType). InRange u n) fits.0 (value_in_range rows e n (record { scope = c; fits = fits.1; held = held }) is)
