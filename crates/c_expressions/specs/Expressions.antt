-- Expressions: their types, their offences, the properties in them, and their typed form (C99 6.5).
use Rattle.std.specs.Prelude.{ℕ, ◌+◌, List, [], ◌∷◌, ◌++◌, length, Option, Some, None, Bool, true, false, nat_lt, if◌then◌else◌, pos}
use Rattle.src_text.specs.declared.refusal.Place.{Place}
use Rattle.src_text.specs.declared.kind.Kind.TheVariants.{CUnknownName, CNotInteger, CLiteral}
use Rattle.c_tree.specs.declared.expressions.Object.{Object}
use Rattle.c_tree.specs.declared.expressions.UnaryMark.{UnaryMark}
use Rattle.c_tree.specs.declared.expressions.Expression.{Expression}
use Rattle.c_tree.specs.declared.expressions.Expression as expression
use Rattle.c_tree.specs.declared.expressions.Path.{Path}
use Rattle.c_tree.specs.declared.expressions.Path as path
use Rattle.joint_ir.specs.declared.ctype.IntType.{IntType}
use Rattle.joint_ir.specs.declared.expr.BinaryOp.{BinaryOp}
use Rattle.joint_ir.specs.declared.expr.LogicOp.{LogicOp}
use Rattle.joint_ir.specs.declared.expr.UnaryOp.{UnaryOp}
use Rattle.joint_ir.specs.declared.expr.UnaryOp.TheVariants as unary
use Rattle.joint_ir.specs.declared.expr.TExpr.{TExpr}
use Rattle.joint_ir.specs.declared.expr.TNode.{Const, Read, Index, Unary, Binary, Logic, Choose, Convert}
use Rattle.joint_ir.specs.declared.program.PropKind.TheVariants as kind
use Rattle.joint_ir.specs.Types.{int}
use Rattle.c_words.specs.declared.marks.Meaning.{Meaning}
use Rattle.c_words.specs.declared.marks.Meaning.TheVariants as meaning
use Rattle.offence_order.specs.declared.Offence.{Offence}
use Rattle.c_words.specs.declared.notes.Site.{Site}
use Rattle.c_words.specs.Types.{named, promoted, common, same_type, same_bool}
use Rattle.c_words.specs.Literals.{literal_of}
use Rattle.offence_order.specs.Order.{at}
use Rattle.c_words.specs.Marks.{unary_op, meaning_of, division_kind, other_kind, unary_kind, sites_of, prop_at, number_of}
use Rattle.c_names.specs.declared.paths.Found.{Found}
use Rattle.c_names.specs.declared.paths.Found.TheVariants.{Unknown, Other, Integer}
use Rattle.c_names.specs.Scope.{Scope}
use Rattle.c_names.specs.Paths.{found}

-- the type of what a path leads to
abbrev pub type_found : Found → IntType
type_found Unknown = int
type_found Other = int
type_found (Integer o) = o.ty

-- those of a path used as a value
abbrev pub value_offences : Place → Found → List Offence
value_offences p Unknown = at p CUnknownName
value_offences p Other = at p CNotInteger
value_offences p (Integer o) = []

-- a constant that no type of its list can hold is an offence (C99 6.4.4.1p5, 6.4.4p2)
abbrev pub literal_offences : Place → Option IntType → List Offence
literal_offences p None = at p CLiteral
literal_offences p (Some t) = []

-- the type that was found, or `int` where an offence was told already
abbrev pub type_or_int : Option IntType → IntType
type_or_int None = int
type_or_int (Some t) = t

-- the type to which the operand of a unary operator is converted, and that of the result
abbrev pub operand_type : UnaryOp → IntType → IntType
operand_type unary.Plus t = promoted t
operand_type unary.Minus t = promoted t
operand_type unary.Flip t = promoted t
operand_type unary.Not t = t

-- the type of the result: the promoted type, and `int` for `!` (C99 6.5.3.3)
abbrev pub unary_type : UnaryOp → IntType → IntType
unary_type unary.Plus t = promoted t
unary_type unary.Minus t = promoted t
unary_type unary.Flip t = promoted t
unary_type unary.Not t = int

-- the types to which the operands of a binary operator are converted, and that of the result
abbrev pub left_type : Meaning → (t u : IntType) → IntType
left_type (meaning.Logic op) t u = t
left_type (meaning.Arithmetic op) t u = common t u
left_type (meaning.Comparison op) t u = common t u
left_type (meaning.Shift op) t u = promoted t

-- the type that the right operand is converted to: the common type, or its own promoted type for a shift (C99
-- 6.3.1.8, 6.5.7p3)
abbrev pub right_type : Meaning → (t u : IntType) → IntType
right_type (meaning.Logic op) t u = u
right_type (meaning.Arithmetic op) t u = common t u
right_type (meaning.Comparison op) t u = common t u
right_type (meaning.Shift op) t u = promoted u

-- the type of the result: `int` for comparisons and for `&&` and `||`, the left operand's for shifts, else the common
-- type (C99 6.5.5 to 6.5.14)
abbrev pub binary_type : Meaning → (t u : IntType) → IntType
binary_type (meaning.Logic op) t u = int
binary_type (meaning.Arithmetic op) t u = common t u
binary_type (meaning.Comparison op) t u = int
binary_type (meaning.Shift op) t u = promoted t

-- the type of an expression; a path with an offence has the type `int`
abbrev mutual
  -- the type of what a path leads to
  pub path_type : List Scope → Path → IntType
  path_type env (path.Object o) = type_found (found env false o)
  path_type env (path.Element' o p _ (path.more_of-Expression e _)) = type_found (found env true o)

  -- each operator's result has the type that its clause says (C99 6.5)
  pub type_of : List Scope → Expression → IntType
  type_of env (expression.Integer p spelled) = type_or_int (literal_of spelled).ty
  type_of env (expression.Character p value) = int
  type_of env (expression.True p) = int
  type_of env (expression.False p) = int
  type_of env (expression.Read x) = path_type env x
  type_of env (expression.Parentheses' p _ (expression.more_of-Expression e _)) = type_of env e
  type_of env (expression.Unary' mark _ (expression.more_of-Expression e _)) = unary_type (unary_op mark.operator) (type_of env e)
  type_of env (expression.Cast' p ty _ (expression.more_of-Expression e _)) = named ty.integer
  type_of env (expression.Binary' _ (expression.more_of-Expression left _) mark _ (expression.more_of-Expression right _)) =
      binary_type (meaning_of mark.operator) (type_of env left) (type_of env right)
  type_of env (expression.Conditional' _ (expression.more_of-Expression condition _) p _ (expression.more_of-Expression first _) _ (expression.more_of-Expression second _)) =
      common (type_of env first) (type_of env second)

-- the offences in an expression that is used as a value
abbrev mutual
  -- the name comes before the index
  pub path_offences : List Scope → Path → List Offence
  path_offences env (path.Object o) = value_offences o.name.place (found env false o)
  path_offences env (path.Element' o p _ (path.more_of-Expression e _)) = value_offences o.name.place (found env true o) ++ offences_in env e

  -- each literal and path, from left to right
  pub offences_in : List Scope → Expression → List Offence
  offences_in env (expression.Integer p spelled) = literal_offences p (literal_of spelled).ty
  offences_in env (expression.Character p value) = []
  offences_in env (expression.True p) = []
  offences_in env (expression.False p) = []
  offences_in env (expression.Read x) = path_offences env x
  offences_in env (expression.Parentheses' p _ (expression.more_of-Expression e _)) = offences_in env e
  offences_in env (expression.Unary' mark _ (expression.more_of-Expression e _)) = offences_in env e
  offences_in env (expression.Cast' p ty _ (expression.more_of-Expression e _)) = offences_in env e
  offences_in env (expression.Binary' _ (expression.more_of-Expression left _) mark _ (expression.more_of-Expression right _)) =
      offences_in env left ++ offences_in env right
  offences_in env (expression.Conditional' _ (expression.more_of-Expression condition _) p _ (expression.more_of-Expression first _) _ (expression.more_of-Expression second _)) =
      offences_in env condition ++ (offences_in env first ++ offences_in env second)

-- the properties of a binary operator at its place: for its division, and for its overflow or its shift
abbrev pub operator_sites : BinaryOp → (signed : Bool) → Place → List Site
operator_sites op signed p = sites_of (division_kind op) p ++ sites_of (other_kind op signed) p

-- the properties of an operator over operands of types
abbrev pub mark_sites : Meaning → (t u : IntType) → Place → List Site
mark_sites (meaning.Logic op) t u p = []
mark_sites (meaning.Arithmetic op) t u p = operator_sites op (common t u).signed p
mark_sites (meaning.Comparison op) t u p = []
mark_sites (meaning.Shift op) t u p = operator_sites op (promoted t).signed p

-- the properties of a unary operator at its place: the overflow of `-` at a signed type
abbrev pub unary_sites : UnaryMark → IntType → List Site
unary_sites mark t = sites_of (unary_kind (unary_op mark.operator) (unary_type (unary_op mark.operator) t).signed) mark.place

-- the one property of an element: its index is within the array's bounds
abbrev pub bounds_site : Place → List Site
bounds_site p = (record { kind = kind.Bounds; place = p }) ∷ []

-- the properties in an expression, in the order in which their checks are met
abbrev mutual
  -- the index comes before its bounds
  pub path_sites : List Scope → Path → List Site
  path_sites env (path.Object o) = []
  path_sites env (path.Element' o p _ (path.more_of-Expression e _)) = sites_in env e ++ bounds_site p

  -- the operands come before their operator
  pub sites_in : List Scope → Expression → List Site
  sites_in env (expression.Integer p spelled) = []
  sites_in env (expression.Character p value) = []
  sites_in env (expression.True p) = []
  sites_in env (expression.False p) = []
  sites_in env (expression.Read x) = path_sites env x
  sites_in env (expression.Parentheses' p _ (expression.more_of-Expression e _)) = sites_in env e
  sites_in env (expression.Unary' mark _ (expression.more_of-Expression e _)) = sites_in env e ++ unary_sites mark (type_of env e)
  sites_in env (expression.Cast' p ty _ (expression.more_of-Expression e _)) = sites_in env e
  sites_in env (expression.Binary' _ (expression.more_of-Expression left _) mark _ (expression.more_of-Expression right _)) =
      sites_in env left ++ (sites_in env right ++ mark_sites (meaning_of mark.operator) (type_of env left) (type_of env right) mark.place)
  sites_in env (expression.Conditional' _ (expression.more_of-Expression condition _) p _ (expression.more_of-Expression first _) _ (expression.more_of-Expression second _)) =
      sites_in env condition ++ (sites_in env first ++ sites_in env second)

-- converted, where its type is another
abbrev pub converted_to : IntType → TExpr → TExpr
converted_to t e = if same_type e.ty t then e else record { ty = t; place = e.place; node = Convert e }

-- a constant of a type
abbrev pub constant_typed : Place → IntType → ℕ → TExpr
constant_typed p t n = record { ty = t; place = p; node = Const (pos n) }

-- what a name reads: its object; 0 of type `int` where the name is an offence
abbrev pub object_typed : Place → Found → TExpr
object_typed p Unknown = constant_typed p int 0
object_typed p Other = constant_typed p int 0
object_typed p (Integer o) = record { ty = o.ty; place = p; node = Read o.slot }

-- an element, with the number of its `bounds` property
abbrev pub element_typed : Place → Found → TExpr → ℕ → TExpr
element_typed p Unknown x id = constant_typed p int 0
element_typed p Other x id = constant_typed p int 0
element_typed p (Integer o) x id = record { ty = o.ty; place = p; node = Index o.slot x (record { 0 = number_of id }) }

-- at the place of the parenthesis
abbrev pub placed : Place → TExpr → TExpr
placed p x = record { ty = x.ty; place = p; node = x.node }

-- a unary operator over its converted operand, with its property where it has one
abbrev pub unary_typed : (base : ℕ) → UnaryMark → TExpr → TExpr
unary_typed base mark x =
    let op = unary_op mark.operator in
    record { ty = unary_type op x.ty; place = mark.place; node = Unary op (converted_to (operand_type op x.ty) x) (prop_at base (unary_sites mark x.ty)) }

-- a cast converts to the type that it names (C99 6.5.4)
abbrev pub cast_typed : Place → IntType → TExpr → TExpr
cast_typed p t x = record { ty = t; place = p; node = Convert x }

-- an operator over operands converted to types, with a result of a type
abbrev pub operator_typed : (base : ℕ) → BinaryOp → (signed : Bool) → (t l r : IntType) → Place → TExpr → TExpr → TExpr
operator_typed base op signed t l r p x y =
    record {
      ty = t;
      place = x.place;
      node =
          Binary op (converted_to l x) (converted_to r y) (prop_at base (sites_of (division_kind op) p))
          (prop_at (base + length (sites_of (division_kind op) p)) (sites_of (other_kind op signed) p));
    }

-- both operands are converted to their common type, and the result is an `int` (C99 6.5.8, 6.5.9)
abbrev pub comparison_typed : BinaryOp → TExpr → TExpr → TExpr
comparison_typed op x y =
    let t = common x.ty y.ty in
    record { ty = int; place = x.place; node = Binary op (converted_to t x) (converted_to t y) None None }

-- `&&` and `||` take each operand in its own type, and give an `int` (C99 6.5.13, 6.5.14)
abbrev pub logic_typed : LogicOp → TExpr → TExpr → TExpr
logic_typed op x y = record { ty = int; place = x.place; node = Logic op x y }

-- a binary operator over operands that are converted as its kind asks, with its properties
abbrev pub binary_typed : (base : ℕ) → Meaning → Place → TExpr → TExpr → TExpr
binary_typed base (meaning.Logic op) p x y = logic_typed op x y
binary_typed base (meaning.Arithmetic op) p x y =
    let t = common x.ty y.ty in operator_typed base op t.signed t t t p x y
binary_typed base (meaning.Comparison op) p x y = comparison_typed op x y
binary_typed base (meaning.Shift op) p x y =
    let t = promoted x.ty in operator_typed base op t.signed t t (promoted y.ty) p x y

-- `?:` has the common type of its second and third operand (C99 6.5.15p5)
abbrev pub choice_typed : TExpr → TExpr → TExpr → TExpr
choice_typed c x y =
    let t = common x.ty y.ty in record { ty = t; place = c.place; node = Choose c (converted_to t x) (converted_to t y) }

-- the typed form of an expression, where so many properties stand before it
abbrev mutual
  -- an element has the property of its bounds behind those of its index
  pub path_typed : List Scope → (base : ℕ) → Path → TExpr
  path_typed env base (path.Object o) = object_typed o.name.place (found env false o)
  path_typed env base (path.Element' o p _ (path.more_of-Expression e _)) =
      element_typed o.name.place (found env true o) (typed_of env base e) (base + length (sites_in env e))

  -- each operator has its operands converted
  pub typed_of : List Scope → (base : ℕ) → Expression → TExpr
  typed_of env base (expression.Integer p spelled) = constant_typed p (type_or_int (literal_of spelled).ty) (literal_of spelled).value
  typed_of env base (expression.Character p value) = constant_typed p int value
  typed_of env base (expression.True p) = constant_typed p int 1
  typed_of env base (expression.False p) = constant_typed p int 0
  typed_of env base (expression.Read x) = path_typed env base x
  typed_of env base (expression.Parentheses' p _ (expression.more_of-Expression e _)) = placed p (typed_of env base e)
  typed_of env base (expression.Unary' mark _ (expression.more_of-Expression e _)) =
      unary_typed (base + length (sites_in env e)) mark (typed_of env base e)
  typed_of env base (expression.Cast' p ty _ (expression.more_of-Expression e _)) = cast_typed p (named ty.integer) (typed_of env base e)
  typed_of env base (expression.Binary' _ (expression.more_of-Expression left _) mark _ (expression.more_of-Expression right _)) =
      let between = base + length (sites_in env left) in
      binary_typed (between + length (sites_in env right)) (meaning_of mark.operator) mark.place (typed_of env base left) (typed_of env between right)
  typed_of env base (expression.Conditional' _ (expression.more_of-Expression condition _) p _ (expression.more_of-Expression first _) _ (expression.more_of-Expression second _)) =
      let one = base + length (sites_in env condition) in
      choice_typed (typed_of env base condition) (typed_of env one first) (typed_of env (one + length (sites_in env first)) second)
