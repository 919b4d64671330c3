-- Typed expressions are well-formed.
use Rattle.std.proofs.Common.{◌≡◌, ℕ, ◌+◌, ◌<◌, List, [], ◌∷◌, ◌++◌, length, Bool, true, false, refl, sym, ap, subst, ◌∙◌, arith}
use Rattle.std.specs.Prelude.{pos, Option, Some, None, cond, not, ◌&&◌, ◌||◌, nat_lt, eqb, slice_get}
use Rattle.std.proofs.Math.Nat.{mod-eq_of_lt}
use Rattle.std.proofs.lemmas.Bool.Decides.{nat_tests}
use Rattle.std.proofs.lemmas.Int.{ints}
use Rattle.src_text.specs.declared.refusal.Place.{Place}
use Rattle.c_tree.specs.declared.declarations.IntegerType.{IntegerType}
use Rattle.c_tree.specs.declared.declarations.IntegerType.TheVariants as word
use Rattle.c_tree.specs.declared.expressions.BinaryOperator.{BinaryOperator}
use Rattle.c_tree.specs.declared.expressions.BinaryOperator.TheVariants as b
use Rattle.c_tree.specs.declared.expressions.UnaryMark.{UnaryMark}
use Rattle.c_tree.specs.declared.expressions.Object.{Object}
use Rattle.c_tree.specs.declared.names.Identifier.{Identifier}
use Rattle.c_tree.specs.declared.expressions.Expression.{Expression}
use Rattle.c_tree.specs.declared.expressions.Expression as expression
use Rattle.c_tree.specs.declared.expressions.Path.{Path}
use Rattle.c_tree.specs.declared.expressions.Path as path
use Rattle.joint_ir.specs.declared.ctype.IntType.{IntType}
use Rattle.joint_ir.specs.declared.expr.BinaryOp.{BinaryOp}
use Rattle.joint_ir.specs.declared.expr.TExpr.{TExpr}
use Rattle.joint_ir.specs.declared.expr.TNode.TheBlock.{hidden-the_row-TExpr-0}
use Rattle.joint_ir.specs.declared.expr.UnaryOp.{UnaryOp}
use Rattle.joint_ir.specs.declared.expr.UnaryOp.TheVariants.{Plus, Minus, Flip, Not}
use Rattle.joint_ir.specs.declared.program.PropKind.{PropKind}
use Rattle.joint_ir.specs.declared.program.PropKind.TheVariants as kind
use denote.Hole.Carrier.{hidden}
use Rattle.joint_ir.specs.Types.{int, IsType, Truth, Byte, Half, Single, Double, InRange}
use Rattle.joint_ir.specs.WellFormed as well
use Rattle.joint_ir.specs.WellFormed.{IsPromoted, FitsExpr, FitsAs, FitsBinary, FitsUnary, HasProp, IsProp, IsObject}
use Rattle.c_words.specs.declared.marks.Meaning.{Meaning}
use Rattle.c_words.specs.declared.marks.Meaning.TheVariants as meaning
use Rattle.c_words.specs.declared.notes.Site.{Site}
use Rattle.c_words.specs.Types.{sized, is_signed, named, promoted, wider, common, same_type, same_bool}
use Rattle.c_words.specs.Literals.{type_holding, kept, literal_of, value_of, body_of, is_octal}
use Rattle.c_words.specs.Marks.{unary_op, meaning_of, overflow_if, division_kind, other_kind, unary_kind, sites_of, prop_at, number_of}
use Rattle.c_names.specs.declared.paths.Found.{Found}
use Rattle.c_names.specs.declared.paths.Found.TheVariants.{Unknown, Other, Integer}
use Rattle.c_names.specs.declared.scope.Entry.{Entry}
use Rattle.c_names.specs.declared.scope.Entry.TheVariants as entry
use Rattle.c_names.specs.declared.scope.Target.{Target}
use Rattle.c_names.specs.Scope.{Scope, lookup}
use Rattle.c_names.specs.Paths.{dotted, object_found, member_found, reached, shaped, found}
use Rattle.c_expressions.specs.Expressions.{type_of, type_found, path_type, type_or_int, typed_of, path_typed, path_sites, sites_in, operand_type, unary_type, binary_type, converted_to, constant_typed, object_typed, element_typed, unary_typed, unary_sites, cast_typed, operator_typed, operator_sites, comparison_typed, binary_typed, mark_sites, choice_typed, bounds_site}
use Rattle.c_expressions.specs.Values.{StandAt}
use Rattle.c_expressions.proofs.Cases.{has_type}
use Rattle.c_meaning.specs.Sound.{IsThere, AreThere, AreProps, AreBytes, PathBytes}
use Rattle.c_meaning.proofs.Means.{stand_left, stand_right}

pub int_is : IsType int
int_is = Single true

pub named_is : (t : IntegerType) → IsType (named t)
named_is word.Bool = Truth
named_is (word.Char s) = Byte (is_signed s)
named_is (word.Short s) = Half (is_signed s)
named_is (word.Int s) = Single (is_signed s)
named_is (word.Long s) = Double (is_signed s)
named_is word.Int8 = Byte true
named_is word.Int16 = Half true
named_is word.Int32 = Single true
named_is word.Int64 = Double true
named_is word.Uint8 = Byte false
named_is word.Uint16 = Half false
named_is word.Uint32 = Single false
named_is word.Uint64 = Double false

pub int_wide : IsPromoted int
int_wide = record { type = Single true; wide = omega arith }

pub promoted_is : (t : IntType) → IsType t → IsPromoted (promoted t)
promoted_is _ Truth = int_wide
promoted_is _ (Byte s) = int_wide
promoted_is _ (Half s) = int_wide
promoted_is _ (Single s) = record { type = Single s; wide = omega arith }
promoted_is _ (Double s) = record { type = Double s; wide = omega arith }

-- a type of 32 or of 64 bits
data IsWide : IntType → Type 0 where
  Wide : (s : Bool) → IsWide (record { bits = 32; signed = s; truth = false })
  Widest : (s : Bool) → IsWide (record { bits = 64; signed = s; truth = false })

promoted_wide : (t : IntType) → IsType t → IsWide (promoted t)
promoted_wide _ Truth = Wide true
promoted_wide _ (Byte s) = Wide true
promoted_wide _ (Half s) = Wide true
promoted_wide _ (Single s) = Wide s
promoted_wide _ (Double s) = Widest s

wider_is : (t u : IntType) → IsWide t → IsWide u → IsPromoted (wider t u)
wider_is _ _ (Wide s) (Wide r) = record { type = Single (s && r); wide = omega arith }
wider_is _ _ (Wide s) (Widest r) = record { type = Double r; wide = omega arith }
wider_is _ _ (Widest s) (Wide r) = record { type = Double s; wide = omega arith }
wider_is _ _ (Widest s) (Widest r) = record { type = Double (s && r); wide = omega arith }

pub common_is : (t u : IntType) → IsType t → IsType u → IsPromoted (common t u)
common_is t u a c = wider_is (promoted t) (promoted u) (promoted_wide t a) (promoted_wide u c)

same_bool_true : (a c : Bool) → same_bool a c ≡ true → a ≡ c
same_bool_true true true h = refl
same_bool_true true false h = cc
same_bool_true false true h = cc
same_bool_true false false h = refl

and_left : (a c : Bool) → a && c ≡ true → a ≡ true
and_left true c h = refl
and_left false c h = h

and_right : (a c : Bool) → a && c ≡ true → c ≡ true
and_right true c h = h
and_right false c h = cc

eqb_true : (m n : ℕ) → eqb m n ≡ true → m ≡ n
eqb_true m n h = grind (arith, nat_tests)

same_type_true : (a c : IntType) → same_type a c ≡ true → a ≡ c
same_type_true a c h =
    let x = eqb_true a.bits c.bits (and_left _ _ (and_left (eqb a.bits c.bits && same_bool a.signed c.signed) _ h)) in
    let y = same_bool_true a.signed c.signed (and_right (eqb a.bits c.bits) _ (and_left (eqb a.bits c.bits && same_bool a.signed c.signed) _ h)) in
    let z = same_bool_true a.truth c.truth (and_right (eqb a.bits c.bits && same_bool a.signed c.signed) _ h) in
    made a.bits c.bits a.signed c.signed a.truth c.truth x y z
  where
    made : (m n : ℕ) (p q u v : Bool) → m ≡ n → p ≡ q → u ≡ v → (let x : IntType = record { bits = m; signed = p; truth = u } in x) ≡ record { bits = n; signed = q; truth = v }
    made m n p q u v x y z = cc

lt_true : (v n : ℕ) → nat_lt v n ≡ true → v < n
lt_true v n h = grind (arith, nat_tests)

third : (x y : Bool) (v n : ℕ) → x && y && nat_lt v n ≡ true → v < n
third true true v n h = lt_true v n h
third true false v n h = absurd (cc)
third false y v n h = absurd (cc)

second : (x : Bool) (v n : ℕ) → x && nat_lt v n ≡ true → v < n
second true v n h = lt_true v n h
second false v n h = absurd (cc)

-- a constant's type, and its value
abbrev IsHeld : Option IntType → ℕ → Type 0
IsHeld None v = Unit {0}
IsHeld (Some t) v = IsPromoted t × InRange t (pos v)

int_holds : (v : ℕ) → v < 2147483648 → InRange int (pos v)
int_holds v h = record { low = omega (arith, ints); high = omega (arith, ints) }

unsigned_holds : (v : ℕ) → v < 4294967296 → InRange (sized 32 false) (pos v)
unsigned_holds v h = record { low = omega (arith, ints); high = omega (arith, ints) }

long_holds : (v : ℕ) → v < 9223372036854775808 → InRange (sized 64 true) (pos v)
long_holds v h = record { low = omega (arith, ints); high = omega (arith, ints) }

unsigned_long_holds : (v : ℕ) → v < 18446744073709551616 → InRange (sized 64 false) (pos v)
unsigned_long_holds v h = record { low = omega (arith, ints); high = omega (arith, ints) }

held : (decimal u l : Bool) (v : ℕ) → IsHeld (type_holding decimal u l v) v
held decimal u l v =
    pick (not u && not l && nat_lt v 2147483648) ((u || not decimal) && not l && nat_lt v 4294967296) (not u && nat_lt v 9223372036854775808) ((u || not decimal) && nat_lt v 18446744073709551616)
    (third (not u) (not l) v 2147483648) (third (u || not decimal) (not l) v 4294967296) (second (not u) v 9223372036854775808) (second (u || not decimal) v 18446744073709551616)
  where
    pick : (p q r s : Bool) → (p ≡ true → v < 2147483648) → (q ≡ true → v < 4294967296) → (r ≡ true → v < 9223372036854775808) → (s ≡ true → v < 18446744073709551616) →
        IsHeld (cond p (Some int) (cond q (Some (sized 32 false)) (cond r (Some (sized 64 true)) (cond s (Some (sized 64 false)) None)))) v
    pick true q r s f g h k = (int_wide, int_holds v (f refl))
    pick false true r s f g h k = (record { type = Single false; wide = omega arith }, unsigned_holds v (g refl))
    pick false false true s f g h k = (record { type = Double true; wide = omega arith }, long_holds v (h refl))
    pick false false false true f g h k = (record { type = Double false; wide = omega arith }, unsigned_long_holds v (k refl))
    pick false false false false f g h k = tt

zero_in : (t : IntType) → IsType t → InRange t (pos 0)
zero_in _ Truth = record { low = omega (arith, ints); high = omega (arith, ints) }
zero_in _ (Byte true) = record { low = omega (arith, ints); high = omega (arith, ints) }
zero_in _ (Byte false) = record { low = omega (arith, ints); high = omega (arith, ints) }
zero_in _ (Half true) = record { low = omega (arith, ints); high = omega (arith, ints) }
zero_in _ (Half false) = record { low = omega (arith, ints); high = omega (arith, ints) }
zero_in _ (Single true) = record { low = omega (arith, ints); high = omega (arith, ints) }
zero_in _ (Single false) = record { low = omega (arith, ints); high = omega (arith, ints) }
zero_in _ (Double true) = record { low = omega (arith, ints); high = omega (arith, ints) }
zero_in _ (Double false) = record { low = omega (arith, ints); high = omega (arith, ints) }

kept_fits : (o : Option IntType) (v : ℕ) → IsHeld o v → IsPromoted (type_or_int o) × InRange (type_or_int o) (pos (kept o v))
kept_fits None v h = (int_wide, zero_in int int_is)
kept_fits (Some t) v h = pick (nat_lt v 18446744073709551616)
  where
    pick : (q : Bool) → IsPromoted t × InRange t (pos (cond q v 0))
    pick true = h
    pick false = (h.0, zero_in t h.0.type)

literal_fits : (spelled : List ℕ) → IsPromoted (type_or_int (literal_of spelled).ty) × InRange (type_or_int (literal_of spelled).ty) (pos (literal_of spelled).value)
literal_fits spelled = kept_fits _ (value_of (body_of spelled)) (held (not (is_octal (body_of spelled))) _ _ (value_of (body_of spelled)))

-- what a path leads to is there, and has the shape that is wanted
abbrev IsFound : well.Scope → Found → Type 0
IsFound c Unknown = Unit {0}
IsFound c Other = Unit {0}
IsFound c (Integer o) = IsThere c o

abbrev pub IsShaped : well.Scope → (indexed : Bool) → Found → Type 0
IsShaped c indexed Unknown = Unit {0}
IsShaped c indexed Other = Unit {0}
IsShaped c indexed (Integer o) = IsThere c o × (nat_lt 0 o.length ≡ indexed)

object_is : (c : well.Scope) (o : Target) (ms : List Identifier) → IsThere c o → IsFound c (object_found o ms)
object_is c o [] h = h
object_is c o (m ∷ ms) h = tt

member_is : (c : well.Scope) (e : Option Entry) → ((o : Target) → e ≡ Some (entry.Object o) → IsThere c o) → IsFound c (member_found e)
member_is c None h = tt
member_is c (Some (entry.Object o)) h = h o refl
member_is c (Some entry.Mirror) h = tt
member_is c (Some (entry.Function f)) h = tt
member_is c (Some entry.Pending) h = tt

is_reached : (c : well.Scope) (env : List Scope) (x : Object) (e : Option Entry) → AreThere c env → ((o : Target) → e ≡ Some (entry.Object o) → IsThere c o) → IsFound c (reached env x e)
is_reached c env x None names h = tt
is_reached c env x (Some entry.Pending) names h = tt
is_reached c env x (Some (entry.Function f)) names h = tt
is_reached c env x (Some (entry.Object o)) names h = object_is c o x.members (h o refl)
is_reached c env x (Some entry.Mirror) names h = member_is c (lookup env (dotted x)) (names (dotted x))

is_shaped : (c : well.Scope) (indexed : Bool) (f : Found) → IsFound c f → IsShaped c indexed (shaped indexed f)
is_shaped c indexed Unknown h = tt
is_shaped c indexed Other h = tt
is_shaped c indexed (Integer o) h = pick (same_bool (nat_lt 0 o.length) indexed) refl
  where
    pick : (q : Bool) → same_bool (nat_lt 0 o.length) indexed ≡ q → IsShaped c indexed (cond q (Integer o) Other)
    pick true e = (h, same_bool_true (nat_lt 0 o.length) indexed e)
    pick false e = tt

pub path_is : (c : well.Scope) (env : List Scope) (indexed : Bool) (o : Object) → AreThere c env → IsShaped c indexed (found env indexed o)
path_is c env indexed x h =
    is_shaped c indexed (reached env x (lookup env x.name.name)) (is_reached c env x (lookup env x.name.name) h (h x.name.name))

pub found_type_is : (c : well.Scope) (indexed : Bool) (f : Found) → IsShaped c indexed f → IsType (type_found f)
found_type_is c indexed Unknown h = int_is
found_type_is c indexed Other h = int_is
found_type_is c indexed (Integer o) h = h.0.type

binary_type_is : (m : Meaning) (t u : IntType) → IsType t → IsType u → IsType (binary_type m t u)
binary_type_is (meaning.Logic op) t u h g = int_is
binary_type_is (meaning.Arithmetic op) t u h g = (common_is t u h g).type
binary_type_is (meaning.Comparison op) t u h g = int_is
binary_type_is (meaning.Shift op) t u h g = (promoted_is t h).type

unary_type_is : (op : UnaryOp) (t : IntType) → IsType t → IsType (unary_type op t)
unary_type_is Plus t h = (promoted_is t h).type
unary_type_is Minus t h = (promoted_is t h).type
unary_type_is Flip t h = (promoted_is t h).type
unary_type_is Not t h = int_is

module _ (c : well.Scope) (env : List Scope) (names : AreThere c env) where
  mutual
    pub path_type_is : (x : Path) → IsType (path_type env x)
    path_type_is (path.Object o) = found_type_is c false (found env false o) (path_is c env false o names)
    path_type_is (path.Element' o p _ (path.more_of-Expression e _)) = found_type_is c true (found env true o) (path_is c env true o names)

    pub type_is : (e : Expression) → IsType (type_of env e)
    type_is (expression.Integer p spelled) = (literal_fits spelled).0.type
    type_is (expression.Character p value) = int_is
    type_is (expression.True p) = int_is
    type_is (expression.False p) = int_is
    type_is (expression.Read x) = path_type_is x
    type_is (expression.Parentheses' p _ (expression.more_of-Expression e _)) = type_is e
    type_is (expression.Unary' mark _ (expression.more_of-Expression e _)) = unary_type_is (unary_op mark.operator) (type_of env e) (type_is e)
    type_is (expression.Cast' p ty _ (expression.more_of-Expression e _)) = named_is ty.integer
    type_is (expression.Binary' _ (expression.more_of-Expression left _) mark _ (expression.more_of-Expression right _)) =
        binary_type_is (meaning_of mark.operator) (type_of env left) (type_of env right) (type_is left) (type_is right)
    type_is (expression.Conditional' _ (expression.more_of-Expression condition _) p _ (expression.more_of-Expression first _) _ (expression.more_of-Expression second _)) =
        (common_is (type_of env first) (type_of env second) (type_is first) (type_is second)).type

  pub typed_is : (base : ℕ) (e : Expression) → IsType (typed_of env base e).ty
  typed_is base e = subst IsType (sym (has_type env base e)) (type_is e)

module _ (c : well.Scope) (all : List Site) (props : AreProps all c.program) where
  pub converted_fits : (t : IntType) (x : TExpr) → IsType t → FitsExpr c x → FitsAs c t (converted_to t x)
  unfolding hidden-the_row-TExpr-0 hidden
  converted_fits t x is h = pick (same_type x.ty t) refl
    where
      pick : (q : Bool) → same_type x.ty t ≡ q → FitsAs c t (converted_to t x)
      pick true e = rw e (same_type_true x.ty t e, h)
      pick false e = rw e (refl, (is, h))

  pub there : (k : PropKind) (p : Place) (at : ℕ) → StandAt all at (sites_of (Some k) p) → IsProp c.program k (record { 0 = number_of at })
  there k p at h =
      let x = props at (record { kind = k; place = p }) h.1 in
      (x.0, ap (λ n. slice_get c.program.props n) (mod-eq_of_lt h.0) ∙ x.1, x.2)

  pub overflow_fits : (s : Bool) (p : Place) (at : ℕ) → StandAt all at (sites_of (overflow_if s) p) → HasProp c.program kind.Overflow s (prop_at at (sites_of (overflow_if s) p))
  overflow_fits true p at h = there kind.Overflow p at h
  overflow_fits false p at h = refl

  unary_fits : (op : UnaryOp) (t : IntType) (p : Place) (at : ℕ) → IsType t → StandAt all at (sites_of (unary_kind op (unary_type op t).signed) p) →
      FitsUnary c.program op (unary_type op t) (operand_type op t) (prop_at at (sites_of (unary_kind op (unary_type op t).signed) p))
  unary_fits Plus t p at is h = (promoted_is t is, refl, refl)
  unary_fits Minus t p at is h = (promoted_is t is, refl, overflow_fits (promoted t).signed p at h)
  unary_fits Flip t p at is h = (promoted_is t is, refl, refl)
  unary_fits Not t p at is h = (refl, refl)

  -- the operators of each meaning
  abbrev pub Works : Meaning → Type 0
  Works (meaning.Logic op) = Unit {0}
  Works (meaning.Arithmetic op) =
      (t : IntType) (p : Place) (at : ℕ) → IsPromoted t → StandAt all at (operator_sites op t.signed p) →
      FitsBinary c.program op t t t (prop_at at (sites_of (division_kind op) p)) (prop_at (at + length (sites_of (division_kind op) p)) (sites_of (other_kind op t.signed) p))
  Works (meaning.Comparison op) = (t : IntType) → IsPromoted t → FitsBinary c.program op int t t None None
  Works (meaning.Shift op) =
      (t u : IntType) (p : Place) (at : ℕ) → IsPromoted t → IsPromoted u → StandAt all at (operator_sites op t.signed p) →
      FitsBinary c.program op t t u (prop_at at (sites_of (division_kind op) p)) (prop_at (at + length (sites_of (division_kind op) p)) (sites_of (other_kind op t.signed) p))

  pub zero_more : (at : ℕ) (s : List Site) → StandAt all at s → StandAt all (at + 0) s
  zero_more at s h = subst (λ n. StandAt all n s) (omega arith) h

  pub works : (o : BinaryOperator) → Works (meaning_of o)
  works b.Multiply = λ t p at is h. (is, refl, refl, refl, overflow_fits t.signed p (at + 0) (zero_more at (sites_of (overflow_if t.signed) p) h))
  works b.Divide = λ t p at is h. (is, refl, refl, there kind.Division p at (h.0, h.1, tt), overflow_fits t.signed p (at + 1) h.2)
  works b.Remainder = λ t p at is h. (is, refl, refl, there kind.Division p at (h.0, h.1, tt), overflow_fits t.signed p (at + 1) h.2)
  works b.Add = λ t p at is h. (is, refl, refl, refl, overflow_fits t.signed p (at + 0) (zero_more at (sites_of (overflow_if t.signed) p) h))
  works b.Subtract = λ t p at is h. (is, refl, refl, refl, overflow_fits t.signed p (at + 0) (zero_more at (sites_of (overflow_if t.signed) p) h))
  works b.ShiftLeft = λ t u p at is is' h. (is, is', refl, refl, there kind.Shift p (at + 0) (zero_more at (sites_of (Some kind.Shift) p) h))
  works b.ShiftRight = λ t u p at is is' h. (is, is', refl, refl, there kind.Shift p (at + 0) (zero_more at (sites_of (Some kind.Shift) p) h))
  works b.Less = λ t is. (refl, is, refl, refl, refl)
  works b.LessEqual = λ t is. (refl, is, refl, refl, refl)
  works b.Greater = λ t is. (refl, is, refl, refl, refl)
  works b.GreaterEqual = λ t is. (refl, is, refl, refl, refl)
  works b.Equal = λ t is. (refl, is, refl, refl, refl)
  works b.NotEqual = λ t is. (refl, is, refl, refl, refl)
  works b.And = λ t p at is h. (is, refl, refl, refl, refl)
  works b.Xor = λ t p at is h. (is, refl, refl, refl, refl)
  works b.Or = λ t p at is h. (is, refl, refl, refl, refl)
  works b.LogicalAnd = tt
  works b.LogicalOr = tt

  -- operands that are converted to the types in which an operator works
  both_fit : (op : BinaryOp) (t l r : IntType) (p : Place) (at : ℕ) (s : Bool) (x y : TExpr) → IsType l → IsType r → FitsExpr c x → FitsExpr c y →
      FitsBinary c.program op t l r (prop_at at (sites_of (division_kind op) p)) (prop_at (at + length (sites_of (division_kind op) p)) (sites_of (other_kind op s) p)) →
      FitsExpr c (operator_typed at op s t l r p x y)
  unfolding hidden-the_row-TExpr-0 hidden
  both_fit op t l r p at s x y is is' h h' f =
      let a = converted_fits l x is h in
      let d = converted_fits r y is' h' in (
        subst (λ w. FitsBinary c.program op t (converted_to l x).ty w (prop_at at (sites_of (division_kind op) p)) (prop_at (at + length (sites_of (division_kind op) p)) (sites_of (other_kind op s) p))) (sym d.0)
            (subst (λ v. FitsBinary c.program op t v r (prop_at at (sites_of (division_kind op) p)) (prop_at (at + length (sites_of (division_kind op) p)) (sites_of (other_kind op s) p))) (sym a.0) f),
        a.1,
        d.1,
      )

  comparison_fits : (op : BinaryOp) (x y : TExpr) → IsType x.ty → IsType y.ty → FitsExpr c x → FitsExpr c y → ((t : IntType) → IsPromoted t → FitsBinary c.program op int t t None None) → FitsExpr c (comparison_typed op x y)
  unfolding hidden-the_row-TExpr-0 hidden
  comparison_fits op x y is is' h h' f =
      let t = common x.ty y.ty in
      let wide = common_is x.ty y.ty is is' in
      let a = converted_fits t x wide.type h in
      let d = converted_fits t y wide.type h' in
      (subst (λ w. FitsBinary c.program op int (converted_to t x).ty w None None) (sym d.0) (subst (λ v. FitsBinary c.program op int v t None None) (sym a.0) (f t wide)), a.1, d.1)

  binary_fits : (at : ℕ) (m : Meaning) (p : Place) (x y : TExpr) → IsType x.ty → IsType y.ty → FitsExpr c x → FitsExpr c y → Works m → StandAt all at (mark_sites m x.ty y.ty p) → FitsExpr c (binary_typed at m p x y)
  unfolding hidden-the_row-TExpr-0 hidden
  binary_fits at (meaning.Logic op) p x y is is' h h' w s = (refl, h, h')
  binary_fits at (meaning.Arithmetic op) p x y is is' h h' w s =
      let t = common x.ty y.ty in
      let wide = common_is x.ty y.ty is is' in
      both_fit op t t t p at t.signed x y wide.type wide.type h h' (w t p at wide s)
  binary_fits at (meaning.Comparison op) p x y is is' h h' w s = comparison_fits op x y is is' h h' w
  binary_fits at (meaning.Shift op) p x y is is' h h' w s =
      let left = promoted_is x.ty is in
      let right = promoted_is y.ty is' in
      both_fit op (promoted x.ty) (promoted x.ty) (promoted y.ty) p at (promoted x.ty).signed x y left.type right.type h h' (w (promoted x.ty) (promoted y.ty) p at left right s)

  unary_typed_fits : (at : ℕ) (mark : UnaryMark) (x : TExpr) → IsType x.ty → FitsExpr c x → StandAt all at (unary_sites mark x.ty) → FitsExpr c (unary_typed at mark x)
  unfolding hidden-the_row-TExpr-0 hidden
  unary_typed_fits at mark x is h s =
      let op = unary_op mark.operator in
      let a = converted_fits (operand_type op x.ty) x (operand_is op x.ty is) h in
      (subst (λ u. FitsUnary c.program op (unary_type op x.ty) u (prop_at at (unary_sites mark x.ty))) (sym a.0) (unary_fits op x.ty mark.place at is s), a.1)
    where
      operand_is : (op : UnaryOp) (t : IntType) → IsType t → IsType (operand_type op t)
      operand_is Plus t is = (promoted_is t is).type
      operand_is Minus t is = (promoted_is t is).type
      operand_is Flip t is = (promoted_is t is).type
      operand_is Not t is = is

  choice_fits : (x y z : TExpr) → IsType y.ty → IsType z.ty → FitsExpr c x → FitsExpr c y → FitsExpr c z → FitsExpr c (choice_typed x y z)
  unfolding hidden-the_row-TExpr-0 hidden
  choice_fits x y z is is' h h' h'' =
      let t = common y.ty z.ty in
      let wide = common_is y.ty z.ty is is' in
      let a = converted_fits t y wide.type h' in
      let d = converted_fits t z wide.type h'' in
      (wide, a.0, d.0, h, a.1, d.1)

  cast_fits : (p : Place) (t : IntType) (x : TExpr) → IsType t → FitsExpr c x → FitsExpr c (cast_typed p t x)
  unfolding hidden-the_row-TExpr-0 hidden
  cast_fits p t x is h = (is, h)

  constant_fits : (p : Place) (t : IntType) (n : ℕ) → IsPromoted t → InRange t (pos n) → FitsExpr c (constant_typed p t n)
  constant_fits p t n is h = (is, h)

  object_fits : (p : Place) (f : Found) → IsShaped c false f → FitsExpr c (object_typed p f)
  object_fits p Unknown h = (int_wide, zero_in int int_is)
  object_fits p Other h = (int_wide, zero_in int int_is)
  object_fits p (Integer o) h = (record { visible = h.0.visible; shape = ap (nat_lt 0) h.0.length ∙ h.1 }, h.0.ty)

  element_fits : (p q : Place) (f : Found) (x : TExpr) (at : ℕ) → IsShaped c true f → FitsExpr c x → StandAt all at (bounds_site q) → FitsExpr c (element_typed p f x at)
  unfolding hidden-the_row-TExpr-0 hidden
  element_fits p q Unknown x at h g s = (int_wide, zero_in int int_is)
  element_fits p q Other x at h g s = (int_wide, zero_in int int_is)
  element_fits p q (Integer o) x at h g s = (record { visible = h.0.visible; shape = ap (nat_lt 0) h.0.length ∙ h.1 }, h.0.ty, there kind.Bounds q at s, g)

  module _ (env : List Scope) (names : AreThere c env) where
    mutual
      path_fits : (at : ℕ) (x : Path) → PathBytes x → StandAt all at (path_sites env x) → FitsExpr c (path_typed env at x)
      path_fits at (path.Object o) v h = object_fits o.name.place (found env false o) (path_is c env false o names)
      path_fits at (path.Element' o p _ (path.more_of-Expression e _)) v h =
          element_fits o.name.place p (found env true o) (typed_of env at e) (at + length (sites_in env e)) (path_is c env true o names)
          (fits at e v (stand_left all at (sites_in env e) (bounds_site p) h)) (stand_right all at (sites_in env e) (bounds_site p) h)

      fits : (at : ℕ) (e : Expression) → AreBytes e → StandAt all at (sites_in env e) → FitsExpr c (typed_of env at e)
      fits at (expression.Integer p spelled) v h = literal_fits spelled
      fits at (expression.Character p value) v h = (int_wide, int_holds value (omega (arith, v)))
      fits at (expression.True p) v h = (int_wide, int_holds 1 (omega arith))
      fits at (expression.False p) v h = (int_wide, zero_in int int_is)
      fits at (expression.Read x) v h = path_fits at x v h
      fits at (expression.Parentheses' p _ (expression.more_of-Expression e _)) v h = fits at e v h
      fits at (expression.Unary' mark _ (expression.more_of-Expression e _)) v h =
          let after = at + length (sites_in env e) in
          unary_typed_fits after mark (typed_of env at e) (typed_is c env names at e) (fits at e v (stand_left all at (sites_in env e) (unary_sites mark (type_of env e)) h))
          (subst (λ t. StandAt all after (unary_sites mark t)) (sym (has_type env at e)) (stand_right all at (sites_in env e) (unary_sites mark (type_of env e)) h))
      fits at (expression.Cast' p ty _ (expression.more_of-Expression e _)) v h = cast_fits p (named ty.integer) (typed_of env at e) (named_is ty.integer) (fits at e v h)
      fits at (expression.Binary' _ (expression.more_of-Expression left _) mark _ (expression.more_of-Expression right _)) v h =
          let m = meaning_of mark.operator in
          let between = at + length (sites_in env left) in
          let after = between + length (sites_in env right) in
          let x = typed_of env at left in
          let y = typed_of env between right in
          let own = mark_sites m (type_of env left) (type_of env right) mark.place in
          let later = stand_right all at (sites_in env left) (sites_in env right ++ own) h in
          let mine : StandAt all after own = stand_right all between (sites_in env right) own later in
          binary_fits after m mark.place x y (typed_is c env names at left) (typed_is c env names between right)
          (fits at left v.0 (stand_left all at (sites_in env left) (sites_in env right ++ own) h)) (fits between right v.1 (stand_left all between (sites_in env right) own later)) (works mark.operator)
          (subst (λ t. StandAt all after (mark_sites m t y.ty mark.place)) (sym (has_type env at left))
          (subst (λ t. StandAt all after (mark_sites m (type_of env left) t mark.place)) (sym (has_type env between right)) mine))
      fits at (expression.Conditional' _ (expression.more_of-Expression condition _) p _ (expression.more_of-Expression first _) _ (expression.more_of-Expression second _)) v h =
          let one = at + length (sites_in env condition) in
          let two = one + length (sites_in env first) in
          let later = stand_right all at (sites_in env condition) (sites_in env first ++ sites_in env second) h in
          choice_fits (typed_of env at condition) (typed_of env one first) (typed_of env two second) (typed_is c env names one first) (typed_is c env names two second)
          (fits at condition v.0 (stand_left all at (sites_in env condition) (sites_in env first ++ sites_in env second) h))
          (fits one first v.1 (stand_left all one (sites_in env first) (sites_in env second) later)) (fits two second v.2 (stand_right all one (sites_in env first) (sites_in env second) later))

-- the typed form of an expression is well-formed
pub expression_fits : (c : well.Scope) (all : List Site) → AreProps all c.program → (env : List Scope) → AreThere c env →
    (at : ℕ) (e : Expression) → AreBytes e → StandAt all at (sites_in env e) → FitsExpr c (typed_of env at e)
expression_fits c all props env names at e v h = fits c all props env names at e v h
