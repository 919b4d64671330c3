-- Expressions, case by case.
use Rattle.std.proofs.Common.{◌≡◌, ℕ, ◌+◌, add-zero, List, [], ◌++◌, length, true, false, refl, sym, ap, subst, ◌∙◌}
use Rattle.src_text.specs.declared.refusal.Place.{Place}
use Rattle.c_tree.specs.declared.declarations.TypeName.{TypeName}
use Rattle.c_tree.specs.declared.expressions.BinaryMark.{BinaryMark}
use Rattle.c_tree.specs.declared.expressions.UnaryMark.{UnaryMark}
use Rattle.c_tree.specs.declared.expressions.Object.{Object}
use Rattle.c_tree.specs.declared.expressions.Expression.{Expression}
use Rattle.c_tree.specs.declared.expressions.Expression as expression
use Rattle.c_tree.specs.declared.expressions.Expression.TheBlock.{hidden-the_row-Expression-0}
use Rattle.c_tree.specs.declared.expressions.Path.{Path}
use Rattle.c_tree.specs.declared.expressions.Path as path
use denote.Hole.Carrier.{hidden}
use Rattle.joint_ir.specs.declared.ctype.IntType.{IntType}
use Rattle.joint_ir.specs.declared.expr.TExpr.{TExpr}
use Rattle.c_words.specs.declared.marks.Meaning.{Meaning}
use Rattle.c_words.specs.declared.marks.Meaning.TheVariants as meaning
use Rattle.c_words.specs.declared.notes.Notes.{Notes}
use Rattle.c_words.specs.Notes.{noted}
use Rattle.c_words.specs.Types.{named, common}
use Rattle.c_words.specs.Marks.{unary_op, meaning_of}
use Rattle.c_names.specs.declared.paths.Found.{Found}
use Rattle.c_names.specs.declared.paths.Found.TheVariants.{Unknown, Other, Integer}
use Rattle.c_names.specs.Scope.{Scope}
use Rattle.c_names.specs.Paths.{found}
use Rattle.c_expressions.specs.Expressions.{type_found, type_of, path_type, binary_type, unary_type, offences_in, sites_in, typed_of, path_typed, path_offences, path_sites, value_offences, object_typed, element_typed, placed, unary_typed, unary_sites, cast_typed, binary_typed, mark_sites, choice_typed, bounds_site}
use Rattle.c_expressions.specs.Steps.{IsTyped, IsPathTyped}
use Rattle.c_expressions.proofs.Noting.{noted_then, noted_sites, sites_after}

object_type : (p : Place) (o : Found) → (object_typed p o).ty ≡ type_found o
object_type p Unknown = refl
object_type p Other = refl
object_type p (Integer o) = refl

element_type : (p : Place) (o : Found) (x : TExpr) (id : ℕ) → (element_typed p o x id).ty ≡ type_found o
element_type p Unknown x id = refl
element_type p Other x id = refl
element_type p (Integer o) x id = refl

binary_made : (base : ℕ) (m : Meaning) (p : Place) (x y : TExpr) → (binary_typed base m p x y).ty ≡ binary_type m x.ty y.ty
binary_made base (meaning.Logic op) p x y = refl
binary_made base (meaning.Arithmetic op) p x y = refl
binary_made base (meaning.Comparison op) p x y = refl
binary_made base (meaning.Shift op) p x y = refl

-- a typed expression has the type of the source
mutual
  pub path_has_type : (env : List Scope) (base : ℕ) (x : Path) → (path_typed env base x).ty ≡ path_type env x
  path_has_type env base (path.Object o) = object_type o.name.place (found env false o)
  path_has_type env base (path.Element' o p _ (path.more_of-Expression e _)) = element_type o.name.place (found env true o) _ _

  pub has_type : (env : List Scope) (base : ℕ) (e : Expression) → (typed_of env base e).ty ≡ type_of env e
  has_type env base (expression.Integer p spelled) = refl
  has_type env base (expression.Character p value) = refl
  has_type env base (expression.True p) = refl
  has_type env base (expression.False p) = refl
  has_type env base (expression.Read x) = path_has_type env base x
  has_type env base (expression.Parentheses' p _ (expression.more_of-Expression e _)) = has_type env base e
  has_type env base (expression.Unary' mark _ (expression.more_of-Expression e _)) = ap (unary_type (unary_op mark.operator)) (has_type env base e)
  has_type env base (expression.Cast' p ty _ (expression.more_of-Expression e _)) = refl
  has_type env base (expression.Binary' _ (expression.more_of-Expression left _) mark _ (expression.more_of-Expression right _)) =
      binary_made (base + length (sites_in env left) + length (sites_in env right)) (meaning_of mark.operator) mark.place (typed_of env base left) (typed_of env (base + length (sites_in env left)) right)
      ∙ ap (λ t. binary_type (meaning_of mark.operator) t (typed_of env (base + length (sites_in env left)) right).ty) (has_type env base left)
      ∙ ap (binary_type (meaning_of mark.operator) (type_of env left)) (has_type env (base + length (sites_in env left)) right)
  has_type env base (expression.Conditional' _ (expression.more_of-Expression condition _) p _ (expression.more_of-Expression first _) _ (expression.more_of-Expression second _)) =
      ap (λ t. common t (typed_of env (base + length (sites_in env condition) + length (sites_in env first)) second).ty) (has_type env (base + length (sites_in env condition)) first)
      ∙ ap (common (type_of env first)) (has_type env (base + length (sites_in env condition) + length (sites_in env first)) second)

-- of an expression that is typed
module _ (env : List Scope) (old new : Notes) (e : Expression) (t : TExpr) (h : IsTyped env old new e t) where
  pub its_type : t.ty ≡ type_of env e
  its_type = ap (λ (x : TExpr). x.ty) h.typed ∙ has_type env (length old.sites) e

  pub its_end : length new.sites ≡ length old.sites + length (sites_in env e)
  its_end = sites_after old new (offences_in env e) (sites_in env e) h.notes

same : (env : List Scope) (old new : Notes) (a got : Expression) (t : TExpr) → got ≡ a → IsTyped env old new got t → IsTyped env old new a t
same env old new a got t is h = subst (λ x. IsTyped env old new x t) is h

pub parentheses_case : (env : List Scope) (old new : Notes) (e a got : Expression) (p : Place) (x t : TExpr) → e ≡ expression.Parentheses p a → got ≡ a →
    IsTyped env old new got x → t ≡ placed p x → IsTyped env old new e t
unfolding hidden-the_row-Expression-0 hidden
parentheses_case env old new e a got p x t is is_a h g =
    let k = same env old new a got x is_a h in
    record {
      typed = g ∙ ap (placed p) k.typed ∙ ap (typed_of env (length old.sites)) (sym is);
      notes = k.notes ∙ ap (λ z. noted old (offences_in env z) (sites_in env z)) (sym is);
    }

pub unary_case : (env : List Scope) (old mid new : Notes) (e a got : Expression) (mark : UnaryMark) (x t : TExpr) → e ≡ expression.Unary mark a → got ≡ a →
    IsTyped env old mid got x → t ≡ unary_typed (length mid.sites) mark x → new ≡ noted mid [] (unary_sites mark x.ty) → IsTyped env old new e t
unfolding hidden-the_row-Expression-0 hidden
unary_case env old mid new e a got mark x t is is_a h g n =
    let k = same env old mid a got x is_a h in
    record {
      typed =
          g ∙ ap (λ b. unary_typed b mark x) (its_end env old mid a x k)
          ∙ ap (unary_typed (length old.sites + length (sites_in env a)) mark) k.typed
          ∙ ap (typed_of env (length old.sites)) (sym is);
      notes =
          noted_sites old mid new (offences_in env a) (sites_in env a) (unary_sites mark x.ty) k.notes n
          ∙ ap (λ u. noted old (offences_in env a) (sites_in env a ++ unary_sites mark u)) (its_type env old mid a x k)
          ∙ ap (λ z. noted old (offences_in env z) (sites_in env z)) (sym is);
    }

pub cast_case : (env : List Scope) (old new : Notes) (e a got : Expression) (p : Place) (ty : TypeName) (c : IntType) (x t : TExpr) → e ≡ expression.Cast p ty a → got ≡ a →
    IsTyped env old new got x → c ≡ named ty.integer → t ≡ cast_typed p c x → IsTyped env old new e t
unfolding hidden-the_row-Expression-0 hidden
cast_case env old new e a got p ty c x t is is_a h is_c g =
    let k = same env old new a got x is_a h in
    record {
      typed = g ∙ ap (λ u. cast_typed p u x) is_c ∙ ap (cast_typed p (named ty.integer)) k.typed ∙ ap (typed_of env (length old.sites)) (sym is);
      notes = k.notes ∙ ap (λ z. noted old (offences_in env z) (sites_in env z)) (sym is);
    }

pub binary_case : (env : List Scope) (old mid more new : Notes) (e a b got other : Expression) (mark : BinaryMark) (r : Meaning) (x y t : TExpr) → e ≡ expression.Binary a mark b → got ≡ a → other ≡ b →
    IsTyped env old mid got x → IsTyped env mid more other y → r ≡ meaning_of mark.operator →
    t ≡ binary_typed (length more.sites) r mark.place x y → new ≡ noted more [] (mark_sites r x.ty y.ty mark.place) → IsTyped env old new e t
unfolding hidden-the_row-Expression-0 hidden
binary_case env old mid more new e a b got other mark r x y t is is_a is_b h h' is_r g' n' =
    let k = same env old mid a got x is_a h in
    let k' = same env mid more b other y is_b h' in
    let m = meaning_of mark.operator in
    let g = g' ∙ ap (λ z. binary_typed (length more.sites) z mark.place x y) is_r in
    let n = n' ∙ ap (λ z. noted more [] (mark_sites z x.ty y.ty mark.place)) is_r in
    let one = its_end env old mid a x k in
    let two : length more.sites ≡ length old.sites + length (sites_in env a) + length (sites_in env b) = its_end env mid more b y k' ∙ ap (λ z. z + length (sites_in env b)) one in
    record {
      typed =
          g ∙ ap (λ z. binary_typed z m mark.place x y) two
          ∙ ap (λ z. binary_typed (length old.sites + length (sites_in env a) + length (sites_in env b)) m mark.place z y) k.typed
          ∙ ap (λ z. binary_typed (length old.sites + length (sites_in env a) + length (sites_in env b)) m mark.place (typed_of env (length old.sites) a) z) (k'.typed ∙ ap (λ z. typed_of env z b) one)
          ∙ ap (typed_of env (length old.sites)) (sym is);
      notes =
          noted_then old mid new (offences_in env a) (offences_in env b) (sites_in env a) (sites_in env b ++ mark_sites m x.ty y.ty mark.place) k.notes
          (noted_sites mid more new (offences_in env b) (sites_in env b) (mark_sites m x.ty y.ty mark.place) k'.notes n)
          ∙ ap (λ u. noted old (offences_in env a ++ offences_in env b) (sites_in env a ++ (sites_in env b ++ mark_sites m u y.ty mark.place))) (its_type env old mid a x k)
          ∙ ap (λ u. noted old (offences_in env a ++ offences_in env b) (sites_in env a ++ (sites_in env b ++ mark_sites m (type_of env a) u mark.place))) (its_type env mid more b y k')
          ∙ ap (λ z. noted old (offences_in env z) (sites_in env z)) (sym is);
    }

pub conditional_case : (env : List Scope) (old one two new : Notes) (e c a b got got' got'' : Expression) (p : Place) (z x y t : TExpr) → e ≡ expression.Conditional c p a b → got ≡ c → got' ≡ a → got'' ≡ b →
    IsTyped env old one got z → IsTyped env one two got' x → IsTyped env two new got'' y → t ≡ choice_typed z x y → IsTyped env old new e t
unfolding hidden-the_row-Expression-0 hidden
conditional_case env old one two new e c a b got got' got'' p z x y t is is_c is_a is_b h h' h'' g =
    let k = same env old one c got z is_c h in
    let k' = same env one two a got' x is_a h' in
    let k'' = same env two new b got'' y is_b h'' in
    let at_one = its_end env old one c z k in
    let at_two : length two.sites ≡ length old.sites + length (sites_in env c) + length (sites_in env a) = its_end env one two a x k' ∙ ap (λ n. n + length (sites_in env a)) at_one in
    record {
      typed =
          g ∙ ap (λ v. choice_typed v x y) k.typed
          ∙ ap (λ v. choice_typed (typed_of env (length old.sites) c) v y) (k'.typed ∙ ap (λ n. typed_of env n a) at_one)
          ∙ ap (λ v. choice_typed (typed_of env (length old.sites) c) (typed_of env (length old.sites + length (sites_in env c)) a) v) (k''.typed ∙ ap (λ n. typed_of env n b) at_two)
          ∙ ap (typed_of env (length old.sites)) (sym is);
      notes =
          noted_then old one new (offences_in env c) (offences_in env a ++ offences_in env b) (sites_in env c) (sites_in env a ++ sites_in env b) k.notes
          (noted_then one two new (offences_in env a) (offences_in env b) (sites_in env a) (sites_in env b) k'.notes k''.notes)
          ∙ ap (λ v. noted old (offences_in env v) (sites_in env v)) (sym is);
    }

pub element_case : (env : List Scope) (old mid more new : Notes) (e : Path) (o : Object) (p : Place) (a got : Expression) (at : Found) (x t : TExpr) → e ≡ path.Element o p a → got ≡ a →
    at ≡ found env true o → mid ≡ noted old (value_offences o.name.place at) [] → IsTyped env mid more got x →
    t ≡ element_typed o.name.place at x (length more.sites) → new ≡ noted more [] (bounds_site p) → IsPathTyped env old new e t
unfolding hidden-the_row-Expression-0 hidden
element_case env old mid more new e o p a got at x t is is_a is_at n h g n' =
    let k = same env mid more a got x is_a h in
    let start : length mid.sites ≡ length old.sites = sites_after old mid (value_offences o.name.place at) [] n ∙ add-zero _ in
    let end : length more.sites ≡ length old.sites + length (sites_in env a) = its_end env mid more a x k ∙ ap (λ z. z + length (sites_in env a)) start in
    record {
      typed =
          g ∙ ap (λ z. element_typed o.name.place z x (length more.sites)) is_at
          ∙ ap (λ z. element_typed o.name.place (found env true o) x z) end
          ∙ ap (λ z. element_typed o.name.place (found env true o) z (length old.sites + length (sites_in env a))) (k.typed ∙ ap (λ z. typed_of env z a) start)
          ∙ ap (path_typed env (length old.sites)) (sym is);
      notes =
          noted_then old mid new (value_offences o.name.place at) (offences_in env a) [] (sites_in env a ++ bounds_site p) n
          (noted_sites mid more new (offences_in env a) (sites_in env a) (bounds_site p) k.notes n')
          ∙ ap (λ z. noted old (value_offences o.name.place z ++ offences_in env a) (sites_in env a ++ bounds_site p)) is_at
          ∙ ap (λ z. noted old (path_offences env z) (path_sites env z)) (sym is);
    }
