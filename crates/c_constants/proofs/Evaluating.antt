-- An expression without a path has a value in a store without objects.
use Rattle.std.proofs.Common.{◌≡◌, ℕ, ◌+◌, ◌<◌, ◌≤◌, List, [], ◌∷◌, ◌++◌, length, map, true, false, refl, sym, ap, subst, ◌∙◌, append-nil, arith}
use Rattle.std.specs.Prelude.{ℤ, pos, Bool, Option, Some, None, Result, Ok, Err, All, slice_get, nat_le, is_some}
use Rattle.std.proofs.lemmas.Int.{ints}
use Rattle.std.proofs.lemmas.Bool.Decides.{nat_tests}
use Rattle.std.proofs.lemmas.Option.{slice_get-map}
use Rattle.std.proofs.lemmas.List.Elements.{All-nil, All-cons}
use Rattle.std.specs.Prelude.{option_map}
use Rattle.c_tree.specs.declared.expressions.Expression.{Expression}
use Rattle.joint_ir.specs.declared.ctype.IntType.{IntType}
use Rattle.joint_ir.specs.declared.expr.Slot.{Slot}
use Rattle.joint_ir.specs.declared.expr.Slot.TheVariants as slot
use Rattle.joint_ir.specs.declared.expr.TExpr.{TExpr}
use Rattle.joint_ir.specs.declared.program.CProgram.{CProgram}
use Rattle.joint_ir.specs.declared.program.Prop.{Prop}
use Rattle.joint_ir.specs.declared.program.PropId.{PropId}
use Rattle.joint_ir.specs.Types.{int, IsType, Single, InRange}
use Rattle.joint_ir.specs.Values.{Answer, Value, Fault, value_of}
use Rattle.joint_ir.specs.States.{Store, rows_of}
use Rattle.joint_ir.specs.Steps.{slot_type}
use Rattle.joint_ir.specs.WellFormed as well
use Rattle.joint_value.specs.Evaluable.{HoldsTypes, IsEvaluable}
use Rattle.offence_order.specs.declared.Offence.{Offence}
use Rattle.offence_order.specs.Order.{first_of}
use Rattle.offence_order.proofs.Firsts.{first_none}
use Rattle.c_words.specs.declared.notes.Notes.{Notes}
use Rattle.c_words.specs.declared.notes.Site.{Site}
use Rattle.c_words.specs.Notes.{no_notes}
use Rattle.c_names.specs.Scope.{Scope}
use Rattle.c_names.specs.declared.scope.Entry.TheVariants as entry
use Rattle.c_names.specs.declared.scope.Target.{Target}
use Rattle.c_expressions.specs.Expressions.{typed_of, offences_in, sites_in}
use Rattle.c_expressions.specs.Values.{CAnswer, Gives, Breaks, c_value, located, break_at, StandAt}
use Rattle.c_expressions.specs.Steps.{IsTyped}
use Rattle.c_meaning.specs.Sound.{AreThere, AreProps, AreBytes}
use Rattle.c_meaning.proofs.Standing.{stands}
use Rattle.c_meaning.proofs.Means.{has_meaning}
use Rattle.c_meaning.proofs.Fits.{expression_fits, int_is}
use Rattle.c_constants.specs.declared.Constant.{Constant}
use Rattle.c_constants.specs.declared.Constant.TheVariants.{Is, Never, Undefined}
use Rattle.c_constants.specs.Constants.{no_names, no_rows, given, answered, evaluated}

abbrev prop_of : Site → Prop
prop_of s = record { function = []; kind = s.kind; number = 0; line = 0 }

-- a program that has the properties of an expression, and no objects
abbrev scratch : List Site → CProgram
scratch sites = record { functions = []; globals = []; locals = []; mirror = None; props = map prop_of sites; main = 0 }

abbrev scratch_scope : List Site → well.Scope
scratch_scope sites = record { program = scratch sites; here = 0; locals = []; in_loop = false; may_break = false }

scratch_props : (sites : List Site) → AreProps sites (scratch sites)
scratch_props sites i s h = (prop_of s, slice_get-map prop_of sites i ∙ ap (option_map prop_of) h, refl)

no_objects : (sites : List Site) → AreThere (scratch_scope sites) no_names
no_objects sites name o h = cc

scratch_types : (sites : List Site) (x : Slot) → IsType (slot_type (scratch sites) x)
scratch_types sites (slot.Global i) = int_is
scratch_types sites (slot.Local i) = int_is
scratch_types sites (slot.Member i) = int_is
scratch_types sites slot.BoundValue = Single false

scratch_values : (sites : List Site) (x : Slot) → All (InRange (slot_type (scratch sites) x)) (no_rows x)
scratch_values sites (slot.Global i) = All-nil (InRange (slot_type (scratch sites) (slot.Global i)))
scratch_values sites (slot.Local i) = All-nil (InRange (slot_type (scratch sites) (slot.Local i)))
scratch_values sites (slot.Member i) = All-nil (InRange (slot_type (scratch sites) (slot.Member i)))
scratch_values sites slot.BoundValue =
    All-cons (InRange (slot_type (scratch sites) slot.BoundValue)) (pos 0) [] (record { low = omega (arith, ints); high = omega (arith, ints) }) (All-nil (InRange (slot_type (scratch sites) slot.BoundValue)))

stand_alone : (sites : List Site) → length sites ≤ 4294967296 → StandAt sites 0 sites
stand_alone sites few = subst (λ l. StandAt l 0 sites) (append-nil sites) (stands [] sites [] (omega (arith, few)))

pub evaluable : (e : Expression) (t : TExpr) → AreBytes e → length (sites_in no_names e) ≤ 4294967296 → t ≡ typed_of no_names 0 e → IsEvaluable no_rows t
evaluable e t bytes few is =
    let sites = sites_in no_names e in
    record {
      scope = scratch_scope sites;
      fits = subst (well.FitsExpr (scratch_scope sites)) (sym is) (expression_fits (scratch_scope sites) sites (scratch_props sites) no_names (no_objects sites) 0 e bytes (stand_alone sites few));
      held = record { types = scratch_types sites; values = scratch_values sites };
    }

-- the answer of the typed expression, as a constant
abbrev constant_from : CAnswer → Constant
constant_from (Gives n) = Is n
constant_from (Breaks k p) = Never

broken : (o : Option Site) → constant_from (break_at o) ≡ Never
broken None = refl
broken (Some s) = refl

as_located : (sites : List Site) (a : Answer) → answered a ≡ constant_from (located sites a)
as_located sites (Value n) = refl
as_located sites (Fault p) = sym (broken (slice_get sites p.0))

given_from : (a : CAnswer) → given [] true a ≡ constant_from a
given_from (Gives n) = refl
given_from (Breaks k p) = refl

pub evaluated_in : (e : Expression) (t : TExpr) → offences_in no_names e ≡ [] → nat_le (length (sites_in no_names e)) 4294967296 ≡ true → length (sites_in no_names e) ≤ 4294967296 → t ≡ typed_of no_names 0 e →
    answered (value_of no_rows t) ≡ evaluated e
evaluated_in e t clean few le is =
    let sites = sites_in no_names e in
    let means = has_meaning no_names sites 0 e (stand_alone sites le) in
    ap (λ z. answered (value_of no_rows z)) is
    ∙ as_located sites (value_of no_rows (typed_of no_names 0 e))
    ∙ ap constant_from (means.value no_rows)
    ∙ sym (given_from (c_value no_names no_rows e))
    ∙ sym (ap (λ b. given [] b (c_value no_names no_rows e)) few)
    ∙ sym (ap (λ os. given os (nat_le (length sites) 4294967296) (c_value no_names no_rows e)) clean)

-- something else is wrong
pub is_undefined : (e : Expression) (first : Option Offence) (o : Offence) → first ≡ first_of None (offences_in no_names e) → first ≡ Some o → Undefined ≡ evaluated e
is_undefined e first o is some = pick (offences_in no_names e) (sym is ∙ some)
  where
    pick : (os : List Offence) → first_of None os ≡ Some o → Undefined ≡ given os (nat_le (length (sites_in no_names e)) 4294967296) (c_value no_names no_rows e)
    pick [] h = cc
    pick (x ∷ os) h = refl

pub none_wrong : (e : Expression) (first : Option Offence) → first ≡ first_of None (offences_in no_names e) → first ≡ None → offences_in no_names e ≡ []
none_wrong e first is none = first_none (offences_in no_names e) (sym is ∙ none)

-- too many checks
pub too_many : (e : Expression) → offences_in no_names e ≡ [] → nat_le (length (sites_in no_names e)) 4294967296 ≡ false → Never ≡ evaluated e
too_many e clean many =
    sym (ap (λ os. given os (nat_le (length (sites_in no_names e)) 4294967296) (c_value no_names no_rows e)) clean
    ∙ ap (λ b. given [] b (c_value no_names no_rows e)) many)

pub over_nothing : (s : Store) (g l m : List (List ℤ)) → s ≡ record { globals = g; locals = l; members = m } → g ≡ [] → l ≡ [] → m ≡ [] → rows_of 0 s ≡ no_rows
over_nothing s g l m h is_g is_l is_m =
    ap (rows_of 0) (h
    ∙ ap (λ z. record { globals = z; locals = l; members = m }) is_g
    ∙ ap (λ z. record { globals = []; locals = z; members = m }) is_l
    ∙ ap (λ z. record { globals = []; locals = []; members = z }) is_m)

-- an expression that is typed by itself
pub record IsAlone (e : Expression) (new : Notes) (t : TExpr) : Type 0 where
  pub first : new.first ≡ first_of None (offences_in no_names e)
  pub sites : new.sites ≡ sites_in no_names e
  pub typed : t ≡ typed_of no_names 0 e

pub alone : (env : List Scope) (old new : Notes) (e : Expression) (t : TExpr) → env ≡ no_names → old ≡ no_notes → IsTyped env old new e t → IsAlone e new t
alone env old new e t is_env is_old h =
    let k : IsTyped no_names old new e t = subst (λ z. IsTyped z old new e t) is_env h in
    let g : IsTyped no_names no_notes new e t = subst (λ z. IsTyped no_names z new e t) is_old k in
    record {
      first = ap (λ (n : Notes). n.first) g.notes;
      sites = ap (λ (n : Notes). n.sites) g.notes;
      typed = g.typed;
    }

none_of : (o : Option Offence) → is_some o ≡ false → o ≡ None
none_of None h = refl
none_of (Some x) h = cc

clean_of : (e : Expression) (new : Notes) (t : TExpr) → IsAlone e new t → is_some new.first ≡ false → offences_in no_names e ≡ []
clean_of e new t a h = none_wrong e new.first a.first (none_of new.first h)

le_false : (n : ℕ) → 4294967296 < n → nat_le n 4294967296 ≡ false
le_false n h = grind (arith, nat_tests)

le_true : (n : ℕ) → n ≤ 4294967296 → nat_le n 4294967296 ≡ true
le_true n h = grind (arith, nat_tests)

pub many_case : (e : Expression) (new : Notes) (t : TExpr) (n : ℕ) → IsAlone e new t → is_some new.first ≡ false → n ≡ length new.sites → 4294967296 < n → Never ≡ evaluated e
many_case e new t n a h is more =
    too_many e (clean_of e new t a h) (le_false (length (sites_in no_names e)) (subst (λ z. 4294967296 < z) (is ∙ ap length a.sites) more))

pub few_case : (e : Expression) (new : Notes) (t : TExpr) (n : ℕ) → IsAlone e new t → n ≡ length new.sites → n ≤ 4294967296 → AreBytes e → IsEvaluable no_rows t
few_case e new t n a is few bytes = evaluable e t bytes (subst (λ z. z ≤ 4294967296) (is ∙ ap length a.sites) few) a.typed

pub value_case : (e : Expression) (new : Notes) (t : TExpr) (n : ℕ) (c : Constant) → IsAlone e new t → is_some new.first ≡ false → n ≡ length new.sites → n ≤ 4294967296 → c ≡ answered (value_of no_rows t) → c ≡ evaluated e
value_case e new t n c a h is few is_c =
    let le : length (sites_in no_names e) ≤ 4294967296 = subst (λ z. z ≤ 4294967296) (is ∙ ap length a.sites) few in
    is_c ∙ evaluated_in e t (clean_of e new t a h) (le_true (length (sites_in no_names e)) le) le a.typed
