-- Assignments, updates and calls are well-formed where nothing in them is an offence.
use Rattle.std.proofs.Common.{◌≡◌, ℕ, ◌+◌, List, [], ◌∷◌, ◌++◌, length, Bool, true, false, refl, sym, ap, subst, ◌∙◌}
use Rattle.std.specs.Prelude.{Option, Some, None, bytes_eq, codes, cond, nat_lt, slice_get, IsTrue}
use Rattle.src_text.specs.declared.refusal.Place.{Place}
use Rattle.src_text.specs.declared.kind.Kind.TheVariants.{CNotAssignable}
use Rattle.c_tree.specs.declared.expressions.AssignmentOperator.{AssignmentOperator}
use Rattle.c_tree.specs.declared.expressions.AssignmentOperator.TheVariants as a
use Rattle.c_tree.specs.declared.expressions.BinaryOperator.TheVariants as b
use Rattle.c_tree.specs.declared.expressions.Call.{Call}
use Rattle.c_tree.specs.declared.expressions.Expression.{Expression}
use Rattle.c_tree.specs.declared.expressions.Object.{Object}
use Rattle.c_tree.specs.declared.expressions.Path.{Path}
use Rattle.c_tree.specs.declared.expressions.Path as path
use Rattle.c_tree.specs.declared.expressions.StepMark.{StepMark}
use Rattle.c_tree.specs.declared.expressions.StepOperator.{StepOperator}
use Rattle.c_tree.specs.declared.expressions.StepOperator.TheVariants as steps
use Rattle.c_tree.specs.declared.names.Identifier.{Identifier}
use Rattle.c_tree.specs.declared.statements.Simple.{Simple}
use Rattle.c_tree.specs.declared.statements.Simple.TheVariants as simple
use Rattle.joint_ir.specs.declared.ctype.IntType.{IntType}
use Rattle.joint_ir.specs.declared.expr.TExpr.{TExpr}
use Rattle.joint_ir.specs.declared.program.PropKind.TheVariants as kind
use Rattle.joint_ir.specs.Types.{int, IsType}
use Rattle.joint_ir.specs.Steps.{slot_type}
use Rattle.joint_ir.specs.WellFormed as well
use Rattle.joint_ir.specs.WellFormed.{FitsBinary, FitsExpr, FitsInit, FitsStmt, FitsTarget, FitsUpdate, is_bound, is_compound, is_simple, is_step, IsPromoted}
use Rattle.offence_order.specs.Order.{at}
use Rattle.c_words.specs.declared.notes.Site.{Site}
use Rattle.c_words.specs.Types.{common, promoted, same_bool}
use Rattle.c_words.specs.Marks.{update_op, division_kind, other_kind, sites_of, prop_at}
use Rattle.c_names.specs.declared.paths.Found.{Found}
use Rattle.c_names.specs.declared.paths.Found.TheVariants.{Unknown, Other, Integer}
use Rattle.c_names.specs.declared.scope.Entry.{Entry}
use Rattle.c_names.specs.declared.scope.Entry.TheVariants as entry
use Rattle.c_names.specs.declared.scope.Target.{Target}
use Rattle.c_names.specs.Scope.{Scope, lookup}
use Rattle.c_names.specs.Paths.{dotted, object_found, member_found, reached, shaped, found}
use Rattle.c_expressions.specs.Expressions.{type_found, path_type, path_sites, type_of, typed_of, offences_in, sites_in, operator_sites, bounds_site, converted_to}
use Rattle.c_expressions.specs.Values.{StandAt}
use Rattle.c_statements.specs.declared.calls.Callee.{Callee}
use Rattle.c_statements.specs.declared.calls.Callee.TheVariants as callee_as
use Rattle.c_statements.specs.declared.calls.Signature.{Signature}
use Rattle.c_statements.specs.Calls.{known_or, callee_of, callee, callee_offences, args_typed, args_sites, args_offences, params_of, params_in, call_typed, signature_offences, init_offences, init_sites, init_typed}
use Rattle.c_statements.specs.Simple.{store_offences, target_offences, plain_target, element_target, target_typed, frame_sites, call_node, step_op, updated, update_type, amount_type, stepped_typed, simple_offences, simple_sites, simple_typed}
use Rattle.c_meaning.specs.Sound.{AreThere, AreProps, PathBytes}
use Rattle.c_meaning.proofs.Means.{stand_left, stand_right}
use Rattle.c_meaning.proofs.Fits.{IsShaped, int_is, promoted_is, common_is, path_is, path_type_is, type_is, converted_fits, expression_fits, there, works}
use Rattle.c_statement_laws.specs.Agreeing.{Agree, AreSigned, BoundStays, HasSignature, SimpleBytes, AllBytes, IsSetting}
use Rattle.c_statement_laws.proofs.Inits.{none_left, none_right, call_fits, init_fits}

-- a function that a call names has a signature
known_signed : (fns : List Signature) (name : List ℕ) (other : Callee) → HasSignature fns other → HasSignature fns (known_or name other)
known_signed fns name other h = pick (bytes_eq name (codes "set_inputs")) (bytes_eq name (codes "next_timeframe"))
  where
    pick : (p q : Bool) → HasSignature fns (cond p callee_as.SetInputs (cond q callee_as.NextFrame other))
    pick true q = tt
    pick false true = tt
    pick false false = h

callee_signed : (fns : List Signature) (e : Option Entry) (name : List ℕ) → ((f : ℕ) → e ≡ Some (entry.Function f) → (s : Signature) × (slice_get fns f ≡ Some s)) → HasSignature fns (callee_of e name)
callee_signed fns None name h = known_signed fns name callee_as.Unknown tt
callee_signed fns (Some entry.Pending) name h = tt
callee_signed fns (Some (entry.Object o)) name h = tt
callee_signed fns (Some entry.Mirror) name h = tt
callee_signed fns (Some (entry.Function f)) name h = known_signed fns name (callee_as.Declared f) (h f refl)

pub has_signature : (fns : List Signature) (env : List Scope) → AreSigned fns env → (call : Call) → HasSignature fns (callee env call)
has_signature fns env signed call = callee_signed fns (lookup env call.name.name) call.name.name (signed call.name.name)

-- what a path leads to has what each object has that a name stands for
abbrev FoundHas : (Target → Type 0) → Found → Type 0
FoundHas P Unknown = Unit {0}
FoundHas P Other = Unit {0}
FoundHas P (Integer o) = P o

object_has : (P : Target → Type 0) (o : Target) (ms : List Identifier) → P o → FoundHas P (object_found o ms)
object_has P o [] h = h
object_has P o (m ∷ ms) h = tt

member_has : (P : Target → Type 0) (e : Option Entry) → ((o : Target) → e ≡ Some (entry.Object o) → P o) → FoundHas P (member_found e)
member_has P None h = tt
member_has P (Some (entry.Object o)) h = h o refl
member_has P (Some entry.Mirror) h = tt
member_has P (Some (entry.Function f)) h = tt
member_has P (Some entry.Pending) h = tt

reached_has : (P : Target → Type 0) (env : List Scope) (x : Object) (e : Option Entry) → ((name : List ℕ) (o : Target) → lookup env name ≡ Some (entry.Object o) → P o) →
    ((o : Target) → e ≡ Some (entry.Object o) → P o) → FoundHas P (reached env x e)
reached_has P env x None names h = tt
reached_has P env x (Some entry.Pending) names h = tt
reached_has P env x (Some (entry.Function f)) names h = tt
reached_has P env x (Some (entry.Object o)) names h = object_has P o x.members (h o refl)
reached_has P env x (Some entry.Mirror) names h = member_has P (lookup env (dotted x)) (names (dotted x))

shaped_has : (P : Target → Type 0) (indexed : Bool) (f : Found) → FoundHas P f → FoundHas P (shaped indexed f)
shaped_has P indexed Unknown h = tt
shaped_has P indexed Other h = tt
shaped_has P indexed (Integer o) h = pick (same_bool (nat_lt 0 o.length) indexed)
  where
    pick : (q : Bool) → FoundHas P (cond q (Integer o) Other)
    pick true = h
    pick false = tt

found_has : (P : Target → Type 0) (env : List Scope) (indexed : Bool) (x : Object) → ((name : List ℕ) (o : Target) → lookup env name ≡ Some (entry.Object o) → P o) → FoundHas P (found env indexed x)
found_has P env indexed x names = shaped_has P indexed (reached env x (lookup env x.name.name)) (reached_has P env x (lookup env x.name.name) names (names x.name.name))

abbrev Stays : Target → Type 0
Stays o = is_bound o.slot ≡ true → o.constant ≡ true

-- what may be assigned to isn't `bound`
told : (p : Place) → at p CNotAssignable ≡ [] → ⊥
told p h = cc

not_bound : (p : Place) (o : Target) → Stays o → store_offences p (Integer o) ≡ [] → is_bound o.slot ≡ false
not_bound p o stays none = pick (is_bound o.slot) refl
  where
    pick : (q : Bool) → is_bound o.slot ≡ q → is_bound o.slot ≡ false
    pick true e = absurd (told p (subst (λ q. cond q (at p CNotAssignable) [] ≡ []) (stays e) none))
    pick false e = e

module _ (c : well.Scope) (all : List Site) (props : AreProps all c.program) where
  plain_fits : (p : Place) (f : Found) → IsShaped c false f → FoundHas Stays f → store_offences p f ≡ [] → FitsTarget c (plain_target p f) × (slot_type c.program (plain_target p f).slot ≡ type_found f)
  plain_fits p Unknown h stays none = absurd (cc)
  plain_fits p Other h stays none = absurd (cc)
  plain_fits p (Integer o) h stays none = (
    record {
      object = record { visible = h.0.visible; shape = ap (nat_lt 0) h.0.length ∙ h.1 };
      stored = not_bound p o stays none;
      index = refl;
    },
    sym h.0.ty,
  )

  element_fits : (p q : Place) (f : Found) (x : TExpr) (id : ℕ) → IsShaped c true f → FoundHas Stays f → store_offences p f ≡ [] → FitsExpr c x → StandAt all id (bounds_site q) →
      FitsTarget c (element_target p f x id) × (slot_type c.program (element_target p f x id).slot ≡ type_found f)
  element_fits p q Unknown x id h stays none fit st = absurd (cc)
  element_fits p q Other x id h stays none fit st = absurd (cc)
  element_fits p q (Integer o) x id h stays none fit st = (
    record {
      object = record { visible = h.0.visible; shape = ap (nat_lt 0) h.0.length ∙ h.1 };
      stored = not_bound p o stays none;
      index = (fit, there c all props kind.Bounds q id st);
    },
    sym h.0.ty,
  )

  module _ (env : List Scope) (names : AreThere c env) (bound : BoundStays env) where
    target_fits : (base : ℕ) (x : Path) → target_offences env x ≡ [] → PathBytes x → StandAt all base (path_sites env x) →
        FitsTarget c (target_typed env base x) × (slot_type c.program (target_typed env base x).slot ≡ path_type env x)
    target_fits base (path.Object o) none v st =
        plain_fits o.name.place (found env false o) (path_is c env false o names) (found_has Stays env false o bound) none
    target_fits base (path.Element' o p _ (path.more_of-Expression e _)) none v st =
        element_fits o.name.place p (found env true o) (typed_of env base e) (base + length (sites_in env e)) (path_is c env true o names) (found_has Stays env true o bound)
        (none_left (store_offences o.name.place (found env true o)) (offences_in env e) none)
        (expression_fits c all props env names base e v (stand_left all base (sites_in env e) (bounds_site p) st)) (stand_right all base (sites_in env e) (bounds_site p) st)

  -- the operators of compound assignments
  abbrev Updates : AssignmentOperator → Type 0
  Updates o =
      (t u : IntType) (p : Place) (at : ℕ) → IsType t → IsType u → StandAt all at (operator_sites (update_op o) (update_type (update_op o) t u).signed p) →
      IsType (amount_type (update_op o) t u)
      × FitsBinary c.program (update_op o) (update_type (update_op o) t u) (update_type (update_op o) t u) (amount_type (update_op o) t u)
      (prop_at at (sites_of (division_kind (update_op o)) p)) (prop_at (at + length (sites_of (division_kind (update_op o)) p)) (sites_of (other_kind (update_op o) (update_type (update_op o) t u).signed) p))

  updates : (o : AssignmentOperator) → Updates o
  updates a.Multiply = λ t u p at is is' st. ((common_is t u is is').type, works c all props b.Multiply (common t u) p at (common_is t u is is') st)
  updates a.Divide = λ t u p at is is' st. ((common_is t u is is').type, works c all props b.Divide (common t u) p at (common_is t u is is') st)
  updates a.Remainder = λ t u p at is is' st. ((common_is t u is is').type, works c all props b.Remainder (common t u) p at (common_is t u is is') st)
  updates a.Add = λ t u p at is is' st. ((common_is t u is is').type, works c all props b.Add (common t u) p at (common_is t u is is') st)
  updates a.Subtract = λ t u p at is is' st. ((common_is t u is is').type, works c all props b.Subtract (common t u) p at (common_is t u is is') st)
  updates a.ShiftLeft = λ t u p at is is' st. ((promoted_is u is').type, works c all props b.ShiftLeft (promoted t) (promoted u) p at (promoted_is t is) (promoted_is u is') st)
  updates a.ShiftRight = λ t u p at is is' st. ((promoted_is u is').type, works c all props b.ShiftRight (promoted t) (promoted u) p at (promoted_is t is) (promoted_is u is') st)
  updates a.And = λ t u p at is is' st. ((common_is t u is is').type, works c all props b.And (common t u) p at (common_is t u is is') st)
  updates a.Xor = λ t u p at is is' st. ((common_is t u is is').type, works c all props b.Xor (common t u) p at (common_is t u is is') st)
  updates a.Or = λ t u p at is is' st. ((common_is t u is is').type, works c all props b.Or (common t u) p at (common_is t u is is') st)

  compounds : (o : AssignmentOperator) → IsTrue (is_compound (update_op o))
  compounds a.Multiply = refl
  compounds a.Divide = refl
  compounds a.Remainder = refl
  compounds a.Add = refl
  compounds a.Subtract = refl
  compounds a.ShiftLeft = refl
  compounds a.ShiftRight = refl
  compounds a.And = refl
  compounds a.Xor = refl
  compounds a.Or = refl

  -- an update, whose operand is converted to the type that its operator wants
  update_fits : (o : AssignmentOperator) (t u : IntType) (p : Place) (at : ℕ) (x : TExpr) → IsType t → IsType u → FitsExpr c x →
      StandAt all at (operator_sites (update_op o) (update_type (update_op o) t u).signed p) →
      FitsUpdate c (updated at (update_op o) (update_type (update_op o) t u) (Some (converted_to (amount_type (update_op o) t u) x)) p)
  update_fits o t u p at x is is' fit st =
      let work = updates o t u p at is is' st in
      let d = converted_fits c all props (amount_type (update_op o) t u) x work.0 fit in
      record {
        updates = compounds o;
        operator = subst (λ w. FitsBinary c.program (update_op o) (update_type (update_op o) t u) (update_type (update_op o) t u) w
            (prop_at at (sites_of (division_kind (update_op o)) p)) (prop_at (at + length (sites_of (division_kind (update_op o)) p)) (sites_of (other_kind (update_op o) (update_type (update_op o) t u).signed) p)))
            (sym d.0) work.1;
        right = d.1;
      }

  step_fits : (o : StepOperator) (t : IntType) (p : Place) (at : ℕ) → IsType t → StandAt all at (operator_sites (step_op o) (common t int).signed p) →
      FitsUpdate c (updated at (step_op o) (common t int) None p)
  step_fits steps.Increment t p at is st = record { updates = refl; operator = works c all props b.Add (common t int) p at (common_is t int is int_is) st; right = tt }
  step_fits steps.Decrement t p at is st = record { updates = refl; operator = works c all props b.Subtract (common t int) p at (common_is t int is int_is) st; right = tt }

  -- a call that stands alone
  node_fits : (env : List Scope) (names : AreThere c env) (fns : List Signature) → Agree c.program fns → (p : Place) (callee : Callee) (base : ℕ) (args : List Expression) → HasSignature fns callee →
      callee_offences fns p (length args) callee ≡ [] → AllBytes args → StandAt all base (args_sites env args ++ frame_sites p callee) →
      FitsStmt c (call_node p callee (base + length (args_sites env args)) (args_typed env base (params_of fns callee) 0 args))
      × IsTrue (is_simple (call_node p callee (base + length (args_sites env args)) (args_typed env base (params_of fns callee) 0 args)))
  node_fits env names fns agree p callee_as.Unknown base args has none v st = absurd (cc)
  node_fits env names fns agree p callee_as.NotFunction base args has none v st = absurd (cc)
  node_fits env names fns agree p callee_as.SetInputs base args has none v st = (tt, refl)
  node_fits env names fns agree p callee_as.NextFrame base args has none v st =
      (there c all props kind.Frame p (base + length (args_sites env args)) (stand_right all base (args_sites env args) (frame_sites p callee_as.NextFrame) st), refl)
  node_fits env names fns agree p (callee_as.Declared f) base args has none v st =
      let s = has.0 in
      let mine = stand_left all base (args_sites env args) [] st in
      let call = call_fits c all props env names fns agree p f s base args has.1 (subst (λ o. signature_offences p (length args) o ≡ []) has.1 none) v mine in
      (subst (λ o. well.FitsCall c (call_typed p f (args_typed env base (params_in o) 0 args))) (sym has.1) call, refl)

stepped : (c : well.Scope) (all : List Site) (fns : List Signature) (env : List Scope) → IsSetting c all fns env → (base : ℕ) (x : Path) (mark : StepMark) →
    target_offences env x ≡ [] → PathBytes x → StandAt all base (path_sites env x ++ operator_sites (step_op mark.operator) (common (path_type env x) int).signed mark.place) →
    FitsStmt c (stepped_typed env base x mark) × IsTrue (is_simple (stepped_typed env base x mark))
stepped c all fns env k base x mark none v st =
    let own = operator_sites (step_op mark.operator) (common (path_type env x) int).signed mark.place in
    let target = target_fits c all k.props env k.names k.bound base x none v (stand_left all base (path_sites env x) own st) in
    ((target.0, step_fits c all k.props mark.operator (path_type env x) mark.place (base + length (path_sites env x)) (path_type_is c env k.names x) (stand_right all base (path_sites env x) own st)), refl)

pub simple_fits : (c : well.Scope) (all : List Site) (fns : List Signature) (env : List Scope) → IsSetting c all fns env → (base : ℕ) (s : Simple) →
    simple_offences fns env s ≡ [] → SimpleBytes s → StandAt all base (simple_sites env s) →
    FitsStmt c (simple_typed fns env base s) × IsTrue (is_simple (simple_typed fns env base s))
simple_fits c all fns env k base (simple.Assign x i) none v st =
    let target = target_fits c all k.props env k.names k.bound base x (none_left (target_offences env x) (init_offences fns env i) none) v.0 (stand_left all base (path_sites env x) (init_sites env i) st) in
    let value = init_fits c all k.props env k.names fns k.agree (path_type env x) (path_type_is c env k.names x) (base + length (path_sites env x)) i (λ call is. has_signature fns env k.signed call)
    (none_right (target_offences env x) (init_offences fns env i) none) v.1 (stand_right all base (path_sites env x) (init_sites env i) st) in
    ((target.0, subst (λ t. FitsInit c false t (init_typed fns env (base + length (path_sites env x)) (path_type env x) i)) (sym target.1) value), refl)
simple_fits c all fns env k base (simple.Update x mark e) none v st =
    let op = update_op mark.operator in
    let own = operator_sites op (update_type op (path_type env x) (type_of env e)).signed mark.place in
    let between = base + length (path_sites env x) in
    let later = stand_right all base (path_sites env x) (sites_in env e ++ own) st in
    let target = target_fits c all k.props env k.names k.bound base x (none_left (target_offences env x) (offences_in env e) none) v.0 (stand_left all base (path_sites env x) (sites_in env e ++ own) st) in
    let right = expression_fits c all k.props env k.names between e v.1 (stand_left all between (sites_in env e) own later) in (
      (
        target.0,
        update_fits c all k.props mark.operator (path_type env x) (type_of env e) mark.place (between + length (sites_in env e)) (typed_of env between e)
            (path_type_is c env k.names x) (type_is c env k.names e) right (stand_right all between (sites_in env e) own later),
      ),
      refl,
    )
simple_fits c all fns env k base (simple.StepAfter x mark) none v st = stepped c all fns env k base x mark none v st
simple_fits c all fns env k base (simple.StepBefore mark x) none v st = stepped c all fns env k base x mark none v st
simple_fits c all fns env k base (simple.Called call) none v st =
    node_fits c all k.props env k.names fns k.agree call.name.place (callee env call) base call.arguments (has_signature fns env k.signed call)
    (none_left (callee_offences fns call.name.place (length call.arguments) (callee env call)) (args_offences env call.arguments) none) v st
