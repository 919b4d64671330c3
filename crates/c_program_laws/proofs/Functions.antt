-- Bodies of functions are well-formed where their parameters are declared.
use Rattle.std.proofs.Common.{◌≡◌, ℕ, suc, ◌+◌, ◌<◌, ◌^◌, List, [], ◌∷◌, ◌++◌, length, Bool, false, refl, sym, ap, subst, ◌∙◌, arith}
use Rattle.std.specs.Prelude.{All, IfSome, Option, Some, None, slice_get}
use Rattle.std.proofs.Math.Nat.{mod-eq_of_lt}
use Rattle.std.proofs.lemmas.List.{append_assoc}
use Rattle.std.proofs.lemmas.List.Elements.{Contains-append_left, Contains-push}
use Rattle.std.proofs.lemmas.Option.{slice_get_within}
use Rattle.src_text.specs.declared.refusal.Place.{Place}
use Rattle.src_text.specs.declared.kind.Kind.TheVariants.{CFunctionType}
use Rattle.c_tree.specs.declared.declarations.FunctionHead.{FunctionHead}
use Rattle.c_tree.specs.declared.declarations.Parameter.{Parameter}
use Rattle.c_tree.specs.declared.declarations.ResultType.{ResultType}
use Rattle.c_tree.specs.declared.declarations.ResultType.TheVariants as result
use Rattle.c_tree.specs.declared.names.Identifier.{Identifier}
use Rattle.c_tree.specs.declared.statements.Block.{Block}
use Rattle.joint_ir.specs.declared.ctype.IntType.{IntType}
use Rattle.joint_ir.specs.declared.expr.Slot.{Slot}
use Rattle.joint_ir.specs.declared.expr.Slot.TheVariants as slots
use Rattle.joint_ir.specs.declared.program.CProgram.{CProgram}
use Rattle.joint_ir.specs.declared.program.Function.{Function}
use Rattle.joint_ir.specs.declared.program.PropKind.TheVariants as kind
use Rattle.joint_ir.specs.declared.stmt.SNode.{Block as SBlock}
use Rattle.joint_ir.specs.Types.{IsType}
use Rattle.joint_ir.specs.Steps.{var_type}
use Rattle.joint_ir.specs.Weights.{var_length}
use Rattle.joint_ir.specs.WellFormed as well
use Rattle.joint_ir.specs.WellFormed.{FitsStmt, IsVisible, places_from, scope_of, with_scope_locals}
use Rattle.offence_order.specs.Order.{at}
use Rattle.c_words.specs.declared.notes.Site.{Site}
use Rattle.c_words.specs.Types.{named}
use Rattle.c_words.specs.Marks.{number_of}
use Rattle.c_names.specs.declared.scope.Entry.TheVariants as entry
use Rattle.c_names.specs.declared.scope.Target.{Target}
use Rattle.c_names.specs.Scope.{Scope}
use Rattle.c_tree.specs.Starts.{parameter_start}
use Rattle.c_statements.specs.declared.calls.Signature.{Signature}
use Rattle.c_statements.specs.Known.{Known, enter}
use Rattle.c_statements.specs.Statements.{is_some, items_known, items_offences, local_entry, own, pending, var_of}
use Rattle.c_functions.specs.Heads.{result_of}
use Rattle.c_functions.specs.Definitions.{around_of, defined, function_known, function_offences, function_typed, inside, param_known, param_known_as, param_offences, param_offences_as, params_known, params_offences}
use Rattle.c_meaning.specs.Sound.{IsThere}
use Rattle.c_meaning.proofs.Fits.{named_is}
use Rattle.c_statement_laws.specs.Agreeing.{AreFew, IsPrefix, IsSetting, ItemBytes}
use Rattle.c_statement_laws.proofs.Inits.{none_left, none_right}
use Rattle.c_statement_laws.proofs.Names.{object_fits, pending_fits, setting_with}
use Rattle.c_statement_laws.proofs.Declaring.{get_end, length_end, prefix_append, prefix_then}
use Rattle.c_statement_laws.proofs.Blocks.{grows_items}
use Rattle.c_statement_laws.proofs.Labels.{append_none}
use Rattle.c_statement_laws.proofs.Statements.{body_fits}
use Rattle.c_program_laws.specs.Laws.{outside}

-- parameters change no functions, and forget no local
param_grows : (t : IntType) (constant : Bool) (n : Option Identifier) (k : Known) → IsPrefix k.locals (param_known_as t constant n k).locals
param_grows t constant None k = λ i x h. h
param_grows t constant (Some x) k = prefix_append k.locals (var_of t 0 constant x ∷ [])

pub params_grow : (ps : List Parameter) (k : Known) → IsPrefix k.locals (params_known ps k).locals
params_grow [] k = λ i x h. h
params_grow (q ∷ ps) k =
    let next = param_known q k in
    prefix_then k.locals next.locals (params_known ps next).locals (param_grows (named q.type_name.integer) (is_some q.constant) q.name k) (params_grow ps next)

param_fns : (t : IntType) (constant : Bool) (n : Option Identifier) (k : Known) → (param_known_as t constant n k).fns ≡ k.fns
param_fns t constant None k = refl
param_fns t constant (Some x) k = refl

pub params_fns : (ps : List Parameter) (k : Known) → (params_known ps k).fns ≡ k.fns
params_fns [] k = refl
params_fns (q ∷ ps) k = params_fns ps (param_known q k) ∙ param_fns (named q.type_name.integer) (is_some q.constant) q.name k

pub unnamed : (q : Place) → at q CFunctionType ≡ [] → ⊥
unnamed q h = cc

module _ (p : CProgram) (all : List Site) (f : ℕ) (few : length p.locals < 4294967296) where
  -- in a function, with some locals visible
  abbrev standing : List ℕ → well.Scope
  standing xs = record { program = p; here = f; locals = xs; in_loop = false; may_break = false }

  visible_wider : (xs : List ℕ) (i : ℕ) (slot : Slot) → IsVisible (standing xs) slot → IsVisible (standing (xs ++ i ∷ [])) slot
  visible_wider xs i (slots.Global g) h = h
  visible_wider xs i (slots.Local l) h = (h.0, Contains-append_left xs (i ∷ []) l h.1)
  visible_wider xs i (slots.Member m) h = h
  visible_wider xs i slots.BoundValue h = h

  setting_wider : (xs : List ℕ) (i : ℕ) (fns : List Signature) (env : List Scope) → IsSetting (standing xs) all fns env → IsSetting (standing (xs ++ i ∷ [])) all fns env
  setting_wider xs i fns env k = record {
    props = k.props;
    names = λ name o h. let t = k.names name o h in record { visible = visible_wider xs i o.slot t.visible; ty = t.ty; length = t.length; type = t.type };
    bound = k.bound;
    agree = k.agree;
    signed = k.signed;
  }

  -- a parameter is an object of the body's scope
  param_fits : (xs : List ℕ) (k : Known) (t : IntType) (constant : Bool) (x : Identifier) → IsType t → IsSetting (standing xs) all k.fns k.scopes → IsPrefix (k.locals ++ var_of t 0 constant x ∷ []) p.locals →
      IsSetting (standing (xs ++ number_of (length k.locals) ∷ [])) all k.fns (param_known_as t constant (Some x) k).scopes
  param_fits xs k t constant x is s locals =
      let i = length k.locals in
      let o = var_of t 0 constant x in
      let found : slice_get p.locals i ≡ Some o = locals i o (get_end k.locals o []) in
      let within : i < length p.locals = slice_get_within p.locals i o found in
      let small : number_of i ≡ i = mod-eq_of_lt (omega (arith, within, few)) in
      let there : slice_get p.locals (number_of i) ≡ Some o = ap (slice_get p.locals) small ∙ found in
      let without = setting_with (standing xs) all k.fns k.scopes x.name entry.Pending s (pending_fits (standing xs) k.fns) in
      let wide = standing (xs ++ number_of i ∷ []) in
      let target : Target = record { slot = slots.Local (number_of i); ty = t; length = 0; constant = constant } in
      let visible : IsThere wide target = record {
        visible = (omega (arith, within, small), Contains-push xs (number_of i));
        ty = sym (ap var_type there);
        length = ap var_length there;
        type = is;
      } in
      setting_with wide all k.fns (pending k x) x.name (local_entry i t 0 constant) (setting_wider xs (number_of i) k.fns (pending k x) without) (object_fits wide k.fns target visible (λ e. absurd (cc)))

  -- what parameters leave behind
  abbrev Behind : (ps : List Parameter) → Type 0
  Behind ps =
      (xs : List ℕ) (k : Known) → IsSetting (standing xs) all k.fns k.scopes → IsPrefix (params_known ps k).locals p.locals → params_offences k ps ≡ [] → length k.locals + length ps < 4294967296 →
      IsSetting (standing (xs ++ places_from (length k.locals) (length ps))) all k.fns (params_known ps k).scopes

  param_then : (ps : List Parameter) → Behind ps → (q : Place) (t : IntType) (constant : Bool) (n : Option Identifier) → IsType t → (xs : List ℕ) (k : Known) → IsSetting (standing xs) all k.fns k.scopes →
      IsPrefix (params_known ps (param_known_as t constant n k)).locals p.locals → param_offences_as q n k ≡ [] → params_offences (param_known_as t constant n k) ps ≡ [] →
      length k.locals + suc (length ps) < 4294967296 → IsSetting (standing (xs ++ places_from (length k.locals) (suc (length ps)))) all k.fns (params_known ps (param_known_as t constant n k)).scopes
  param_then ps rest q t constant None is xs k s locals none later size = absurd (unnamed q none)
  param_then ps rest q t constant (Some x) is xs k s locals none later size =
      let next = param_known_as t constant (Some x) k in
      let i = length k.locals in
      let small : number_of i ≡ i = mod-eq_of_lt (omega (arith, size)) in
      let longer : length next.locals ≡ i + 1 = length_end k.locals (var_of t 0 constant x) in
      let first = param_fits xs k t constant x is s (prefix_then next.locals (params_known ps next).locals p.locals (params_grow ps next) locals) in
      let made = rest (xs ++ number_of i ∷ []) next first locals later (omega (arith, longer, size)) in
      let after : length next.locals ≡ suc i = longer ∙ (let e : i + 1 ≡ suc i = omega arith in e) in
      let same : (xs ++ number_of i ∷ []) ++ places_from (length next.locals) (length ps) ≡ xs ++ places_from i (suc (length ps)) =
      append_assoc xs (number_of i ∷ []) (places_from (length next.locals) (length ps))
      ∙ ap (λ j. xs ++ (j ∷ places_from (length next.locals) (length ps))) small
      ∙ ap (λ j. xs ++ (i ∷ places_from j (length ps))) after in
      subst (λ ys. IsSetting (standing ys) all k.fns (params_known ps next).scopes) same made

  params_fit : (ps : List Parameter) → Behind ps
  params_fit [] xs k s locals none size = subst (λ ys. IsSetting (standing ys) all k.fns k.scopes) (sym (append_none xs)) s
  params_fit (q ∷ ps) xs k s locals none size =
      param_then ps (params_fit ps) (parameter_start q) (named q.type_name.integer) (is_some q.constant) q.name (named_is q.type_name.integer) xs k s locals
      (none_left (param_offences k q) (params_offences (param_known q k) ps) none) (none_right (param_offences k q) (params_offences (param_known q k) ps) none) size

pub result_is : (r : ResultType) → IfSome (result_of r) IsType
result_is (result.Void q) = tt
result_is (result.Integer ty) = named_is ty.integer

pub bodies_fit : (p : CProgram) (all : List Site) → AreFew p all → (f : ℕ) (fn : Function) (head : FunctionHead) (body : Block) (k : Known) → slice_get p.functions f ≡ Some fn → fn.result ≡ result_of head.result →
    IsSetting (outside p f) all k.fns k.scopes → length k.locals + length head.parameters < 2 ^ 32 →
    IsPrefix (function_known head body k).locals p.locals → IsPrefix (function_known head body k).sites all →
    function_offences head body k ≡ [] → All ItemBytes body.items →
    FitsStmt (scope_of p f (defined head body k)) (SBlock (function_typed head body k))
bodies_fit p all few f fn head body k found is s size locals sites none v =
    let ps = head.parameters in
    let first = own kind.Recursion head.name.place (enter k) in
    let within = inside head k in
    let os = params_offences first ps in
    let rest = items_offences (around_of head) within body.items in
    let entered : IsSetting (standing p all f few.locals []) all first.fns first.scopes = record { props = s.props; names = s.names; bound = s.bound; agree = s.agree; signed = s.signed } in
    let made = params_fit p all f few.locals ps [] first entered (prefix_then within.locals (items_known body.items within).locals p.locals (grows_items body.items within).locals locals) (none_left os rest none) size in
    let at_first : number_of (length k.locals) ≡ length k.locals = mod-eq_of_lt (omega (arith, size)) in
    let count : number_of (length ps) ≡ length ps = mod-eq_of_lt (omega (arith, size)) in
    let places : places_from (length k.locals) (length ps) ≡ places_from (number_of (length k.locals)) (number_of (length ps)) =
    ap (λ n. places_from n (length ps)) (sym at_first) ∙ ap (places_from (number_of (length k.locals))) (sym count) in
    let setting = subst (λ fns. IsSetting (scope_of p f (defined head body k)) all fns within.scopes) (sym (params_fns ps first))
    (subst (λ ys. IsSetting (standing p all f few.locals ys) all first.fns within.scopes) places made) in
    body_fits p all few (scope_of p f (defined head body k)) (around_of head) within
    (record { program = refl; setting = setting; loops = refl; breaks = refl; function = (fn, found, is); result = result_is head.result }) body.items locals sites (none_right os rest none) v
