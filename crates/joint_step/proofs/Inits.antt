-- What objects are set to: stores, declarations, arguments and results.
use Rattle.std.proofs.Common.{◌≡◌, ◌∙◌, ◌+◌, ◌<◌, ◌≤◌, ◌^◌, ℕ, zero, suc, List, [], ◌∷◌, length, refl, sym, ap, subst, arith}
use Rattle.std.specs.Prelude.{ℤ, Option, Some, None, Result, Ok, Err, IfOk, IfSome, IsSome, All, map, slice_get, true, false}
use Rattle.std.proofs.lemmas.Bool.{false≢true}
use Rattle.std.proofs.lemmas.List.Elements.{All-cons, All-nil}
use Rattle.joint_ir.specs.declared.ctype.IntType.{IntType}
use Rattle.joint_ir.specs.declared.expr.Slot.TheVariants.{Local}
use Rattle.joint_ir.specs.declared.expr.TExpr.{TExpr}
use Rattle.joint_ir.specs.declared.pair.Pair.{Pair}
use Rattle.joint_ir.specs.declared.program.CProgram.{CProgram}
use Rattle.joint_ir.specs.declared.program.Function.{Function}
use Rattle.joint_ir.specs.declared.program.PropId.{PropId}
use Rattle.joint_ir.specs.declared.program.PropKind.TheVariants as kind
use Rattle.joint_ir.specs.declared.program.Var.{Var}
use Rattle.joint_ir.specs.declared.stmt.TCall.{TCall}
use Rattle.joint_ir.specs.declared.stmt.TInit.{TInit}
use Rattle.joint_ir.specs.declared.stmt.TInit.TheVariants.{Free, Values, Called}
use Rattle.joint_ir.specs.declared.stmt.SNode.{Return}
use Rattle.joint_ir.specs.declared.stmt.TStmt.{TStmt}
use Rattle.joint_ir.specs.declared.stmt.TTarget.{TTarget}
use Rattle.joint_ir.specs.Types.{IsType, Single}
use Rattle.joint_ir.specs.Effects.{Effect, Onward, nothing, Goes}
use Rattle.joint_ir.specs.declared.way.Way.TheVariants.{Next}
use Rattle.joint_ir.specs.Steps.{Setting, Calls, store_effect, store_at, with_init, with_index, within_bounds, slot_type, type_or_int, result_of, declare_effect, declare_var, declare_object, declare_array}
use Rattle.joint_ir.specs.WellFormed.{Scope, FitsExpr, FitsArgs, FitsCall, FitsInit, FitsIndex, FitsTarget, FitsDeclare, FitsObject, FitsElements, FitsBody, FitsReturn, FitsStmt, HasProp, IsWellFormed, scope_of}
use Rattle.joint_view.specs.declared.halt.Halt.{Halt}
use Rattle.joint_machine.specs.declared.machine.Machine.{Machine}
use Rattle.joint_machine.specs.Moments.{Halts, Stands, InTypes, AreParams, from_here}
use Rattle.joint_machine.proofs.Arguments.{params_from}
use Rattle.joint_step.specs.Parts.{Takes, IsTaken}

pub ok_always : {A : Type 0} (r : Result A Halt) (P : Type 0) → P → IfOk r (λ _. P)
ok_always (Ok x) P h = h
ok_always (Err e) P h = tt

-- ---- stores

module _ (k : Setting) (calls : Calls) (target : TTarget) (init : TInit) (old : Machine) (i : Option ℤ) where
  abbrev pub placed : ℤ → Onward
  placed n s c = within_bounds k target i s c (λ index. store_at target.place.line target.slot index n s c)

  abbrev valued : IntType → Onward
  valued t s c = with_init k calls t init s c placed

  module _ (found : (go : Option ℤ → Onward) → from_here old (λ s c. with_index k target.index s c (λ j. go j s c)) ≡ from_here old (go i)) (t : IntType) (typed : t ≡ slot_type k.pair.program target.slot) where
    store_now : from_here old (store_effect k calls target init) ≡ from_here old (valued t)
    store_now =
        found (λ j s c. with_init k calls (slot_type k.pair.program target.slot) init s c (λ n s' rest. within_bounds k target j s' rest (λ index. store_at target.place.line target.slot index n s' rest)))
        ∙ ap (λ (u : IntType). from_here old (valued u)) (sym typed)

    pub store_valued : (mid : Machine) (n : ℤ) → ((go : ℤ → Onward) → from_here old (λ s c. with_init k calls t init s c go) ≡ from_here mid (go n)) →
        from_here old (store_effect k calls target init) ≡ from_here mid (placed n)
    store_valued mid n value = store_now ∙ value placed

    pub store_halts : (h : Halt) (mid : Machine) → ((go : ℤ → Onward) → Halts h mid (from_here old (λ s c. with_init k calls t init s c go))) →
        Halts h mid (from_here old (store_effect k calls target init))
    store_halts h mid value = subst (λ (x : Effect). Halts h mid x) (sym store_now) (value placed)

pub index_fits : (c : Scope) (o : Option TExpr) (prop : Option PropId) → FitsIndex c o prop → IfSome o (FitsExpr c)
index_fits c None prop h = tt
index_fits c (Some e) prop h = h.0

has_some : (p : CProgram) (prop : Option PropId) → HasProp p kind.Bounds true prop → IsSome prop
has_some p None h = absurd h
has_some p (Some id) h = refl

pub index_bound : (c : Scope) (o : Option TExpr) (prop : Option PropId) → FitsIndex c o prop → IsSome o → IsSome prop
index_bound c None prop h some = absurd (false≢true some)
index_bound c (Some e) prop h some = has_some c.program prop h.1

-- ---- declarations

abbrev var_or : Var → Option Var → Var
var_or d None = d
var_or d (Some v) = v

module _ (k : Setting) (calls : Calls) (line x : ℕ) (init : TInit) where
  pub declares_none : slice_get k.pair.program.locals x ≡ None → declare_effect k calls line x init ≡ (λ s c. Goes Next s nothing c)
  declares_none is = ap (λ (o : Option Var). declare_var k calls line x o init) is

  object_is : (t : IntType) (n : ℕ) → n ≤ 0 → declare_object k calls line x t n init ≡ (λ s c. with_init k calls t init s c (store_at line (Local x) None))
  object_is t zero le = refl
  object_is t (suc n) le = absurd (omega arith)

  array_is : (t : IntType) (n : ℕ) → 0 < n → declare_object k calls line x t n init ≡ declare_array k calls line x t n init
  array_is t zero lt = absurd (omega arith)
  array_is t (suc n) lt = refl

  pub declares_object : (v : Var) → slice_get k.pair.program.locals x ≡ Some v → v.length ≤ 0 →
      declare_effect k calls line x init ≡ (λ s c. with_init k calls v.ty init s c (store_at line (Local x) None))
  declares_object v is le = ap (λ (o : Option Var). declare_var k calls line x o init) is ∙ object_is v.ty v.length le

  pub declares_array : (v : Var) → slice_get k.pair.program.locals x ≡ Some v → 0 < v.length →
      declare_effect k calls line x init ≡ declare_array k calls line x v.ty v.length init
  declares_array v is lt = ap (λ (o : Option Var). declare_var k calls line x o init) is ∙ array_is v.ty v.length lt

elements_fit : (c : Scope) (t : IntType) (n : ℕ) (init : TInit) → 0 < n → FitsObject c t n init → FitsElements c t n init
elements_fit c t zero init lt h = absurd (omega arith)
elements_fit c t (suc n) init lt h = h

init_fits : (c : Scope) (t : IntType) (n : ℕ) (init : TInit) → n ≤ 0 → FitsObject c t n init → FitsInit c true t init
init_fits c t zero init le h = h
init_fits c t (suc n) init le h = absurd (omega arith)

module _ (p : Pair) (here x : ℕ) (init : TInit) (v : Var) (is : slice_get p.program.locals x ≡ Some v) (s : Stands p here (λ c. FitsDeclare c x init)) where
  object_fits : FitsObject s.scope v.ty v.length init
  object_fits =
      let h = s.holds in
      let same : h.0 ≡ v = ap (var_or v) (sym h.1 ∙ ap (λ (q : CProgram). slice_get q.locals x) s.program ∙ is) in
      subst (λ (w : Var). FitsObject s.scope w.ty w.length init) same h.2

  pub stands_elements : 0 < v.length → Stands p here (λ c. FitsElements c v.ty v.length init)
  stands_elements lt = record { scope = s.scope; program = s.program; function = s.function; holds = elements_fit s.scope v.ty v.length init lt object_fits }

  pub stands_object : v.length ≤ 0 → Stands p here (λ c. FitsInit c true v.ty init)
  stands_object le = record { scope = s.scope; program = s.program; function = s.function; holds = init_fits s.scope v.ty v.length init le object_fits }

pub opened : (c : Scope) (t : IntType) (init : TInit) → FitsInit c false t init → FitsInit c true t init
opened c t Free h = absurd (false≢true h)
opened c t (Values es) h = h
opened c t (Called call) h = h

-- ---- one expression

module _ (c : Scope) (t : IntType) (es : List TExpr) (h : FitsInit c true t (Values es)) where
  pub one_fits : All (FitsExpr c) es
  one_fits = subst (λ (l : List TExpr). All (FitsExpr c) l) (sym h.1) (All-cons (FitsExpr c) h.0 [] h.2.1 (All-nil (FitsExpr c)))

  pub one_typed : All (λ (e : TExpr). e.ty ≡ t) es
  one_typed = subst (λ (l : List TExpr). All (λ (e : TExpr). e.ty ≡ t) l) (sym h.1) (All-cons (λ (e : TExpr). e.ty ≡ t) h.0 [] h.2.0 (All-nil (λ (e : TExpr). e.ty ≡ t)))

-- ---- arguments

args_fit : (c : Scope) (x : ℕ) (es : List TExpr) → FitsArgs c x es → All (FitsExpr c) es
args_fit c x [] h = All-nil (FitsExpr c)
args_fit c x (e ∷ es) h = All-cons (FitsExpr c) e es h.0.1 (args_fit c (x + 1) es h.1)

types_count : (ts : List IntType) (ns : List ℤ) → InTypes ts ns → length ns ≡ length ts
types_count [] [] h = refl
types_count [] (n ∷ ns) h = absurd h
types_count (t ∷ ts) [] h = absurd h
types_count (t ∷ ts) (n ∷ ns) h = ap suc (types_count ts ns h.1)

map_count : (es : List TExpr) → length (map (λ (e : TExpr). e.ty) es) ≡ length es
map_count [] = refl
map_count (e ∷ es) = ap suc (map_count es)

abbrev function_or : Function → Option Function → Function
function_or d None = d
function_or d (Some fn) = fn

module _ (p : Pair) (here : ℕ) (call : TCall) (s : Stands p here (λ c. FitsCall c call)) where
  pub stands_args : Stands p here (λ c. All (FitsExpr c) call.args)
  stands_args = record { scope = s.scope; program = s.program; function = s.function; holds = args_fit s.scope s.holds.0.first call.args s.holds.2.1 }

  pub args_taken : (ns : List ℤ) → InTypes (map (λ (e : TExpr). e.ty) call.args) ns → IsTaken p.program call.function ns
  args_taken ns h = λ fn is.
      let f = s.holds in
      let same : f.0 ≡ fn = ap (function_or fn) (sym f.1 ∙ ap (λ (q : CProgram). slice_get q.functions call.function) s.program ∙ is) in
      record {
        count = types_count (map (λ (e : TExpr). e.ty) call.args) ns h ∙ map_count call.args ∙ f.2.0 ∙ ap (λ (g : Function). g.params) same;
        typed = subst (λ (q : CProgram). AreParams q fn.first ns) s.program (subst (λ (g : Function). AreParams s.scope.program g.first ns) same (params_from s.scope f.0.first call.args ns f.2.1 h));
      }

-- ---- functions

module _ (p : Pair) (f : ℕ) (fn : Function) (w : IsWellFormed p) (is : slice_get p.program.functions f ≡ Some fn) where
  pub result_typed : IfSome fn.result IsType
  result_typed = (w.program.functions f fn is).result

  module _ (body : TStmt) (some : fn.body ≡ Some body) where
    pub body_fits : FitsBody p.program f fn (Some body)
    body_fits = subst (FitsBody p.program f fn) some (w.program.functions f fn is).body

    pub few_params : (ns : List ℤ) → Takes p.program fn ns → fn.first + length ns < 2 ^ 32
    few_params ns h =
        let le : fn.first + fn.params ≤ length p.program.locals = body_fits.0 in
        let few : length p.program.locals < 2 ^ 32 = w.program.few_locals in
        let same : length ns ≡ fn.params = h.count in
        omega arith

    pub stands_callee : Stands p f (λ c. FitsStmt c body.node)
    stands_callee = record { scope = scope_of p.program f fn; program = refl; function = refl; holds = body_fits.2 }

-- ---- results

option_typed : (t : Option IntType) → IfSome t IsType → IsType (type_or_int t)
option_typed None h = Single true
option_typed (Some t) h = h

function_typed : (p : Pair) (f : ℕ) (o : Option Function) → slice_get p.program.functions f ≡ o → IsWellFormed p → IsType (type_or_int (result_of o))
function_typed p f None is w = Single true
function_typed p f (Some fn) is w = option_typed fn.result (w.program.functions f fn is).result

pub here_typed : (p : Pair) (here : ℕ) → IsWellFormed p → IsType (type_or_int (result_of (slice_get p.program.functions here)))
here_typed p here w = function_typed p here (slice_get p.program.functions here) refl w

abbrev is_something : Option TInit → Type 0
is_something None = ⊥
is_something (Some i) = Unit {0}

return_fits : (c : Scope) (t : Option IntType) (init : TInit) → FitsReturn c t (Some init) → FitsInit c true (type_or_int t) init
return_fits c None init h = absurd (subst is_something h tt)
return_fits c (Some t) init h = opened c t init h

pub stands_result : (p : Pair) (here : ℕ) (init : TInit) → Stands p here (λ c. FitsStmt c (Return (Some init))) →
    Stands p here (λ c. FitsInit c true (type_or_int (result_of (slice_get p.program.functions here))) init)
stands_result p here init s =
    let h = s.holds in
    let found : slice_get p.program.functions here ≡ Some h.0 =
    ap (slice_get p.program.functions) (sym s.function) ∙ ap (λ (q : CProgram). slice_get q.functions s.scope.here) (sym s.program) ∙ h.1 in
    record {
      scope = s.scope;
      program = s.program;
      function = s.function;
      holds = subst (λ (o : Option Function). FitsInit s.scope true (type_or_int (result_of o)) init) (sym found) (return_fits s.scope h.0.result init h.2);
    }

-- a store's object, and what it is set to
pub stands_value : (p : Pair) (here : ℕ) (target : TTarget) (init : TInit) → Stands p here (λ c. FitsTarget c target × FitsInit c false (slot_type c.program target.slot) init) →
    Stands p here (λ c. FitsInit c true (slot_type p.program target.slot) init)
stands_value p here target init s = record {
  scope = s.scope;
  program = s.program;
  function = s.function;
  holds = subst (λ (q : CProgram). FitsInit s.scope true (slot_type q target.slot) init) s.program (opened s.scope (slot_type s.scope.program target.slot) init s.holds.1);
}
