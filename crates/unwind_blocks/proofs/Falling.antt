-- What goes on to the next statement alone: simple statements and calls.
use Rattle.std.proofs.Common.{◌≡◌, ℕ, zero, suc, ◌%◌, ◌^◌, List, [], ◌∷◌, ◌++◌, Bool, true, false, refl}
use Rattle.std.specs.Prelude.{ℤ, pos, Option, Some, None, IsTrue, if◌then◌else◌, nat_lt, slice_get, slice_index_or, eqb}
use Rattle.std.proofs.lemmas.Bool.{false≢true}
use Rattle.src_text.specs.declared.refusal.Place.{Place}
use Rattle.joint_ir.specs.declared.bounds.Bounds.{Bounds}
use Rattle.joint_ir.specs.declared.ctype.IntType.{IntType}
use Rattle.joint_ir.specs.declared.expr.TExpr.{TExpr}
use Rattle.joint_ir.specs.declared.module.Role.TheVariants.{Input}
use Rattle.joint_ir.specs.declared.pair.Pair.{Pair}
use Rattle.joint_ir.specs.declared.program.Function.{Function}
use Rattle.joint_ir.specs.declared.program.PropId.{PropId}
use Rattle.joint_ir.specs.declared.stmt.SNode.{SNode, Block', Declare, Store, Update, Call, If', Loop, Switch', Break, Continue, Return, Assert, Assume, SetInputs, NextFrame}
use Rattle.joint_ir.specs.declared.stmt.TCall.{TCall}
use Rattle.joint_ir.specs.declared.stmt.TInit.{TInit}
use Rattle.joint_ir.specs.declared.stmt.TInit.TheVariants.{Free, Values, Called}
use Rattle.joint_ir.specs.declared.stmt.TStmt.{TStmt}
use Rattle.joint_ir.specs.declared.stmt.TTarget.{TTarget}
use Rattle.joint_ir.specs.declared.stmt.TUpdate.{TUpdate}
use Rattle.joint_ir.specs.declared.way.Way.{Way}
use Rattle.joint_ir.specs.declared.way.Way.TheVariants.{Next, Breaking, Continuing, Returning}
use Rattle.joint_ir.specs.Effects.{Effect, Told, drew, Goes, Stops, TooFew, Onward, preceded, then_do, check_then, with_value, with_values, draw, draw_all}
use Rattle.joint_ir.specs.States.{JointState}
use Rattle.joint_ir.specs.Statements.{after, after_body, closing, any_result, entered_body, entered_function, is_below_limit, calls_at, no_calls}
use Rattle.joint_ir.specs.Steps.{Setting, Calls, rows_in, slot_type, element_of, with_locals, call_effect, with_init, with_index, within_bounds, right_value, store_at, store_effect, update_effect, set_inputs, clock_edge, next_frame, first_value}
use Rattle.joint_ir.specs.Types.{converted}
use Rattle.joint_ir.specs.Values.{Answer, Value, Fault, Rows, value_of, binary_value}
use Rattle.joint_ir.specs.Views.{widths_of, site_widths}
use Rattle.joint_ir.specs.WellFormed.{is_simple}
use Rattle.joint_lists.specs.Lists.{after_option}

-- where an effect goes on, it goes on to the next statement
abbrev pub Falls : Effect → Type 0
Falls (Goes Next s told c) = Unit {0}
Falls (Goes Breaking s told c) = ⊥
Falls (Goes Continuing s told c) = ⊥
Falls (Goes Returning s told c) = ⊥
Falls (Stops o told c) = Unit {0}
Falls TooFew = Unit {0}

-- a stretch goes on to the next statement, if it goes on
abbrev pub AllFall : Onward → Type 0
AllFall run = (s : JointState) (c : List ℕ) → Falls (run s c)

pub way_falls : (way : Way) (s : JointState) (told : Told) (c : List ℕ) → Falls (Goes way s told c) → way ≡ Next
way_falls Next s told c h = refl
way_falls Breaking s told c h = absurd h
way_falls Continuing s told c h = absurd h
way_falls Returning s told c h = absurd h

preceded_falls : (told : Told) (e : Effect) → Falls e → Falls (preceded told e)
preceded_falls told (Goes Next s more c) h = tt
preceded_falls told (Goes Breaking s more c) h = h
preceded_falls told (Goes Continuing s more c) h = h
preceded_falls told (Goes Returning s more c) h = h
preceded_falls told (Stops o more c) h = tt
preceded_falls told TooFew h = tt

then_falls : (e : Effect) (go : Onward) → Falls e → AllFall go → Falls (then_do e go)
then_falls (Goes Next s told c) go h next = preceded_falls told (go s c) (next s c)
then_falls (Goes Breaking s told c) go h next = h
then_falls (Goes Continuing s told c) go h next = h
then_falls (Goes Returning s told c) go h next = h
then_falls (Stops o told c) go h next = tt
then_falls TooFew go h next = tt

value_falls : (a : Answer) (c : List ℕ) (go : ℤ → Effect) → ((n : ℤ) → Falls (go n)) → Falls (with_value a c go)
value_falls (Value n) c go h = h n
value_falls (Fault p) c go h = tt

values_fall : (rows : Rows) (es : List TExpr) (c : List ℕ) (go : List ℤ → Effect) → ((ns : List ℤ) → Falls (go ns)) → Falls (with_values rows es c go)
values_fall rows [] c go h = h []
values_fall rows (e ∷ es) c go h =
    value_falls (value_of rows e) c (λ n. with_values rows es c (λ ns. go (n ∷ ns))) (λ n. values_fall rows es c (λ ns. go (n ∷ ns)) (λ ns. h (n ∷ ns)))

draw_falls : (bits : ℕ) (c : List ℕ) (go : ℕ → List ℕ → Effect) → ((n : ℕ) (rest : List ℕ) → Falls (go n rest)) → Falls (draw bits c go)
draw_falls bits [] go h = tt
draw_falls bits (n ∷ c) go h = preceded_falls (drew bits) (go (n % 2 ^ bits) c) (h _ c)

draws_fall : (widths c : List ℕ) (go : List ℕ → List ℕ → Effect) → ((ns rest : List ℕ) → Falls (go ns rest)) → Falls (draw_all widths c go)
draws_fall [] c go h = h [] c
draws_fall (bits ∷ widths) c go h =
    draw_falls bits c (λ n rest. draw_all widths rest (λ ns. go (n ∷ ns))) (λ n rest. draws_fall widths rest (λ ns. go (n ∷ ns)) (λ ns. h (n ∷ ns)))

check_falls : (p : Option PropId) (test : Bool) (c : List ℕ) (e : Effect) → Falls e → Falls (check_then p test c e)
check_falls None test c e h = h
check_falls (Some p) true c e h = h
check_falls (Some p) false c e h = tt

if_falls : (test : Bool) (x y : Effect) → Falls x → Falls y → Falls (if test then x else y)
if_falls true x y hx hy = hx
if_falls false x y hx hy = hy

-- calls

result_falls : (t : Option IntType) → AllFall (any_result t)
result_falls None s c = tt
result_falls (Some t) s c = draw_falls t.bits c _ (λ n rest. tt)

closing_falls : (is_main : Bool) (t : Option IntType) → AllFall (closing is_main t)
closing_falls true t s c = tt
closing_falls false None s c = tt
closing_falls false (Some t) s c = draw_falls t.bits c _ (λ n rest. tt)

body_falls : (is_main : Bool) (t : Option IntType) (rows : List (List ℤ)) (e : Effect) → Falls (after_body is_main t rows e)
body_falls is_main t rows (Goes Returning s told c) = tt
body_falls is_main t rows (Goes Next s told c) = preceded_falls told (closing is_main t (with_locals s rows) c) (closing_falls is_main t (with_locals s rows) c)
body_falls is_main t rows (Goes Breaking s told c) = preceded_falls told (closing is_main t (with_locals s rows) c) (closing_falls is_main t (with_locals s rows) c)
body_falls is_main t rows (Goes Continuing s told c) = preceded_falls told (closing is_main t (with_locals s rows) c) (closing_falls is_main t (with_locals s rows) c)
body_falls is_main t rows (Stops o told c) = tt
body_falls is_main t rows TooFew = tt

module _ (p : Pair) (b : Bounds) where
  entered_falls : (may : Bool) (inner : Calls) (f : ℕ) (fn : Function) (body : Option TStmt) (place : Place) (args : List ℤ) → AllFall (entered_body p b may inner f fn body place args)
  entered_falls may inner f fn None place args s c = result_falls fn.result s c
  entered_falls true inner f fn (Some body) place args s c = body_falls (eqb f p.program.main) fn.result s.store.locals _
  entered_falls false inner f fn (Some body) place args s c = tt

  function_falls : (may : Function → Bool) (inner : Calls) (f : ℕ) (fn : Option Function) (place : Place) (args : List ℤ) → AllFall (entered_function p b may inner f fn place args)
  function_falls may inner f None place args s c = tt
  function_falls may inner f (Some fn) place args s c = entered_falls (may fn) inner f fn fn.body place args s c

  pub calls_fall : (left : ℕ) (standing : List ℕ) (place : Place) (f : ℕ) (args : List ℤ) → AllFall (calls_at p b left standing place f args)
  calls_fall zero standing place f args = function_falls (λ fn. false) no_calls f (slice_get p.program.functions f) place args
  calls_fall (suc left) standing place f args = function_falls (is_below_limit p b standing f) (calls_at p b left (standing ++ f ∷ [])) f (slice_get p.program.functions f) place args

-- simple statements

module _ (k : Setting) (calls : Calls) (fall : (place : Place) (f : ℕ) (args : List ℤ) → AllFall (calls place f args)) where
  call_falls : (call : TCall) → AllFall (call_effect k calls call)
  call_falls call s c = values_fall (rows_in k s) call.args c _ (λ args. fall call.place call.function args s c)

  init_falls : (t : IntType) (init : TInit) (s : JointState) (c : List ℕ) (go : ℤ → Onward) → ((n : ℤ) → AllFall (go n)) → Falls (with_init k calls t init s c go)
  init_falls t Free s c go h = draw_falls t.bits c _ (λ n rest. h (converted t (pos n)) s rest)
  init_falls t (Values es) s c go h = value_falls (first_value (rows_in k s) es) c _ (λ n. h n s c)
  init_falls t (Called call) s c go h = then_falls (call_effect k calls call s c) (λ s' rest. go (converted t s'.returned) s' rest) (call_falls call s c) (λ s' rest. h (converted t s'.returned) s' rest)

  index_falls : (e : Option TExpr) (s : JointState) (c : List ℕ) (go : Option ℤ → Effect) → ((x : Option ℤ) → Falls (go x)) → Falls (with_index k e s c go)
  index_falls None s c go h = h None
  index_falls (Some e) s c go h = value_falls (value_of (rows_in k s) e) c _ (λ n. h (Some n))

  bounds_fall : (target : TTarget) (x : Option ℤ) (s : JointState) (c : List ℕ) (go : Option ℕ → Effect) → ((y : Option ℕ) → Falls (go y)) → Falls (within_bounds k target x s c go)
  bounds_fall target None s c go h = h None
  bounds_fall target (Some i) s c go h = check_falls target.bounds _ c _ (h _)

  store_falls : (target : TTarget) (init : TInit) → AllFall (store_effect k calls target init)
  store_falls target init s c =
      index_falls target.index s c _ (λ i. init_falls (slot_type k.pair.program target.slot) init s c
      (λ n s' rest. within_bounds k target i s' rest (λ index. store_at target.place.line target.slot index n s' rest))
      (λ n s' rest. bounds_fall target i s' rest (λ index. store_at target.place.line target.slot index n s' rest) (λ index. tt)))

  update_falls : (target : TTarget) (u : TUpdate) → AllFall (update_effect k target u)
  update_falls target u s c =
      let t = slot_type k.pair.program target.slot in
      let old = λ (index : Option ℕ). converted u.ty (slice_index_or (rows_in k s target.slot) (element_of index) (pos 0)) in
      index_falls target.index s c _ (λ i. bounds_fall target i s c _
      (λ index. value_falls (right_value (rows_in k s) u.right) c _
      (λ y. value_falls (binary_value u.op u.ty u.division u.other (old index) y) c (λ n. store_at target.place.line target.slot index (converted t n) s c) (λ n. tt))))

  inputs_fall : AllFall (set_inputs k)
  inputs_fall s c = draws_fall (site_widths k.pair.module.settle_sites) c _ (λ unknown rest. tt)

  edge_falls : AllFall (clock_edge k)
  edge_falls s c =
      let m = k.pair.module in
      draws_fall (site_widths m.edge_sites) c _ (λ at_edge c'. draws_fall (widths_of Input m.signals) c' _ (λ inputs c''. draws_fall (site_widths m.settle_sites) c'' _ (λ unknown rest. tt)))

  frame_falls : (prop : PropId) → AllFall (next_frame k prop)
  frame_falls prop s c = if_falls (nat_lt s.edges k.bounds.frames) _ _ (edge_falls s c) (if_falls k.bounds.check_bound _ _ tt tt)

  pub simple_falls : (p : Place) (node : SNode) → IsTrue (is_simple node) → AllFall (after k calls p node)
  simple_falls p (Store target init) h s c = store_falls target init s c
  simple_falls p (Update target u) h s c = update_falls target u s c
  simple_falls p (Call call) h s c = call_falls call s c
  simple_falls p SetInputs h s c = inputs_fall s c
  simple_falls p (NextFrame prop) h s c = frame_falls prop s c
  simple_falls p (Block' _ row) h s c = absurd (false≢true h)
  simple_falls p (Declare x init) h s c = absurd (false≢true h)
  simple_falls p (If' e _ a other) h s c = absurd (false≢true h)
  simple_falls p (Loop loop) h s c = absurd (false≢true h)
  simple_falls p (Switch' e _ groups) h s c = absurd (false≢true h)
  simple_falls p Break h s c = absurd (false≢true h)
  simple_falls p Continue h s c = absurd (false≢true h)
  simple_falls p (Return init) h s c = absurd (false≢true h)
  simple_falls p (Assert e prop) h s c = absurd (false≢true h)
  simple_falls p (Assume e) h s c = absurd (false≢true h)

  pub option_falls : (x : Option TStmt) → ((y : TStmt) → x ≡ Some y → IsTrue (is_simple y.node)) → AllFall (after_option k calls x)
  option_falls None h s c = tt
  option_falls (Some y) h s c = simple_falls y.place y.node (h y refl) s c
