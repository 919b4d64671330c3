-- What declarations, assignments, updates, calls and `return` do.
use Rattle.std.specs.Prelude.{ℕ, zero, suc, ◌+◌, Bool, if◌then◌else◌, nat_lt, List, [], ◌∷◌, length, slice_get, slice_index_or}
use Rattle.std.specs.Prelude.{ℤ, pos, Option, Some, None, true, false}
use Rattle.src_text.specs.declared.refusal.Place.{Place}
use Rattle.c_tree.specs.declared.declarations.Declarator.{Declarator}
use Rattle.c_tree.specs.declared.declarations.Declarator.TheVariants as declarator
use Rattle.c_tree.specs.declared.declarations.Initializer.{Initializer}
use Rattle.c_tree.specs.declared.declarations.Initializer.TheVariants as initializer
use Rattle.c_tree.specs.declared.declarations.Local.{Local}
use Rattle.c_tree.specs.declared.expressions.Call.{Call}
use Rattle.c_tree.specs.declared.expressions.Expression.{Expression}
use Rattle.c_tree.specs.declared.expressions.Path.{Path}
use Rattle.c_tree.specs.declared.expressions.Path as path
use Rattle.c_tree.specs.declared.statements.Simple.{Simple}
use Rattle.c_tree.specs.declared.statements.Simple.TheVariants as simple
use Rattle.c_tree.specs.Starts.{path_start}
use Rattle.joint_ir.specs.declared.ctype.IntType.{IntType}
use Rattle.joint_ir.specs.declared.event.Event.TheVariants.{Frame, Driven, Stored}
use Rattle.joint_ir.specs.declared.expr.BinaryOp.{BinaryOp}
use Rattle.joint_ir.specs.declared.expr.Slot.{Slot}
use Rattle.joint_ir.specs.declared.expr.Slot.TheVariants.{Local as Automatic}
use Rattle.joint_ir.specs.declared.module.Role.TheVariants.{Input}
use Rattle.joint_ir.specs.declared.program.PropKind.{PropKind}
use Rattle.joint_ir.specs.declared.program.PropKind.TheVariants as kind
use Rattle.joint_ir.specs.Types.{int, converted}
use Rattle.joint_ir.specs.Values.{Rows}
use Rattle.joint_ir.specs.States.{JointState, View, rows_of, put}
use Rattle.joint_ir.specs.Views.{site_widths, widths_of, next_registers, changed}
use Rattle.joint_ir.specs.Effects.{nothing, seen}
use Rattle.joint_ir.specs.declared.way.Way.TheVariants.{Next, Returning}
use Rattle.joint_ir.specs.Steps.{with_store, returning, element_of, is_within, low_part, type_or_int, settled_view}
use Rattle.c_words.specs.Marks.{number_of, update_op}
use Rattle.c_words.specs.Types.{named}
use Rattle.c_names.specs.declared.paths.Found.{Found}
use Rattle.c_names.specs.Paths.{found}
use Rattle.c_names.specs.Scope.{Scope}
use Rattle.c_expressions.specs.Expressions.{type_of, path_type}
use Rattle.c_expressions.specs.Values.{CAnswer, Gives, c_value, in_type, binary_operated}
use Rattle.c_statements.specs.declared.calls.Callee.{Callee}
use Rattle.c_statements.specs.declared.calls.Callee.TheVariants as callee_as
use Rattle.c_statements.specs.Arrays.{declared_length}
use Rattle.c_statements.specs.Calls.{callee}
use Rattle.c_statements.specs.Simple.{meaning_with, step_op, slot_found}
use Rattle.c_statements.specs.Statements.{is_some}
use Rattle.c_runs.specs.Effects.{CEffect, Goes, Stops, Broken, OutOfFrames, Onward, then_do, with_value, draw, draw_all}
use Rattle.c_runs.specs.Texts.{CFunction, Given, Here, in_initializer, past_declarator}

-- the elements of the objects in a state; `bound` holds the number of edges of a run
abbrev pub rows_in : Given → JointState → Rows
rows_in g s = rows_of g.frames s.store

-- a property breaks, which ends the run
abbrev pub broken : PropKind → Place → List ℕ → CEffect
broken k p c = Stops (Broken k p) nothing c

-- a value is stored in an object or an element, which is seen with the line (C99 6.5.16p3)
abbrev pub store_at : (line : ℕ) → Slot → (index : Option ℕ) → ℤ → Onward
store_at line slot index n s c = Goes Next (with_store s (put s.store slot (element_of index) n)) (seen (Stored line slot index n)) c

-- what calls do, given the place of the call, the number of the function and its arguments; the result is what was returned
abbrev pub Calls : Type 0
Calls = Place → (function : ℕ) → (args : List ℤ) → Onward

-- the state at a new view: the whole mirror is filled from it
abbrev pub at_view : Given → JointState → (edges : ℕ) → View → JointState
at_view g s edges v = record {
  store = record { globals = s.store.globals; locals = s.store.locals; members = g.filled v };
  view = v;
  edges = edges;
  returned = s.returned;
}

-- `set_inputs()`: the mirror drives the inputs, and the wires settle
abbrev pub set_inputs : Given → Onward
set_inputs g s c =
    let m = g.design in
    draw_all (site_widths m.settle_sites) c (λ unknown rest.
    let v = settled_view m s.view.registers (g.driven s.store.members s.view.inputs) unknown in
    Goes Next (at_view g s s.edges v) (seen (Driven (changed m s.view v))) rest)

-- a clock edge with the inputs as they stand; then each input takes a new value, and the wires settle
abbrev pub clock_edge : Given → Onward
clock_edge g s c =
    let m = g.design in
    draw_all (site_widths m.edge_sites) c (λ at_edge c'.
    draw_all (widths_of Input m.signals) c' (λ inputs c''.
    draw_all (site_widths m.settle_sites) c'' (λ unknown rest.
    let v = settled_view m (next_registers m s.view at_edge) inputs unknown in
    Goes Next (at_view g s (s.edges + 1) v) (seen (Frame (s.edges + 1) (changed m s.view v))) rest)))

-- `next_timeframe()`: past the last edge it ends the run, or breaks the property of the call
abbrev pub next_timeframe : Given → Place → Onward
next_timeframe g p s c =
    if nat_lt s.edges g.frames then clock_edge g s c
    else if g.check_bound then broken kind.Frame p c
    else Stops OutOfFrames nothing c

-- the arguments' values, from left to right, each converted to the type of its parameter (C99 6.5.2.2p4 and p7)
abbrev pub with_arguments : List Scope → Rows → (params : List IntType) → List Expression → List ℕ → (List ℤ → CEffect) → CEffect
with_arguments env rows [] es c go = go []
with_arguments env rows (t ∷ ts) [] c go = go []
with_arguments env rows (t ∷ ts) (e ∷ es) c go =
    with_value (c_value env rows e) c (λ n. with_arguments env rows ts es c (λ ns. go (in_type (type_of env e) t n ∷ ns)))

-- the types of a function's parameters, and none where there is no function
abbrev pub params_of : Option CFunction → List IntType
params_of None = []
params_of (Some f) = f.params

-- what is called; a name that is no function can't be called, and does nothing here
abbrev pub called : Given → Calls → Here → Call → Callee → Onward
called g calls h call callee_as.Unknown s c = Goes Next s nothing c
called g calls h call callee_as.NotFunction s c = Goes Next s nothing c
called g calls h call callee_as.SetInputs s c = set_inputs g s c
called g calls h call callee_as.NextFrame s c = next_timeframe g call.name.place s c
called g calls h call (callee_as.Declared f) s c =
    with_arguments h.scopes (rows_in g s) (params_of (slice_get g.functions f)) call.arguments c (λ args. calls call.name.place f args s c)

-- a call: its arguments first, then its function (C99 6.5.2.2p10)
abbrev pub after_call : Given → Calls → Here → Call → Onward
after_call g calls h call = called g calls h call (callee h.scopes call)

-- goes on with what an object of a type is set to: the value of an expression or of a call, converted (C99 6.5.16.1p2, 6.7.8p11)
abbrev pub with_initializer : Given → Calls → Here → IntType → Initializer → JointState → List ℕ → (ℤ → Onward) → CEffect
with_initializer g calls h t (initializer.Value e) s c go =
    with_value (c_value h.scopes (rows_in g s) e) c (λ n. go (in_type (type_of h.scopes e) t n) s c)
with_initializer g calls h t (initializer.Called call) s c go =
    then_do (after_call g calls h call s c) (λ s' rest. go (converted t s'.returned) s' rest)

-- what the name of an assigned object means
abbrev pub aim : List Scope → Path → Found
aim env (path.Object o) = found env false o
aim env (path.Element' o p _ (path.more_of-Expression e _)) = found env true o

-- the object that an assignment's left side names
abbrev pub aim_slot : List Scope → Path → Slot
aim_slot env x = slot_found (aim env x)

-- evaluates the index, if there is one
abbrev pub with_index : List Scope → Rows → Path → List ℕ → (Option ℤ → CEffect) → CEffect
with_index env rows (path.Object o) c go = go None
with_index env rows (path.Element' o p _ (path.more_of-Expression e _)) c go = with_value (c_value env rows e) c (λ i. go (Some i))

-- the place of the `[`, at which the index is checked
abbrev pub index_place : Path → Place
index_place (path.Object o) = o.name.place
index_place (path.Element' o p _ (path.more_of-Expression e _)) = p

-- checks that an index is from 0 to the length less 1 (C99 6.5.6p8)
abbrev pub within_bounds : (length : ℕ) → Place → Option ℤ → List ℕ → (Option ℕ → CEffect) → CEffect
within_bounds n p None c go = go None
within_bounds n p (Some i) c go = if is_within n i then go (Some (low_part i)) else broken kind.Bounds p c

-- `a[i] = e`: the index, then e, then the bounds, then the store (C99 6.5.16.1)
abbrev pub assigned : Given → Calls → Here → Path → Initializer → Onward
assigned g calls h x i s c =
    with_index h.scopes (rows_in g s) x c (λ index.
    with_initializer g calls h (path_type h.scopes x) i s c (λ n s' rest.
    within_bounds (length (rows_in g s' (aim_slot h.scopes x))) (index_place x) index rest (λ element.
    store_at (path_start x).line (aim_slot h.scopes x) element n s' rest)))

-- `a[i] op= e` is `a[i] = a[i] op e` with a[i] evaluated once: the index, the bounds, the old value, e, the checks of the
-- operator at its place, then the store (C99 6.5.16.2p3)
abbrev pub updated : Given → Here → Path → BinaryOp → Place → (right_type : IntType) → (right : CAnswer) → Onward
updated g h x op p u right s c =
    let rows = rows_in g s in
    let t = path_type h.scopes x in
    let slot = aim_slot h.scopes x in
    with_index h.scopes rows x c (λ index.
    within_bounds (length (rows slot)) (index_place x) index c (λ element.
    with_value (binary_operated (meaning_with op) t u p (slice_index_or (rows slot) (element_of element) (pos 0)) right) c (λ n.
    store_at (path_start x).line slot element (converted t n) s c)))

-- assignments, updates and calls; `++` is `+= 1`, and `--` is `-= 1` (C99 6.5.2.4p2, 6.5.3.1p2, 6.8.3)
abbrev pub after_simple : Given → Calls → Here → Simple → Onward
after_simple g calls h (simple.Assign x i) s c = assigned g calls h x i s c
after_simple g calls h (simple.Update x mark e) s c =
    updated g h x (update_op mark.operator) mark.place (type_of h.scopes e) (c_value h.scopes (rows_in g s) e) s c
after_simple g calls h (simple.StepAfter x mark) s c = updated g h x (step_op mark.operator) mark.place int (Gives (pos 1)) s c
after_simple g calls h (simple.StepBefore mark x) s c = updated g h x (step_op mark.operator) mark.place int (Gives (pos 1)) s c
after_simple g calls h (simple.Called call) s c = after_call g calls h call s c

-- an object takes any value (C99 6.7.8p10)
abbrev pub free_object : (line : ℕ) → Slot → IntType → (index : Option ℕ) → Onward
free_object line slot t index s c = draw t.bits c (λ n rest. store_at line slot index (converted t (pos n)) s rest)

-- the next n elements of an array, from its i-th on, take any values
abbrev pub free_elements : (line : ℕ) → Slot → IntType → (n i : ℕ) → Onward
free_elements line slot t zero i s c = Goes Next s nothing c
free_elements line slot t (suc n) i s c = then_do (free_object line slot t (Some i) s c) (free_elements line slot t n (i + 1))

-- the next n elements take the values of expressions, each stored before the next is evaluated, and then 0 (C99 6.7.8p21)
abbrev pub set_elements : Given → List Scope → (line : ℕ) → Slot → IntType → (n i : ℕ) → List Expression → Onward
set_elements g env line slot t zero i es s c = Goes Next s nothing c
set_elements g env line slot t (suc n) i [] s c =
    then_do (store_at line slot (Some i) (pos 0) s c) (set_elements g env line slot t n (i + 1) [])
set_elements g env line slot t (suc n) i (e ∷ es) s c =
    with_value (c_value env (rows_in g s) e) c (λ v.
    then_do (store_at line slot (Some i) (in_type (type_of env e) t v) s c) (set_elements g env line slot t n (i + 1) es))

-- a declared object takes the value of its initializer each time its declaration is reached, and else any value (C99 6.2.4p6)
abbrev pub after_declarator : Given → Calls → IntType → Here → Declarator → Onward
after_declarator g calls t h (declarator.Plain x) s c = free_object x.place.line (Automatic (number_of h.objects)) t None s c
after_declarator g calls t h (declarator.Initialized x i) s c =
    with_initializer g calls (in_initializer h (declarator.Initialized x i)) t i s c (store_at x.place.line (Automatic (number_of h.objects)) None)
after_declarator g calls t h (declarator.Array x n) s c =
    free_elements x.place.line (Automatic (number_of h.objects)) t (declared_length (declarator.Array x n)) 0 s c
after_declarator g calls t h (declarator.InitializedArray x n es) s c =
    set_elements g (in_initializer h (declarator.InitializedArray x n es)).scopes x.place.line (Automatic (number_of h.objects)) t
    (declared_length (declarator.InitializedArray x n es)) 0 es s c

-- the declarators of a declaration take effect in order, each in the scope of those before it (C99 6.2.1p7)
abbrev pub after_declarators : Given → Calls → IntType → (constant : Bool) → Here → List Declarator → Onward
after_declarators g calls t constant h [] s c = Goes Next s nothing c
after_declarators g calls t constant h (d ∷ ds) s c =
    then_do (after_declarator g calls t h d s c) (after_declarators g calls t constant (past_declarator t constant d h) ds)

-- a declaration: its objects in order (C99 6.7.8, 6.8p3)
abbrev pub after_local : Given → Calls → Here → Local → Onward
after_local g calls h l = after_declarators g calls (named l.type_name.integer) (is_some l.constant) h l.declarators

-- `return` leaves the function; its value is converted to the type of the result (C99 6.8.6.4p3)
abbrev pub after_return : Given → Calls → Here → Option Initializer → Onward
after_return g calls h None s c = Goes Returning (returning s (pos 0)) nothing c
after_return g calls h (Some i) s c =
    with_initializer g calls h (type_or_int h.result) i s c (λ n s' rest. Goes Returning (returning s' n) nothing rest)
