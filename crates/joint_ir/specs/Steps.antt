-- What the simple statements do: stores, declarations, and the two calls that reach the module.
use Rattle.std.specs.Prelude.{ℕ, zero, suc, ◌+◌, Bool, false, if◌then◌else◌, nat_lt, eqb, List, [], ◌∷◌, length, slice_get, slice_index_or}
use Rattle.std.specs.Prelude.{ℤ, pos, negsuc, Option, Some, None}
use Rattle.std.specs.List.{find}
use Rattle.joint_ir.specs.declared.bounds.Bounds.{Bounds}
use Rattle.joint_ir.specs.declared.bounds.Limit.{Limit}
use Rattle.joint_ir.specs.declared.ctype.IntType.{IntType}
use Rattle.joint_ir.specs.declared.event.Event.TheVariants.{Frame, Driven, Stored}
use Rattle.joint_ir.specs.declared.event.Outcome.TheVariants.{OutOfFrames}
use Rattle.joint_ir.specs.declared.expr.Slot.{Slot}
use Rattle.joint_ir.specs.declared.expr.Slot.TheVariants.{Global, Local, Member, BoundValue}
use Rattle.joint_ir.specs.declared.expr.TExpr.{TExpr}
use Rattle.joint_ir.specs.declared.module.FlatModule.{FlatModule}
use Rattle.joint_ir.specs.declared.module.Role.TheVariants as role
use Rattle.joint_ir.specs.declared.pair.Pair.{Pair}
use Rattle.joint_ir.specs.declared.program.CProgram.{CProgram}
use Rattle.joint_ir.specs.declared.program.Function.{Function}
use Rattle.joint_ir.specs.declared.program.Member.{Member as AMember}
use Rattle.joint_ir.specs.declared.program.PropId.{PropId}
use Rattle.joint_ir.specs.declared.program.Var.{Var}
use Rattle.joint_ir.specs.declared.stmt.TCall.{TCall}
use Rattle.joint_ir.specs.declared.stmt.TInit.{TInit}
use Rattle.joint_ir.specs.declared.stmt.TInit.TheVariants.{Free, Values, Called}
use Rattle.joint_ir.specs.declared.stmt.TTarget.{TTarget}
use Rattle.joint_ir.specs.declared.stmt.TUpdate.{TUpdate}
use Rattle.src_text.specs.declared.refusal.Place.{Place}
use Rattle.joint_ir.specs.Types.{int, converted}
use Rattle.joint_ir.specs.Values.{Answer, Value, Rows, value_of, binary_value}
use Rattle.joint_ir.specs.States.{Store, View, JointState, rows_of, put}
use Rattle.joint_ir.specs.Views.{widths_of, site_widths, settled_wires, next_registers, filled, members_of, driven, changed}
use Rattle.joint_ir.specs.Effects.{Effect, nothing, seen, Goes, Stops, Onward, then_do, broken, check_then, with_value, with_values, draw, draw_all}
use Rattle.joint_ir.specs.declared.way.Way.TheVariants.{Next, Returning}

-- what a run is of, and the function whose body runs
pub record Setting : Type 0 where
  pub pair : Pair
  pub bounds : Bounds
  pub here : ℕ

-- the limit of a loop or of a function: its own, if it has one
abbrev pub limit_or : Option Limit → ℕ → ℕ
limit_or None n = n
limit_or (Some limit) n = limit.count

-- the limit of a loop or a function: its own, or else that for all; of two of its own the first
abbrev pub limit_of : Bounds → PropId → ℕ
limit_of b p = limit_or (find (λ limit. eqb limit.prop.0 p.0) b.limits) b.unwind

-- the types of objects; that of `bound` is `unsigned int`
abbrev pub var_type : Option Var → IntType
var_type None = int
var_type (Some x) = x.ty

-- a type, and `int` where there is none
abbrev pub type_or_int : Option IntType → IntType
type_or_int None = int
type_or_int (Some t) = t

-- the type of a member, and `int` where it is a struct
abbrev pub member_type : Option AMember → IntType
member_type None = int
member_type (Some m) = type_or_int m.ty

-- the type of an object's elements; `bound` is an `unsigned int`
abbrev pub slot_type : CProgram → Slot → IntType
slot_type p (Global i) = var_type (slice_get p.globals i)
slot_type p (Local i) = var_type (slice_get p.locals i)
slot_type p (Member i) = member_type (slice_get (members_of p.mirror) i)
slot_type p BoundValue = record { bits = 32; signed = false; truth = false }

-- the elements of the objects in a state
abbrev pub rows_in : Setting → JointState → Rows
rows_in k s = rows_of k.bounds.frames s.store

-- the same moment with other objects
abbrev pub with_store : JointState → Store → JointState
with_store s store = record { store = store; view = s.view; edges = s.edges; returned = s.returned }

-- the same moment with other automatic objects
abbrev pub with_locals : JointState → List (List ℤ) → JointState
with_locals s rows = with_store s (record { globals = s.store.globals; locals = rows; members = s.store.members })

-- the same moment with this value returned last
abbrev pub returning : JointState → ℤ → JointState
returning s n = record { store = s.store; view = s.view; edges = s.edges; returned = n }

-- the element that an index names; an object that is no array has one alone
abbrev pub element_of : Option ℕ → ℕ
element_of None = 0
element_of (Some i) = i

-- a store, which is seen with the line that it stands at
abbrev pub store_at : (line : ℕ) → Slot → (index : Option ℕ) → ℤ → Onward
store_at line slot index n s c =
    Goes Next (with_store s (put s.store slot (element_of index) n)) (seen (Stored line slot index n)) c

-- what calls do, given the place of the call, the function and its arguments; the result is what was returned
abbrev pub Calls : Type 0
Calls = Place → (function : ℕ) → (args : List ℤ) → Onward

-- a call: its arguments first, from left to right
abbrev pub call_effect : Setting → Calls → TCall → Onward
call_effect k calls call s c = with_values (rows_in k s) call.args c (λ args. calls call.place call.function args s c)

-- the value of the one expression of an initializer
abbrev pub first_value : Rows → List TExpr → Answer
first_value rows [] = Value (pos 0)
first_value rows (e ∷ es) = value_of rows e

-- goes on with the value that an object of a type is set to: any, that of an expression, or a call's result
abbrev pub with_init : Setting → Calls → IntType → TInit → JointState → List ℕ → (ℤ → Onward) → Effect
with_init k calls t Free s c go = draw t.bits c (λ n rest. go (converted t (pos n)) s rest)
with_init k calls t (Values es) s c go = with_value (first_value (rows_in k s) es) c (λ n. go n s c)
with_init k calls t (Called call) s c go = then_do (call_effect k calls call s c) (λ s' rest. go (converted t s'.returned) s' rest)

-- evaluates an index, if there is one
abbrev pub with_index : Setting → Option TExpr → JointState → List ℕ → (Option ℤ → Effect) → Effect
with_index k None s c go = go None
with_index k (Some e) s c go = with_value (value_of (rows_in k s) e) c (λ i. go (Some i))

-- an index names an element: it is from 0 to the length less 1
abbrev pub is_within : (length : ℕ) → ℤ → Bool
is_within n (pos i) = nat_lt i n
is_within n (negsuc i) = false

-- an index that is within, as a place
abbrev pub low_part : ℤ → ℕ
low_part (pos i) = i
low_part (negsuc i) = 0

-- checks that an index is within its array
abbrev pub within_bounds : Setting → TTarget → Option ℤ → JointState → List ℕ → (Option ℕ → Effect) → Effect
within_bounds k target None s c go = go None
within_bounds k target (Some i) s c go =
    check_then target.bounds (is_within (length (rows_in k s target.slot)) i) c (go (Some (low_part i)))

-- `a[i] = e`: the index, then e, then the bounds, then the store
abbrev pub store_effect : Setting → Calls → TTarget → TInit → Onward
store_effect k calls target init s c =
    with_index k target.index s c (λ i.
    with_init k calls (slot_type k.pair.program target.slot) init s c (λ n s' rest.
    within_bounds k target i s' rest (λ index. store_at target.place.line target.slot index n s' rest)))

-- the right operand of an update; `++` and `--` have 1 (C99 6.5.2.4)
abbrev pub right_value : Rows → Option TExpr → Answer
right_value rows None = Value (pos 1)
right_value rows (Some e) = value_of rows e

-- `a[i] op= e`: the index, the bounds, the old value, e, the operator's checks, then the store
abbrev pub update_effect : Setting → TTarget → TUpdate → Onward
update_effect k target u s c =
    let rows = rows_in k s in
    let t = slot_type k.pair.program target.slot in
    with_index k target.index s c (λ i.
    within_bounds k target i s c (λ index.
    let old = converted u.ty (slice_index_or (rows target.slot) (element_of index) (pos 0)) in
    with_value (right_value rows u.right) c (λ y.
    with_value (binary_value u.op u.ty u.division u.other old y) c (λ n.
    store_at target.place.line target.slot index (converted t n) s c))))

-- the next n elements of an array x, from its i-th on, take any values
abbrev pub free_elements : (line x : ℕ) → IntType → (n i : ℕ) → Onward
free_elements line x t zero i s c = Goes Next s nothing c
free_elements line x t (suc n) i s c =
    draw t.bits c (λ m rest. then_do (store_at line (Local x) (Some i) (converted t (pos m)) s rest) (free_elements line x t n (i + 1)))

-- the next n elements of an array x, from its i-th on, take the values of expressions, and then 0 (C99 6.7.8p21)
abbrev pub set_elements : Setting → (line x n i : ℕ) → List TExpr → Onward
set_elements k line x zero i es s c = Goes Next s nothing c
set_elements k line x (suc n) i [] s c = then_do (store_at line (Local x) (Some i) (pos 0) s c) (set_elements k line x n (i + 1) [])
set_elements k line x (suc n) i (e ∷ es) s c =
    with_value (value_of (rows_in k s) e) c (λ v.
    then_do (store_at line (Local x) (Some i) v s c) (set_elements k line x n (i + 1) es))

-- an array is declared: its elements are set one after another, or take any values
abbrev pub declare_array : Setting → Calls → (line x : ℕ) → IntType → (length : ℕ) → TInit → Onward
declare_array k calls line x t n Free s c = free_elements line x t n 0 s c
declare_array k calls line x t n (Values es) s c = set_elements k line x n 0 es s c
declare_array k calls line x t n (Called call) s c = Goes Next s nothing c

-- an object is declared: it is set, or takes any value
abbrev pub declare_object : Setting → Calls → (line x : ℕ) → IntType → (length : ℕ) → TInit → Onward
declare_object k calls line x t zero init s c = with_init k calls t init s c (store_at line (Local x) None)
declare_object k calls line x t (suc n) init s c = declare_array k calls line x t (suc n) init s c

-- a declaration of an automatic variable (C99 6.8p3)
abbrev pub declare_var : Setting → Calls → (line x : ℕ) → Option Var → TInit → Onward
declare_var k calls line x None init s c = Goes Next s nothing c
declare_var k calls line x (Some var) init s c = declare_object k calls line x var.ty var.length init s c

-- what the declaration of a local does
abbrev pub declare_effect : Setting → Calls → (line x : ℕ) → TInit → Onward
declare_effect k calls line x init = declare_var k calls line x (slice_get k.pair.program.locals x) init

-- the result's type of a function, if it has a result
abbrev pub result_of : Option Function → Option IntType
result_of None = None
result_of (Some f) = f.result

-- what a `return` does (C99 6.8.6.4)
abbrev pub return_effect : Setting → Calls → Option TInit → Onward
return_effect k calls None s c = Goes Returning (returning s (pos 0)) nothing c
return_effect k calls (Some init) s c =
    with_init k calls (type_or_int (result_of (slice_get k.pair.program.functions k.here))) init s c
    (λ n s' rest. Goes Returning (returning s' n) nothing rest)

-- a view whose wires have settled
abbrev pub settled_view : FlatModule → (registers inputs unknown : List ℕ) → View
settled_view m registers inputs unknown = record { registers = registers; inputs = inputs; wires = settled_wires m registers inputs unknown }

-- the state at a new view: the whole mirror is filled from it
abbrev pub at_view : Pair → JointState → (edges : ℕ) → View → JointState
at_view p s edges v = record {
  store = record { globals = s.store.globals; locals = s.store.locals; members = filled p v };
  view = v;
  edges = edges;
  returned = s.returned;
}

-- `set_inputs()`: the mirror drives the inputs, and the wires settle
abbrev pub set_inputs : Setting → Onward
set_inputs k s c =
    let m = k.pair.module in
    draw_all (site_widths m.settle_sites) c (λ unknown rest.
    let v = settled_view m s.view.registers (driven k.pair s.store.members s.view.inputs) unknown in
    Goes Next (at_view k.pair s s.edges v) (seen (Driven (changed m s.view v))) rest)

-- a clock edge with the inputs as they stand; then each input takes a new value, and the wires settle
abbrev pub clock_edge : Setting → Onward
clock_edge k s c =
    let m = k.pair.module in
    draw_all (site_widths m.edge_sites) c (λ at_edge c'.
    draw_all (widths_of role.Input m.signals) c' (λ inputs c''.
    draw_all (site_widths m.settle_sites) c'' (λ unknown rest.
    let v = settled_view m (next_registers m s.view at_edge) inputs unknown in
    Goes Next (at_view k.pair s (s.edges + 1) v) (seen (Frame (s.edges + 1) (changed m s.view v))) rest)))

-- `next_timeframe()`: past the last edge it ends the run, or breaks its property
abbrev pub next_frame : Setting → PropId → Onward
next_frame k p s c =
    if nat_lt s.edges k.bounds.frames then clock_edge k s c
    else if k.bounds.check_bound then broken p c
    else Stops OutOfFrames nothing c
