-- Statements see a break only where they end by it, where calls do.
use Rattle.std.proofs.Common.{ℕ, zero, suc, ◌+◌, List, [], ◌∷◌, refl}
use Rattle.std.specs.Prelude.{ℤ, pos, Option, Some, None, Bool, true, false, if◌then◌else◌, nat_lt, slice_get, slice_index_or}
use Rattle.src_text.specs.declared.refusal.Place.{Place}
use Rattle.joint_ir.specs.declared.ctype.IntType.{IntType}
use Rattle.joint_ir.specs.declared.expr.TExpr.{TExpr}
use Rattle.joint_ir.specs.declared.expr.Slot.{Slot}
use Rattle.joint_ir.specs.declared.expr.Slot.TheVariants.{Local}
use Rattle.joint_ir.specs.declared.module.Role.TheVariants as role
use Rattle.joint_ir.specs.declared.program.PropId.{PropId}
use Rattle.joint_ir.specs.declared.program.Var.{Var}
use Rattle.joint_ir.specs.declared.stmt.Group.{Group, Group'}
use Rattle.joint_ir.specs.declared.stmt.SNode.{SNode, Block', Declare, Store, Update, Call, If', Loop, Switch', Break, Continue, Return, Assert, Assume, SetInputs, NextFrame, Row_of-TStmt, end_of-TStmt, more_of-TStmt, Row_of-Group, end_of-Group, more_of-Group, Held-SNode-If-2, None', Some'}
use Rattle.joint_ir.specs.declared.stmt.TCall.{TCall}
use Rattle.joint_ir.specs.declared.stmt.TInit.{TInit}
use Rattle.joint_ir.specs.declared.stmt.TInit.TheVariants.{Free, Values, Called}
use Rattle.joint_ir.specs.declared.stmt.TLoop.{TLoop, TLoop'}
use Rattle.joint_ir.specs.declared.stmt.TTarget.{TTarget}
use Rattle.joint_ir.specs.declared.stmt.TUpdate.{TUpdate}
use Rattle.joint_ir.specs.Types.{converted}
use Rattle.joint_ir.specs.Values.{Answer, binary_value, value_of, is_zero}
use Rattle.joint_ir.specs.Views.{widths_of, site_widths}
use Rattle.joint_ir.specs.States.{JointState}
use Rattle.joint_ir.specs.declared.event.Event.TheVariants.{Stored}
use Rattle.joint_ir.specs.declared.event.Outcome.TheVariants.{Cut, OutOfFrames}
use Rattle.joint_ir.specs.Effects.{Effect, Onward, Goes, Stops, nothing, seen, broken, then_do, with_value}
use Rattle.joint_ir.specs.declared.way.Way.TheVariants.{Next, Breaking, Continuing, Returning}
use Rattle.joint_ir.specs.Steps.{Setting, Calls, element_of, rows_in, call_effect, with_init, with_index, within_bounds, right_value, slot_type, store_at, store_effect, update_effect, free_elements, set_elements, declare_object, declare_var, return_effect, set_inputs, clock_edge, next_frame}
use Rattle.joint_ir.specs.Statements.{tested, turns, loop_effect, at_entry, entered, after, after_row, after_other, after_loop, groups_from, after_group}
use Rattle.named_breaks.proofs.Parts.{Named, Steady, goes_named, stops_named, broken_named, then_named, turn_named, groups_named, check_named, value_named, values_named, draw_named, draw_all_named, if_named}

-- calls see a break only where they end by it
abbrev pub CallsSteady : Calls → Type 0
CallsSteady calls = (p : Place) (f : ℕ) (args : List ℤ) → Steady (calls p f args)

-- stretches one after another
steady_then : (f g : Onward) → Steady f → Steady g → Steady (λ s c. then_do (f s c) g)
steady_then f g x y = λ s. then_named (f s) g (x s) y

pub at_named : (line : ℕ) (slot : Slot) (index : Option ℕ) (n : ℤ) → Steady (store_at line slot index n)
at_named line slot index n = λ s. goes_named Next _ (seen (Stored line slot index n)) refl

free_steady : (line x : ℕ) (t : IntType) (n i : ℕ) → Steady (free_elements line x t n i)
free_steady line x t zero i = λ s. goes_named Next s nothing refl
free_steady line x t (suc n) i = λ s.
    draw_named t.bits _ (λ m. then_named (store_at line (Local x) (Some i) (converted t (pos m)) s) (free_elements line x t n (i + 1)) (at_named line (Local x) (Some i) (converted t (pos m)) s) (free_steady line x t n (i + 1)))

tested_steady : (test : JointState → Answer) (go : Onward) → Steady go → Steady (tested test go)
tested_steady test go h = λ s. value_named (test s) _ (λ n. if_named (is_zero n) (Goes Next s nothing) (go s) (goes_named Next s nothing refl) (h s))

turns_steady : (n : ℕ) (test : JointState → Answer) (body step : Onward) (p : PropId) → Steady body → Steady step → Steady (turns n test body step p)
turns_steady zero test body step p x y = λ s. broken_named p
turns_steady (suc n) test body step p x y = λ s.
    turn_named (body s) _ (x s) (steady_then step (tested test (turns n test body step p)) y (tested_steady test (turns n test body step p) (turns_steady n test body step p x y)))

loop_steady : (first : Bool) (n : ℕ) (test : JointState → Answer) (body step : Onward) (p : PropId) → Steady body → Steady step → Steady (loop_effect first n test body step p)
loop_steady true n test body step p x y = tested_steady test (turns n test body step p) (turns_steady n test body step p x y)
loop_steady false n test body step p x y = turns_steady n test body step p x y

entry_steady : (i : Option ℕ) (go : ℕ → Onward) → ((j : ℕ) → Steady (go j)) → Steady (at_entry i go)
entry_steady None go h = λ s. goes_named Next s nothing refl
entry_steady (Some i) go h = λ s. groups_named (go i s) (h i s)

module _ (k : Setting) where
  set_steady : (line x n i : ℕ) (es : List TExpr) → Steady (set_elements k line x n i es)
  set_steady line x zero i es = λ s. goes_named Next s nothing refl
  set_steady line x (suc n) i [] = λ s.
      then_named (store_at line (Local x) (Some i) (pos 0) s) (set_elements k line x n (i + 1) []) (at_named line (Local x) (Some i) (pos 0) s) (set_steady line x n (i + 1) [])
  set_steady line x (suc n) i (e ∷ es) = λ s.
      value_named (value_of (rows_in k s) e) _
      (λ v. then_named (store_at line (Local x) (Some i) v s) (set_elements k line x n (i + 1) es) (at_named line (Local x) (Some i) v s) (set_steady line x n (i + 1) es))

  index_named : (e : Option TExpr) (s : JointState) (go : Option ℤ → List ℕ → Effect) → ((x : Option ℤ) → Named (go x)) → Named (λ c. with_index k e s c (λ x. go x c))
  index_named None s go h = h None
  index_named (Some e) s go h = value_named (value_of (rows_in k s) e) (λ n. go (Some n)) (λ n. h (Some n))

  bounds_named : (target : TTarget) (x : Option ℤ) (s : JointState) (go : Option ℕ → List ℕ → Effect) → ((y : Option ℕ) → Named (go y)) → Named (λ c. within_bounds k target x s c (λ y. go y c))
  bounds_named target None s go h = h None
  bounds_named target (Some i) s go h = check_named target.bounds _ (go _) (h _)

  update_steady : (target : TTarget) (u : TUpdate) → Steady (update_effect k target u)
  update_steady target u = λ s.
      index_named target.index s _ (λ i. bounds_named target i s _
      (λ index. value_named (right_value (rows_in k s) u.right) _
      (λ y. value_named (binary_value u.op u.ty u.division u.other (converted u.ty (slice_index_or (rows_in k s target.slot) (element_of index) (pos 0))) y) _ (λ n. at_named target.place.line target.slot index (converted (slot_type k.pair.program target.slot) n) s))))

  inputs_steady : Steady (set_inputs k)
  inputs_steady = λ s. draw_all_named (site_widths k.pair.module.settle_sites) _ (λ unknown. goes_named Next _ _ refl)

  edge_steady : Steady (clock_edge k)
  edge_steady = λ s.
      draw_all_named (site_widths k.pair.module.edge_sites) _ (λ xs.
      draw_all_named (widths_of role.Input k.pair.module.signals) _ (λ ys.
      draw_all_named (site_widths k.pair.module.settle_sites) _ (λ zs. goes_named Next _ _ refl)))

  frame_steady : (p : PropId) → Steady (next_frame k p)
  frame_steady p = λ s. if_named (nat_lt s.edges k.bounds.frames) (clock_edge k s) _ (edge_steady s)
      (if_named k.bounds.check_bound (broken p) (Stops OutOfFrames nothing) (broken_named p) (stops_named OutOfFrames nothing refl))

  module _ (calls : Calls) (b : CallsSteady calls) where
    call_steady : (call : TCall) → Steady (call_effect k calls call)
    call_steady call = λ s. values_named (rows_in k s) call.args _ (λ args. b call.place call.function args s)

    init_named : (t : IntType) (init : TInit) (s : JointState) (go : ℤ → Onward) → ((n : ℤ) → Steady (go n)) → Named (λ c. with_init k calls t init s c go)
    init_named t Free s go next = draw_named t.bits _ (λ n. next _ s)
    init_named t (Values es) s go next = value_named _ _ (λ n. next n s)
    init_named t (Called call) s go next = then_named (call_effect k calls call s) _ (call_steady call s) (λ s'. next _ s')

    store_steady : (target : TTarget) (init : TInit) → Steady (store_effect k calls target init)
    store_steady target init = λ s. index_named target.index s _
        (λ x. init_named _ init s _ (λ n s'. bounds_named target x s' _ (λ y. at_named target.place.line target.slot y n s')))

    object_steady : (line x : ℕ) (t : IntType) (n : ℕ) (init : TInit) → Steady (declare_object k calls line x t n init)
    object_steady line x t zero init = λ s. init_named t init s _ (λ n s'. at_named line (Local x) None n s')
    object_steady line x t (suc n) Free = free_steady line x t (suc n) 0
    object_steady line x t (suc n) (Values es) = set_steady line x (suc n) 0 es
    object_steady line x t (suc n) (Called call) = λ s. goes_named Next s nothing refl

    var_steady : (line x : ℕ) (var : Option Var) (init : TInit) → Steady (declare_var k calls line x var init)
    var_steady line x None init = λ s. goes_named Next s nothing refl
    var_steady line x (Some var) init = object_steady line x var.ty var.length init

    return_steady : (init : Option TInit) → Steady (return_effect k calls init)
    return_steady None = λ s. goes_named Returning _ nothing refl
    return_steady (Some init) = λ s. init_named _ init s _ (λ n s'. goes_named Returning _ nothing refl)

    if_steady : (e : TExpr) (f g : Onward) → Steady f → Steady g → Steady (λ s c. with_value (value_of (rows_in k s) e) c (λ n. if is_zero n then g s c else f s c))
    if_steady e f g x y = λ s. value_named (value_of (rows_in k s) e) (λ n c. if is_zero n then g s c else f s c) (λ n. if_named (is_zero n) (g s) (f s) (y s) (x s))

    first_steady : {m : _} (g : Group) (rest : Row_of-Group m) → Steady (after_group k calls g) → ((j : ℕ) → Steady (groups_from k calls j rest)) → (i : ℕ) → Steady (groups_from k calls i (more_of-Group g rest))
    first_steady g rest x y zero = steady_then (after_group k calls g) (groups_from k calls 0 rest) x (y 0)
    first_steady g rest x y (suc i) = y i

    mutual
      pub after_steady : (p : Place) (node : SNode) → Steady (after k calls p node)
      after_steady p (Block' _ row) = row_steady row
      after_steady p (Declare x init) = var_steady p.line x (slice_get k.pair.program.locals x) init
      after_steady p (Store target init) = store_steady target init
      after_steady p (Update target update) = update_steady target update
      after_steady p (Call call) = call_steady call
      after_steady p (If' e _ (more_of-TStmt q a _) other) = if_steady e (after k calls q a) (after_other k calls other) (after_steady q a) (other_steady other)
      after_steady p (Loop loop) = loops_steady loop
      after_steady p (Switch' e _ groups) = λ s.
          value_named (value_of (rows_in k s) e) (λ n. at_entry (entered n groups) (λ i. groups_from k calls i groups) s) (λ n. entry_steady (entered n groups) (λ i. groups_from k calls i groups) (λ i. groups_steady groups i) s)
      after_steady p Break = λ s. goes_named Breaking s nothing refl
      after_steady p Continue = λ s. goes_named Continuing s nothing refl
      after_steady p (Return init) = return_steady init
      after_steady p (Assert e prop) = λ s. value_named (value_of (rows_in k s) e) (λ n c. if is_zero n then broken prop c else Goes Next s nothing c)
          (λ n. if_named (is_zero n) (broken prop) (Goes Next s nothing) (broken_named prop) (goes_named Next s nothing refl))
      after_steady p (Assume e) = λ s. value_named (value_of (rows_in k s) e) (λ n c. if is_zero n then Stops Cut nothing c else Goes Next s nothing c)
          (λ n. if_named (is_zero n) (Stops Cut nothing) (Goes Next s nothing) (stops_named Cut nothing refl) (goes_named Next s nothing refl))
      after_steady p SetInputs = inputs_steady
      after_steady p (NextFrame prop) = frame_steady prop

      row_steady : {m : _} (row : Row_of-TStmt m) → Steady (after_row k calls row)
      row_steady end_of-TStmt = λ s. goes_named Next s nothing refl
      row_steady (more_of-TStmt p a rest) = steady_then (after k calls p a) (after_row k calls rest) (after_steady p a) (row_steady rest)

      other_steady : (other : Held-SNode-If-2) → Steady (after_other k calls other)
      other_steady None' = λ s. goes_named Next s nothing refl
      other_steady (Some' _ (more_of-TStmt p a _)) = after_steady p a

      loops_steady : (loop : TLoop) → Steady (after_loop k calls loop)
      loops_steady (TLoop' first _ heads cond step _ (more_of-TStmt p body _) prop) =
          steady_then (after_row k calls heads) _ (row_steady heads)
          (loop_steady first _ _ (after k calls p body) (after_other k calls step) prop (after_steady p body) (other_steady step))

      groups_steady : {m : _} (row : Row_of-Group m) (i : ℕ) → Steady (groups_from k calls i row)
      groups_steady end_of-Group i = λ s. goes_named Next s nothing refl
      groups_steady (more_of-Group g rest) i = first_steady g rest (group_steady g) (λ j. groups_steady rest j) i

      group_steady : (g : Group) → Steady (after_group k calls g)
      group_steady (Group' labels _ row) = row_steady row
