-- How many choices statements draw at most, given that for calls.
use Rattle.std.proofs.Common.{ℕ, zero, suc, ◌+◌, ◌≤◌, List, [], ◌∷◌, length, le_refl, arith}
use Rattle.std.specs.Prelude.{ℤ, pos, Option, Some, None, Bool, true, false, if◌then◌else◌, nat_lt, slice_get, slice_index_or}
use Rattle.src_text.specs.declared.refusal.Place.{Place}
use Rattle.joint_ir.specs.declared.ctype.IntType.{IntType}
use Rattle.joint_ir.specs.declared.expr.TExpr.{TExpr}
use Rattle.joint_ir.specs.declared.event.Outcome.TheVariants.{Cut}
use Rattle.joint_ir.specs.declared.expr.Slot.TheVariants.{Local}
use Rattle.joint_ir.specs.declared.module.Role.TheVariants as role
use Rattle.joint_ir.specs.declared.program.PropId.{PropId}
use Rattle.joint_ir.specs.declared.program.Var.{Var}
use Rattle.joint_ir.specs.declared.stmt.Group.{Group, Group'}
use Rattle.joint_ir.specs.declared.stmt.SNode.{SNode, Block', Declare, Store, Update, Call, If', Loop, Switch', Break, Continue, Return, Assert, Assume, SetInputs, NextFrame, Row_of-TStmt, end_of-TStmt, more_of-TStmt, Row_of-Group, end_of-Group, more_of-Group, Held-SNode-If-2, None', Some'}
use Rattle.joint_ir.specs.declared.stmt.TCall.{TCall}
use Rattle.joint_ir.specs.declared.stmt.TInit.{TInit}
use Rattle.joint_ir.specs.declared.stmt.TInit.TheVariants.{Free, Values, Called}
use Rattle.joint_ir.specs.declared.stmt.TLoop.{TLoop, TLoop'}
use Rattle.joint_ir.specs.declared.stmt.TTarget.{TTarget}
use Rattle.joint_ir.specs.declared.stmt.TUpdate.{TUpdate}
use Rattle.joint_ir.specs.Types.{converted}
use Rattle.joint_ir.specs.Values.{Answer, binary_value, value_of, is_zero}
use Rattle.joint_ir.specs.Views.{widths_of, site_widths}
use Rattle.joint_ir.specs.States.{JointState}
use Rattle.joint_ir.specs.Effects.{Effect, nothing, Onward, Goes, Stops, broken, with_value}
use Rattle.joint_ir.specs.declared.way.Way.TheVariants.{Next}
use Rattle.joint_ir.specs.Steps.{Setting, Calls, slot_type, element_of, rows_in, call_effect, with_init, with_index, within_bounds, right_value, store_at, store_effect, update_effect, free_elements, set_elements, declare_object, declare_var, return_effect, set_inputs, clock_edge, next_frame}
use Rattle.joint_ir.specs.Statements.{tested, turns, loop_effect, at_entry, entered, after, after_row, after_other, after_loop, groups_from, after_group}
use Rattle.joint_laws.proofs.Leaves.{Leaves, DrawsAtMost, Bounded, then_leaves, turn_leaves, groups_leave, check_leaves, value_leaves, values_leave, draw_leaves, draws_leave, then_draws, bounded_then}

-- how many choices the calls of each function draw at most
pub record CallsBounded (calls : Calls) : Type 0 where
  pub most : ℕ → ℕ
  pub draws : (p : Place) (f : ℕ) (args : List ℤ) → DrawsAtMost (most f) (calls p f args)

pub within : (m n : ℕ) (f : Onward) → m ≤ n → DrawsAtMost m f → DrawsAtMost n f
within m n f le h = λ k s c le'. h k s c (omega arith)

if_leaves : (k : ℕ) (test : Bool) (x y : Effect) → Leaves k x → Leaves k y → Leaves k (if test then x else y)
if_leaves k true x y hx hy = hx
if_leaves k false x y hx hy = hy

pub free_draws : (line x : ℕ) (t : IntType) (n i : ℕ) → DrawsAtMost n (free_elements line x t n i)
free_draws line x t zero i = λ k s c le. omega arith
free_draws line x t (suc n) i = λ k s c le.
    draw_leaves k (n + k) t.bits c _ (omega arith)
    (λ m rest le'. then_leaves k (n + k) (store_at line (Local x) (Some i) (converted t (pos m)) s rest) (free_elements line x t n (i + 1)) (omega arith) le'
    (free_draws line x t n (i + 1) k))

tested_draws : (m : ℕ) (test : JointState → Answer) (go : Onward) → DrawsAtMost m go → DrawsAtMost m (tested test go)
tested_draws m test go h = λ k s c le. value_leaves k (test s) c _ (λ n. if_leaves k (is_zero n) _ _ (omega arith) (h k s c le))

turns_bounded : (n : ℕ) (test : JointState → Answer) (body step : Onward) (p : PropId) → Bounded body → Bounded step → Bounded (turns n test body step p)
turns_bounded zero test body step p x y = record { most = 0; draws = λ k s c le. tt }
turns_bounded (suc n) test body step p x y =
    let rest = turns_bounded n test body step p x y in
    record {
      most = x.most + (y.most + rest.most);
      draws = λ k s c le. turn_leaves k (y.most + rest.most + k) (body s c) _ (omega arith) (x.draws (y.most + rest.most + k) s c (omega arith))
          (λ s' c' le'. then_leaves k (rest.most + k) (step s' c') _ (omega arith) (y.draws (rest.most + k) s' c' (omega arith))
          (tested_draws rest.most test (turns n test body step p) rest.draws k));
    }

loop_bounded : (first : Bool) (n : ℕ) (test : JointState → Answer) (body step : Onward) (p : PropId) → Bounded body → Bounded step →
    Bounded (loop_effect first n test body step p)
loop_bounded true n test body step p x y =
    let all = turns_bounded n test body step p x y in
    record { most = all.most; draws = tested_draws all.most test (turns n test body step p) all.draws }
loop_bounded false n test body step p x y = turns_bounded n test body step p x y

entry_draws : (m : ℕ) (i : Option ℕ) (go : ℕ → Onward) → ((j : ℕ) → DrawsAtMost m (go j)) → DrawsAtMost m (at_entry i go)
entry_draws m None go h = λ k s c le. omega arith
entry_draws m (Some i) go h = λ k s c le. groups_leave k (go i s c) (h i k s c le)

module _ (k : Setting) where
  set_draws : (line x n i : ℕ) (es : List TExpr) → DrawsAtMost 0 (set_elements k line x n i es)
  set_draws line x zero i es = λ j s c le. omega arith
  set_draws line x (suc n) i [] = λ j s c le.
      let le' : j ≤ length c = omega arith in
      then_leaves j j (store_at line (Local x) (Some i) (pos 0) s c) (set_elements k line x n (i + 1) []) (le_refl j) le'
      (λ s' c' le''. set_draws line x n (i + 1) [] j s' c' (omega arith))
  set_draws line x (suc n) i (e ∷ es) = λ j s c le.
      let le' : j ≤ length c = omega arith in
      value_leaves j (value_of (rows_in k s) e) c _
      (λ v. then_leaves j j (store_at line (Local x) (Some i) v s c) (set_elements k line x n (i + 1) es) (le_refl j) le'
      (λ s' c' le''. set_draws line x n (i + 1) es j s' c' (omega arith)))

  index_leaves : (j : ℕ) (e : Option TExpr) (s : JointState) (c : List ℕ) (go : Option ℤ → Effect) → ((x : Option ℤ) → Leaves j (go x)) →
      Leaves j (with_index k e s c go)
  index_leaves j None s c go h = h None
  index_leaves j (Some e) s c go h = value_leaves j (value_of (rows_in k s) e) c _ (λ n. h (Some n))

  bounds_leave : (j : ℕ) (target : TTarget) (x : Option ℤ) (s : JointState) (c : List ℕ) (go : Option ℕ → Effect) → ((y : Option ℕ) → Leaves j (go y)) →
      Leaves j (within_bounds k target x s c go)
  bounds_leave j target None s c go h = h None
  bounds_leave j target (Some i) s c go h = check_leaves j target.bounds _ c _ (h _)

  update_draws : (target : TTarget) (u : TUpdate) → DrawsAtMost 0 (update_effect k target u)
  update_draws target u = λ j s c le.
      let le' : j ≤ length c = omega arith in
      let t = slot_type k.pair.program target.slot in
      let old = λ (index : Option ℕ). converted u.ty (slice_index_or (rows_in k s target.slot) (element_of index) (pos 0)) in
      index_leaves j target.index s c _ (λ i. bounds_leave j target i s c _
      (λ index. value_leaves j (right_value (rows_in k s) u.right) c _
      (λ y. value_leaves j (binary_value u.op u.ty u.division u.other (old index) y) c (λ n. store_at target.place.line target.slot index (converted t n) s c) (λ n. le'))))

  inputs_bounded : Bounded (set_inputs k)
  inputs_bounded = record {
    most = length (site_widths k.pair.module.settle_sites);
    draws = λ j s c le. draws_leave j j (site_widths k.pair.module.settle_sites) c _ le (λ unknown rest le'. le');
  }

  edge_bounded : Bounded (clock_edge k)
  edge_bounded =
      let at_edge = site_widths k.pair.module.edge_sites in
      let inputs = widths_of role.Input k.pair.module.signals in
      let settling = site_widths k.pair.module.settle_sites in
      record {
        most = length at_edge + (length inputs + length settling);
        draws = λ j s c le. draws_leave j (length inputs + length settling + j) at_edge c _ (omega arith)
            (λ xs c' le'. draws_leave j (length settling + j) inputs c' _ (omega arith)
            (λ ys c'' le''. draws_leave j j settling c'' _ le'' (λ zs rest le'''. le''')));
      }

  frame_draws : (p : PropId) → Bounded (next_frame k p)
  frame_draws p = record {
    most = edge_bounded.most;
    draws = λ j s c le. if_leaves j (nat_lt s.edges k.bounds.frames) _ _ (edge_bounded.draws j s c le) (if_leaves j k.bounds.check_bound _ _ tt tt);
  }

  module _ (calls : Calls) (b : CallsBounded calls) where
    call_draws : (call : TCall) → DrawsAtMost (b.most call.function) (call_effect k calls call)
    call_draws call = λ j s c le. values_leave j (rows_in k s) call.args c _ (λ args. b.draws call.place call.function args j s c le)

    init_most : TInit → ℕ
    init_most Free = 1
    init_most (Values es) = 0
    init_most (Called call) = b.most call.function

    init_leaves : (t : IntType) (init : TInit) (i j : ℕ) (s : JointState) (c : List ℕ) (go : ℤ → Onward) → i ≤ j → init_most init + j ≤ length c →
        ((n : ℤ) (s' : JointState) (rest : List ℕ) → j ≤ length rest → Leaves i (go n s' rest)) → Leaves i (with_init k calls t init s c go)
    unfolding init_most
    init_leaves t Free i j s c go le lec next = draw_leaves i j t.bits c _ lec (λ n rest le'. next _ s rest le')
    init_leaves t (Values es) i j s c go le lec next = value_leaves i _ c _ (λ n. next n s c (omega arith))
    init_leaves t (Called call) i j s c go le lec next =
        then_leaves i j (call_effect k calls call s c) _ le (call_draws call j s c lec) (λ s' rest le'. next _ s' rest le')

    store_draws : (target : TTarget) (init : TInit) → DrawsAtMost (init_most init) (store_effect k calls target init)
    store_draws target init = λ j s c le. index_leaves j target.index s c _
        (λ x. init_leaves _ init j j s c _ (le_refl j) le (λ n s' rest le'. bounds_leave j target x s' rest _ (λ y. le')))

    object_bounded : (line x : ℕ) (t : IntType) (n : ℕ) (init : TInit) → Bounded (declare_object k calls line x t n init)
    object_bounded line x t zero init = record { most = init_most init; draws = λ j s c le. init_leaves t init j j s c _ (le_refl j) le (λ n s' rest le'. le') }
    object_bounded line x t (suc n) Free = record { most = suc n; draws = free_draws line x t (suc n) 0 }
    object_bounded line x t (suc n) (Values es) = record { most = 0; draws = set_draws line x (suc n) 0 es }
    object_bounded line x t (suc n) (Called call) = record { most = 0; draws = λ j s c le. omega arith }

    var_bounded : (line x : ℕ) (var : Option Var) (init : TInit) → Bounded (declare_var k calls line x var init)
    var_bounded line x None init = record { most = 0; draws = λ j s c le. omega arith }
    var_bounded line x (Some var) init = object_bounded line x var.ty var.length init

    return_bounded : (init : Option TInit) → Bounded (return_effect k calls init)
    return_bounded None = record { most = 0; draws = λ j s c le. omega arith }
    return_bounded (Some init) = record { most = init_most init; draws = λ j s c le. init_leaves _ init j j s c _ (le_refl j) le (λ n s' rest le'. le') }

    if_bounded : (e : TExpr) (f g : Onward) → Bounded f → Bounded g → Bounded (λ s c. with_value (value_of (rows_in k s) e) c (λ n. if is_zero n then g s c else f s c))
    if_bounded e f g x y = record {
      most = x.most + y.most;
      draws = λ j s c le. value_leaves j _ c _ (λ n. if_leaves j (is_zero n) _ _ (y.draws j s c (omega arith)) (x.draws j s c (omega arith)));
    }

    -- where a condition is 0 the run ends
    ends_draw : (e : TExpr) (end : List ℕ → Effect) → ((j : ℕ) (c : List ℕ) → Leaves j (end c)) →
        DrawsAtMost 0 (λ s c. with_value (value_of (rows_in k s) e) c (λ n. if is_zero n then end c else Goes Next s nothing c))
    ends_draw e end h = λ j s c le.
        let le' : j ≤ length c = omega arith in
        value_leaves j (value_of (rows_in k s) e) c _ (λ n. if_leaves j (is_zero n) (end c) (Goes Next s nothing c) (h j c) le')

    -- the groups of a switch, wherever control enters them
    record GroupsBounded {m : _} (row : Row_of-Group m) : Type 0 where
      most : ℕ
      draws : (i : ℕ) → DrawsAtMost most (groups_from k calls i row)

    more_groups : {m : _} (g : Group) (row : Row_of-Group m) → Bounded (after_group k calls g) → GroupsBounded row → GroupsBounded (more_of-Group g row)
    more_groups g row x y = record { most = x.most + y.most; draws = at }
      where
        at : (i : ℕ) → DrawsAtMost (x.most + y.most) (groups_from k calls i (more_of-Group g row))
        at zero = then_draws x.most y.most (after_group k calls g) (groups_from k calls 0 row) x.draws (y.draws 0)
        at (suc i) = within y.most _ _ (omega arith) (y.draws i)

    switch_bounded : {m : _} (e : TExpr) (row : Row_of-Group m) → GroupsBounded row →
        Bounded (λ s c. with_value (value_of (rows_in k s) e) c (λ n. at_entry (entered n row) (λ i. groups_from k calls i row) s c))
    switch_bounded e row x = record { most = x.most; draws = λ j s c le. value_leaves j _ c _ (λ n. entry_draws x.most (entered n row) _ x.draws j s c le) }

    mutual
      pub after_bounded : (p : Place) (node : SNode) → Bounded (after k calls p node)
      after_bounded p (Block' _ row) = row_bounded row
      after_bounded p (Declare x init) = var_bounded p.line x (slice_get k.pair.program.locals x) init
      after_bounded p (Store target init) = record { most = init_most init; draws = store_draws target init }
      after_bounded p (Update target update) = record { most = 0; draws = update_draws target update }
      after_bounded p (Call call) = record { most = b.most call.function; draws = call_draws call }
      after_bounded p (If' e _ (more_of-TStmt q a _) other) = if_bounded e (after k calls q a) (after_other k calls other) (after_bounded q a) (other_bounded other)
      after_bounded p (Loop loop) = loops_bounded loop
      after_bounded p (Switch' e _ groups) = switch_bounded e groups (groups_bounded groups)
      after_bounded p Break = record { most = 0; draws = λ j s c le. omega arith }
      after_bounded p Continue = record { most = 0; draws = λ j s c le. omega arith }
      after_bounded p (Return init) = return_bounded init
      after_bounded p (Assert e prop) = record { most = 0; draws = ends_draw e (λ c. broken prop c) (λ k c. tt) }
      after_bounded p (Assume e) = record { most = 0; draws = ends_draw e (λ c. Stops Cut nothing c) (λ k c. tt) }
      after_bounded p SetInputs = inputs_bounded
      after_bounded p (NextFrame prop) = frame_draws prop

      row_bounded : {m : _} (row : Row_of-TStmt m) → Bounded (after_row k calls row)
      row_bounded end_of-TStmt = record { most = 0; draws = λ j s c le. omega arith }
      row_bounded (more_of-TStmt p a rest) = bounded_then (after k calls p a) (after_row k calls rest) (after_bounded p a) (row_bounded rest)

      other_bounded : (other : Held-SNode-If-2) → Bounded (after_other k calls other)
      other_bounded None' = record { most = 0; draws = λ j s c le. omega arith }
      other_bounded (Some' _ (more_of-TStmt p a _)) = after_bounded p a

      loops_bounded : (loop : TLoop) → Bounded (after_loop k calls loop)
      loops_bounded (TLoop' first _ heads cond step _ (more_of-TStmt p body _) prop) =
          bounded_then (after_row k calls heads) _ (row_bounded heads)
          (loop_bounded first _ _ (after k calls p body) (after_other k calls step) prop (after_bounded p body) (other_bounded step))

      groups_bounded : {m : _} (row : Row_of-Group m) → GroupsBounded row
      groups_bounded end_of-Group = record { most = 0; draws = λ i j s c le. omega arith }
      groups_bounded (more_of-Group g rest) = more_groups g rest (group_bounded g) (groups_bounded rest)

      group_bounded : (g : Group) → Bounded (after_group k calls g)
      group_bounded (Group' labels _ row) = row_bounded row
