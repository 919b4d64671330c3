-- A function's body leaves the locals that aren't its own as they are.
use Rattle.std.proofs.Common.{◌≡◌, ℕ, zero, suc, ◌+◌, ◌<◌, ◌≤◌, ◌%◌, ◌^◌, List, [], ◌∷◌, ◌++◌, length, max, le_refl, sym, ap, subst, ◌∙◌, arith}
use Rattle.std.specs.Prelude.{ℤ, pos, Option, Some, None, Bool, true, false, if◌then◌else◌, nat_lt, eqb, slice_get, slice_index_or, All}
use Rattle.std.proofs.lemmas.List.{take-set-le, drop-set-lt, length-set}
use Rattle.std.proofs.lemmas.Bool.{false≢true}
use Rattle.std.proofs.lemmas.List.Elements.{All-cons, All-nil, All-contains}
use Rattle.src_text.specs.declared.refusal.Place.{Place}
use Rattle.joint_ir.specs.declared.ctype.IntType.{IntType}
use Rattle.joint_ir.specs.declared.expr.TExpr.{TExpr}
use Rattle.joint_ir.specs.declared.event.Outcome.TheVariants.{Cut}
use Rattle.joint_ir.specs.declared.expr.Slot.{Slot}
use Rattle.joint_ir.specs.declared.expr.Slot.TheVariants.{Global, Local, Member, BoundValue}
use Rattle.joint_ir.specs.declared.module.Role.TheVariants as role
use Rattle.joint_ir.specs.declared.program.PropId.{PropId}
use Rattle.joint_ir.specs.declared.program.Var.{Var}
use Rattle.joint_ir.specs.declared.stmt.Group.{Group, Group'}
use Rattle.joint_ir.specs.declared.stmt.SNode.{SNode, Block', Declare, Store, Update, Call, If', Loop, Switch', Break, Continue, Return, Assert, Assume, SetInputs, NextFrame, Row_of-TStmt, end_of-TStmt, more_of-TStmt, Row_of-Group, end_of-Group, more_of-Group, Held-SNode-If-2, None', Some'}
use Rattle.joint_ir.specs.declared.stmt.TCall.{TCall}
use Rattle.joint_ir.specs.declared.stmt.TInit.{TInit}
use Rattle.joint_ir.specs.declared.stmt.TInit.TheVariants.{Free, Values, Called}
use Rattle.joint_ir.specs.declared.stmt.TLoop.{TLoop, TLoop'}
use Rattle.joint_ir.specs.declared.stmt.TTarget.{TTarget}
use Rattle.joint_ir.specs.declared.stmt.TUpdate.{TUpdate}
use Rattle.joint_ir.specs.Types.{converted}
use Rattle.joint_ir.specs.Values.{Answer, Value, Fault, Rows, binary_value, value_of, is_zero}
use Rattle.joint_ir.specs.Views.{widths_of, site_widths}
use Rattle.joint_ir.specs.States.{JointState, put}
use Rattle.joint_ir.specs.Effects.{Effect, Onward, Told, nothing, drew, Goes, Stops, TooFew, preceded, then_do, after_turn, after_groups, check_then, broken, with_value, with_values, draw, draw_all}
use Rattle.joint_ir.specs.declared.way.Way.TheVariants.{Next, Breaking, Continuing, Returning}
use Rattle.joint_ir.specs.Steps.{Setting, Calls, slot_type, element_of, rows_in, returning, with_store, with_locals, call_effect, with_init, with_index, within_bounds, right_value, store_at, store_effect, update_effect, free_elements, set_elements, declare_object, declare_var, return_effect, set_inputs, clock_edge, next_frame, at_view}
use Rattle.joint_ir.specs.declared.bounds.Bounds.{Bounds}
use Rattle.joint_ir.specs.declared.pair.Pair.{Pair}
use Rattle.joint_ir.specs.declared.program.Function.{Function}
use Rattle.joint_ir.specs.declared.stmt.TStmt.{TStmt}
use Rattle.joint_ir.specs.Statements.{closing, any_result, after_body, entered_body, entered_function, calls_at, no_calls, is_below_limit, tested, turns, loop_effect, at_entry, entered, after, after_row, after_other, after_loop, groups_from, after_group, set_params, condition_value}
use Rattle.joint_ir.specs.WellFormed.{Scope, FitsStmt, FitsRow, FitsOther, FitsStep, FitsLoop, FitsGroups, FitsGroup, IsVisible, with_scope_locals, in_a_loop, in_a_switch, declared_behind, behind_row, declared_in, declared_in_row, declared_in_other, declared_in_loop, declared_in_groups, declared_in_group, places_from, FitsBody, AreTogether, scope_of}
use Rattle.joint_lists.specs.Own.{behind_all, own_end, IsOwn, KeepsOthers, GoesWith, Keeps}

-- ---- a property of states, along a stretch

module _ (P : JointState → Type 0) where
  pub preceded_keeps : (a : Told) (e : Effect) → GoesWith P e → GoesWith P (preceded a e)
  preceded_keeps a (Goes way s told c) h = h
  preceded_keeps a (Stops o told c) h = tt
  preceded_keeps a TooFew h = tt

  then_keeps : (e : Effect) (go : Onward) → GoesWith P e → Keeps P go → GoesWith P (then_do e go)
  then_keeps (Goes Next s told c) go h next = preceded_keeps told (go s c) (next s c h)
  then_keeps (Goes Breaking s told c) go h next = h
  then_keeps (Goes Continuing s told c) go h next = h
  then_keeps (Goes Returning s told c) go h next = h
  then_keeps (Stops o told c) go h next = tt
  then_keeps TooFew go h next = tt

  turn_keeps : (e : Effect) (go : Onward) → GoesWith P e → Keeps P go → GoesWith P (after_turn e go)
  turn_keeps (Goes Next s told c) go h next = preceded_keeps told (go s c) (next s c h)
  turn_keeps (Goes Continuing s told c) go h next = preceded_keeps told (go s c) (next s c h)
  turn_keeps (Goes Breaking s told c) go h next = h
  turn_keeps (Goes Returning s told c) go h next = h
  turn_keeps (Stops o told c) go h next = tt
  turn_keeps TooFew go h next = tt

  groups_keep : (e : Effect) → GoesWith P e → GoesWith P (after_groups e)
  groups_keep (Goes Next s told c) h = h
  groups_keep (Goes Breaking s told c) h = h
  groups_keep (Goes Continuing s told c) h = h
  groups_keep (Goes Returning s told c) h = h
  groups_keep (Stops o told c) h = tt
  groups_keep TooFew h = tt

  check_keeps : (p : Option PropId) (test : Bool) (c : List ℕ) (e : Effect) → GoesWith P e → GoesWith P (check_then p test c e)
  check_keeps None test c e h = h
  check_keeps (Some p) true c e h = h
  check_keeps (Some p) false c e h = tt

  value_keeps : (a : Answer) (c : List ℕ) (go : ℤ → Effect) → ((n : ℤ) → GoesWith P (go n)) → GoesWith P (with_value a c go)
  value_keeps (Value n) c go h = h n
  value_keeps (Fault p) c go h = tt

  values_keep : (rows : Rows) (es : List TExpr) (c : List ℕ) (go : List ℤ → Effect) → ((ns : List ℤ) → GoesWith P (go ns)) → GoesWith P (with_values rows es c go)
  values_keep rows [] c go h = h []
  values_keep rows (e ∷ es) c go h =
      value_keeps (value_of rows e) c (λ n. with_values rows es c (λ ns. go (n ∷ ns))) (λ n. values_keep rows es c (λ ns. go (n ∷ ns)) (λ ns. h (n ∷ ns)))

  draw_keeps : (bits : ℕ) (c : List ℕ) (go : ℕ → List ℕ → Effect) → ((n : ℕ) (rest : List ℕ) → GoesWith P (go n rest)) → GoesWith P (draw bits c go)
  draw_keeps bits [] go h = tt
  draw_keeps bits (n ∷ c) go h = preceded_keeps (drew bits) (go (n % 2 ^ bits) c) (h _ c)

  draws_keep : (widths c : List ℕ) (go : List ℕ → List ℕ → Effect) → ((ns rest : List ℕ) → GoesWith P (go ns rest)) → GoesWith P (draw_all widths c go)
  draws_keep [] c go h = h [] c
  draws_keep (bits ∷ widths) c go h =
      draw_keeps bits c (λ n rest. draw_all widths rest (λ ns. go (n ∷ ns))) (λ n rest. draws_keep widths rest (λ ns. go (n ∷ ns)) (λ ns. h (n ∷ ns)))

  if_keeps : (test : Bool) (x y : Effect) → GoesWith P x → GoesWith P y → GoesWith P (if test then x else y)
  if_keeps true x y hx hy = hx
  if_keeps false x y hx hy = hy

  tested_keeps : (test : JointState → Answer) (go : Onward) → Keeps P go → Keeps P (tested test go)
  tested_keeps test go h s c p = value_keeps (test s) c _ (λ n. if_keeps (is_zero n) _ _ p (h s c p))

  turns_keep : (n : ℕ) (test : JointState → Answer) (body step : Onward) (p : PropId) → Keeps P body → Keeps P step → Keeps P (turns n test body step p)
  turns_keep zero test body step p x y s c h = tt
  turns_keep (suc n) test body step p x y s c h =
      turn_keeps (body s c) _ (x s c h)
      (λ s' c' h'. then_keeps (step s' c') _ (y s' c' h') (tested_keeps test (turns n test body step p) (turns_keep n test body step p x y)))

  loop_keeps : (first : Bool) (n : ℕ) (test : JointState → Answer) (body step : Onward) (p : PropId) → Keeps P body → Keeps P step →
      Keeps P (loop_effect first n test body step p)
  loop_keeps true n test body step p x y = tested_keeps test (turns n test body step p) (turns_keep n test body step p x y)
  loop_keeps false n test body step p x y = turns_keep n test body step p x y

  entry_keeps : (i : Option ℕ) (go : ℕ → Onward) → ((j : ℕ) → Keeps P (go j)) → Keeps P (at_entry i go)
  entry_keeps None go h s c p = p
  entry_keeps (Some i) go h s c p = groups_keep (go i s c) (h i s c p)

-- ---- places

-- each place of a list is a function's own
abbrev pub AreOwn : (first end : ℕ) → List ℕ → Type 0
AreOwn first end [] = Unit {0}
AreOwn first end (x ∷ xs) = IsOwn first end x × AreOwn first end xs

own_left : (first end : ℕ) (xs ys : List ℕ) → AreOwn first end (xs ++ ys) → AreOwn first end xs
own_left first end [] ys h = tt
own_left first end (x ∷ xs) ys h = (h.0, own_left first end xs ys h.1)

own_right : (first end : ℕ) (xs ys : List ℕ) → AreOwn first end (xs ++ ys) → AreOwn first end ys
own_right first end [] ys h = h
own_right first end (x ∷ xs) ys h = own_right first end xs ys h.1

-- what is visible stays a function's own behind a declaration
declared_own : (first end : ℕ) (node : SNode) (xs : List ℕ) → All (IsOwn first end) xs → AreOwn first end (declared_in node) → All (IsOwn first end) (declared_behind node xs)
declared_own first end (Declare x init) xs h own = All-cons (IsOwn first end) x xs own.0 h
declared_own first end (Block' _ row) xs h own = h
declared_own first end (Store target init) xs h own = h
declared_own first end (Update target u) xs h own = h
declared_own first end (Call call) xs h own = h
declared_own first end (If' e _ a other) xs h own = h
declared_own first end (Loop loop) xs h own = h
declared_own first end (Switch' e _ groups) xs h own = h
declared_own first end Break xs h own = h
declared_own first end Continue xs h own = h
declared_own first end (Return init) xs h own = h
declared_own first end (Assert e prop) xs h own = h
declared_own first end (Assume e) xs h own = h
declared_own first end SetInputs xs h own = h
declared_own first end (NextFrame prop) xs h own = h

row_own : {m : _} (first end : ℕ) (row : Row_of-TStmt m) (xs : List ℕ) → All (IsOwn first end) xs → AreOwn first end (declared_in_row row) → All (IsOwn first end) (behind_row row xs)
row_own first end end_of-TStmt xs h own = h
row_own first end (more_of-TStmt p a rest) xs h own =
    row_own first end rest (declared_behind a xs) (declared_own first end a xs h (own_left first end (declared_in a) (declared_in_row rest) own))
    (own_right first end (declared_in a) (declared_in_row rest) own)

-- ---- stores

module _ (first end : ℕ) (rows : List (List ℤ)) where
  abbrev pub Others : JointState → Type 0
  Others s = KeepsOthers first end rows s

  abbrev OwnSlot : Slot → Type 0
  OwnSlot (Global i) = Unit {0}
  OwnSlot (Local x) = IsOwn first end x
  OwnSlot (Member i) = Unit {0}
  OwnSlot BoundValue = Unit {0}

  put_keeps : (slot : Slot) (j : ℕ) (n : ℤ) (s : JointState) → OwnSlot slot → Others s → Others (with_store s (put s.store slot j n))
  put_keeps (Global i) j n s own h = record { count = h.count; before = h.before; behind = h.behind }
  put_keeps (Member i) j n s own h = record { count = h.count; before = h.before; behind = h.behind }
  put_keeps BoundValue j n s own h = record { count = h.count; before = h.before; behind = h.behind }
  put_keeps (Local x) j n s own h = record {
    count = length-set s.store.locals x _ ∙ h.count;
    before = take-set-le first s.store.locals x _ own.0 ∙ h.before;
    behind = drop-set-lt end s.store.locals x _ own.1 ∙ h.behind;
  }

  store_keeps : (line : ℕ) (slot : Slot) (index : Option ℕ) (n : ℤ) → OwnSlot slot → Keeps Others (store_at line slot index n)
  store_keeps line slot index n own s c h = put_keeps slot (element_of index) n s own h

  -- parameters take their arguments
  pub params_keep : (line x : ℕ) (args : List ℤ) → first ≤ x → x + length args ≤ end → Keeps Others (set_params line x args)
  params_keep line x [] from to s c h = h
  params_keep line x (n ∷ args) from to s c h =
      let below : x < end = omega arith in
      then_keeps Others (store_at line (Local x) None n s c) (set_params line (x + 1) args) (store_keeps line (Local x) None n (from, below) s c h)
      (params_keep line (x + 1) args (omega arith) (omega arith))

  free_keep : (line x : ℕ) (t : IntType) (n i : ℕ) → IsOwn first end x → Keeps Others (free_elements line x t n i)
  free_keep line x t zero i own s c h = h
  free_keep line x t (suc n) i own s c h =
      draw_keeps Others t.bits c _ (λ m rest. then_keeps Others (store_at line (Local x) (Some i) (converted t (pos m)) s rest) (free_elements line x t n (i + 1))
      (store_keeps line (Local x) (Some i) (converted t (pos m)) own s rest h) (free_keep line x t n (i + 1) own))

  module _ (k : Setting) where
    set_keep : (line x n i : ℕ) (es : List TExpr) → IsOwn first end x → Keeps Others (set_elements k line x n i es)
    set_keep line x zero i es own s c h = h
    set_keep line x (suc n) i [] own s c h =
        then_keeps Others (store_at line (Local x) (Some i) (pos 0) s c) (set_elements k line x n (i + 1) []) (store_keeps line (Local x) (Some i) (pos 0) own s c h)
        (set_keep line x n (i + 1) [] own)
    set_keep line x (suc n) i (e ∷ es) own s c h =
        value_keeps Others (value_of (rows_in k s) e) c _
        (λ v. then_keeps Others (store_at line (Local x) (Some i) v s c) (set_elements k line x n (i + 1) es) (store_keeps line (Local x) (Some i) v own s c h)
        (set_keep line x n (i + 1) es own))

    index_keeps : (e : Option TExpr) (s : JointState) (c : List ℕ) (go : Option ℤ → Effect) → ((x : Option ℤ) → GoesWith Others (go x)) → GoesWith Others (with_index k e s c go)
    index_keeps None s c go h = h None
    index_keeps (Some e) s c go h = value_keeps Others (value_of (rows_in k s) e) c _ (λ n. h (Some n))

    bounds_keep : (target : TTarget) (x : Option ℤ) (s : JointState) (c : List ℕ) (go : Option ℕ → Effect) → ((y : Option ℕ) → GoesWith Others (go y)) →
        GoesWith Others (within_bounds k target x s c go)
    bounds_keep target None s c go h = h None
    bounds_keep target (Some i) s c go h = check_keeps Others target.bounds _ c _ (h _)

    update_keeps : (target : TTarget) (u : TUpdate) → OwnSlot target.slot → Keeps Others (update_effect k target u)
    update_keeps target u own s c h =
        let t = slot_type k.pair.program target.slot in
        let old = λ (index : Option ℕ). converted u.ty (slice_index_or (rows_in k s target.slot) (element_of index) (pos 0)) in
        index_keeps target.index s c _ (λ i. bounds_keep target i s c _
        (λ index. value_keeps Others (right_value (rows_in k s) u.right) c _
        (λ y. value_keeps Others (binary_value u.op u.ty u.division u.other (old index) y) c (λ n. store_at target.place.line target.slot index (converted t n) s c)
        (λ n. store_keeps target.place.line target.slot index (converted t n) own s c h))))

    view_keeps : (s : JointState) (edges : ℕ) (v : _) → Others s → Others (at_view k.pair s edges v)
    view_keeps s edges v h = record { count = h.count; before = h.before; behind = h.behind }

    inputs_keep : Keeps Others (set_inputs k)
    inputs_keep s c h = draws_keep Others (site_widths k.pair.module.settle_sites) c _ (λ unknown rest. view_keeps s s.edges _ h)

    edge_keeps : Keeps Others (clock_edge k)
    edge_keeps s c h =
        draws_keep Others (site_widths k.pair.module.edge_sites) c _
        (λ xs c'. draws_keep Others (widths_of role.Input k.pair.module.signals) c' _
        (λ ys c''. draws_keep Others (site_widths k.pair.module.settle_sites) c'' _ (λ zs rest. view_keeps s (s.edges + 1) _ h)))

    frame_keeps : (p : PropId) → Keeps Others (next_frame k p)
    frame_keeps p s c h = if_keeps Others (nat_lt s.edges k.bounds.frames) _ _ (edge_keeps s c h) (if_keeps Others k.bounds.check_bound _ _ tt tt)

    module _ (calls : Calls) (calls_keep : (p : Place) (f : ℕ) (args : List ℤ) → Keeps Others (calls p f args)) where
      call_keeps : (call : TCall) → Keeps Others (call_effect k calls call)
      call_keeps call s c h = values_keep Others (rows_in k s) call.args c _ (λ args. calls_keep call.place call.function args s c h)

      init_keeps : (t : IntType) (init : TInit) (s : JointState) (c : List ℕ) (go : ℤ → Onward) → Others s → ((n : ℤ) → Keeps Others (go n)) →
          GoesWith Others (with_init k calls t init s c go)
      init_keeps t Free s c go h next = draw_keeps Others t.bits c _ (λ n rest. next _ s rest h)
      init_keeps t (Values es) s c go h next = value_keeps Others _ c _ (λ n. next n s c h)
      init_keeps t (Called call) s c go h next = then_keeps Others (call_effect k calls call s c) _ (call_keeps call s c h) (λ s' rest h'. next _ s' rest h')

      assign_keeps : (target : TTarget) (init : TInit) → OwnSlot target.slot → Keeps Others (store_effect k calls target init)
      assign_keeps target init own s c h = index_keeps target.index s c _
          (λ x. init_keeps _ init s c _ h (λ n s' rest h'. bounds_keep target x s' rest _ (λ y. store_keeps target.place.line target.slot y n own s' rest h')))

      object_keeps : (line x : ℕ) (t : IntType) (n : ℕ) (init : TInit) → IsOwn first end x → Keeps Others (declare_object k calls line x t n init)
      object_keeps line x t zero init own s c h = init_keeps t init s c _ h (λ n. store_keeps line (Local x) None n own)
      object_keeps line x t (suc n) Free own s c h = free_keep line x t (suc n) 0 own s c h
      object_keeps line x t (suc n) (Values es) own s c h = set_keep line x (suc n) 0 es own s c h
      object_keeps line x t (suc n) (Called call) own s c h = h

      var_keeps : (line x : ℕ) (var : Option Var) (init : TInit) → IsOwn first end x → Keeps Others (declare_var k calls line x var init)
      var_keeps line x None init own s c h = h
      var_keeps line x (Some var) init own s c h = object_keeps line x var.ty var.length init own s c h

      returning_keeps : (s : JointState) (n : ℤ) → Others s → Others (returning s n)
      returning_keeps s n h = record { count = h.count; before = h.before; behind = h.behind }

      return_keeps : (init : Option TInit) → Keeps Others (return_effect k calls init)
      return_keeps None s c h = returning_keeps s (pos 0) h
      return_keeps (Some init) s c h = init_keeps _ init s c _ h (λ n s' rest h'. returning_keeps s' n h')

      if_branches : (e : TExpr) (f g : Onward) → Keeps Others f → Keeps Others g → Keeps Others (λ s c. with_value (value_of (rows_in k s) e) c (λ n. if is_zero n then g s c else f s c))
      if_branches e f g x y s c h = value_keeps Others (value_of (rows_in k s) e) c _ (λ n. if_keeps Others (is_zero n) (g s c) (f s c) (y s c h) (x s c h))

      ends_keep : (e : TExpr) (stop : List ℕ → Effect) → ((c : List ℕ) → GoesWith Others (stop c)) →
          Keeps Others (λ s c. with_value (value_of (rows_in k s) e) c (λ n. if is_zero n then stop c else Goes Next s nothing c))
      ends_keep e stop h s c p = value_keeps Others (value_of (rows_in k s) e) c _ (λ n. if_keeps Others (is_zero n) (stop c) (Goes Next s nothing c) (h c) p)

      -- ---- statements

      slot_own : (c : Scope) (slot : Slot) → All (IsOwn first end) c.locals → IsVisible c slot → OwnSlot slot
      slot_own c (Global i) h v = tt
      slot_own c (Local x) h v = All-contains (IsOwn first end) c.locals x h v.1
      slot_own c (Member i) h v = tt
      slot_own c BoundValue h v = tt

      -- the groups of a switch, wherever control enters them
      abbrev AllKeep : {m : _} → Row_of-Group m → Type 0
      AllKeep row = (i : ℕ) → Keeps Others (groups_from k calls i row)

      more_groups : {m : _} (g : Group) (row : Row_of-Group m) → Keeps Others (after_group k calls g) → AllKeep row → AllKeep (more_of-Group g row)
      more_groups g row x y zero s c h = then_keeps Others (after_group k calls g s c) (groups_from k calls 0 row) (x s c h) (y 0)
      more_groups g row x y (suc i) s c h = y i s c h

      switch_keeps : {m : _} (e : TExpr) (row : Row_of-Group m) → AllKeep row →
          Keeps Others (λ s c. with_value (value_of (rows_in k s) e) c (λ n. at_entry (entered n row) (λ i. groups_from k calls i row) s c))
      switch_keeps e row x s c h = value_keeps Others (value_of (rows_in k s) e) c _ (λ n. entry_keeps Others (entered n row) _ x s c h)

      mutual
        pub after_keeps : (c : Scope) (p : Place) (node : SNode) → All (IsOwn first end) c.locals → FitsStmt c node → AreOwn first end (declared_in node) → Keeps Others (after k calls p node)
        after_keeps c p (Block' _ row) scope fits own = row_keeps c row scope fits own
        after_keeps c p (Declare x init) scope fits own = var_keeps p.line x (slice_get k.pair.program.locals x) init own.0
        after_keeps c p (Store target init) scope fits own = assign_keeps target init (slot_own c target.slot scope fits.0.object.visible)
        after_keeps c p (Update target update) scope fits own = update_keeps target update (slot_own c target.slot scope fits.0.object.visible)
        after_keeps c p (Call call) scope fits own = call_keeps call
        after_keeps c p (If' e _ (more_of-TStmt q a _) other) scope fits own =
            if_branches e (after k calls q a) (after_other k calls other)
            (after_keeps c q a scope fits.1 (own_left first end (declared_in a) (declared_in_other other) own))
            (other_keeps c other scope fits.2 (own_right first end (declared_in a) (declared_in_other other) own))
        after_keeps c p (Loop loop) scope fits own = loops_keep c loop scope fits own
        after_keeps c p (Switch' e _ groups) scope fits own = switch_keeps e groups (groups_all c e.ty groups scope fits.2 own)
        after_keeps c p Break scope fits own = λ s c h. h
        after_keeps c p Continue scope fits own = λ s c h. h
        after_keeps c p (Return init) scope fits own = return_keeps init
        after_keeps c p (Assert e prop) scope fits own = ends_keep e (λ c. broken prop c) (λ c. tt)
        after_keeps c p (Assume e) scope fits own = ends_keep e (λ c. Stops Cut nothing c) (λ c. tt)
        after_keeps c p SetInputs scope fits own = inputs_keep
        after_keeps c p (NextFrame prop) scope fits own = frame_keeps prop

        row_keeps : {m : _} (c : Scope) (row : Row_of-TStmt m) → All (IsOwn first end) c.locals → FitsRow c row → AreOwn first end (declared_in_row row) → Keeps Others (after_row k calls row)
        row_keeps c end_of-TStmt scope fits own = λ s c h. h
        row_keeps c (more_of-TStmt p a rest) scope fits own =
            let one = own_left first end (declared_in a) (declared_in_row rest) own in
            λ s d h. then_keeps Others (after k calls p a s d) (after_row k calls rest) (after_keeps c p a scope fits.0 one s d h)
            (row_keeps (with_scope_locals c (declared_behind a c.locals)) rest (declared_own first end a c.locals scope one) fits.1
            (own_right first end (declared_in a) (declared_in_row rest) own))

        other_keeps : (c : Scope) (other : Held-SNode-If-2) → All (IsOwn first end) c.locals → FitsOther c other → AreOwn first end (declared_in_other other) → Keeps Others (after_other k calls other)
        other_keeps c None' scope fits own = λ s c h. h
        other_keeps c (Some' _ (more_of-TStmt p a _)) scope fits own = after_keeps c p a scope fits own

        loops_keep : (c : Scope) (loop : TLoop) → All (IsOwn first end) c.locals → FitsLoop c loop → AreOwn first end (declared_in_loop loop) → Keeps Others (after_loop k calls loop)
        loops_keep c (TLoop' tests _ heads cond step _ (more_of-TStmt p body _) prop) scope fits own =
            let before = own_left first end (declared_in_row heads) (declared_in body) own in
            let inner = row_own first end heads c.locals scope before in
            λ s d h. then_keeps Others (after_row k calls heads s d) _ (row_keeps c heads scope fits.0 before s d h)
            (loop_keeps Others tests _ (λ s'. condition_value (rows_in k s') cond) (after k calls p body) (after_other k calls step) prop
            (after_keeps (in_a_loop (with_scope_locals c (behind_row heads c.locals))) p body inner fits.4 (own_right first end (declared_in_row heads) (declared_in body) own))
            (step_keeps (in_a_loop (with_scope_locals c (behind_row heads c.locals))) step inner fits.3))

        -- the last part of a `for` declares nothing
        step_keeps : (c : Scope) (step : Held-SNode-If-2) → All (IsOwn first end) c.locals → FitsStep c step → Keeps Others (after_other k calls step)
        step_keeps c None' scope fits = λ s c h. h
        step_keeps c (Some' _ (more_of-TStmt p (Store target init) _)) scope fits = assign_keeps target init (slot_own c target.slot scope fits.1.0.object.visible)
        step_keeps c (Some' _ (more_of-TStmt p (Update target update) _)) scope fits = update_keeps target update (slot_own c target.slot scope fits.1.0.object.visible)
        step_keeps c (Some' _ (more_of-TStmt p (Call call) _)) scope fits = call_keeps call
        step_keeps c (Some' _ (more_of-TStmt p SetInputs _)) scope fits = inputs_keep
        step_keeps c (Some' _ (more_of-TStmt p (NextFrame prop) _)) scope fits = frame_keeps prop
        step_keeps c (Some' _ (more_of-TStmt p (Block' _ row) _)) scope fits = absurd (false≢true fits.0)
        step_keeps c (Some' _ (more_of-TStmt p (Declare x init) _)) scope fits = absurd (false≢true fits.0)
        step_keeps c (Some' _ (more_of-TStmt p (If' e _ a other) _)) scope fits = absurd (false≢true fits.0)
        step_keeps c (Some' _ (more_of-TStmt p (Loop loop) _)) scope fits = absurd (false≢true fits.0)
        step_keeps c (Some' _ (more_of-TStmt p (Switch' e _ groups) _)) scope fits = absurd (false≢true fits.0)
        step_keeps c (Some' _ (more_of-TStmt p Break _)) scope fits = absurd (false≢true fits.0)
        step_keeps c (Some' _ (more_of-TStmt p Continue _)) scope fits = absurd (false≢true fits.0)
        step_keeps c (Some' _ (more_of-TStmt p (Return init) _)) scope fits = absurd (false≢true fits.0)
        step_keeps c (Some' _ (more_of-TStmt p (Assert e prop) _)) scope fits = absurd (false≢true fits.0)
        step_keeps c (Some' _ (more_of-TStmt p (Assume e) _)) scope fits = absurd (false≢true fits.0)

        groups_all : {m : _} (c : Scope) (t : IntType) (row : Row_of-Group m) → All (IsOwn first end) c.locals → FitsGroups (in_a_switch c) t row → AreOwn first end (declared_in_groups row) → AllKeep row
        groups_all c t end_of-Group scope fits own = λ i s c h. h
        groups_all c t (more_of-Group g rest) scope fits own =
            more_groups g rest (group_keeps c t g scope fits.0 (own_left first end (declared_in_group g) (declared_in_groups rest) own))
            (groups_all c t rest scope fits.1 (own_right first end (declared_in_group g) (declared_in_groups rest) own))

        group_keeps : (c : Scope) (t : IntType) (g : Group) → All (IsOwn first end) c.locals → FitsGroup (in_a_switch c) t g → AreOwn first end (declared_in_group g) → Keeps Others (after_group k calls g)
        group_keeps c t (Group' labels _ row) scope fits own = row_keeps (in_a_switch c) row scope fits.2 own

-- ---- calls

module _ (first end : ℕ) (rows : List (List ℤ)) where
  resulting_keeps : (s : JointState) (n : ℤ) → Others first end rows s → Others first end rows (returning s n)
  resulting_keeps s n h = record { count = h.count; before = h.before; behind = h.behind }

  closing_keeps : (is_main : Bool) (result : Option IntType) → Keeps (Others first end rows) (closing is_main result)
  closing_keeps true result s c h = resulting_keeps s (pos 0) h
  closing_keeps false None s c h = resulting_keeps s (pos 0) h
  closing_keeps false (Some t) s c h = draw_keeps (Others first end rows) t.bits c _ (λ n rest. resulting_keeps s (converted t (pos n)) h)

  any_keeps : (result : Option IntType) → Keeps (Others first end rows) (any_result result)
  any_keeps None s c h = h
  any_keeps (Some t) s c h = draw_keeps (Others first end rows) t.bits c _ (λ n rest. resulting_keeps s (converted t (pos n)) h)

  back_keeps : (s s' : JointState) → Others first end rows s → Others first end rows (with_locals s' s.store.locals)
  back_keeps s s' h = record { count = h.count; before = h.before; behind = h.behind }

  -- behind a body the caller's locals are back, whatever it did
  body_keeps : (is_main : Bool) (result : Option IntType) (s : JointState) (e : Effect) → Others first end rows s → GoesWith (Others first end rows) (after_body is_main result s.store.locals e)
  body_keeps is_main result s (Goes Returning s' told c) h = back_keeps s s' h
  body_keeps is_main result s (Goes Next s' told c) h =
      preceded_keeps (Others first end rows) told (closing is_main result (with_locals s' s.store.locals) c) (closing_keeps is_main result (with_locals s' s.store.locals) c (back_keeps s s' h))
  body_keeps is_main result s (Goes Breaking s' told c) h =
      preceded_keeps (Others first end rows) told (closing is_main result (with_locals s' s.store.locals) c) (closing_keeps is_main result (with_locals s' s.store.locals) c (back_keeps s s' h))
  body_keeps is_main result s (Goes Continuing s' told c) h =
      preceded_keeps (Others first end rows) told (closing is_main result (with_locals s' s.store.locals) c) (closing_keeps is_main result (with_locals s' s.store.locals) c (back_keeps s s' h))
  body_keeps is_main result s (Stops o told c) h = tt
  body_keeps is_main result s TooFew h = tt

  module _ (p : Pair) (b : Bounds) where
    entered_keeps : (may : Bool) (inner : Calls) (f : ℕ) (fn : Function) (body : Option TStmt) (place : Place) (args : List ℤ) →
        Keeps (Others first end rows) (entered_body p b may inner f fn body place args)
    entered_keeps may inner f fn None place args s c h = any_keeps fn.result s c h
    entered_keeps true inner f fn (Some body) place args s c h = body_keeps (eqb f p.program.main) fn.result s _ h
    entered_keeps false inner f fn (Some body) place args s c h = tt

    function_keeps : (may : Function → Bool) (inner : Calls) (f : ℕ) (fn : Option Function) (place : Place) (args : List ℤ) →
        Keeps (Others first end rows) (entered_function p b may inner f fn place args)
    function_keeps may inner f None place args s c h = h
    function_keeps may inner f (Some fn) place args s c h = entered_keeps (may fn) inner f fn fn.body place args s c h

    -- a call keeps all locals, those of others among them
    pub calls_keep : (left : ℕ) (standing : List ℕ) (place : Place) (f : ℕ) (args : List ℤ) → Keeps (Others first end rows) (calls_at p b left standing place f args)
    calls_keep zero standing place f args = function_keeps (λ fn. false) no_calls f (slice_get p.program.functions f) place args
    calls_keep (suc left) standing place f args =
        function_keeps (is_below_limit p b standing f) (calls_at p b left (standing ++ f ∷ [])) f (slice_get p.program.functions f) place args

-- ---- what stands together

together_own : (first end from n : ℕ) → first ≤ from → from + n ≤ end → AreOwn first end (places_from from n)
together_own first end from zero le to = tt
together_own first end from (suc n) le to = ((le, omega arith), together_own first end (suc from) n (omega arith) (omega arith))

places_all : (first end from n : ℕ) → first ≤ from → from + n ≤ end → All (IsOwn first end) (places_from from n)
places_all first end from zero le to = All-nil (IsOwn first end)
places_all first end from (suc n) le to = All-cons (IsOwn first end) from (places_from (suc from) n) (le, omega arith) (places_all first end (suc from) n (omega arith) (omega arith))

behind_places : (n from m : ℕ) → from ≤ n → from + m ≤ behind_all n (places_from from m)
behind_places n from zero le = omega arith
behind_places n from (suc m) le =
    let more : suc from + m ≤ behind_all (max n (suc from)) (places_from (suc from) m) = behind_places (max n (suc from)) (suc from) m (omega arith) in
    omega (arith, more)

pub params_before : (fn : Function) (body : TStmt) → AreTogether fn body → fn.first + fn.params ≤ own_end fn body
params_before fn body h =
    let n = length (declared_in body.node) in
    let from = fn.first + fn.params in
    let le : from + n ≤ behind_all from (places_from from n) = behind_places from from n (le_refl from) in
    let same : behind_all from (declared_in body.node) ≡ behind_all from (places_from from n) = ap (behind_all from) h in
    omega (arith, le, same)

pub declared_together : (fn : Function) (body : TStmt) → AreTogether fn body → AreOwn fn.first (own_end fn body) (declared_in body.node)
declared_together fn body h =
    let n = length (declared_in body.node) in
    let from = fn.first + fn.params in
    let le : from + n ≤ behind_all from (places_from from n) = behind_places from from n (le_refl from) in
    let same : behind_all from (declared_in body.node) ≡ behind_all from (places_from from n) = ap (behind_all from) h in
    subst (AreOwn fn.first (own_end fn body)) (sym h) (together_own fn.first (own_end fn body) from n (omega arith) (omega (arith, le, same)))

-- a well-formed body leaves the locals that aren't its function's own as they are
pub own_keeps : (p : Pair) (b : Bounds) (left : ℕ) (standing : List ℕ) (rows : List (List ℤ)) (f : ℕ) (fn : Function) (body : TStmt) → FitsBody p.program f fn (Some body) →
    Keeps (Others fn.first (own_end fn body) rows) (after (record { pair = p; bounds = b; here = f }) (calls_at p b left standing) body.place body.node)
own_keeps p b left standing rows f fn body fits =
    let end = own_end fn body in
    after_keeps fn.first end rows (record { pair = p; bounds = b; here = f }) (calls_at p b left standing) (calls_keep fn.first end rows p b left standing)
    (scope_of p.program f fn) body.place body.node (places_all fn.first end fn.first fn.params (le_refl fn.first) (params_before fn body fits.3)) fits.2 (declared_together fn body fits.3)
