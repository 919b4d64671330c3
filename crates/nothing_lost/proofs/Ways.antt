-- Which ways statements go on: `break` and `continue` leave no statement where they may not stand, and simple statements and
-- calls go on to the next one.
use Rattle.std.proofs.Common.{ℕ, zero, suc, ◌+◌, ◌%◌, ◌^◌, Bool, true, false, ◌&&◌, if◌then◌else◌, List, [], ◌∷◌, ◌++◌, refl, ap}
use Rattle.std.specs.Prelude.{ℤ, pos, Option, Some, None, IsTrue, nat_lt, slice_get, slice_index_or}
use Rattle.std.proofs.lemmas.Bool.{false≢true, and_parts, and_from}
use Rattle.src_text.specs.declared.refusal.Place.{Place}
use Rattle.joint_ir.specs.declared.bounds.Bounds.{Bounds}
use Rattle.joint_ir.specs.declared.ctype.IntType.{IntType}
use Rattle.joint_ir.specs.declared.expr.TExpr.{TExpr}
use Rattle.joint_ir.specs.declared.expr.Slot.TheVariants.{Local}
use Rattle.joint_ir.specs.declared.module.Role.TheVariants as role
use Rattle.joint_ir.specs.declared.pair.Pair.{Pair}
use Rattle.joint_ir.specs.declared.program.Function.{Function}
use Rattle.joint_ir.specs.declared.program.PropId.{PropId}
use Rattle.joint_ir.specs.declared.program.Var.{Var}
use Rattle.joint_ir.specs.declared.stmt.Group.{Group, Group'}
use Rattle.joint_ir.specs.declared.stmt.SNode.{SNode, Block', Declare, Store, Update, Call, If', Loop, Switch', Break, Continue, Return, Assert, Assume, SetInputs, NextFrame, Row_of-TStmt, end_of-TStmt, more_of-TStmt, Row_of-Group, end_of-Group, more_of-Group, Held-SNode-If-2, None', Some'}
use Rattle.joint_ir.specs.declared.stmt.TCall.{TCall}
use Rattle.joint_ir.specs.declared.stmt.TInit.{TInit}
use Rattle.joint_ir.specs.declared.stmt.TInit.TheVariants.{Free, Values, Called}
use Rattle.joint_ir.specs.declared.stmt.TLoop.{TLoop, TLoop'}
use Rattle.joint_ir.specs.declared.stmt.TStmt.{TStmt}
use Rattle.joint_ir.specs.declared.stmt.TTarget.{TTarget}
use Rattle.joint_ir.specs.declared.stmt.TUpdate.{TUpdate}
use Rattle.joint_ir.specs.Types.{converted}
use Rattle.joint_ir.specs.Values.{Answer, Value, Fault, Rows, binary_value, value_of, is_zero}
use Rattle.joint_ir.specs.Views.{widths_of, site_widths}
use Rattle.joint_ir.specs.States.{JointState}
use Rattle.joint_ir.specs.Effects.{Effect, Told, drew, Onward, Goes, Stops, TooFew, preceded, then_do, after_turn, after_groups, check_then, with_value, with_values, draw, draw_all}
use Rattle.joint_ir.specs.declared.way.Way.{Way}
use Rattle.joint_ir.specs.declared.way.Way.TheVariants.{Next, Breaking, Continuing, Returning}
use Rattle.joint_ir.specs.Steps.{Setting, Calls, element_of, rows_in, with_locals, call_effect, with_init, with_index, within_bounds, right_value, store_at, store_effect, update_effect, free_elements, set_elements, declare_object, declare_var, return_effect, set_inputs, clock_edge, next_frame}
use Rattle.joint_ir.specs.Statements.{tested, turns, loop_effect, at_entry, entered, after, after_row, after_other, after_loop, groups_from, after_group, closing, any_result, set_params, after_body, entered_body, entered_function, is_below_limit, no_calls, calls_at}
use Rattle.joint_ir.specs.WellFormed.{Scope, is_some, FitsStmt, FitsRow, FitsOther, FitsStep, FitsLoop, FitsGroups, FitsGroup, is_simple, is_declare, all_declare, is_first_part, is_no_row, is_left_out, is_loop, in_a_switch, with_scope_locals}

-- what may be the first part of a `for` alone
abbrev is_head : SNode → Bool
is_head a = if is_declare a then true else is_simple a

-- ways that are allowed, where statements may be left by `return`, `break` and `continue`
abbrev pub Allowed : (returns breaks continues : Bool) → Way → Type 0
Allowed r b c Next = Unit {0}
Allowed r b c Breaking = IsTrue b
Allowed r b c Continuing = IsTrue c
Allowed r b c Returning = IsTrue r

abbrev pub GoesBy : (returns breaks continues : Bool) → Effect → Type 0
GoesBy r b c (Goes way s told rest) = Allowed r b c way
GoesBy r b c (Stops o told rest) = Unit {0}
GoesBy r b c TooFew = Unit {0}

-- goes on to the next statement alone
abbrev pub OnlyNext : Effect → Type 0
OnlyNext e = GoesBy false false false e

module _ (r b c : Bool) where
  preceded_by : (told : Told) (e : Effect) → GoesBy r b c e → GoesBy r b c (preceded told e)
  preceded_by told (Goes way s es rest) h = h
  preceded_by told (Stops o es rest) h = tt
  preceded_by told TooFew h = tt

  pub then_by : (e : Effect) (go : Onward) → GoesBy r b c e → ((s : JointState) (rest : List ℕ) → GoesBy r b c (go s rest)) → GoesBy r b c (then_do e go)
  then_by (Goes Next s told rest) go h next = preceded_by told (go s rest) (next s rest)
  then_by (Goes Breaking s told rest) go h next = h
  then_by (Goes Continuing s told rest) go h next = h
  then_by (Goes Returning s told rest) go h next = h
  then_by (Stops o told rest) go h next = tt
  then_by TooFew go h next = tt

  check_by : (p : Option PropId) (test : Bool) (rest : List ℕ) (e : Effect) → GoesBy r b c e → GoesBy r b c (check_then p test rest e)
  check_by None test rest e h = h
  check_by (Some p) true rest e h = h
  check_by (Some p) false rest e h = tt

  value_by : (a : Answer) (rest : List ℕ) (go : ℤ → Effect) → ((n : ℤ) → GoesBy r b c (go n)) → GoesBy r b c (with_value a rest go)
  value_by (Value n) rest go h = h n
  value_by (Fault p) rest go h = tt

  values_by : (rows : Rows) (es : List TExpr) (rest : List ℕ) (go : List ℤ → Effect) → ((ns : List ℤ) → GoesBy r b c (go ns)) → GoesBy r b c (with_values rows es rest go)
  values_by rows [] rest go h = h []
  values_by rows (e ∷ es) rest go h = value_by (value_of rows e) rest (λ n. with_values rows es rest (λ ns. go (n ∷ ns))) (λ n. values_by rows es rest (λ ns. go (n ∷ ns)) (λ ns. h (n ∷ ns)))

  draw_by : (bits : ℕ) (rest : List ℕ) (go : ℕ → List ℕ → Effect) → ((n : ℕ) (rest : List ℕ) → GoesBy r b c (go n rest)) → GoesBy r b c (draw bits rest go)
  draw_by bits [] go h = tt
  draw_by bits (n ∷ rest) go h = preceded_by (drew bits) (go (n % 2 ^ bits) rest) (h (n % 2 ^ bits) rest)

  draws_by : (widths rest : List ℕ) (go : List ℕ → List ℕ → Effect) → ((ns rest : List ℕ) → GoesBy r b c (go ns rest)) → GoesBy r b c (draw_all widths rest go)
  draws_by [] rest go h = h [] rest
  draws_by (bits ∷ widths) rest go h = draw_by bits rest (λ n rest'. draw_all widths rest' (λ ns. go (n ∷ ns))) (λ n rest'. draws_by widths rest' (λ ns. go (n ∷ ns)) (λ ns. h (n ∷ ns)))

  if_by : (test : Bool) (x y : Effect) → GoesBy r b c x → GoesBy r b c y → GoesBy r b c (if test then x else y)
  if_by true x y hx hy = hx
  if_by false x y hx hy = hy

  turn_by : (e : Effect) (go : Onward) → GoesBy r true true e → ((s : JointState) (rest : List ℕ) → GoesBy r b c (go s rest)) → GoesBy r b c (after_turn e go)
  turn_by (Goes Next s told rest) go h next = preceded_by told (go s rest) (next s rest)
  turn_by (Goes Continuing s told rest) go h next = preceded_by told (go s rest) (next s rest)
  turn_by (Goes Breaking s told rest) go h next = tt
  turn_by (Goes Returning s told rest) go h next = h
  turn_by (Stops o told rest) go h next = tt
  turn_by TooFew go h next = tt

  groups_by : (e : Effect) → GoesBy r true c e → GoesBy r b c (after_groups e)
  groups_by (Goes Next s told rest) h = tt
  groups_by (Goes Breaking s told rest) h = tt
  groups_by (Goes Continuing s told rest) h = h
  groups_by (Goes Returning s told rest) h = h
  groups_by (Stops o told rest) h = tt
  groups_by TooFew h = tt

  -- what goes on to the next statement goes by any ways
  pub only_by : (e : Effect) → OnlyNext e → GoesBy r b c e
  only_by (Goes Next s told rest) h = tt
  only_by (Goes Breaking s told rest) h = absurd (false≢true h)
  only_by (Goes Continuing s told rest) h = absurd (false≢true h)
  only_by (Goes Returning s told rest) h = absurd (false≢true h)
  only_by (Stops o told rest) h = tt
  only_by TooFew h = tt

  tested_by : (test : JointState → Answer) (go : Onward) → ((s : JointState) (rest : List ℕ) → GoesBy r b c (go s rest)) → (s : JointState) (rest : List ℕ) → GoesBy r b c (tested test go s rest)
  tested_by test go h s rest = value_by (test s) rest _ (λ n. if_by (is_zero n) _ _ tt (h s rest))

  turns_by : (n : ℕ) (test : JointState → Answer) (body step : Onward) (p : PropId) → ((s : JointState) (rest : List ℕ) → GoesBy r true true (body s rest)) → ((s : JointState) (rest : List ℕ) → OnlyNext (step s rest)) →
      (s : JointState) (rest : List ℕ) → GoesBy r b c (turns n test body step p s rest)
  turns_by zero test body step p x y s rest = tt
  turns_by (suc n) test body step p x y s rest =
      turn_by (body s rest) _ (x s rest) (λ s' rest'. then_by (step s' rest') _ (only_by (step s' rest') (y s' rest')) (tested_by test (turns n test body step p) (turns_by n test body step p x y)))

  loop_by : (first : Bool) (n : ℕ) (test : JointState → Answer) (body step : Onward) (p : PropId) → ((s : JointState) (rest : List ℕ) → GoesBy r true true (body s rest)) → ((s : JointState) (rest : List ℕ) → OnlyNext (step s rest)) →
      (s : JointState) (rest : List ℕ) → GoesBy r b c (loop_effect first n test body step p s rest)
  loop_by true n test body step p x y = tested_by test (turns n test body step p) (turns_by n test body step p x y)
  loop_by false n test body step p x y = turns_by n test body step p x y

  entry_by : (i : Option ℕ) (go : ℕ → Onward) → ((i : ℕ) (s : JointState) (rest : List ℕ) → GoesBy r true c (go i s rest)) → (s : JointState) (rest : List ℕ) → GoesBy r b c (at_entry i go s rest)
  entry_by None go h s rest = tt
  entry_by (Some i) go h s rest = groups_by (go i s rest) (h i s rest)

-- calls go on to the next statement
abbrev pub CallsNext : Calls → Type 0
CallsNext calls = (p : Place) (f : ℕ) (args : List ℤ) (s : JointState) (rest : List ℕ) → OnlyNext (calls p f args s rest)

free_next : (line x : ℕ) (t : IntType) (n i : ℕ) (s : JointState) (rest : List ℕ) → OnlyNext (free_elements line x t n i s rest)
free_next line x t zero i s rest = tt
free_next line x t (suc n) i s rest = draw_by false false false t.bits rest _ (λ m rest'. then_by false false false (store_at line (Local x) (Some i) (converted t (pos m)) s rest') _ tt (free_next line x t n (i + 1)))

module _ (k : Setting) where
  set_next : (line x n i : ℕ) (es : List TExpr) (s : JointState) (rest : List ℕ) → OnlyNext (set_elements k line x n i es s rest)
  set_next line x zero i es s rest = tt
  set_next line x (suc n) i [] s rest = then_by false false false (store_at line (Local x) (Some i) (pos 0) s rest) _ tt (set_next line x n (i + 1) [])
  set_next line x (suc n) i (e ∷ es) s rest =
      value_by false false false (value_of (rows_in k s) e) rest _ (λ v. then_by false false false (store_at line (Local x) (Some i) v s rest) _ tt (set_next line x n (i + 1) es))

  index_next : (r b c : Bool) (e : Option TExpr) (s : JointState) (rest : List ℕ) (go : Option ℤ → Effect) → ((x : Option ℤ) → GoesBy r b c (go x)) → GoesBy r b c (with_index k e s rest go)
  index_next r b c None s rest go h = h None
  index_next r b c (Some e) s rest go h = value_by r b c (value_of (rows_in k s) e) rest _ (λ n. h (Some n))

  bounds_next : (target : TTarget) (x : Option ℤ) (s : JointState) (rest : List ℕ) (go : Option ℕ → Effect) → ((y : Option ℕ) → OnlyNext (go y)) → OnlyNext (within_bounds k target x s rest go)
  bounds_next target None s rest go h = h None
  bounds_next target (Some i) s rest go h = check_by false false false target.bounds _ rest _ (h _)

  update_next : (target : TTarget) (u : TUpdate) (s : JointState) (rest : List ℕ) → OnlyNext (update_effect k target u s rest)
  update_next target u s rest =
      index_next false false false target.index s rest _ (λ i. bounds_next target i s rest _
      (λ index. value_by false false false (right_value (rows_in k s) u.right) rest _
      (λ y. value_by false false false (binary_value u.op u.ty u.division u.other (converted u.ty (slice_index_or (rows_in k s target.slot) (element_of index) (pos 0))) y) rest _ (λ n. tt))))

  inputs_next : (s : JointState) (rest : List ℕ) → OnlyNext (set_inputs k s rest)
  inputs_next s rest = draws_by false false false (site_widths k.pair.module.settle_sites) rest _ (λ unknown rest'. tt)

  edge_next : (s : JointState) (rest : List ℕ) → OnlyNext (clock_edge k s rest)
  edge_next s rest =
      draws_by false false false (site_widths k.pair.module.edge_sites) rest _ (λ xs c'.
      draws_by false false false (widths_of role.Input k.pair.module.signals) c' _ (λ ys c''.
      draws_by false false false (site_widths k.pair.module.settle_sites) c'' _ (λ zs c'''. tt)))

  frame_next : (p : PropId) (s : JointState) (rest : List ℕ) → OnlyNext (next_frame k p s rest)
  frame_next p s rest = if_by false false false (nat_lt s.edges k.bounds.frames) _ _ (edge_next s rest) (if_by false false false k.bounds.check_bound _ _ tt tt)

  module _ (calls : Calls) (x : CallsNext calls) where
    pub call_next : (call : TCall) (s : JointState) (rest : List ℕ) → OnlyNext (call_effect k calls call s rest)
    call_next call s rest = values_by false false false (rows_in k s) call.args rest _ (λ args. x call.place call.function args s rest)

    init_by : (r b c : Bool) (t : IntType) (init : TInit) (s : JointState) (rest : List ℕ) (go : ℤ → Onward) → ((n : ℤ) (s : JointState) (rest : List ℕ) → GoesBy r b c (go n s rest)) → GoesBy r b c (with_init k calls t init s rest go)
    init_by r b c t Free s rest go h = draw_by r b c t.bits rest _ (λ n rest'. h _ s rest')
    init_by r b c t (Values es) s rest go h = value_by r b c _ rest _ (λ n. h n s rest)
    init_by r b c t (Called call) s rest go h = then_by r b c (call_effect k calls call s rest) _ (only_by r b c (call_effect k calls call s rest) (call_next call s rest)) (λ s' rest'. h _ s' rest')

    store_next : (target : TTarget) (init : TInit) (s : JointState) (rest : List ℕ) → OnlyNext (store_effect k calls target init s rest)
    store_next target init s rest = index_next false false false target.index s rest _ (λ i. init_by false false false _ init s rest _ (λ n s' rest'. bounds_next target i s' rest' _ (λ y. tt)))

    object_next : (line y : ℕ) (t : IntType) (n : ℕ) (init : TInit) (s : JointState) (rest : List ℕ) → OnlyNext (declare_object k calls line y t n init s rest)
    object_next line y t zero init s rest = init_by false false false t init s rest _ (λ n s' rest'. tt)
    object_next line y t (suc n) Free s rest = free_next line y t (suc n) 0 s rest
    object_next line y t (suc n) (Values es) s rest = set_next line y (suc n) 0 es s rest
    object_next line y t (suc n) (Called call) s rest = tt

    var_next : (line y : ℕ) (var : Option Var) (init : TInit) (s : JointState) (rest : List ℕ) → OnlyNext (declare_var k calls line y var init s rest)
    var_next line y None init s rest = tt
    var_next line y (Some var) init s rest = object_next line y var.ty var.length init s rest

    return_by : (b c : Bool) (init : Option TInit) (s : JointState) (rest : List ℕ) → GoesBy true b c (return_effect k calls init s rest)
    return_by b c None s rest = refl
    return_by b c (Some init) s rest = init_by true b c _ init s rest _ (λ n s' rest'. refl)

    -- a simple statement goes on to the next one
    pub simple_next : (p : Place) (node : SNode) → IsTrue (is_simple node) → (s : JointState) (rest : List ℕ) → OnlyNext (after k calls p node s rest)
    simple_next p (Block' _ row) h s rest = cc
    simple_next p (Declare y init) h s rest = cc
    simple_next p (Store target init) h s rest = store_next target init s rest
    simple_next p (Update target u) h s rest = update_next target u s rest
    simple_next p (Call call) h s rest = call_next call s rest
    simple_next p (If' e _ (more_of-TStmt q a _) other) h s rest = cc
    simple_next p (Loop loop) h s rest = cc
    simple_next p (Switch' e _ groups) h s rest = cc
    simple_next p Break h s rest = cc
    simple_next p Continue h s rest = cc
    simple_next p (Return init) h s rest = cc
    simple_next p (Assert e prop) h s rest = cc
    simple_next p (Assume e) h s rest = cc
    simple_next p SetInputs h s rest = inputs_next s rest
    simple_next p (NextFrame prop) h s rest = frame_next prop s rest

    pub declare_next : (p : Place) (y : ℕ) (init : TInit) (s : JointState) (rest : List ℕ) → OnlyNext (after k calls p (Declare y init) s rest)
    declare_next p y init s rest = var_next p.line y (slice_get k.pair.program.locals y) init s rest

    -- and so do the first parts of a `for`
    head_next : (p : Place) (node : SNode) → IsTrue (is_head node) → (s : JointState) (rest : List ℕ) → OnlyNext (after k calls p node s rest)
    head_next p (Declare y init) h s rest = declare_next p y init s rest
    head_next p (Block' _ row) h s rest = cc
    head_next p (Store target init) h s rest = store_next target init s rest
    head_next p (Update target u) h s rest = update_next target u s rest
    head_next p (Call call) h s rest = call_next call s rest
    head_next p (If' e _ (more_of-TStmt q a _) other) h s rest = cc
    head_next p (Loop loop) h s rest = cc
    head_next p (Switch' e _ groups) h s rest = cc
    head_next p Break h s rest = cc
    head_next p Continue h s rest = cc
    head_next p (Return init) h s rest = cc
    head_next p (Assert e prop) h s rest = cc
    head_next p (Assume e) h s rest = cc
    head_next p SetInputs h s rest = inputs_next s rest
    head_next p (NextFrame prop) h s rest = frame_next prop s rest

    declared_next : (p : Place) (node : SNode) → IsTrue (is_declare node) → (s : JointState) (rest : List ℕ) → OnlyNext (after k calls p node s rest)
    declared_next p node h s rest = head_next p node (ap (λ t. if t then true else is_simple node) h) s rest

    declares_next : {m : _} (row : Row_of-TStmt m) → IsTrue (all_declare row) → (s : JointState) (rest : List ℕ) → OnlyNext (after_row k calls row s rest)
    declares_next end_of-TStmt h s rest = tt
    declares_next (more_of-TStmt p a row) h s rest =
        let w = and_parts (is_declare a) (all_declare row) h in
        then_by false false false (after k calls p a s rest) (after_row k calls row) (declared_next p a w.0 s rest) (declares_next row w.1)

    first_next : {m : _} (row : Row_of-TStmt m) → IsTrue (is_first_part row) → (s : JointState) (rest : List ℕ) → OnlyNext (after_row k calls row s rest)
    first_next end_of-TStmt h s rest = tt
    first_next (more_of-TStmt p a end_of-TStmt) h s rest = then_by false false false (after k calls p a s rest) (after_row k calls end_of-TStmt) (head_next p a h s rest) (λ s' rest'. tt)
    first_next (more_of-TStmt p a (more_of-TStmt q b row)) h s rest =
        let w = and_parts (is_declare a && is_declare b) (all_declare row) h in
        let both = and_parts (is_declare a) (is_declare b) w.0 in
        then_by false false false (after k calls p a s rest) (after_row k calls (more_of-TStmt q b row)) (declared_next p a both.0 s rest)
        (declares_next (more_of-TStmt q b row) (and_from (is_declare b) (all_declare row) both.1 w.1))

    no_row_next : {m : _} (row : Row_of-TStmt m) → IsTrue (is_no_row row) → (s : JointState) (rest : List ℕ) → OnlyNext (after_row k calls row s rest)
    no_row_next end_of-TStmt h s rest = tt
    no_row_next (more_of-TStmt p a row) h s rest = absurd (false≢true h)

    pub heads_next : {m : _} (first : Bool) (row : Row_of-TStmt m) (cond : Option TExpr) (last : Held-SNode-If-2) → IsTrue (is_loop first row cond last) → (s : JointState) (rest : List ℕ) → OnlyNext (after_row k calls row s rest)
    heads_next true row cond last h = first_next row h
    heads_next false row cond last h = no_row_next row (and_parts (is_no_row row) (is_some cond) (and_parts (is_no_row row && is_some cond) (is_left_out last) h).0).0

    pub step_next : (c : Scope) (other : Held-SNode-If-2) → FitsStep c other → (s : JointState) (rest : List ℕ) → OnlyNext (after_other k calls other s rest)
    step_next c None' f s rest = tt
    step_next c (Some' _ (more_of-TStmt p a _)) f s rest = simple_next p a f.0 s rest

    test_by : (r b c : Bool) (e : TExpr) (s : JointState) (rest : List ℕ) (x y : Effect) → GoesBy r b c x → GoesBy r b c y → GoesBy r b c (with_value (value_of (rows_in k s) e) rest (λ n. if is_zero n then x else y))
    test_by r b c e s rest x y hx hy = value_by r b c (value_of (rows_in k s) e) rest _ (λ n. if_by r b c (is_zero n) x y hx hy)

    mutual
      -- a statement is left by `break` and `continue` only where they may stand
      pub stmt_by : (c : Scope) (p : Place) (node : SNode) → FitsStmt c node → (s : JointState) (rest : List ℕ) → GoesBy true c.may_break c.in_loop (after k calls p node s rest)
      stmt_by c p (Block' _ row) f s rest = row_by c row f s rest
      stmt_by c p (Declare y init) f s rest = only_by true c.may_break c.in_loop (after k calls p (Declare y init) s rest) (declare_next p y init s rest)
      stmt_by c p (Store target init) f s rest = only_by true c.may_break c.in_loop (store_effect k calls target init s rest) (store_next target init s rest)
      stmt_by c p (Update target u) f s rest = only_by true c.may_break c.in_loop (update_effect k target u s rest) (update_next target u s rest)
      stmt_by c p (Call call) f s rest = only_by true c.may_break c.in_loop (call_effect k calls call s rest) (call_next call s rest)
      stmt_by c p (If' e _ (more_of-TStmt q a _) other) f s rest = test_by true c.may_break c.in_loop e s rest _ _ (other_by c other f.2 s rest) (stmt_by c q a f.1 s rest)
      stmt_by c p (Loop loop) f s rest = loops_by c loop f s rest
      stmt_by c p (Switch' e _ groups) f s rest =
          value_by true c.may_break c.in_loop (value_of (rows_in k s) e) rest _ (λ n. entry_by true c.may_break c.in_loop (entered n groups) (λ i. groups_from k calls i groups) (λ i s' rest'. groups_by_scope (in_a_switch c) e.ty groups f.2 i s' rest') s rest)
      stmt_by c p Break f s rest = f
      stmt_by c p Continue f s rest = f
      stmt_by c p (Return init) f s rest = return_by c.may_break c.in_loop init s rest
      stmt_by c p (Assert e prop) f s rest = test_by true c.may_break c.in_loop e s rest _ _ tt tt
      stmt_by c p (Assume e) f s rest = test_by true c.may_break c.in_loop e s rest _ _ tt tt
      stmt_by c p SetInputs f s rest = only_by true c.may_break c.in_loop (set_inputs k s rest) (inputs_next s rest)
      stmt_by c p (NextFrame prop) f s rest = only_by true c.may_break c.in_loop (next_frame k prop s rest) (frame_next prop s rest)

      row_by : {m : _} (c : Scope) (row : Row_of-TStmt m) → FitsRow c row → (s : JointState) (rest : List ℕ) → GoesBy true c.may_break c.in_loop (after_row k calls row s rest)
      row_by c end_of-TStmt f s rest = tt
      row_by c (more_of-TStmt p a row) f s rest = then_by true c.may_break c.in_loop (after k calls p a s rest) _ (stmt_by c p a f.0 s rest) (λ s' rest'. row_by (with_scope_locals c _) row f.1 s' rest')

      other_by : (c : Scope) (other : Held-SNode-If-2) → FitsOther c other → (s : JointState) (rest : List ℕ) → GoesBy true c.may_break c.in_loop (after_other k calls other s rest)
      other_by c None' f s rest = tt
      other_by c (Some' _ (more_of-TStmt p a _)) f s rest = stmt_by c p a f s rest

      loops_by : (c : Scope) (loop : TLoop) → FitsLoop c loop → (s : JointState) (rest : List ℕ) → GoesBy true c.may_break c.in_loop (after_loop k calls loop s rest)
      loops_by c (TLoop' first _ heads cond step _ (more_of-TStmt p body _) prop) f s rest =
          then_by true c.may_break c.in_loop (after_row k calls heads s rest) _ (row_by c heads f.0 s rest)
          (loop_by true c.may_break c.in_loop first _ _ (after k calls p body) (after_other k calls step) prop (λ s' rest'. stmt_by _ p body f.4 s' rest') (λ s' rest'. step_next _ step f.3 s' rest'))

      groups_by_scope : {m : _} (c : Scope) (t : IntType) (row : Row_of-Group m) → FitsGroups c t row → (i : ℕ) (s : JointState) (rest : List ℕ) → GoesBy true c.may_break c.in_loop (groups_from k calls i row s rest)
      groups_by_scope c t end_of-Group f i s rest = tt
      groups_by_scope c t (more_of-Group g row) f zero s rest = then_by true c.may_break c.in_loop (after_group k calls g s rest) _ (group_by c t g f.0 s rest) (λ s' rest'. groups_by_scope c t row f.1 0 s' rest')
      groups_by_scope c t (more_of-Group g row) f (suc i) s rest = groups_by_scope c t row f.1 i s rest

      group_by : (c : Scope) (t : IntType) (g : Group) → FitsGroup c t g → (s : JointState) (rest : List ℕ) → GoesBy true c.may_break c.in_loop (after_group k calls g s rest)
      group_by c t (Group' labels _ row) f s rest = row_by c row f.2 s rest

closing_next : (is_main : Bool) (result : Option IntType) (s : JointState) (rest : List ℕ) → OnlyNext (closing is_main result s rest)
closing_next true result s rest = tt
closing_next false None s rest = tt
closing_next false (Some t) s rest = draw_by false false false t.bits rest _ (λ n rest'. tt)

any_next : (result : Option IntType) (s : JointState) (rest : List ℕ) → OnlyNext (any_result result s rest)
any_next None s rest = tt
any_next (Some t) s rest = draw_by false false false t.bits rest _ (λ n rest'. tt)

body_next : (is_main : Bool) (result : Option IntType) (locals : List (List ℤ)) (e : Effect) → OnlyNext (after_body is_main result locals e)
body_next is_main result locals (Goes Returning s told rest) = tt
body_next is_main result locals (Goes Next s told rest) = then_by false false false (Goes Next (with_locals s locals) told rest) _ tt (closing_next is_main result)
body_next is_main result locals (Goes Breaking s told rest) = then_by false false false (Goes Next (with_locals s locals) told rest) _ tt (closing_next is_main result)
body_next is_main result locals (Goes Continuing s told rest) = then_by false false false (Goes Next (with_locals s locals) told rest) _ tt (closing_next is_main result)
body_next is_main result locals (Stops o told rest) = tt
body_next is_main result locals TooFew = tt

pub params_next : (line x : ℕ) (args : List ℤ) (s : JointState) (rest : List ℕ) → OnlyNext (set_params line x args s rest)
params_next line x [] s rest = tt
params_next line x (n ∷ args) s rest = then_by false false false (store_at line (Local x) None n s rest) _ tt (params_next line (x + 1) args)

module _ (pair : Pair) (b : Bounds) where
  entered_next : (may : Bool) (inner : Calls) (f : ℕ) (fn : Function) (body : Option TStmt) (p : Place) (args : List ℤ) (s : JointState) (rest : List ℕ) → OnlyNext (entered_body pair b may inner f fn body p args s rest)
  entered_next may inner f fn None p args s rest = any_next fn.result s rest
  entered_next true inner f fn (Some body) p args s rest = body_next _ fn.result s.store.locals _
  entered_next false inner f fn (Some body) p args s rest = tt

  function_next : (may : Function → Bool) (inner : Calls) (f : ℕ) (fn : Option Function) (p : Place) (args : List ℤ) (s : JointState) (rest : List ℕ) → OnlyNext (entered_function pair b may inner f fn p args s rest)
  function_next may inner f None p args s rest = tt
  function_next may inner f (Some fn) p args s rest = entered_next (may fn) inner f fn fn.body p args s rest

  pub calls_next : (left : ℕ) (standing : List ℕ) → CallsNext (calls_at pair b left standing)
  calls_next zero standing p f args s rest = function_next (λ fn. false) no_calls f (slice_get pair.program.functions f) p args s rest
  calls_next (suc left) standing p f args s rest = function_next (is_below_limit pair b standing f) (calls_at pair b left (standing ++ f ∷ [])) f (slice_get pair.program.functions f) p args s rest
