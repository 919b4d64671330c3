-- The machine without limits does what statements do, where calls do.
use Rattle.std.proofs.Common.{◌≡◌, ℕ, zero, suc, true, false, List, [], ◌∷◌, ◌++◌, refl, sym, ap, ◌∙◌, subst, append_assoc}
use Rattle.std.specs.Prelude.{ℤ, Option, Some, None, slice_get}
use Rattle.src_text.specs.declared.refusal.Place.{Place}
use Rattle.joint_ir.specs.declared.bounds.Bounds.{Bounds}
use Rattle.joint_ir.specs.declared.ctype.IntType.{IntType}
use Rattle.joint_ir.specs.declared.event.Outcome.TheVariants.{Ended, Cut, OutOfFrames, Broken}
use Rattle.joint_ir.specs.declared.expr.TExpr.{TExpr}
use Rattle.joint_ir.specs.declared.expr.Slot.TheVariants.{Local}
use Rattle.joint_ir.specs.declared.pair.Pair.{Pair}
use Rattle.joint_ir.specs.declared.program.PropId.{PropId}
use Rattle.joint_ir.specs.declared.program.Var.{Var}
use Rattle.joint_ir.specs.declared.stmt.Group.{Group, Group'}
use Rattle.joint_ir.specs.declared.stmt.SNode.{SNode, Block', Declare, Store, Update, Call, If', Loop, Switch', Break, Continue, Return, Assert, Assume, SetInputs, NextFrame, Row_of-TStmt, end_of-TStmt, more_of-TStmt, Row_of-Group, end_of-Group, more_of-Group, Held-SNode-If-2, None', Some'}
use Rattle.joint_ir.specs.declared.stmt.TCall.{TCall}
use Rattle.joint_ir.specs.declared.stmt.TInit.{TInit}
use Rattle.joint_ir.specs.declared.stmt.TInit.TheVariants.{Free, Values, Called}
use Rattle.joint_ir.specs.declared.stmt.TLoop.{TLoop, TLoop'}
use Rattle.joint_ir.specs.declared.stmt.TTarget.{TTarget}
use Rattle.joint_ir.specs.Types.{converted}
use Rattle.joint_ir.specs.Values.{Answer, value_of, is_zero}
use Rattle.joint_ir.specs.States.{JointState}
use Rattle.joint_ir.specs.Effects.{Effect, Onward, Goes, Stops, TooFew, then_do, after_turn, after_groups}
use Rattle.joint_ir.specs.declared.way.Way.TheVariants.{Next, Breaking, Continuing, Returning}
use Rattle.joint_ir.specs.Steps.{Setting, Calls, rows_in, call_effect, store_effect, declare_object, declare_var, return_effect, var_type, store_at, limit_of}
use Rattle.joint_ir.specs.Statements.{condition_value, tested, turns, at_entry, entered, after, after_row, after_other, after_loop, groups_from, after_group, no_calls}
use Rattle.joint_ir.specs.Machine.{Task, Do, Turn, TurnEnd, BreakEnd, Rest, Configuration, At, onward, enter, call_step, store_step, declare_step, return_step, step, behind_break, behind_body, tasks_of, task_of, turn_tasks, loop_tasks, group_tasks, groups_tasks, entry_tasks, setting_in}
use Rattle.joint_ir.specs.WellFormed.{Scope, FitsStmt, FitsRow, FitsOther, FitsStep, FitsLoop, FitsGroups, FitsGroup, FitsDeclare, FitsObject, in_a_switch, with_scope_locals}
use Rattle.nothing_lost.proofs.Ways.{OnlyNext, CallsNext, heads_next, step_next, call_next}
use Rattle.nothing_lost.proofs.Arriving.{Reaches, here, next, Arrives, ArePassed, reaches_then, arrives_from, arrives_next, arrives_onward, arrives_preceded, given_arrives, all_arrive, index_arrives, if_arrives, then_only, then_arrives, passed_none, passed_both}

-- the machine does what calls do
abbrev pub CallsArrive : Pair → Bounds → Calls → Type 0
CallsArrive pair b calls = (at : ℕ) (p : Place) (f : ℕ) (args : List ℤ) (s : JointState) (c : List ℕ) (tasks : List Task) →
    Arrives pair b tasks (enter (setting_in pair b at) f (slice_get pair.program.functions f) p args tasks s c) (calls p f args s c)

passed_do : (at : ℕ) (p : Place) (a : SNode) (front : List Task) → ArePassed front → ArePassed (Do at p a ∷ front)
passed_do at p a front h = record { breaks = λ tasks. h.breaks tasks; continues = λ tasks. h.continues tasks; returns = λ tasks s c. h.returns tasks s c }

pub passed_row : {m : _} (at : ℕ) (row : Row_of-TStmt m) → ArePassed (tasks_of at row)
passed_row at end_of-TStmt = passed_none
passed_row at (more_of-TStmt p a rest) = passed_do at p a (tasks_of at rest) (passed_row at rest)

passed_group : (at : ℕ) (g : Group) → ArePassed (group_tasks at g)
passed_group at (Group' labels _ row) = passed_row at row

passed_groups : {m : _} (at i : ℕ) (row : Row_of-Group m) → ArePassed (groups_tasks at i row)
passed_groups at i end_of-Group = passed_none
passed_groups at zero (more_of-Group g rest) = passed_both (group_tasks at g) (groups_tasks at zero rest) (passed_group at g) (passed_groups at zero rest)
passed_groups at (suc i) (more_of-Group g rest) = passed_groups at i rest

-- behind a turn of a loop
behind_loop : (at : ℕ) (cond : Option TExpr) (last : Held-SNode-If-2) (p : Place) (body : SNode) (tasks : List Task) → behind_break ((task_of at last ++ Turn at cond last p body ∷ []) ++ BreakEnd ∷ tasks) ≡ tasks
behind_loop at cond None' p body tasks = refl
behind_loop at cond (Some' _ (more_of-TStmt q a _)) p body tasks = refl

body_behind : (at : ℕ) (cond : Option TExpr) (last : Held-SNode-If-2) (p : Place) (body : SNode) (tasks : List Task) (s : JointState) (c : List ℕ) →
    behind_body ((task_of at last ++ Turn at cond last p body ∷ []) ++ BreakEnd ∷ tasks) s c ≡ behind_body tasks s c
body_behind at cond None' p body tasks s c = refl
body_behind at cond (Some' _ (more_of-TStmt q a _)) p body tasks s c = refl

module _ (pair : Pair) (b : Bounds) (at : ℕ) (calls : Calls) (arrive : CallsArrive pair b calls) (nexts : CallsNext calls) where
  abbrev k : Setting
  k = setting_in pair b at

  -- one step of a statement
  done : (tasks : List Task) (p : Place) (node : SNode) (s : JointState) (c : List ℕ) (e : Effect) → Arrives pair b tasks (step pair b (At (Do at p node ∷ tasks) s c)) e → Arrives pair b tasks (At (Do at p node ∷ tasks) s c) e
  done tasks p node s c e h = arrives_next pair b tasks (At (Do at p node ∷ tasks) s c) e h

  rest_arrives : (go : Onward) (tasks : List Task) (s : JointState) (c : List ℕ) → Arrives pair b tasks (At (Rest at go ∷ tasks) s c) (go s c)
  rest_arrives go tasks s c = arrives_next pair b tasks (At (Rest at go ∷ tasks) s c) (go s c) (arrives_onward pair b tasks (go s c))

  call_arrives : (call : TCall) (tasks : List Task) (s : JointState) (c : List ℕ) → Arrives pair b tasks (call_step k call tasks s c) (call_effect k calls call s c)
  call_arrives call tasks s c = all_arrive pair b tasks k s call.args c _ _ (λ args. arrive at call.place call.function args s c tasks)

  -- a call, and what waits for its result
  waiting_arrives : (call : TCall) (go : Onward) (tasks : List Task) (s : JointState) (c : List ℕ) → Arrives pair b tasks (call_step k call (Rest at go ∷ tasks) s c) (then_do (call_effect k calls call s c) go)
  waiting_arrives call go tasks s c =
      then_only pair b (Rest at go ∷ tasks) tasks (call_step k call (Rest at go ∷ tasks) s c) (call_effect k calls call s c) go (call_next k calls nexts call s c) (call_arrives call (Rest at go ∷ tasks) s c)
      (λ s' c'. rest_arrives go tasks s' c')

  store_arrives : (target : TTarget) (init : TInit) (tasks : List Task) (s : JointState) (c : List ℕ) → Arrives pair b tasks (store_step k target init tasks s c) (store_effect k calls target init s c)
  store_arrives target Free tasks s c = arrives_onward pair b tasks (store_effect k calls target Free s c)
  store_arrives target (Values es) tasks s c = arrives_onward pair b tasks (store_effect k calls target (Values es) s c)
  store_arrives target (Called call) tasks s c = index_arrives pair b tasks k s target.index c _ _ (λ i. waiting_arrives call _ tasks s c)

  object_called : (c : Scope) (line x : ℕ) (t : IntType) (n : ℕ) (call : TCall) → FitsObject c t n (Called call) → (tasks : List Task) (s : JointState) (rest : List ℕ) →
      Arrives pair b tasks (call_step k call (Rest at (λ s' c'. store_at line (Local x) None (converted t s'.returned) s' c') ∷ tasks) s rest) (declare_object k calls line x t n (Called call) s rest)
  object_called c line x t zero call f tasks s rest = waiting_arrives call (λ s' c'. store_at line (Local x) None (converted t s'.returned) s' c') tasks s rest
  object_called c line x t (suc n) call f tasks s rest = absurd f

  var_called : (c : Scope) (line x : ℕ) (var : Option Var) (call : TCall) → ((v : Var) × (var ≡ Some v) × FitsObject c v.ty v.length (Called call)) → (tasks : List Task) (s : JointState) (rest : List ℕ) →
      Arrives pair b tasks (call_step k call (Rest at (λ s' c'. store_at line (Local x) None (converted (var_type var) s'.returned) s' c') ∷ tasks) s rest) (declare_var k calls line x var (Called call) s rest)
  var_called c line x None call f tasks s rest = let e = f.1 in cc
  var_called c line x (Some v) call f tasks s rest =
      let e : f.0 ≡ v = let h = f.1 in cc in
      object_called c line x v.ty v.length call (subst (λ (w : Var). FitsObject c w.ty w.length (Called call)) e f.2) tasks s rest

  -- what makes no call does the same whatever calls do
  object_free : (line x : ℕ) (t : IntType) (n : ℕ) (tasks : List Task) (s : JointState) (rest : List ℕ) → Arrives pair b tasks (onward tasks (declare_object k no_calls line x t n Free s rest)) (declare_object k calls line x t n Free s rest)
  object_free line x t zero tasks s rest = arrives_onward pair b tasks (declare_object k calls line x t zero Free s rest)
  object_free line x t (suc n) tasks s rest = arrives_onward pair b tasks (declare_object k calls line x t (suc n) Free s rest)

  object_valued : (line x : ℕ) (t : IntType) (n : ℕ) (es : List TExpr) (tasks : List Task) (s : JointState) (rest : List ℕ) → Arrives pair b tasks (onward tasks (declare_object k no_calls line x t n (Values es) s rest)) (declare_object k calls line x t n (Values es) s rest)
  object_valued line x t zero es tasks s rest = arrives_onward pair b tasks (declare_object k calls line x t zero (Values es) s rest)
  object_valued line x t (suc n) es tasks s rest = arrives_onward pair b tasks (declare_object k calls line x t (suc n) (Values es) s rest)

  var_free : (line x : ℕ) (var : Option Var) (tasks : List Task) (s : JointState) (rest : List ℕ) → Arrives pair b tasks (onward tasks (declare_var k no_calls line x var Free s rest)) (declare_var k calls line x var Free s rest)
  var_free line x None tasks s rest = here _ _ refl
  var_free line x (Some v) tasks s rest = object_free line x v.ty v.length tasks s rest

  var_valued : (line x : ℕ) (var : Option Var) (es : List TExpr) (tasks : List Task) (s : JointState) (rest : List ℕ) → Arrives pair b tasks (onward tasks (declare_var k no_calls line x var (Values es) s rest)) (declare_var k calls line x var (Values es) s rest)
  var_valued line x None es tasks s rest = here _ _ refl
  var_valued line x (Some v) es tasks s rest = object_valued line x v.ty v.length es tasks s rest

  declare_arrives : (c : Scope) → c.program ≡ pair.program → (line x : ℕ) (init : TInit) → FitsDeclare c x init → (tasks : List Task) (s : JointState) (rest : List ℕ) → Arrives pair b tasks (declare_step k line x init tasks s rest) (declare_var k calls line x (slice_get pair.program.locals x) init s rest)
  declare_arrives c is line x Free f tasks s rest = var_free line x (slice_get pair.program.locals x) tasks s rest
  declare_arrives c is line x (Values es) f tasks s rest = var_valued line x (slice_get pair.program.locals x) es tasks s rest
  declare_arrives c is line x (Called call) f tasks s rest =
      var_called c line x (slice_get pair.program.locals x) call (f.0, (ap (λ q. slice_get q.locals x) (sym is) ∙ f.1), f.2) tasks s rest

  return_arrives : (init : Option TInit) (tasks : List Task) (s : JointState) (c : List ℕ) → Arrives pair b tasks (return_step k init tasks s c) (return_effect k calls init s c)
  return_arrives None tasks s c = arrives_onward pair b tasks (return_effect k calls None s c)
  return_arrives (Some Free) tasks s c = arrives_onward pair b tasks (return_effect k calls (Some Free) s c)
  return_arrives (Some (Values es)) tasks s c = arrives_onward pair b tasks (return_effect k calls (Some (Values es)) s c)
  return_arrives (Some (Called call)) tasks s c = waiting_arrives call _ tasks s c

  -- a stretch arrives from each state, with these tasks in front
  abbrev Comes : (tasks behind : List Task) → Onward → Type 0
  Comes tasks behind f = (s : JointState) (c : List ℕ) → Arrives pair b behind (At tasks s c) (f s c)

  -- a loop, whose body and last part arrive
  module _ (cond : Option TExpr) (last : Held-SNode-If-2) (p : Place) (body : SNode) (prop : PropId) where
    abbrev test : JointState → Answer
    test s = condition_value (rows_in k s) cond

    module _ (body_comes : (tasks : List Task) → Comes (Do at p body ∷ tasks) tasks (after k calls p body)) (last_comes : (tasks : List Task) → Comes (task_of at last ++ tasks) tasks (after_other k calls last))
        (last_next : (s : JointState) (c : List ℕ) → OnlyNext (after_other k calls last s c)) where
      test_comes : (n : ℕ) (tasks : List Task) → Comes (turn_tasks at cond last p body ++ BreakEnd ∷ tasks) tasks (turns n test (after k calls p body) (after_other k calls last) prop) →
          Comes (Turn at cond last p body ∷ BreakEnd ∷ tasks) tasks (tested test (turns n test (after k calls p body) (after_other k calls last) prop))
      test_comes n tasks h s c =
          arrives_next pair b tasks (At (Turn at cond last p body ∷ BreakEnd ∷ tasks) s c) _
          (given_arrives pair b tasks (test s) c _ _ (λ m. if_arrives pair b tasks (is_zero m) (At (BreakEnd ∷ tasks) s c) (At (turn_tasks at cond last p body ++ BreakEnd ∷ tasks) s c) _ _ (next (At (BreakEnd ∷ tasks) s c) _ (here _ _ refl)) (h s c)))

      behind_comes : (n : ℕ) (tasks : List Task) → Comes (Turn at cond last p body ∷ BreakEnd ∷ tasks) tasks (tested test (turns n test (after k calls p body) (after_other k calls last) prop)) →
          Comes ((task_of at last ++ Turn at cond last p body ∷ []) ++ BreakEnd ∷ tasks) tasks (λ s c. then_do (after_other k calls last s c) (tested test (turns n test (after k calls p body) (after_other k calls last) prop)))
      behind_comes n tasks h s c =
          let l : List Task = Turn at cond last p body ∷ BreakEnd ∷ tasks in
          let same : (task_of at last ++ Turn at cond last p body ∷ []) ++ BreakEnd ∷ tasks ≡ task_of at last ++ l = append_assoc (task_of at last) (Turn at cond last p body ∷ []) (BreakEnd ∷ tasks) in
          subst (λ m. Arrives pair b tasks (At m s c) (then_do (after_other k calls last s c) (tested test (turns n test (after k calls p body) (after_other k calls last) prop)))) (sym same)
          (then_only pair b l tasks (At (task_of at last ++ l) s c) (after_other k calls last s c) _ (last_next s c) (last_comes l s c) h)

      turn_arrives : (tasks : List Task) (x : Configuration) (e : Effect) (go : Onward) → Arrives pair b (TurnEnd ∷ ((task_of at last ++ Turn at cond last p body ∷ []) ++ BreakEnd ∷ tasks)) x e →
          Comes ((task_of at last ++ Turn at cond last p body ∷ []) ++ BreakEnd ∷ tasks) tasks go → Arrives pair b tasks x (after_turn e go)
      turn_arrives tasks x (Goes Next s told c) go h n =
          let l : List Task = (task_of at last ++ Turn at cond last p body ∷ []) ++ BreakEnd ∷ tasks in
          arrives_preceded pair b tasks x told (go s c) (arrives_from pair b tasks x (At (TurnEnd ∷ l) s c) (go s c) h (arrives_next pair b tasks (At (TurnEnd ∷ l) s c) (go s c) (n s c)))
      turn_arrives tasks x (Goes Continuing s told c) go h n =
          let l : List Task = (task_of at last ++ Turn at cond last p body ∷ []) ++ BreakEnd ∷ tasks in
          arrives_preceded pair b tasks x told (go s c) (arrives_from pair b tasks x (At l s c) (go s c) h (n s c))
      turn_arrives tasks x (Goes Breaking s told c) go h n = subst (λ l. Reaches pair b x (At l s c)) (behind_loop at cond last p body tasks) h
      turn_arrives tasks x (Goes Returning s told c) go h n = subst (λ y. Reaches pair b x y) (body_behind at cond last p body tasks s c) h
      turn_arrives tasks x (Stops Ended told c) go h n = h
      turn_arrives tasks x (Stops Cut told c) go h n = h
      turn_arrives tasks x (Stops OutOfFrames told c) go h n = h
      turn_arrives tasks x (Stops (Broken q) told c) go h n = tt
      turn_arrives tasks x TooFew go h n = h

      turns_come : (n : ℕ) (tasks : List Task) → Comes (turn_tasks at cond last p body ++ BreakEnd ∷ tasks) tasks (turns n test (after k calls p body) (after_other k calls last) prop)
      turns_come zero tasks s c = tt
      turns_come (suc n) tasks s c =
          turn_arrives tasks (At (turn_tasks at cond last p body ++ BreakEnd ∷ tasks) s c) (after k calls p body s c) _
          (body_comes (TurnEnd ∷ ((task_of at last ++ Turn at cond last p body ∷ []) ++ BreakEnd ∷ tasks)) s c)
          (behind_comes n tasks (test_comes n tasks (turns_come n tasks)))

  -- the groups of a switch, behind which `break` goes on
  switch_arrives : (tasks : List Task) (x : Configuration) (e : Effect) → Arrives pair b (BreakEnd ∷ tasks) x e → Arrives pair b tasks x (after_groups e)
  switch_arrives tasks x (Goes Next s told c) h = reaches_then pair b x (At (BreakEnd ∷ tasks) s c) (At tasks s c) h (next (At (BreakEnd ∷ tasks) s c) (At tasks s c) (here _ _ refl))
  switch_arrives tasks x (Goes Breaking s told c) h = h
  switch_arrives tasks x (Goes Continuing s told c) h = h
  switch_arrives tasks x (Goes Returning s told c) h = h
  switch_arrives tasks x (Stops Ended told c) h = h
  switch_arrives tasks x (Stops Cut told c) h = h
  switch_arrives tasks x (Stops OutOfFrames told c) h = h
  switch_arrives tasks x (Stops (Broken q) told c) h = tt
  switch_arrives tasks x TooFew h = h

  entry_comes : {m : _} (i : Option ℕ) (row : Row_of-Group m) → ((i : ℕ) (tasks : List Task) → Comes (groups_tasks at i row ++ tasks) tasks (groups_from k calls i row)) → (tasks : List Task) → Comes (entry_tasks at i row ++ tasks) tasks (at_entry i (λ i. groups_from k calls i row))
  entry_comes None row h tasks s c = here _ _ refl
  entry_comes (Some i) row h tasks s c =
      subst (λ l. Arrives pair b tasks (At l s c) (after_groups (groups_from k calls i row s c))) (sym (append_assoc (groups_tasks at i row) (BreakEnd ∷ []) tasks))
      (switch_arrives tasks (At (groups_tasks at i row ++ BreakEnd ∷ tasks) s c) (groups_from k calls i row s c) (h i (BreakEnd ∷ tasks) s c))

  mutual
    pub stmt_comes : (c : Scope) → c.program ≡ pair.program → (p : Place) (node : SNode) → FitsStmt c node → (tasks : List Task) → Comes (Do at p node ∷ tasks) tasks (after k calls p node)
    stmt_comes c is p (Block' sh row) f tasks s rest = done tasks p (Block' sh row) s rest _ (row_comes c is row f tasks s rest)
    stmt_comes c is p (Declare x init) f tasks s rest = done tasks p (Declare x init) s rest _ (declare_arrives c is p.line x init f tasks s rest)
    stmt_comes c is p (Store target init) f tasks s rest = done tasks p (Store target init) s rest _ (store_arrives target init tasks s rest)
    stmt_comes c is p (Update target u) f tasks s rest = done tasks p (Update target u) s rest _ (arrives_onward pair b tasks (after k calls p (Update target u) s rest))
    stmt_comes c is p (Call call) f tasks s rest = done tasks p (Call call) s rest _ (call_arrives call tasks s rest)
    stmt_comes c is p (If' e ptr (more_of-TStmt q a en) other) f tasks s rest =
        done tasks p (If' e ptr (more_of-TStmt q a en) other) s rest _
        (given_arrives pair b tasks (value_of (rows_in k s) e) rest _ _ (λ n. if_arrives pair b tasks (is_zero n) (At (task_of at other ++ tasks) s rest) (At (Do at q a ∷ tasks) s rest) _ _ (other_comes c is other f.2 tasks s rest) (stmt_comes c is q a f.1 tasks s rest)))
    stmt_comes c is p (Loop loop) f tasks s rest = done tasks p (Loop loop) s rest _ (loop_comes c is loop f tasks s rest)
    stmt_comes c is p (Switch' e sh groups) f tasks s rest =
        done tasks p (Switch' e sh groups) s rest _
        (given_arrives pair b tasks (value_of (rows_in k s) e) rest _ _ (λ n. entry_comes (entered n groups) groups (λ i tasks'. groups_come (in_a_switch c) is e.ty groups f.2 i tasks') tasks s rest))
    stmt_comes c is p Break f tasks s rest = done tasks p Break s rest (after k calls p Break s rest) (here _ _ refl)
    stmt_comes c is p Continue f tasks s rest = done tasks p Continue s rest (after k calls p Continue s rest) (here _ _ refl)
    stmt_comes c is p (Return init) f tasks s rest = done tasks p (Return init) s rest _ (return_arrives init tasks s rest)
    stmt_comes c is p (Assert e prop) f tasks s rest =
        done tasks p (Assert e prop) s rest _ (given_arrives pair b tasks (value_of (rows_in k s) e) rest _ _ (λ n. if_arrives pair b tasks (is_zero n) _ _ _ _ tt (here _ _ refl)))
    stmt_comes c is p (Assume e) f tasks s rest =
        done tasks p (Assume e) s rest _ (given_arrives pair b tasks (value_of (rows_in k s) e) rest _ _ (λ n. if_arrives pair b tasks (is_zero n) _ _ _ _ (here _ _ refl) (here _ _ refl)))
    stmt_comes c is p SetInputs f tasks s rest = done tasks p SetInputs s rest _ (arrives_onward pair b tasks (after k calls p SetInputs s rest))
    stmt_comes c is p (NextFrame prop) f tasks s rest = done tasks p (NextFrame prop) s rest _ (arrives_onward pair b tasks (after k calls p (NextFrame prop) s rest))

    row_comes : {m : _} (c : Scope) → c.program ≡ pair.program → (row : Row_of-TStmt m) → FitsRow c row → (tasks : List Task) → Comes (tasks_of at row ++ tasks) tasks (after_row k calls row)
    row_comes c is end_of-TStmt f tasks s rest = here _ _ refl
    row_comes c is (more_of-TStmt p a row) f tasks s rest =
        then_arrives pair b (tasks_of at row) tasks (At (Do at p a ∷ (tasks_of at row ++ tasks)) s rest) (after k calls p a s rest) (after_row k calls row) (passed_row at row) (stmt_comes c is p a f.0 (tasks_of at row ++ tasks) s rest)
        (row_comes (with_scope_locals c _) is row f.1 tasks)

    other_comes : (c : Scope) → c.program ≡ pair.program → (other : Held-SNode-If-2) → FitsOther c other → (tasks : List Task) → Comes (task_of at other ++ tasks) tasks (after_other k calls other)
    other_comes c is None' f tasks s rest = here _ _ refl
    other_comes c is (Some' _ (more_of-TStmt p a _)) f tasks s rest = stmt_comes c is p a f tasks s rest

    last_part_comes : (c : Scope) → c.program ≡ pair.program → (other : Held-SNode-If-2) → FitsStep c other → (tasks : List Task) → Comes (task_of at other ++ tasks) tasks (after_other k calls other)
    last_part_comes c is None' f tasks s rest = here _ _ refl
    last_part_comes c is (Some' _ (more_of-TStmt p a _)) f tasks s rest = stmt_comes c is p a f.1 tasks s rest

    loop_comes : (c : Scope) → c.program ≡ pair.program → (loop : TLoop) → FitsLoop c loop → (tasks : List Task) → Comes (loop_tasks at loop ++ tasks) tasks (after_loop k calls loop)
    loop_comes c is (TLoop' true sh heads cond last ptr (more_of-TStmt p body en) prop) f tasks s rest =
        subst (λ l. Arrives pair b tasks (At l s rest) (after_loop k calls (TLoop' true sh heads cond last ptr (more_of-TStmt p body en) prop) s rest)) (sym (append_assoc (tasks_of at heads) (Turn at cond last p body ∷ BreakEnd ∷ []) tasks))
        (then_only pair b (Turn at cond last p body ∷ BreakEnd ∷ tasks) tasks _ (after_row k calls heads s rest) _ (heads_next k calls nexts true heads cond last f.1 s rest) (row_comes c is heads f.0 (Turn at cond last p body ∷ BreakEnd ∷ tasks) s rest)
        (test_comes cond last p body prop (λ tasks'. stmt_comes _ is p body f.4 tasks') (λ tasks'. last_part_comes _ is last f.3 tasks') (λ s' c'. step_next k calls nexts _ last f.3 s' c') (limit_of b prop) tasks
        (turns_come cond last p body prop (λ tasks'. stmt_comes _ is p body f.4 tasks') (λ tasks'. last_part_comes _ is last f.3 tasks') (λ s' c'. step_next k calls nexts _ last f.3 s' c') (limit_of b prop) tasks)))
    loop_comes c is (TLoop' false sh heads cond last ptr (more_of-TStmt p body en) prop) f tasks s rest =
        let front : List Task = tasks_of at heads ++ turn_tasks at cond last p body in
        let behind : List Task = turn_tasks at cond last p body ++ BreakEnd ∷ tasks in
        let same : (front ++ BreakEnd ∷ []) ++ tasks ≡ tasks_of at heads ++ behind = append_assoc front (BreakEnd ∷ []) tasks ∙ append_assoc (tasks_of at heads) (turn_tasks at cond last p body) (BreakEnd ∷ tasks) in
        subst (λ l. Arrives pair b tasks (At l s rest) (after_loop k calls (TLoop' false sh heads cond last ptr (more_of-TStmt p body en) prop) s rest)) (sym same)
        (then_only pair b behind tasks _ (after_row k calls heads s rest) _ (heads_next k calls nexts false heads cond last f.1 s rest) (row_comes c is heads f.0 behind s rest)
        (turns_come cond last p body prop (λ tasks'. stmt_comes _ is p body f.4 tasks') (λ tasks'. last_part_comes _ is last f.3 tasks') (λ s' c'. step_next k calls nexts _ last f.3 s' c') (limit_of b prop) tasks))

    groups_come : {m : _} (c : Scope) → c.program ≡ pair.program → (t : IntType) (row : Row_of-Group m) → FitsGroups c t row → (i : ℕ) (tasks : List Task) → Comes (groups_tasks at i row ++ tasks) tasks (groups_from k calls i row)
    groups_come c is t end_of-Group f i tasks s rest = here _ _ refl
    groups_come c is t (more_of-Group g row) f zero tasks s rest =
        subst (λ l. Arrives pair b tasks (At l s rest) (groups_from k calls zero (more_of-Group g row) s rest)) (sym (append_assoc (group_tasks at g) (groups_tasks at zero row) tasks))
        (then_arrives pair b (groups_tasks at zero row) tasks _ (after_group k calls g s rest) (groups_from k calls zero row) (passed_groups at zero row) (group_comes c is t g f.0 (groups_tasks at zero row ++ tasks) s rest)
        (groups_come c is t row f.1 zero tasks))
    groups_come c is t (more_of-Group g row) f (suc i) tasks s rest = groups_come c is t row f.1 i tasks s rest

    group_comes : (c : Scope) → c.program ≡ pair.program → (t : IntType) (g : Group) → FitsGroup c t g → (tasks : List Task) → Comes (group_tasks at g ++ tasks) tasks (after_group k calls g)
    group_comes c is t (Group' labels _ row) f tasks s rest = row_comes c is row f.2 tasks s rest
