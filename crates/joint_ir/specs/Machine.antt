-- The machine without limits: the same programs one step at a time, with no limit on turns or activations. A loop is replaced
-- by its body followed by itself.
use Rattle.std.specs.Prelude.{◌≡◌, ℕ, zero, suc, true, false, if◌then◌else◌, eqb, List, [], ◌∷◌, ◌++◌, slice_get}
use Rattle.std.specs.Prelude.{ℤ, Option, Some, None}
use Rattle.joint_ir.specs.declared.bounds.Bounds.{Bounds}
use Rattle.joint_ir.specs.declared.ctype.IntType.{IntType}
use Rattle.joint_ir.specs.declared.event.Outcome.{Outcome}
use Rattle.joint_ir.specs.declared.event.Outcome.TheVariants.{Ended, Cut, OutOfFrames, Broken}
use Rattle.joint_ir.specs.declared.expr.Slot.TheVariants.{Local}
use Rattle.joint_ir.specs.declared.expr.TExpr.{TExpr}
use Rattle.joint_ir.specs.declared.pair.Pair.{Pair}
use Rattle.joint_ir.specs.declared.program.Function.{Function}
use Rattle.joint_ir.specs.declared.program.PropId.{PropId}
use Rattle.joint_ir.specs.declared.stmt.Group.{Group, Group'}
use Rattle.joint_ir.specs.declared.stmt.SNode.{SNode, Block', Declare, Store, Update, Call, If', Loop, Switch', Break, Continue, Return, Assert, Assume, SetInputs, NextFrame, Row_of-TStmt, end_of-TStmt, more_of-TStmt, Row_of-Group, end_of-Group, more_of-Group, Held-SNode-If-2, None', Some'}
use Rattle.joint_ir.specs.declared.stmt.TCall.{TCall}
use Rattle.joint_ir.specs.declared.stmt.TInit.{TInit}
use Rattle.joint_ir.specs.declared.stmt.TInit.TheVariants.{Free, Values, Called}
use Rattle.joint_ir.specs.declared.stmt.TLoop.{TLoop, TLoop'}
use Rattle.joint_ir.specs.declared.stmt.TStmt.{TStmt}
use Rattle.joint_ir.specs.declared.stmt.TTarget.{TTarget}
use Rattle.src_text.specs.declared.refusal.Place.{Place}
use Rattle.joint_ir.specs.Types.{converted}
use Rattle.joint_ir.specs.Values.{Answer, Value, Fault, value_of, is_zero}
use Rattle.joint_ir.specs.States.{JointState}
use Rattle.joint_ir.specs.Effects.{Effect, nothing, Goes, Stops, TooFew, Onward}
use Rattle.joint_ir.specs.declared.way.Way.TheVariants.{Next, Breaking, Continuing, Returning}
use Rattle.joint_ir.specs.Steps.{Setting, rows_in, with_locals, returning, slot_type, result_of, type_or_int, var_type, within_bounds, store_at, store_effect, update_effect, declare_effect, return_effect, set_inputs, next_frame}
use Rattle.joint_ir.specs.Statements.{no_calls, condition_value, entered, set_params, closing, any_result}
use Rattle.joint_ir.specs.Runs.{with_first_state, body_of}

-- what is still to run
pub data Task : Type 0 where
  -- a statement of a function's body
  Do : (here : ℕ) (place : Place) (node : SNode) → Task
  -- a test of a loop, with its last part and its body
  Turn : (here : ℕ) (condition : Option TExpr) (last : Held-SNode-If-2) (place : Place) (body : SNode) → Task
  -- where `continue` goes on, and where `break` does
  TurnEnd : Task
  BreakEnd : Task
  -- the closing brace of a function, with its result and the caller's locals
  BodyEnd : (function : ℕ) (result : Option IntType) (locals : List (List ℤ)) → Task
  -- the rest of a statement that waits for a call's result
  Rest : (here : ℕ) (go : Onward) → Task

-- what the machine is at
pub data Configuration : Type 0 where
  At : (tasks : List Task) (state : JointState) (choices : List ℕ) → Configuration
  -- the run ended, was cut, or had no frames left
  Over : Configuration
  -- the last step failed an assertion, a check or a frame
  IsBroken : (p : PropId) → Configuration
  -- the choices were too few
  Lacks : Configuration

-- the tasks behind the end that a `continue` or a `break` goes to
abbrev pub behind_turn : List Task → List Task
behind_turn [] = []
behind_turn (Do here p a ∷ tasks) = behind_turn tasks
behind_turn (Turn here e last p a ∷ tasks) = behind_turn tasks
behind_turn (TurnEnd ∷ tasks) = tasks
behind_turn (BreakEnd ∷ tasks) = behind_turn tasks
behind_turn (BodyEnd f t rows ∷ tasks) = behind_turn tasks
behind_turn (Rest here go ∷ tasks) = behind_turn tasks

-- the tasks behind the nearest loop or `switch` that a `break` leaves (C99 6.8.6.3)
abbrev pub behind_break : List Task → List Task
behind_break [] = []
behind_break (Do here p a ∷ tasks) = behind_break tasks
behind_break (Turn here e last p a ∷ tasks) = behind_break tasks
behind_break (TurnEnd ∷ tasks) = behind_break tasks
behind_break (BreakEnd ∷ tasks) = tasks
behind_break (BodyEnd f t rows ∷ tasks) = behind_break tasks
behind_break (Rest here go ∷ tasks) = behind_break tasks

-- behind the body that a `return` leaves, with the caller's locals
abbrev pub behind_body : List Task → JointState → List ℕ → Configuration
behind_body [] s c = Over
behind_body (Do here p a ∷ tasks) s c = behind_body tasks s c
behind_body (Turn here e last p a ∷ tasks) s c = behind_body tasks s c
behind_body (TurnEnd ∷ tasks) s c = behind_body tasks s c
behind_body (BreakEnd ∷ tasks) s c = behind_body tasks s c
behind_body (BodyEnd f t rows ∷ tasks) s c = At tasks (with_locals s rows) c
behind_body (Rest here go ∷ tasks) s c = behind_body tasks s c

-- where an outcome of a run leaves the machine
abbrev pub stopped : Outcome → Configuration
stopped Ended = Over
stopped Cut = Over
stopped OutOfFrames = Over
stopped (Broken p) = IsBroken p

-- goes on as a statement does, with these tasks behind it
abbrev pub onward : List Task → Effect → Configuration
onward tasks (Goes Next s told c) = At tasks s c
onward tasks (Goes Breaking s told c) = At (behind_break tasks) s c
onward tasks (Goes Continuing s told c) = At (behind_turn tasks) s c
onward tasks (Goes Returning s told c) = behind_body tasks s c
onward tasks (Stops o told c) = stopped o
onward tasks TooFew = Lacks

-- goes on with a value
abbrev pub given : Answer → (ℤ → Configuration) → Configuration
given (Value n) go = go n
given (Fault p) go = IsBroken p

-- the arguments' values, from left to right, or the property that the first of them breaks
abbrev pub all_given : Setting → JointState → List TExpr → (List ℤ → Configuration) → Configuration
all_given k s [] go = go []
all_given k s (e ∷ es) go = given (value_of (rows_in k s) e) (λ n. all_given k s es (λ ns. go (n ∷ ns)))

-- an index's value, where there is one
abbrev pub index_given : Setting → JointState → Option TExpr → (Option ℤ → Configuration) → Configuration
index_given k s None go = go None
index_given k s (Some e) go = given (value_of (rows_in k s) e) (λ n. go (Some n))

-- a function at its arguments. Its parameters take them, and the caller's locals come back behind its body
abbrev pub enter_body : Setting → (function : ℕ) → Function → Option TStmt → Place → List ℤ → List Task → JointState → List ℕ → Configuration
enter_body k f fn None p args tasks s c = onward tasks (any_result fn.result s c)
enter_body k f fn (Some body) p args tasks s c =
    onward (Do f body.place body.node ∷ BodyEnd f fn.result s.store.locals ∷ tasks)
    (set_params p.line fn.first args s c)

-- a function begins at its arguments, or gives any value where it has no body
abbrev pub enter : Setting → (function : ℕ) → Option Function → Place → List ℤ → List Task → JointState → List ℕ → Configuration
enter k f None p args tasks s c = At tasks s c
enter k f (Some fn) p args tasks s c = enter_body k f fn fn.body p args tasks s c

-- a call: its arguments, and then its function (C99 6.5.2.2)
abbrev pub call_step : Setting → TCall → List Task → JointState → List ℕ → Configuration
call_step k call tasks s c =
    all_given k s call.args (λ args. enter k call.function (slice_get k.pair.program.functions call.function) call.place args tasks s c)

-- a store, a declaration and a `return`, whose call runs before the rest of the statement
abbrev pub store_step : Setting → TTarget → TInit → List Task → JointState → List ℕ → Configuration
store_step k target Free tasks s c = onward tasks (store_effect k no_calls target Free s c)
store_step k target (Values es) tasks s c = onward tasks (store_effect k no_calls target (Values es) s c)
store_step k target (Called call) tasks s c =
    index_given k s target.index (λ i.
    call_step k call
    (Rest k.here (λ s' c'. within_bounds k target i s' c' (λ index.
    store_at target.place.line target.slot index (converted (slot_type k.pair.program target.slot) s'.returned) s' c')) ∷ tasks) s c)

-- a declaration: the object is set, or waits for a call's result
abbrev pub declare_step : Setting → (line x : ℕ) → TInit → List Task → JointState → List ℕ → Configuration
declare_step k line x Free tasks s c = onward tasks (declare_effect k no_calls line x Free s c)
declare_step k line x (Values es) tasks s c = onward tasks (declare_effect k no_calls line x (Values es) s c)
declare_step k line x (Called call) tasks s c =
    call_step k call
    (Rest k.here (λ s' c'. store_at line (Local x) None (converted (var_type (slice_get k.pair.program.locals x)) s'.returned) s' c') ∷ tasks) s c

-- a `return`: its value is kept, and the body is left (C99 6.8.6.4)
abbrev pub return_step : Setting → Option TInit → List Task → JointState → List ℕ → Configuration
return_step k None tasks s c = onward tasks (return_effect k no_calls None s c)
return_step k (Some Free) tasks s c = onward tasks (return_effect k no_calls (Some Free) s c)
return_step k (Some (Values es)) tasks s c = onward tasks (return_effect k no_calls (Some (Values es)) s c)
return_step k (Some (Called call)) tasks s c =
    call_step k call
    (Rest k.here (λ s' c'. Goes Returning (returning s' (converted (type_or_int (result_of (slice_get k.pair.program.functions k.here))) s'.returned)) nothing c') ∷ tasks) s c

-- statements, one after another
abbrev pub tasks_of : {m : _} → (here : ℕ) → Row_of-TStmt m → List Task
tasks_of here end_of-TStmt = []
tasks_of here (more_of-TStmt p a rest) = Do here p a ∷ tasks_of here rest

-- a statement that may be left out, as tasks
abbrev pub task_of : (here : ℕ) → Held-SNode-If-2 → List Task
task_of here None' = []
task_of here (Some' _ (more_of-TStmt p a _)) = Do here p a ∷ []

-- a turn of a loop, followed by the loop itself
abbrev pub turn_tasks : (here : ℕ) → Option TExpr → Held-SNode-If-2 → Place → SNode → List Task
turn_tasks here condition last p body = Do here p body ∷ TurnEnd ∷ (task_of here last ++ Turn here condition last p body ∷ [])

-- a loop's first part, and then its first test; a `do` begins with its body (C99 6.8.5)
abbrev pub loop_tasks : (here : ℕ) → TLoop → List Task
loop_tasks here (TLoop' true _ heads condition last _ (more_of-TStmt p body _) prop) =
    tasks_of here heads ++ Turn here condition last p body ∷ BreakEnd ∷ []
loop_tasks here (TLoop' false _ heads condition last _ (more_of-TStmt p body _) prop) =
    tasks_of here heads ++ turn_tasks here condition last p body ++ BreakEnd ∷ []

-- the statements of the groups of a switch, from the i-th on
abbrev pub group_tasks : (here : ℕ) → Group → List Task
group_tasks here (Group' labels _ row) = tasks_of here row

-- the statements of a `switch` from a group on, one group after another
abbrev pub groups_tasks : {m : _} → (here i : ℕ) → Row_of-Group m → List Task
groups_tasks here i end_of-Group = []
groups_tasks here zero (more_of-Group g rest) = group_tasks here g ++ groups_tasks here zero rest
groups_tasks here (suc i) (more_of-Group g rest) = groups_tasks here i rest

-- the statements that a `switch` runs from the group that it enters, none where it enters none (C99 6.8.4.2)
abbrev pub entry_tasks : {m : _} → (here : ℕ) → Option ℕ → Row_of-Group m → List Task
entry_tasks here None groups = []
entry_tasks here (Some i) groups = groups_tasks here i groups ++ BreakEnd ∷ []

-- one step of a statement
abbrev pub statement_step : Setting → Place → SNode → List Task → JointState → List ℕ → Configuration
statement_step k p (Block' _ row) tasks s c = At (tasks_of k.here row ++ tasks) s c
statement_step k p (Declare x init) tasks s c = declare_step k p.line x init tasks s c
statement_step k p (Store target init) tasks s c = store_step k target init tasks s c
statement_step k p (Update target update) tasks s c = onward tasks (update_effect k target update s c)
statement_step k p (Call call) tasks s c = call_step k call tasks s c
statement_step k p (If' e _ (more_of-TStmt q a _) other) tasks s c =
    given (value_of (rows_in k s) e) (λ n. if is_zero n then At (task_of k.here other ++ tasks) s c else At (Do k.here q a ∷ tasks) s c)
statement_step k p (Loop loop) tasks s c = At (loop_tasks k.here loop ++ tasks) s c
statement_step k p (Switch' e _ groups) tasks s c =
    given (value_of (rows_in k s) e) (λ n. At (entry_tasks k.here (entered n groups) groups ++ tasks) s c)
statement_step k p Break tasks s c = At (behind_break tasks) s c
statement_step k p Continue tasks s c = At (behind_turn tasks) s c
statement_step k p (Return init) tasks s c = return_step k init tasks s c
statement_step k p (Assert e prop) tasks s c = given (value_of (rows_in k s) e) (λ n. if is_zero n then IsBroken prop else At tasks s c)
statement_step k p (Assume e) tasks s c = given (value_of (rows_in k s) e) (λ n. if is_zero n then Over else At tasks s c)
statement_step k p SetInputs tasks s c = onward tasks (set_inputs k s c)
statement_step k p (NextFrame prop) tasks s c = onward tasks (next_frame k prop s c)

-- the setting in a function's body
abbrev pub setting_in : Pair → Bounds → (here : ℕ) → Setting
setting_in p b here = record { pair = p; bounds = b; here = here }

-- one step: the first task is carried out
abbrev pub task_step : Pair → Bounds → Task → List Task → JointState → List ℕ → Configuration
task_step p b (Do here place a) tasks s c = statement_step (setting_in p b here) place a tasks s c
task_step p b (Turn here condition last place body) tasks s c =
    given (condition_value (rows_in (setting_in p b here) s) condition) (λ n.
    if is_zero n then At tasks s c else At (turn_tasks here condition last place body ++ tasks) s c)
task_step p b TurnEnd tasks s c = At tasks s c
task_step p b BreakEnd tasks s c = At tasks s c
task_step p b (BodyEnd f result locals) tasks s c = onward tasks (closing (eqb f p.program.main) result (with_locals s locals) c)
task_step p b (Rest here go) tasks s c = onward tasks (go s c)

-- one step. Of the bounds it reads those on frames alone
abbrev pub step : Pair → Bounds → Configuration → Configuration
step p b (At [] s c) = Over
step p b (At (task ∷ tasks) s c) = task_step p b task tasks s c
step p b Over = Over
step p b (IsBroken prop) = IsBroken prop
step p b Lacks = Lacks

-- so many steps
abbrev pub steps : Pair → Bounds → (n : ℕ) → Configuration → Configuration
steps p b zero at = at
steps p b (suc n) at = steps p b n (step p b at)

-- the body of `main`, and its closing brace
abbrev pub main_tasks : Pair → Option TStmt → List Task
main_tasks p None = []
main_tasks p (Some body) = Do p.program.main body.place body.node ∷ []

-- the first configuration on a list of choices
abbrev pub first_configuration : Pair → List ℕ → Configuration
first_configuration p choices =
    onward (main_tasks p (body_of (slice_get p.program.functions p.program.main))) (with_first_state p choices (λ s c. Goes Next s nothing c))

-- some step from some first state and some choices fails a property
pub record Fails (pair : Pair) (bounds : Bounds) (p : PropId) : Type 0 where
  pub choices : List ℕ
  pub count : ℕ
  pub fails : steps pair bounds count (first_configuration pair choices) ≡ IsBroken p
