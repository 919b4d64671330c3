-- What a statement does, by recursion on its tree, on the turns left of a loop, and on the activations left (C99 6.8).
use Rattle.std.specs.Prelude.{ℕ, zero, suc, ◌+◌, bytes_eq, Bool, true, false, if◌then◌else◌, nat_lt, eqb, List, [], ◌∷◌, ◌++◌, slice_get, count_by}
use Rattle.std.specs.Prelude.{ℤ, pos, Option, Some, None, option_map}
use Rattle.std.specs.Ordering.{int_eq}
use Rattle.std.specs.List.{position_from, list_any}
use Rattle.joint_ir.specs.declared.bounds.Bounds.{Bounds}
use Rattle.joint_ir.specs.declared.ctype.IntType.{IntType}
use Rattle.joint_ir.specs.declared.event.Outcome.TheVariants.{Cut}
use Rattle.joint_ir.specs.declared.expr.Slot.TheVariants.{Local}
use Rattle.joint_ir.specs.declared.expr.TExpr.{TExpr}
use Rattle.joint_ir.specs.declared.pair.Pair.{Pair}
use Rattle.joint_ir.specs.declared.program.CProgram.{CProgram}
use Rattle.joint_ir.specs.declared.program.Function.{Function}
use Rattle.joint_ir.specs.declared.program.Prop.{Prop}
use Rattle.joint_ir.specs.declared.program.PropId.{PropId}
use Rattle.joint_ir.specs.declared.program.PropKind.{PropKind}
use Rattle.joint_ir.specs.declared.program.PropKind.TheVariants as kind
use Rattle.joint_ir.specs.declared.stmt.Group.{Group, Group'}
use Rattle.joint_ir.specs.declared.stmt.Label.{Label}
use Rattle.joint_ir.specs.declared.stmt.Label.TheVariants.{Case, Default}
use Rattle.joint_ir.specs.declared.stmt.SNode.{SNode, Block', Declare, Store, Update, Call, If', Loop, Switch', Break, Continue, Return, Assert, Assume, SetInputs, NextFrame, Row_of-TStmt, end_of-TStmt, more_of-TStmt, Row_of-Group, end_of-Group, more_of-Group, Held-SNode-If-2, None', Some'}
use Rattle.joint_ir.specs.declared.stmt.TLoop.{TLoop, TLoop'}
use Rattle.joint_ir.specs.declared.stmt.TStmt.{TStmt}
use Rattle.src_text.specs.declared.refusal.Place.{Place}
use Rattle.joint_ir.specs.Types.{converted}
use Rattle.joint_ir.specs.Values.{Answer, Value, Rows, value_of, is_zero}
use Rattle.joint_ir.specs.States.{JointState}
use Rattle.joint_ir.specs.Effects.{Effect, nothing, Goes, Stops, TooFew, Onward, then_do, after_turn, after_groups, broken, with_value, draw}
use Rattle.joint_ir.specs.declared.way.Way.TheVariants.{Next, Breaking, Continuing, Returning}
use Rattle.joint_ir.specs.Steps.{Setting, Calls, rows_in, limit_of, store_at, call_effect, store_effect, update_effect, declare_effect, return_effect, returning, with_locals, set_inputs, next_frame}

-- the activations that may stand at one time, the first one of `main` among them
abbrev pub ACTIVATIONS : ℕ
ACTIVATIONS = 32

-- the value of a condition; a `for` without one goes on
abbrev pub condition_value : Rows → Option TExpr → Answer
condition_value rows None = Value (pos 1)
condition_value rows (Some e) = value_of rows e

-- goes on where a condition isn't 0
abbrev pub tested : (JointState → Answer) → Onward → Onward
tested test go s c = with_value (test s) c (λ n. if is_zero n then Goes Next s nothing c else go s c)

-- at most n turns of a loop; one more breaks its property
abbrev pub turns : (n : ℕ) → (JointState → Answer) → (body step : Onward) → PropId → Onward
turns zero test body step p s c = broken p c
turns (suc n) test body step p s c =
    after_turn (body s c) (λ s' c'. then_do (step s' c') (tested test (turns n test body step p)))

-- all turns of a loop: `do` alone makes the first one without a test
abbrev pub loop_effect : (tests_first : Bool) → (n : ℕ) → (JointState → Answer) → (body step : Onward) → PropId → Onward
loop_effect true n test body step p = tested test (turns n test body step p)
loop_effect false n test body step p = turns n test body step p

-- the label is `case` with this number
abbrev pub is_case : ℤ → Label → Bool
is_case n (Case m) = int_eq m n
is_case n Default = false

-- the label is `default`
abbrev pub is_default : Label → Bool
is_default (Case m) = false
is_default Default = true

-- the group has a label that passes the test
abbrev pub has_label : (Label → Bool) → Group → Bool
has_label test (Group' labels _ body) = list_any test labels

-- the first group of a switch with a label that passes
abbrev pub group_with : {m : _} → (Label → Bool) → Row_of-Group m → Option ℕ
group_with test end_of-Group = None
group_with test (more_of-Group g rest) = if has_label test g then Some 0 else option_map suc (group_with test rest)

-- the group where control enters a switch: that of the value, else that of `default`
abbrev pub entered : {m : _} → ℤ → Row_of-Group m → Option ℕ
entered n row =
    elim (group_with (is_case n) row) [
      | Some i ↦ Some i
      | None ↦ group_with is_default row
    ]

-- a switch: past all groups where control enters none
abbrev pub at_entry : Option ℕ → (ℕ → Onward) → Onward
at_entry None go s c = Goes Next s nothing c
at_entry (Some i) go s c = after_groups (go i s c)

abbrev mutual
  -- what a statement at a place does
  pub after : Setting → Calls → Place → SNode → Onward
  after k calls p (Block' _ row) s c = after_row k calls row s c
  after k calls p (Declare x init) s c = declare_effect k calls p.line x init s c
  after k calls p (Store target init) s c = store_effect k calls target init s c
  after k calls p (Update target update) s c = update_effect k target update s c
  after k calls p (Call call) s c = call_effect k calls call s c
  after k calls p (If' e _ (more_of-TStmt q a _) other) s c =
      with_value (value_of (rows_in k s) e) c (λ n. if is_zero n then after_other k calls other s c else after k calls q a s c)
  after k calls p (Loop loop) s c = after_loop k calls loop s c
  after k calls p (Switch' e _ groups) s c =
      with_value (value_of (rows_in k s) e) c (λ n. at_entry (entered n groups) (λ i. groups_from k calls i groups) s c)
  after k calls p Break s c = Goes Breaking s nothing c
  after k calls p Continue s c = Goes Continuing s nothing c
  after k calls p (Return init) s c = return_effect k calls init s c
  after k calls p (Assert e prop) s c = with_value (value_of (rows_in k s) e) c (λ n. if is_zero n then broken prop c else Goes Next s nothing c)
  after k calls p (Assume e) s c = with_value (value_of (rows_in k s) e) c (λ n. if is_zero n then Stops Cut nothing c else Goes Next s nothing c)
  after k calls p SetInputs s c = set_inputs k s c
  after k calls p (NextFrame prop) s c = next_frame k prop s c

  -- what statements do one after another
  pub after_row : {m : _} → Setting → Calls → Row_of-TStmt m → Onward
  after_row k calls end_of-TStmt s c = Goes Next s nothing c
  after_row k calls (more_of-TStmt p a rest) s c = then_do (after k calls p a s c) (after_row k calls rest)

  -- what the `else` part of an `if` does, or the last part of a `for`, if there is one
  pub after_other : Setting → Calls → Held-SNode-If-2 → Onward
  after_other k calls None' s c = Goes Next s nothing c
  after_other k calls (Some' _ (more_of-TStmt p a _)) s c = after k calls p a s c

  -- the first part of a loop, then its turns, at most as many as its limit allows
  pub after_loop : Setting → Calls → TLoop → Onward
  after_loop k calls (TLoop' tests_first _ heads cond step _ (more_of-TStmt p body _) prop) s c =
      then_do (after_row k calls heads s c)
      (loop_effect tests_first (limit_of k.bounds prop) (λ s'. condition_value (rows_in k s') cond)
      (after k calls p body) (after_other k calls step) prop)

  -- what the groups of a switch do from the i-th on; control falls through
  pub groups_from : {m : _} → Setting → Calls → ℕ → Row_of-Group m → Onward
  groups_from k calls i end_of-Group s c = Goes Next s nothing c
  groups_from k calls zero (more_of-Group g rest) s c = then_do (after_group k calls g s c) (groups_from k calls zero rest)
  groups_from k calls (suc i) (more_of-Group g rest) s c = groups_from k calls i rest s c

  -- the statements behind labels
  pub after_group : Setting → Calls → Group → Onward
  after_group k calls (Group' labels _ row) s c = after_row k calls row s c

-- the property says that a function has no more activations than its limit
abbrev pub is_recursion : PropKind → Bool
is_recursion kind.Assertion = false
is_recursion kind.Overflow = false
is_recursion kind.Division = false
is_recursion kind.Shift = false
is_recursion kind.Bounds = false
is_recursion kind.Unwind = false
is_recursion kind.Recursion = true
is_recursion kind.Frame = false

-- the `recursion` property of the function of a name
abbrev pub prop_or_none : Option ℕ → PropId
prop_or_none None = record { 0 = 0 }
prop_or_none (Some i) = record { 0 = i }

-- the `recursion` property of a function's name
abbrev pub recursion_of : List Prop → List ℕ → PropId
recursion_of props name = prop_or_none (position_from (λ p. if is_recursion p.kind then bytes_eq p.function name else false) 0 props)

-- parameters take the arguments, from the local x on; they are seen with the line of the call
abbrev pub set_params : (line x : ℕ) → List ℤ → Onward
set_params line x [] s c = Goes Next s nothing c
set_params line x (n ∷ args) s c = then_do (store_at line (Local x) None n s c) (set_params line (x + 1) args)

-- at the closing brace: a function with a result, other than `main`, gives any value
abbrev pub closing : (is_main : Bool) → Option IntType → Onward
closing true result s c = Goes Next (returning s (pos 0)) nothing c
closing false None s c = Goes Next (returning s (pos 0)) nothing c
closing false (Some t) s c = draw t.bits c (λ n rest. Goes Next (returning s (converted t (pos n))) nothing rest)

-- after a function's body: the caller's locals are back
abbrev pub after_body : (is_main : Bool) → Option IntType → (locals : List (List ℤ)) → Effect → Effect
after_body is_main result locals (Goes Returning s told c) = Goes Next (with_locals s locals) told c
after_body is_main result locals (Goes Next s told c) = then_do (Goes Next (with_locals s locals) told c) (closing is_main result)
after_body is_main result locals (Goes Breaking s told c) = then_do (Goes Next (with_locals s locals) told c) (closing is_main result)
after_body is_main result locals (Goes Continuing s told c) = then_do (Goes Next (with_locals s locals) told c) (closing is_main result)
after_body is_main result locals (Stops o told c) = Stops o told c
after_body is_main result locals TooFew = TooFew

-- a function without body gives any value of its result's type
abbrev pub any_result : Option IntType → Onward
any_result None s c = Goes Next s nothing c
any_result (Some t) s c = draw t.bits c (λ n rest. Goes Next (returning s (converted t (pos n))) nothing rest)

-- a function's body at its arguments; `inner` says what the calls in it do. The body runs on the caller's locals: its
-- parameters take the arguments, each other object of its own is given a value by its declaration before it is read, and
-- the caller's locals come back behind it
abbrev pub body_effect : Pair → Bounds → (inner : Calls) → (function : ℕ) → Function → TStmt → Place → List ℤ → Onward
body_effect pair b inner f fn body p args s c =
    after_body (eqb f pair.program.main) fn.result s.store.locals
    (then_do (set_params p.line fn.first args s c)
    (after (record { pair = pair; bounds = b; here = f }) inner body.place body.node))

-- the `recursion` property of a function
abbrev pub recursion_prop : CProgram → Function → PropId
recursion_prop program fn = recursion_of program.props fn.name

-- a call of a function, which may have one more activation or not
abbrev pub entered_body : Pair → Bounds → (may_enter : Bool) → (inner : Calls) → (function : ℕ) → Function → Option TStmt → Place → List ℤ → Onward
entered_body pair b may_enter inner f fn None p args s c = any_result fn.result s c
entered_body pair b true inner f fn (Some body) p args s c = body_effect pair b inner f fn body p args s c
entered_body pair b false inner f fn (Some body) p args s c = broken (recursion_prop pair.program fn) c

-- a call of a function by its number; where there is none nothing happens
abbrev pub entered_function : Pair → Bounds → (may_enter : Function → Bool) → (inner : Calls) → (function : ℕ) → Option Function → Place → List ℤ → Onward
entered_function pair b may_enter inner f None p args s c = Goes Next s nothing c
entered_function pair b may_enter inner f (Some fn) p args s c = entered_body pair b (may_enter fn) inner f fn fn.body p args s c

-- fewer activations of a function stand than its limit
abbrev pub is_below_limit : Pair → Bounds → (standing : List ℕ) → (function : ℕ) → Function → Bool
is_below_limit pair b standing f fn = nat_lt (count_by (λ g. eqb f g) standing) (limit_of b (recursion_prop pair.program fn))

-- no function can be called
abbrev pub no_calls : Calls
no_calls p f args s c = TooFew

-- calls where `left` more activations may stand, and those of the functions in `standing` do
abbrev pub calls_at : Pair → Bounds → (left : ℕ) → (standing : List ℕ) → Calls
calls_at pair b zero standing p f args s c =
    entered_function pair b (λ fn. false) no_calls f (slice_get pair.program.functions f) p args s c
calls_at pair b (suc left) standing p f args s c =
    entered_function pair b (is_below_limit pair b standing f) (calls_at pair b left (standing ++ f ∷ [])) f (slice_get pair.program.functions f) p args s c
