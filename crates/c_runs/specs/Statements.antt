-- What a statement of a C text does, by recursion on its tree and on the turns left of a loop (C99 6.8).
use Rattle.std.specs.Prelude.{ℕ, zero, suc, Bool, true, false, if◌then◌else◌}
use Rattle.std.specs.Prelude.{ℤ, pos, Option, Some, None, option_map}
use Rattle.std.specs.Ordering.{int_eq}
use Rattle.std.specs.List.{list_any}
use Rattle.src_text.specs.declared.refusal.Place.{Place}
use Rattle.c_tree.specs.declared.expressions.Expression.{Expression}
use Rattle.c_tree.specs.declared.statements.BlockItem.{BlockItem}
use Rattle.c_tree.specs.declared.statements.BlockItem as block_item
use Rattle.c_tree.specs.declared.statements.ForFirst.{ForFirst}
use Rattle.c_tree.specs.declared.statements.ForFirst.TheVariants as for_first
use Rattle.c_tree.specs.declared.statements.Label.{Label}
use Rattle.c_tree.specs.declared.statements.Label.TheVariants as label
use Rattle.c_tree.specs.declared.statements.Simple.{Simple}
use Rattle.c_tree.specs.declared.statements.Statement.{Statement}
use Rattle.c_tree.specs.declared.statements.Statement as statement
use Rattle.joint_ir.specs.declared.ctype.IntType.{IntType}
use Rattle.joint_ir.specs.declared.program.PropKind.TheVariants as kind
use Rattle.joint_ir.specs.Types.{converted}
use Rattle.joint_ir.specs.Values.{is_zero}
use Rattle.joint_ir.specs.States.{JointState}
use Rattle.joint_ir.specs.Effects.{nothing}
use Rattle.joint_ir.specs.declared.way.Way.TheVariants.{Next, Breaking, Continuing}
use Rattle.c_words.specs.Types.{promoted}
use Rattle.c_expressions.specs.Expressions.{type_of}
use Rattle.c_expressions.specs.Values.{CAnswer, Gives, c_value, in_type}
use Rattle.c_constants.specs.declared.Constant.{Constant}
use Rattle.c_constants.specs.declared.Constant.TheVariants as constant_as
use Rattle.c_constants.specs.Constants.{constant_of}
use Rattle.c_runs.specs.Effects.{Goes, Stops, Cut, Onward, then_do, after_turn, after_switch, with_value}
use Rattle.c_runs.specs.Texts.{Given, Here, in_block, past, past_first, past_item, objects_in, objects_in_statements}
use Rattle.c_runs.specs.Simple.{Calls, rows_in, broken, after_simple, after_local, after_return}

-- a controlling expression in a state
abbrev pub condition : Given → Here → Expression → JointState → CAnswer
condition g h e s = c_value h.scopes (rows_in g s) e

-- an omitted controlling expression of a `for` is a constant that isn't 0 (C99 6.8.5.3p2)
abbrev pub for_condition : Given → Here → Option Expression → JointState → CAnswer
for_condition g h None s = Gives (pos 1)
for_condition g h (Some e) s = condition g h e s

-- goes on where the controlling expression isn't 0 (C99 6.8.5p4)
abbrev pub tested : (JointState → CAnswer) → Onward → Onward
tested test go s c = with_value (test s) c (λ n. if is_zero n then Goes Next s nothing c else go s c)

-- turns of a loop: its body, then the last part of a `for`, then its controlling expression, and so on. After n turns one more
-- breaks the property of the loop
abbrev pub turns : (n : ℕ) → (JointState → CAnswer) → (body step : Onward) → Place → Onward
turns zero test body step p s c = broken kind.Unwind p c
turns (suc n) test body step p s c = after_turn (body s c) (λ s' c'. then_do (step s' c') (tested test (turns n test body step p)))

-- nothing is done
abbrev pub idle : Onward
idle s c = Goes Next s nothing c

-- the last part of a `for`, if there is one (C99 6.8.5.3)
abbrev pub after_step : Given → Calls → Here → Option Simple → Onward
after_step g calls h None s c = idle s c
after_step g calls h (Some x) s c = after_simple g calls h x s c

-- the first part of a `for` (C99 6.8.5.3)
abbrev pub after_first : Given → Calls → Here → ForFirst → Onward
after_first g calls h for_first.Nothing s c = idle s c
after_first g calls h (for_first.Local l) s c = after_local g calls h l s c
after_first g calls h (for_first.Simple x) s c = after_simple g calls h x s c

-- the value of a label, converted to the promoted type of the controlling expression, is n (C99 6.8.4.2p5)
abbrev pub equals_constant : IntType → ℤ → Constant → Bool
equals_constant t n (constant_as.Is m) = int_eq (converted t m) n
equals_constant t n constant_as.Never = false
equals_constant t n constant_as.Undefined = false

-- a `case` whose constant, converted to the type, has this value (C99 6.8.4.2p5)
abbrev pub is_case : IntType → ℤ → Label → Bool
is_case t n (label.Case p e) = equals_constant t n (constant_of e)
is_case t n (label.Default p) = false

-- the `default` label
abbrev pub is_default : Label → Bool
is_default (label.Case p e) = false
is_default (label.Default p) = true

-- the first group of a `switch` with a label that passes a test
abbrev pub group_with : {m : _} → (Label → Bool) → statement.Row_of-Group m → Option ℕ
group_with test statement.end_of-Group = None
group_with test (statement.more_of-Group p labels _ body row) = if list_any test labels then Some 0 else option_map suc (group_with test row)

-- where control jumps: to the `case` of the value, else to `default`, else nowhere (C99 6.8.4.2p5)
abbrev pub entered : {m : _} → IntType → ℤ → statement.Row_of-Group m → Option ℕ
entered t n groups =
    elim (group_with (is_case t n) groups) [
      | Some i ↦ Some i
      | None ↦ group_with is_default groups
    ]

-- the groups from the one that control jumps to; where it jumps nowhere, no part of the body runs
abbrev pub at_entry : Option ℕ → (ℕ → Onward) → Onward
at_entry None go s c = idle s c
at_entry (Some i) go s c = after_switch (go i s c)

abbrev mutual
  -- what a statement at a place of the text does
  pub c_after : Given → Calls → Here → Statement → Onward
  -- a block (C99 6.8.2)
  c_after g calls h (statement.Compound' p _ items) s c = after_items g calls (in_block h) items s c
  -- `;` does nothing (C99 6.8.3p3)
  c_after g calls h (statement.Empty p) s c = idle s c
  c_after g calls h (statement.Simple x) s c = after_simple g calls h x s c
  -- the first part runs where the expression isn't 0 (C99 6.8.4.1p2)
  c_after g calls h (statement.If' p e _ (statement.more_of-Statement x _)) s c =
      with_value (condition g h e s) c (λ n. if is_zero n then idle s c else c_after g calls h x s c)
  c_after g calls h (statement.IfElse' p e _ (statement.more_of-Statement x _) _ (statement.more_of-Statement y _)) s c =
      with_value (condition g h e s) c (λ n. if is_zero n then c_after g calls (past (objects_in x) h) y s c else c_after g calls h x s c)
  -- the expression is evaluated before each turn (C99 6.8.5.1)
  c_after g calls h (statement.While' p e _ (statement.more_of-Statement x _)) s c =
      tested (condition g h e) (turns (g.limit kind.Unwind p) (condition g h e) (c_after g calls h x) idle p) s c
  -- the expression is evaluated after each turn (C99 6.8.5.2)
  c_after g calls h (statement.Do' p _ (statement.more_of-Statement x _) e) s c =
      turns (g.limit kind.Unwind p) (condition g h e) (c_after g calls h x) idle p s c
  -- the first part once, the expression before each turn, the last part after each turn (C99 6.8.5.3)
  c_after g calls h (statement.For' p first e step _ (statement.more_of-Statement x _)) s c =
      let inside = past_first first (in_block h) in
      let test = for_condition g inside e in
      then_do (after_first g calls (in_block h) first s c)
      (tested test (turns (g.limit kind.Unwind p) test (c_after g calls inside x) (after_step g calls inside step) p))
  -- the expression is promoted, and control jumps to its label (C99 6.8.4.2)
  c_after g calls h (statement.Switch' p e _ groups) s c =
      let t = promoted (type_of h.scopes e) in
      with_value (condition g h e s) c (λ n.
      at_entry (entered t (in_type (type_of h.scopes e) t n) groups) (λ i. groups_from g calls h i groups) s c)
  c_after g calls h (statement.Break p) s c = Goes Breaking s nothing c
  c_after g calls h (statement.Continue p) s c = Goes Continuing s nothing c
  c_after g calls h (statement.Return p i) s c = after_return g calls h i s c
  -- an assertion breaks its property where the expression is 0 (C99 7.2.1.1)
  c_after g calls h (statement.Assert p e) s c = with_value (condition g h e s) c (λ n. if is_zero n then broken kind.Assertion p c else idle s c)
  c_after g calls h (statement.CproverAssert p e) s c = with_value (condition g h e s) c (λ n. if is_zero n then broken kind.Assertion p c else idle s c)
  -- an assumption that is 0 ends the run, and nothing is broken
  c_after g calls h (statement.CproverAssume p e) s c = with_value (condition g h e s) c (λ n. if is_zero n then Stops Cut nothing c else idle s c)

  -- the parts of a block, in order (C99 6.8.2p3)
  pub after_items : {m : _} → Given → Calls → Here → statement.Row_of-BlockItem m → Onward
  after_items g calls h statement.end_of-BlockItem s c = idle s c
  after_items g calls h (statement.more_of-BlockItem x row) s c = then_do (after_item g calls h x s c) (after_items g calls (past_item x h) row)

  -- a declaration or a statement in a block
  pub after_item : Given → Calls → Here → BlockItem → Onward
  after_item g calls h (block_item.Local l) s c = after_local g calls h l s c
  after_item g calls h (block_item.Statement x) s c = c_after g calls h x s c

  -- the groups of a `switch` from the i-th on: control falls through from one to the next (C99 6.8.4.2p7)
  pub groups_from : {m : _} → Given → Calls → Here → ℕ → statement.Row_of-Group m → Onward
  groups_from g calls h i statement.end_of-Group s c = idle s c
  groups_from g calls h zero (statement.more_of-Group p labels _ body row) s c =
      then_do (after_statements g calls h body s c) (groups_from g calls (past (objects_in_statements body) h) zero row)
  groups_from g calls h (suc i) (statement.more_of-Group p labels _ body row) s c =
      groups_from g calls (past (objects_in_statements body) h) i row s c

  -- statements, one after another
  pub after_statements : {m : _} → Given → Calls → Here → statement.Row_of-Statement m → Onward
  after_statements g calls h statement.end_of-Statement s c = idle s c
  after_statements g calls h (statement.more_of-Statement x row) s c =
      then_do (c_after g calls h x s c) (after_statements g calls (past (objects_in x) h) row)
