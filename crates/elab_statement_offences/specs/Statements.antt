-- What is wrong with statements of processes, loops unrolled (IEEE 1364-2005, clause 9). Each copy is looked at in the turns of
-- the loops round it.
use Rattle.std.specs.Prelude.{ℕ, List, [], ◌∷◌, ◌++◌, flat_map, length, Option, Some, None, Bool, true, false, eqb}
use Rattle.src_text.specs.declared.refusal.Place.{Place}
use Rattle.bits_core.specs.Word.{Word}
use Rattle.v_tree.specs.declared.stmt.Assignment.{Assignment}
use Rattle.v_tree.specs.declared.stmt.CaseItem.{CaseItem}
use Rattle.v_tree.specs.declared.stmt.CaseItem as item
use Rattle.v_tree.specs.declared.stmt.CaseKind.{CaseKind}
use Rattle.v_tree.specs.declared.stmt.ForHead.{ForHead}
use Rattle.v_tree.specs.declared.stmt.Stmt.{Stmt}
use Rattle.v_tree.specs.declared.stmt.Stmt as stmt
use Rattle.offence_order.specs.declared.Offence.{Offence}
use Rattle.elab_names.specs.declared.constant.Worth.TheVariants.{Value, Open}
use Rattle.elab_names.specs.declared.names.Entry.{Entry}
use Rattle.elab_names.specs.declared.names.Turn.{Turn}
use Rattle.elab_names.specs.Names.{Scope, find_in}
use Rattle.elab_loops.specs.Loops.{with_turn, is_long, turns_of}
use Rattle.elab_offences.specs.Expressions.{expr_offences}
use Rattle.elab_offences.specs.Targets.{target_offences}
use Rattle.elab_statement_offences.specs.Cases.{pattern_offences}
use Rattle.elab_statement_offences.specs.Heads.{integer_in, live_values, head_offences, other_offences}

-- what a body offends, by whether it is ever run and by the turns round it
abbrev pub Body : Type 0
Body = Bool → List Turn → List Offence

-- the body of a loop without turns is looked at once, its variable open
abbrev pub idle_body : Body → List Turn → ℕ → Bool → List Offence
idle_body body turns n true = body false (with_turn turns n Open)
idle_body body turns n false = []

-- the copies of a body, one for each turn
abbrev pub copies_offences : Body → List Turn → ℕ → List Word → List Offence
copies_offences body turns n taken = idle_body body turns n (eqb (length taken) 0) ++ flat_map (λ v. body true (with_turn turns n (Value v))) taken

module _ (names : Scope) where
  -- a loop, by whether it is too long, and by the turns that are unrolled
  abbrev pub unrolled_offences : Body → List Turn → Place → ℕ → ForHead → Bool → List Word → List Offence
  unrolled_offences body turns place n head long taken = head_offences names turns n head place long taken ++ copies_offences body turns n taken

  -- a loop over a loop variable
  abbrev pub integer_offences : Body → Bool → List Turn → Place → ℕ → ForHead → List Offence
  integer_offences body live turns place n head =
      let values = live_values names live turns n head in
      unrolled_offences body turns place n head (is_long values) (turns_of values)

  -- a loop by what its first name is; the body is looked at also where it is no loop variable
  abbrev pub loop_at : Body → Bool → List Turn → Place → ForHead → Option Entry → Option ℕ → List Offence
  loop_at body live turns place head entry (Some n) = integer_offences body live turns place n head
  loop_at body live turns place head entry None = other_offences names turns head entry ++ body false turns

  -- a loop
  abbrev pub loop_offences : Body → Bool → List Turn → Place → ForHead → List Offence
  loop_offences body live turns place head =
      let entry = find_in names head.start.name.name in
      loop_at body live turns place head entry (integer_in entry)

  -- an assignment to registers
  abbrev pub assignment_offences : List Turn → Assignment → List Offence
  assignment_offences turns a = target_offences names turns true a.target ++ expr_offences names turns false a.value

  abbrev mutual
    -- a copy of a statement
    pub stmt_offences : Stmt → Bool → List Turn → List Offence
    stmt_offences (stmt.Empty place) live turns = []
    stmt_offences (stmt.Block' place label _ body) live turns = body_offences body live turns
    stmt_offences (stmt.If' place condition _ (stmt.more_of-Stmt s _)) live turns = expr_offences names turns false condition ++ stmt_offences s live turns
    stmt_offences (stmt.IfElse' place condition _ (stmt.more_of-Stmt s _) _ (stmt.more_of-Stmt other _)) live turns =
        expr_offences names turns false condition ++ (stmt_offences s live turns ++ stmt_offences other live turns)
    stmt_offences (stmt.Case' place kind value _ items) live turns = expr_offences names turns false value ++ items_offences kind items live turns
    stmt_offences (stmt.For' place head _ (stmt.more_of-Stmt s _)) live turns = loop_offences (stmt_offences s) live turns place head
    stmt_offences (stmt.Assignment a) live turns = assignment_offences turns a

    -- statements one after another
    pub body_offences : {m : _} → stmt.Row_of-Stmt m → Bool → List Turn → List Offence
    body_offences stmt.end_of-Stmt live turns = []
    body_offences (stmt.more_of-Stmt s rest) live turns = stmt_offences s live turns ++ body_offences rest live turns

    -- an item of a `case` or `casez`
    pub item_offences : CaseKind → CaseItem → Bool → List Turn → List Offence
    item_offences kind (item.Values' values _ (stmt.more_of-Stmt s _)) live turns = flat_map (pattern_offences names turns kind) values ++ stmt_offences s live turns
    item_offences kind (item.Default' place _ (stmt.more_of-Stmt s _)) live turns = stmt_offences s live turns

    -- the items in order
    pub items_offences : {m : _} → CaseKind → stmt.Row_of-CaseItem m → Bool → List Turn → List Offence
    items_offences kind stmt.end_of-CaseItem live turns = []
    items_offences kind (stmt.more_of-CaseItem c rest) live turns = item_offences kind c live turns ++ items_offences kind rest live turns
