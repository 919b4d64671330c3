-- What is wrong with the head of a `for` loop (IEEE 1364-2005, 9.6): one loop variable that no loop round it has, and three
-- expressions that are constant in each turn.
use Rattle.std.specs.Prelude.{ℕ, List, [], ◌∷◌, ◌++◌, flat_map, length, Option, Some, None, Bool, true, false, eqb, bytes_eq, if◌then◌else◌}
use Rattle.src_text.specs.declared.refusal.Place.{Place}
use Rattle.src_text.specs.declared.kind.Kind.TheVariants.{VUnknownName, VLoop, VLoopLong}
use Rattle.bits_core.specs.Word.{Word}
use Rattle.v_tree.specs.declared.name.Identifier.{Identifier}
use Rattle.v_tree.specs.declared.stmt.ForHead.{ForHead}
use Rattle.offence_order.specs.declared.Offence.{Offence}
use Rattle.offence_order.specs.Order.{at}
use Rattle.elab_names.specs.declared.constant.Worth.{Worth}
use Rattle.elab_names.specs.declared.constant.Worth.TheVariants.{Value, Open, NotConstant}
use Rattle.elab_names.specs.declared.names.Entry.{Entry}
use Rattle.elab_names.specs.declared.names.Entry.TheVariants.{Integer}
use Rattle.elab_names.specs.declared.names.Turn.{Turn}
use Rattle.elab_names.specs.Names.{Scope, turn_of}
use Rattle.elab_loops.specs.Loops.{with_turn, assigned, values_of}
use Rattle.elab_offences.specs.Rules.{at_if}
use Rattle.elab_offences.specs.Expressions.{constant_offences}

-- the loop variable that a name is
abbrev pub integer_in : Option Entry → Option ℕ
integer_in (Some (Integer n)) = Some n
integer_in e = None

-- a head whose first name is no loop variable
abbrev pub wrong_variable : Place → Option Entry → List Offence
wrong_variable place None = at place VUnknownName
wrong_variable place (Some e) = at place VLoop

-- a loop inside a loop over the same variable
abbrev pub nested_offences : Place → Option Turn → List Offence
nested_offences place None = []
nested_offences place (Some t) = at place VLoop

-- a head starts and steps one variable
abbrev pub two_names : Identifier → Identifier → List Offence
two_names a b = if bytes_eq a.name b.name then [] else at a.place VLoop

-- what a variable is known to be; another offence tells of what isn't constant
abbrev pub turn_worth : Worth → Worth
turn_worth (Value w) = Value w
turn_worth Open = Open
turn_worth NotConstant = Open

module _ (names : Scope) where
  -- the values of a loop's variable; a loop in what is never run takes no turns
  abbrev pub live_values : Bool → List Turn → ℕ → ForHead → List Word
  live_values live turns n head = if live then values_of names turns n head else []

  module _ (turns : List Turn) (n : ℕ) (head : ForHead) where
    -- the condition, where the variable has this value
    abbrev pub condition_offences : Worth → List Offence
    condition_offences w = constant_offences names (with_turn turns n (turn_worth w)) head.condition

    -- the second assignment, where the variable has this value
    abbrev pub step_offences : Worth → List Offence
    step_offences w = constant_offences names (with_turn turns n w) head.step.value

    -- after a turn the variable steps, and the condition is asked again
    abbrev pub turn_offences : Word → List Offence
    turn_offences v = step_offences (Value v) ++ condition_offences (assigned names (with_turn turns n (Value v)) head.step.value)

    -- a step that no turn comes to
    abbrev pub idle_offences : Bool → List Offence
    idle_offences true = step_offences Open
    idle_offences false = []

    -- each turn's, and the step where there is no turn
    abbrev pub turns_offences : List Word → List Offence
    turns_offences taken = idle_offences (eqb (length taken) 0) ++ flat_map turn_offences taken

    -- the names and the start, which stands outside the loop
    abbrev pub start_offences : Place → List Offence
    start_offences place = nested_offences place (turn_of turns n) ++ (two_names head.start.name head.step.name ++ constant_offences names turns head.start.value)

    -- the condition at the first value, then all turns
    abbrev pub running_offences : List Word → List Offence
    running_offences taken = condition_offences (assigned names turns head.start.value) ++ turns_offences taken

    -- a head, by whether its loop is too long, and by the turns that are unrolled
    abbrev pub head_offences : Place → Bool → List Word → List Offence
    head_offences place long taken = start_offences place ++ (running_offences taken ++ at_if long place VLoopLong)

  -- a head whose name is no loop variable
  abbrev pub other_offences : List Turn → ForHead → Option Entry → List Offence
  other_offences turns head entry =
      wrong_variable head.start.name.place entry
      ++ (constant_offences names turns head.start.value ++ (constant_offences names turns head.condition ++ constant_offences names turns head.step.value))
