-- Worked runs of small statements: each equation holds by computing.
use Rattle.std.specs.Prelude.{◌≡◌, ℕ, List, [], ◌∷◌, Some, None, false, refl}
use Rattle.std.specs.Prelude.{pos, codes}
use denote.Hole.Carrier.{hidden}
use Rattle.src_text.specs.declared.refusal.Place.{Place}
use Rattle.c_tree.specs.declared.names.Identifier.{Identifier}
use Rattle.c_tree.specs.declared.declarations.Declarator.TheVariants as declarator
use Rattle.c_tree.specs.declared.declarations.Initializer.TheVariants as initializer
use Rattle.c_tree.specs.declared.declarations.IntegerType.TheVariants as word
use Rattle.c_tree.specs.declared.declarations.Sign.TheVariants.{Signed}
use Rattle.c_tree.specs.declared.expressions.AssignmentOperator.TheVariants as update
use Rattle.c_tree.specs.declared.expressions.BinaryOperator.{BinaryOperator}
use Rattle.c_tree.specs.declared.expressions.BinaryOperator.TheVariants as b
use Rattle.c_tree.specs.declared.expressions.StepOperator.TheVariants as step
use Rattle.c_tree.specs.declared.expressions.Expression.{Expression, Integer, Binary, Read}
use Rattle.c_tree.specs.declared.expressions.Expression.TheBlock.{hidden-the_row-Expression-0}
use Rattle.c_tree.specs.declared.expressions.Path.{Path, Object}
use Rattle.c_tree.specs.declared.statements.BlockItem.{BlockItem}
use Rattle.c_tree.specs.declared.statements.BlockItem as block_item
use Rattle.c_tree.specs.declared.statements.BlockItem.TheBlock.{hidden-the_row-BlockItem-0, hidden-the_row-Statement-2, hidden-the_row-Group-3}
use Rattle.c_tree.specs.declared.statements.ForFirst.TheVariants as for_first
use Rattle.c_tree.specs.declared.statements.Group.{Group, roll-Group}
use Rattle.c_tree.specs.declared.statements.Label.{Label}
use Rattle.c_tree.specs.declared.statements.Label.TheVariants as label
use Rattle.c_tree.specs.declared.statements.Simple.TheVariants as simple
use Rattle.c_tree.specs.declared.statements.Statement.{Statement}
use Rattle.c_tree.specs.declared.statements.Statement as statement
use Rattle.joint_ir.specs.declared.event.Event.{Event}
use Rattle.joint_ir.specs.declared.event.Event.TheVariants.{Stored}
use Rattle.joint_ir.specs.declared.expr.Slot.TheVariants.{Local as Automatic}
use Rattle.joint_ir.specs.declared.program.PropKind.TheVariants as kind
use Rattle.joint_ir.specs.Types.{int}
use Rattle.joint_ir.specs.States.{JointState}
use Rattle.joint_ir.specs.declared.way.Way.TheVariants.{Next}
use Rattle.c_names.specs.declared.scope.Entry.TheVariants as entry
use Rattle.c_names.specs.Scope.{Scope}
use Rattle.c_runs.specs.Effects.{Goes, Stops, Broken}
use Rattle.c_runs.specs.Texts.{CFunction, Given, Here}
use Rattle.c_runs.specs.Simple.{after_declarator}
use Rattle.c_runs.specs.Statements.{c_after}
use Rattle.c_runs.specs.Calls.{no_calls, calls_at}

abbrev at : (line column : ℕ) → Place
at line column = record { line = line; column = column }

abbrev name : (line : ℕ) → List ℕ → Identifier
name line x = record { place = at line 1; name = x }

abbrev number : List ℕ → Expression
number spelled = Integer (at 1 1) spelled

abbrev object : (line : ℕ) → List ℕ → Path
object line x = Object (record { name = name line x; members = [] })

abbrev of : Expression → BinaryOperator → Expression → Expression
of x op y = Binary x (record { place = at 3 9; operator = op }) y

-- `x` is the first automatic object, an `int`, and `f` the first function
abbrev names : List Scope
names =
    ((codes "x", entry.Object (record { slot = Automatic 0; ty = int; length = 0; constant = false })) ∷ (codes "f", entry.Function 0) ∷ []) ∷ []

abbrev here : Here
here = record { scopes = names; objects = 1; result = None }

abbrev given : (turns : ℕ) → List CFunction → Given
given turns functions = record {
  functions = functions;
  limit = λ k p. turns;
  frames = 0;
  check_bound = false;
  design = record {
    top = [];
    instances = [];
    signals = [];
    firsts = [];
    settle_terms = record { vars = []; terms = [] };
    settled = [];
    edge_terms = record { vars = []; terms = [] };
    next = [];
    settle_weight = 0;
    edge_weight = 0;
    settle_sites = [];
    edge_sites = [];
  };
  filled = λ v. [];
  driven = λ members inputs. inputs;
}

abbrev state : (x i : ℕ) → JointState
state x i = record {
  store = record { globals = []; locals = (pos x ∷ []) ∷ (pos i ∷ []) ∷ []; members = [] };
  view = record { registers = []; inputs = []; wires = [] };
  edges = 0;
  returned = pos 0;
}

abbrev set : (line object n : ℕ) → Event
set line x n = Stored line (Automatic x) None (pos n)

-- line 3: `for (int i = 0; i < 2; i++)`, line 4: `x += i;`
abbrev counting : Statement
counting =
    statement.For (at 3 1)
    (for_first.Local (record {
      constant = None;
      type_name = record { place = at 3 6; integer = word.Int Signed };
      declarators = declarator.Initialized (name 3 (codes "i")) (initializer.Value (number (codes "0"))) ∷ [];
    }))
    (Some (of (Read (object 3 (codes "i"))) b.Less (number (codes "2"))))
    (Some (simple.StepAfter (object 3 (codes "i")) (record { place = at 3 20; operator = step.Increment })))
    (statement.Simple (simple.Update (object 4 (codes "x")) (record { place = at 4 3; operator = update.Add }) (Read (object 4 (codes "i")))))

two_turns_end : c_after (given 2 []) no_calls here counting (state 5 9) []
    ≡ Goes Next (state 6 2) (record { events = set 3 1 0 ∷ set 4 0 5 ∷ set 3 1 1 ∷ set 4 0 6 ∷ set 3 1 2 ∷ []; widths = [] }) []
unfolding hidden-the_row-BlockItem-0 hidden-the_row-Statement-2 hidden-the_row-Expression-0 hidden
two_turns_end = refl

-- under a limit of 1 the second turn breaks the property of the loop, at its `for`
a_second_turn_breaks : c_after (given 1 []) no_calls here counting (state 5 9) []
    ≡ Stops (Broken kind.Unwind (at 3 1)) (record { events = set 3 1 0 ∷ set 4 0 5 ∷ set 3 1 1 ∷ []; widths = [] }) []
unfolding hidden-the_row-BlockItem-0 hidden-the_row-Statement-2 hidden-the_row-Expression-0 hidden
a_second_turn_breaks = refl

-- `x = N;` on a line
abbrev set_x : (line : ℕ) → List ℕ → Statement
set_x line n = statement.Simple (simple.Assign (object line (codes "x")) (initializer.Value (number n)))

abbrev case_group : (line : ℕ) → Label → List Statement → Group
case_group line l body = roll-Group (record { place = at line 1; labels = l ∷ []; body = body })

-- `switch (x) { case 1: x = 7; case 2: x = 8; break; default: x = 9; }`
abbrev switching : Statement
switching =
    statement.Switch (at 1 1) (Read (object 1 (codes "x")))
    (case_group 2 (label.Case (at 2 1) (number (codes "1"))) (set_x 2 (codes "7") ∷ [])
    ∷ case_group 3 (label.Case (at 3 1) (number (codes "2"))) (set_x 3 (codes "8") ∷ statement.Break (at 3 9) ∷ [])
    ∷ case_group 4 (label.Default (at 4 1)) (set_x 4 (codes "9") ∷ [])
    ∷ [])

one_falls_through : c_after (given 0 []) no_calls here switching (state 1 0) []
    ≡ Goes Next (state 8 0) (record { events = set 2 0 7 ∷ set 3 0 8 ∷ []; widths = [] }) []
unfolding hidden-the_row-Group-3 hidden-the_row-Statement-2 hidden-the_row-Expression-0 hidden
one_falls_through = refl

five_is_default : c_after (given 0 []) no_calls here switching (state 5 0) []
    ≡ Goes Next (state 9 0) (record { events = set 4 0 9 ∷ []; widths = [] }) []
unfolding hidden-the_row-Group-3 hidden-the_row-Statement-2 hidden-the_row-Expression-0 hidden
five_is_default = refl

-- `x = 1 << x;` breaks at its `<<` where x is 32
a_shift_breaks : c_after (given 0 []) no_calls here
    (statement.Simple (simple.Assign (object 3 (codes "x")) (initializer.Value (of (number (codes "1")) b.ShiftLeft (Read (object 3 (codes "x")))))))
    (state 32 0) []
    ≡ Stops (Broken kind.Shift (at 3 9)) (record { events = []; widths = [] }) []
unfolding hidden-the_row-Statement-2 hidden-the_row-Expression-0 hidden
a_shift_breaks = refl

-- `int f(int y) { return y; }`
abbrev identity : CFunction
identity = record {
  place = at 8 5;
  is_main = false;
  result = Some int;
  params = int ∷ [];
  scopes = ((codes "y", entry.Object (record { slot = Automatic 1; ty = int; length = 0; constant = false })) ∷ []) ∷ names;
  first = 1;
  body = Some (block_item.Statement (statement.Return (at 8 16) (Some (initializer.Value (Read (object 8 (codes "y")))))) ∷ []);
}

-- `x = f(7);`
abbrev calling : Statement
calling =
    statement.Simple (simple.Assign (object 4 (codes "x")) (initializer.Called (record { name = name 4 (codes "f"); arguments = number (codes "7") ∷ [] })))

-- the caller's objects are back behind the call, with what it returned
abbrev back : JointState
back = record {
  store = (state 7 0).store;
  view = (state 7 0).view;
  edges = 0;
  returned = pos 7;
}

a_call_returns : c_after (given 1 (identity ∷ [])) (calls_at (given 1 (identity ∷ [])) 1 []) here calling (state 5 0) []
    ≡ Goes Next back (record { events = set 4 1 7 ∷ set 4 0 7 ∷ []; widths = [] }) []
unfolding hidden-the_row-Statement-2 hidden-the_row-Expression-0 hidden
a_call_returns = refl

-- under a limit of 0 activations the call breaks the property of the function
a_call_breaks : c_after (given 0 (identity ∷ [])) (calls_at (given 0 (identity ∷ [])) 1 []) here calling (state 5 0) []
    ≡ Stops (Broken kind.Recursion (at 8 5)) (record { events = []; widths = [] }) []
unfolding hidden-the_row-Statement-2 hidden-the_row-Expression-0 hidden
a_call_breaks = refl

-- `int a[2];` draws one element after another
abbrev array_state : (first second : ℕ) → JointState
array_state m n = record {
  store = record { globals = []; locals = (pos 0 ∷ []) ∷ (pos m ∷ pos n ∷ []) ∷ []; members = [] };
  view = record { registers = []; inputs = []; wires = [] };
  edges = 0;
  returned = pos 0;
}

abbrev element : (i n : ℕ) → Event
element i n = Stored 5 (Automatic 1) (Some i) (pos n)

elements_are_drawn : after_declarator (given 0 []) no_calls int here (declarator.Array (name 5 (codes "a")) (number (codes "2"))) (array_state 0 0) (3 ∷ 4 ∷ 5 ∷ [])
    ≡ Goes Next (array_state 3 4) (record { events = element 0 3 ∷ element 1 4 ∷ []; widths = 32 ∷ 32 ∷ [] }) (5 ∷ [])
unfolding hidden-the_row-Expression-0 hidden
elements_are_drawn = refl
