-- The words of an unwinding's state in a valuation, and the state of a run that they stand for.
use Rattle.std.specs.Prelude.{◌≡◌, ℕ, ℤ, List, [], map, length, slice_index_or, Contains, Option, Some, None}
use Rattle.bits_core.specs.Word.{number}
use Rattle.word_eqs.specs.declared.term.TermId.{TermId}
use Rattle.word_eqs.specs.Meaning.{Values}
use Rattle.joint_ir.specs.declared.ctype.IntType.{IntType}
use Rattle.joint_ir.specs.declared.expr.Slot.TheVariants.{Global, Local, Member}
use Rattle.joint_ir.specs.declared.pair.Pair.{Pair}
use Rattle.joint_ir.specs.declared.way.Way.{Way}
use Rattle.joint_ir.specs.declared.way.Way.TheVariants.{Next, Breaking, Continuing, Returning}
use Rattle.joint_ir.specs.States.{JointState, row_at}
use Rattle.joint_ir.specs.Steps.{slot_type}
use Rattle.joint_ir.specs.Views.{settled_wires}
use Rattle.sized_terms.specs.Sized.{bits}
use Rattle.unwind_state.specs.declared.state.State.{State}

-- a record of a state's shape, with numbers for terms
pub record Image : Type 0 where
  pub globals : List (List ℕ)
  pub locals : List (List ℕ)
  pub members : List (List ℕ)
  pub registers : List ℕ
  pub inputs : List ℕ
  pub unknown : List ℕ
  pub wires : List ℕ
  pub edges : ℕ
  pub result : ℕ

-- the numbers of terms
abbrev pub words : Values → List TermId → List ℕ
words v ids = map (λ (t : TermId). (v.term t.0).value) ids

-- the words of a state in a valuation
abbrev pub look : Values → State → Image
look v u = record {
  globals = map (words v) u.objects.globals.items;
  locals = map (words v) u.objects.locals.items;
  members = map (words v) u.objects.members.items;
  registers = words v u.registers;
  inputs = words v u.inputs;
  unknown = words v u.unknown;
  wires = words v u.wires;
  edges = bits v u.edges;
  result = bits v u.result;
}

-- the numbers of a type that words stand for
abbrev pub numbers : IntType → List ℕ → List ℤ
numbers t ns = map (number t.signed t.bits) ns

-- the words of the elements of the object at a place
abbrev pub words_at : List (List ℕ) → ℕ → List ℕ
words_at rows i = slice_index_or rows i []

-- Words stand for a run's state: of the locals, those that are declared at this place have their values; the others have
-- as many elements.
pub record IsState (p : Pair) (visible : List ℕ) (x : Image) (s : JointState) : Type 0 where
  pub globals : (i : ℕ) → numbers (slot_type p.program (Global i)) (words_at x.globals i) ≡ row_at s.store.globals i
  pub locals : (i : ℕ) → Contains visible i → numbers (slot_type p.program (Local i)) (words_at x.locals i) ≡ row_at s.store.locals i
  pub members : (i : ℕ) → numbers (slot_type p.program (Member i)) (words_at x.members i) ≡ row_at s.store.members i
  pub global_count : length x.globals ≡ length s.store.globals
  pub local_count : length x.locals ≡ length s.store.locals
  pub member_count : length x.members ≡ length s.store.members
  pub local_lengths : (i : ℕ) → length (words_at x.locals i) ≡ length (row_at s.store.locals i)
  pub registers : x.registers ≡ s.view.registers
  pub inputs : x.inputs ≡ s.view.inputs
  pub wires : x.wires ≡ s.view.wires
  pub edges : x.edges ≡ s.edges

-- the wires are settled, in each valuation, whether a path is live or not
abbrev pub IsSettled : Pair → Image → Type 0
IsSettled p x = x.wires ≡ settled_wires p.module x.registers x.inputs x.unknown

-- behind a `return`, the result's term stands for what was returned
abbrev pub HasReturned : Option IntType → Way → Image → JointState → Type 0
HasReturned None way x s = Unit {0}
HasReturned (Some t) Next x s = Unit {0}
HasReturned (Some t) Breaking x s = Unit {0}
HasReturned (Some t) Continuing x s = Unit {0}
HasReturned (Some t) Returning x s = s.returned ≡ number t.signed t.bits x.result

-- behind a statement: the words stand for the state, and for what was returned
pub record IsBehind (p : Pair) (visible : List ℕ) (result : Option IntType) (way : Way) (x : Image) (s : JointState) : Type 0 where
  pub state : IsState p visible x s
  pub returned : HasReturned result way x s
