-- Writes of objects: what becomes of the terms, of their words, and of the numbers that these stand for.
use Rattle.std.specs.Prelude.{◌≡◌, ℕ, ◌<◌, List, [], ◌∷◌, length, slice_get, slice_set, slice_index_or, Option, Some, None, IsSome, Contains}
use Rattle.bits_core.specs.Word.{number, at_zero}
use Rattle.word_eqs.specs.declared.term.TermId.{TermId}
use Rattle.word_eqs.specs.Graph.{Graph}
use Rattle.word_eqs.specs.Meaning.{Values, Respects}
use Rattle.joint_ir.specs.declared.ctype.IntType.{IntType}
use Rattle.joint_ir.specs.declared.expr.Slot.{Slot}
use Rattle.joint_ir.specs.declared.expr.Slot.TheVariants.{Global, Local, Member, BoundValue}
use Rattle.joint_ir.specs.declared.pair.Pair.{Pair}
use Rattle.joint_ir.specs.declared.program.CProgram.{CProgram}
use Rattle.joint_ir.specs.declared.program.Member.{Member as AMember}
use Rattle.joint_ir.specs.States.{JointState, element_count, put}
use Rattle.joint_ir.specs.Steps.{slot_type, with_store}
use Rattle.joint_ir.specs.Types.{IsType}
use Rattle.joint_ir.specs.Views.{members_of}
use Rattle.joint_ir.specs.Weights.{slot_length}
use Rattle.sized_terms.specs.declared.SizedTerm.{SizedTerm}
use Rattle.sized_terms.specs.Sized.{Has, bits}
use Rattle.unrolled.specs.declared.Objects.{Objects}
use Rattle.unrolled.specs.declared.Unrolled.{Unrolled}
use Rattle.unrolled.specs.Elements.{terms_of, IsSet}
use Rattle.unwind_state.specs.declared.state.Guard.{Guard}
use Rattle.unwind_state.specs.declared.state.State.{State}
use Rattle.unwind_state.specs.Guards.{Adds, bit_at}
use Rattle.unwind_state.specs.Images.{Image, words, words_at, look, IsState, IsSettled}
use Rattle.unwind_state.specs.Unwinding.{Changes}

-- a term with its width
abbrev pub sized : TermId → ℕ → SizedTerm
sized t w = record { term = t; width = w }

-- a term of w bits that has this number in each valuation
pub record IsChosen (old new : Unrolled) (w : ℕ) (t : SizedTerm) (number_of : Values → ℕ) : Type 0 where
  pub adds : Adds old new
  pub has : Has new.terms t
  pub width : t.width ≡ w
  pub value : (v : Values) → Respects v new.terms → bits v t ≡ number_of v

-- an element of an object took a value where the guard is 1
pub record IsPut (n0 n1 : Unrolled) (o0 o1 : Objects) (slot : Slot) (element : ℕ) (value : SizedTerm) (g : Guard) : Type 0 where
  pub adds : Adds n0 n1
  pub term : TermId
  pub has : Has n1.terms (sized term value.width)
  pub set : IsSet o0 o1 slot element term
  pub is : (v : Values) → Respects v n1.terms → (v.term term.0).value ≡ at_zero (bit_at v g) (slice_index_or (words v (terms_of o0 slot)) element 0) (bits v value)

-- an object that there is, and that can be stored to
abbrev pub IsThere : CProgram → Slot → Type 0
IsThere p (Global i) = i < length p.globals
IsThere p (Local i) = i < length p.locals
IsThere p (Member i) = (m : AMember) × (slice_get (members_of p.mirror) i ≡ Some m) × IsSome m.ty
IsThere p BoundValue = ⊥

-- each object has as many terms as elements, of its type's width, whether it is declared at this place or not
pub record HasObjects (p : CProgram) (g : Graph) (o : Objects) : Type 0 where
  pub count : (slot : Slot) → IsThere p slot → length (terms_of o slot) ≡ element_count (slot_length p slot)
  pub has : (slot : Slot) → IsThere p slot → (k : ℕ) (t : TermId) → slice_get (terms_of o slot) k ≡ Some t → Has g (sized t (slot_type p slot).bits)

-- each object that there is has a type
abbrev pub HasTypes : CProgram → Type 0
HasTypes p = (slot : Slot) → IsThere p slot → IsType (slot_type p slot)

-- the term of what an activation returns has its type's width, if its function has a result
abbrev pub HasResult : Option IntType → Graph → SizedTerm → Type 0
HasResult None g x = Unit {0}
HasResult (Some t) g x = Has g x × (x.width ≡ t.bits)

-- words of rows with one element of one row set
abbrev pub words_put : List (List ℕ) → (row element : ℕ) → ℕ → List (List ℕ)
words_put xs i j n = slice_set xs i (slice_set (words_at xs i) j n)

-- an image with one element of one object set
abbrev pub image_put : Image → Slot → (element : ℕ) → ℕ → Image
image_put x (Global i) j n = record { globals = words_put x.globals i j n; locals = x.locals; members = x.members; registers = x.registers; inputs = x.inputs; unknown = x.unknown; wires = x.wires; edges = x.edges; result = x.result }
image_put x (Local i) j n = record { globals = x.globals; locals = words_put x.locals i j n; members = x.members; registers = x.registers; inputs = x.inputs; unknown = x.unknown; wires = x.wires; edges = x.edges; result = x.result }
image_put x (Member i) j n = record { globals = x.globals; locals = x.locals; members = words_put x.members i j n; registers = x.registers; inputs = x.inputs; unknown = x.unknown; wires = x.wires; edges = x.edges; result = x.result }
image_put x BoundValue j n = x

-- an image with one element of one object set where a bit is 1
abbrev pub image_put_if : (bit : ℕ) → Image → Slot → (element : ℕ) → ℕ → Image
image_put_if b x slot j n = at_zero b x (image_put x slot j n)

-- a state with other objects
abbrev pub with_objects : State → Objects → State
with_objects s o = record { objects = o; registers = s.registers; inputs = s.inputs; unknown = s.unknown; wires = s.wires; edges = s.edges; result = s.result }

-- Where a bit is 1 the element of an object at an index, which is a term, took a value; past the end there is none.
pub record IsPutAt (n0 n1 : Unrolled) (o0 o1 : Objects) (slot : Slot) (index value : SizedTerm) (where_bit : Values → ℕ) : Type 0 where
  pub adds : Adds n0 n1
  pub objects : (p : CProgram) → value.width ≡ (slot_type p slot).bits → HasObjects p n0.terms o0 → HasObjects p n1.terms o1
  pub image : (s : State) (v : Values) → Respects v n1.terms → look v (with_objects s o1) ≡ image_put_if (where_bit v) (look v (with_objects s o0)) slot (bits v index) (bits v value)

-- an object's row is that of a declared object
abbrev pub IsDeclared : List ℕ → Slot → Type 0
IsDeclared visible (Global i) = Unit {0}
IsDeclared visible (Local i) = Contains visible i
IsDeclared visible (Member i) = Unit {0}
IsDeclared visible BoundValue = Unit {0}
