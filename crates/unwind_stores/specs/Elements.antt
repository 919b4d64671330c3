-- The test of an index, a read, and a write through an index, place by place.
use Rattle.std.specs.Prelude.{◌≡◌, ℕ, false, nat_eq, bit_and, Option, Some, List, slice_get}
use Rattle.bits_core.specs.Word.{bit}
use Rattle.word_eqs.specs.declared.term.TermId.{TermId}
use Rattle.word_eqs.specs.Meaning.{Values, Respects}
use Rattle.joint_ir.specs.declared.ctype.IntType.{IntType}
use Rattle.joint_ir.specs.declared.expr.Slot.{Slot}
use Rattle.joint_ir.specs.declared.program.CProgram.{CProgram}
use Rattle.joint_ir.specs.declared.program.PropId.{PropId}
use Rattle.joint_ir.specs.Steps.{is_within, slot_type}
use Rattle.joint_ir.specs.WellFormed.{is_bound}
use Rattle.sized_terms.specs.declared.SizedTerm.{SizedTerm}
use Rattle.sized_terms.specs.Sized.{Has, bits}
use Rattle.checked_terms.specs.Checked.{stands, check_of}
use Rattle.unrolled.specs.declared.Objects.{Objects}
use Rattle.unrolled.specs.declared.Unrolled.{Unrolled}
use Rattle.unwind_state.specs.declared.state.Guard.{Guard}
use Rattle.unwind_state.specs.Guards.{Adds, bit_at}
use Rattle.unwind_state.specs.Writing.{HasObjects, IsThere, IsPut, sized}
use Rattle.unwind_stores.specs.Stores.{IsTested}

-- an index was tested: it names one of so many elements, or the property breaks
pub record IsBounded (old new : Unrolled) (bounds : Option PropId) (index : SizedTerm) (from : IntType) (count : ℕ) (g : Guard) : Type 0 where
  pub between : Unrolled
  pub test : SizedTerm
  pub adds : Adds old between
  pub is : (v : Values) → Respects v between.terms → bits v test ≡ bit (is_within count (stands from v index))
  pub tested : IsTested between new g (check_of bounds test)

-- a term of w bits that stands for the element at an index; where there is no such element nothing is said
pub record IsReadAt (old new : Unrolled) (elements : List TermId) (w : ℕ) (index t : SizedTerm) : Type 0 where
  pub adds : Adds old new
  pub has : Has new.terms t
  pub width : t.width ≡ w
  pub is : (v : Values) → Respects v new.terms → (x : TermId) → slice_get elements (bits v index) ≡ Some x → bits v t ≡ bits v (sized x w)

-- a value of the type of an object that there is and that can be stored to
pub record MayPutAt (n : Unrolled) (o : Objects) (slot : Slot) (value : SizedTerm) : Type 0 where
  pub program : CProgram
  pub stored : is_bound slot ≡ false
  pub there : IsThere program slot
  pub width : value.width ≡ (slot_type program slot).bits
  pub objects : HasObjects program n.terms o

-- the element at a place took a value where the guard is 1 and the index names the place
pub record IsPlacePut (n0 n1 : Unrolled) (o0 o1 : Objects) (slot : Slot) (place : ℕ) (index value : SizedTerm) (g : Guard) : Type 0 where
  pub between : Unrolled
  pub under : Guard
  pub adds : Adds n0 between
  pub is : (v : Values) → Respects v between.terms → bit_at v under ≡ bit_and (bit_at v g) (bit (nat_eq (bits v index) place))
  pub put : IsPut between n1 o0 o1 slot place value under
