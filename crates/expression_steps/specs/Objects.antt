-- The terms of objects, and the rows that they stand for.
use Rattle.std.specs.Prelude.{◌≡◌, ℕ, ◌*◌, ◌<◌, ℤ, pos, List, [], ◌∷◌, map, length, Some, slice_get, slice_index_or, false}
use Rattle.bits_core.specs.Word.{number}
use Rattle.word_eqs.specs.declared.term.TermId.{TermId}
use Rattle.word_eqs.specs.Graph.{Graph}
use Rattle.word_eqs.specs.Meaning.{Values}
use Rattle.joint_ir.specs.declared.expr.Slot.{Slot}
use Rattle.joint_ir.specs.declared.expr.Slot.TheVariants.{Global, Local, Member, BoundValue}
use Rattle.joint_ir.specs.declared.expr.TExpr.{TExpr}
use Rattle.joint_ir.specs.States.{element_count}
use Rattle.joint_ir.specs.Steps.{slot_type}
use Rattle.joint_ir.specs.Values.{Rows, value_of}
use Rattle.joint_ir.specs.Weights.{expr_weight, slot_length}
use Rattle.joint_ir.specs.WellFormed.{Scope, IsVisible, FitsExpr, is_bound}
use Rattle.sized_terms.specs.declared.SizedTerm.{SizedTerm}
use Rattle.sized_terms.specs.Sized.{Has}
use Rattle.element_terms.specs.Elements.{sized}
use Rattle.unrolled.specs.declared.Objects.{Objects as Terms}
use Rattle.unrolled.specs.Elements.{terms_of}
use Rattle.unrolled.specs.declared.Unrolled.{Unrolled}
use Rattle.expression_steps.specs.Asking.{Asks}

-- each object that is visible has as many terms as elements, of its type's width
pub record AreObjects (c : Scope) (g : Graph) (o : Terms) : Type 0 where
  pub count : (slot : Slot) → IsVisible c slot → is_bound slot ≡ false → length (terms_of o slot) ≡ element_count (slot_length c.program slot)
  pub has : (slot : Slot) → IsVisible c slot → (k : ℕ) (t : TermId) → slice_get (terms_of o slot) k ≡ Some t → Has g (sized t (slot_type c.program slot).bits)

-- the numbers of terms
abbrev pub numbers_of : (signed_bits : ℕ → ℤ) → Values → List TermId → List ℤ
numbers_of read v ids = map (λ (t : TermId). read (v.term t.0).value) ids

-- in a valuation the terms of what is visible stand for rows
pub record StandFor (c : Scope) (frames : ℕ) (o : Terms) (v : Values) (rows : Rows) : Type 0 where
  pub objects : (slot : Slot) → IsVisible c slot → is_bound slot ≡ false → numbers_of (number (slot_type c.program slot).signed (slot_type c.program slot).bits) v (terms_of o slot) ≡ rows slot
  pub bound : rows BoundValue ≡ pos frames ∷ []

-- an expression that fits somewhere, over objects that have terms, and a guard of one bit
pub record IsReady (g : Graph) (o : Terms) (e : TExpr) (guard : SizedTerm) : Type 0 where
  pub scope : Scope
  pub fits : FitsExpr scope e
  pub objects : AreObjects scope g o
  pub there : Has g guard
  pub bit : guard.width ≡ 1

-- terms and steps that ask for the value of an expression, wherever it fits
abbrev pub AsksFor : (old new : Unrolled) → Terms → (frames : ℕ) → TExpr → (guard t : SizedTerm) → Type 0
AsksFor old new o frames e guard t = (c : Scope) → FitsExpr c e → AreObjects c old.terms o → Has old.terms guard →
    Asks Rows old new e.ty (8 * expr_weight c.program e) guard t (StandFor c frames o) (λ v rows. value_of rows e)
