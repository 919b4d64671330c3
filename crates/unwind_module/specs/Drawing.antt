-- Words that are drawn one after the other under a guard.
use Rattle.std.specs.Prelude.{◌≡◌, ℕ, List, [], ◌++◌, Option, Some, None}
use Rattle.bits_core.specs.Word.{Word}
use Rattle.word_eqs.specs.declared.list.Step.{Step}
use Rattle.word_eqs.specs.declared.term.TermId.{TermId}
use Rattle.word_eqs.specs.Meaning.{Values, Respects}
use Rattle.joint_ir.specs.Effects.{Effect, Told, preceded}
use Rattle.joint_ir.specs.WellFormed.{AreTerms}
use Rattle.sized_terms.specs.declared.SizedTerm.{SizedTerm}
use Rattle.unrolled.specs.declared.Unrolled.{Unrolled}
use Rattle.trails.specs.Trails.{Through, values_of, widths_of, trail}
use Rattle.unwind_state.specs.declared.state.Guard.{Guard}
use Rattle.unwind_state.specs.declared.state.Guard.TheVariants.{Always}
use Rattle.unwind_state.specs.Guards.{bit_at}
use Rattle.unwind_state.specs.Images.{words}
use Rattle.unwind_state.specs.Unwinding.{Grows, IsDrawn}
use Rattle.unwind_state.specs.Writing.{IsChosen}

-- what goes on from numbers that are drawn and the choices that are left
abbrev pub Onwards : Type 0
Onwards = List ℕ → List ℕ → Effect

-- numbers of these widths are drawn
abbrev pub drew_all : List ℕ → Told
drew_all widths = record { events = []; widths = widths }

-- Words of given widths were drawn under a guard. Where it is 0 the new steps do nothing; where it is 1 the run draws just the
-- words that they read, and goes on with the numbers of the terms.
pub record AreDrawn (old new : Unrolled) (g : Guard) (drawing : List ℕ → Onwards → Effect) (widths : List ℕ) (ids : List TermId) : Type 0 where
  pub grows : Grows old.terms new.terms
  pub more : List Step
  pub list : new.list ≡ old.list ++ more
  pub terms : AreTerms new.terms ids widths
  pub idle : (v : Values) → Respects v new.terms → bit_at v g ≡ 0 → trail v more ≡ Through []
  pub reads : Values → List Word
  pub through : (v : Values) → Respects v new.terms → bit_at v g ≡ 1 → trail v more ≡ Through (reads v)
  pub draws : (v : Values) → Respects v new.terms → (rest : List ℕ) (go : Onwards) → drawing (values_of (reads v) ++ rest) go ≡ preceded (drew_all (widths_of (reads v))) (go (words v ids) rest)

-- a register's word as a run begins: its first value, or a draw
abbrev pub IsFirst : (old new : Unrolled) → Option ℕ → (width : ℕ) → SizedTerm → Type 0
IsFirst old new None w t = IsDrawn old new w Always t
IsFirst old new (Some n) w t = IsChosen old new w t (λ v. n)
