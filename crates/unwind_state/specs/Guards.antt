-- Guards, and the guards of the ways on.
use Rattle.std.specs.Prelude.{◌≡◌, ℕ, Bool, not, bit_or, bit_and}
use Rattle.bits_core.specs.Word.{bit}
use Rattle.word_eqs.specs.Graph.{Graph, IsGraph}
use Rattle.word_eqs.specs.Meaning.{Values, Respects}
use Rattle.joint_ir.specs.declared.way.Way.{Way}
use Rattle.joint_ir.specs.declared.way.Way.TheVariants.{Next, Breaking, Continuing, Returning}
use Rattle.sized_terms.specs.declared.SizedTerm.{SizedTerm}
use Rattle.sized_terms.specs.Sized.{Has, Builds, bits}
use Rattle.unrolled.specs.declared.Unrolled.{Unrolled}
use Rattle.unwind_state.specs.declared.state.Guard.{Guard}
use Rattle.unwind_state.specs.declared.state.Guard.TheVariants.{Never, Always, When}
use Rattle.unwind_state.specs.declared.state.Flow.{Flow}
use Rattle.unwind_state.specs.declared.state.Sides.{Sides}

-- 1 where a path is live, and else 0
abbrev pub bit_at : Values → Guard → ℕ
bit_at v Never = 0
bit_at v Always = 1
bit_at v (When t) = bits v t

-- the term of a guard is there, and has one bit
abbrev pub HasGuard : Graph → Guard → Type 0
HasGuard g Never = Unit {0}
HasGuard g Always = Unit {0}
HasGuard g (When t) = Has g t × (t.width ≡ 1)

-- the guard of a way
abbrev pub guard_for : Flow → Way → Guard
guard_for f Next = f.next
guard_for f Breaking = f.breaking
guard_for f Continuing = f.continuing
guard_for f Returning = f.returning

-- the bits of the ways
abbrev pub bits_of : Values → Flow → Way → ℕ
bits_of v f way = bit_at v (guard_for f way)

-- the guards of all ways are there
abbrev pub HasFlow : Graph → Flow → Type 0
HasFlow g f = (way : Way) → HasGuard g (guard_for f way)

-- one way on under a guard
abbrev pub flow_at : Way → Guard → Flow
flow_at Next g = record { next = g; breaking = Never; continuing = Never; returning = Never }
flow_at Breaking g = record { next = Never; breaking = g; continuing = Never; returning = Never }
flow_at Continuing g = record { next = Never; breaking = Never; continuing = g; returning = Never }
flow_at Returning g = record { next = Never; breaking = Never; continuing = Never; returning = g }

-- terms alone were added
pub record Adds (old new : Unrolled) : Type 0 where
  pub grown : (v : Values) → Respects v new.terms → Respects v old.terms
  pub kept : (x : SizedTerm) → Has old.terms x → Has new.terms x
  pub proper : IsGraph new.terms
  pub list : new.list ≡ old.list

-- a guard that has this bit in each valuation
pub record IsGuard (old new : Unrolled) (r : Guard) (number : Values → ℕ) : Type 0 where
  pub adds : Adds old new
  pub has : HasGuard new.terms r
  pub value : (v : Values) → Respects v new.terms → bit_at v r ≡ number v

-- the bits behind two stretches, the second under the first's guard of Next
abbrev pub merge_of : Way → ℕ → ℕ → ℕ
merge_of Next x y = y
merge_of Breaking x y = bit_or x y
merge_of Continuing x y = bit_or x y
merge_of Returning x y = bit_or x y

-- the guards of the ways on, by the bits that they have
pub record IsFlow (old new : Unrolled) (f : Flow) (numbers : Values → Way → ℕ) : Type 0 where
  pub adds : Adds old new
  pub has : HasFlow new.terms f
  pub ways : (v : Values) → Respects v new.terms → (way : Way) → bits_of v f way ≡ numbers v way

-- behind a loop's body: `continue` goes on with the loop
abbrev pub turned_of : (Way → ℕ) → Way → ℕ
turned_of guards Next = bit_or (guards Next) (guards Continuing)
turned_of guards Breaking = guards Breaking
turned_of guards Continuing = 0
turned_of guards Returning = guards Returning

-- behind a loop: `break` goes on behind it
abbrev pub gathered_of : (Way → ℕ) → Way → ℕ
gathered_of guards Next = bit_or (bit_or (guards Next) (guards Breaking)) (guards Continuing)
gathered_of guards Breaking = 0
gathered_of guards Continuing = 0
gathered_of guards Returning = guards Returning

-- a guard where a bit is 1, and one where it is 0
pub record AreSides (old new : Unrolled) (set : SizedTerm) (g : Guard) (r : Sides) : Type 0 where
  pub adds : Adds old new
  pub has_taken : HasGuard new.terms r.taken
  pub has_other : HasGuard new.terms r.other
  pub taken : (v : Values) → Respects v new.terms → (b : Bool) → bits v set ≡ bit b → bit_at v r.taken ≡ bit_and (bit_at v g) (bit b)
  pub other : (v : Values) → Respects v new.terms → (b : Bool) → bits v set ≡ bit b → bit_at v r.other ≡ bit_and (bit_at v g) (bit (not b))
