-- What updates and declarations need, and what their parts promise.
use Rattle.std.specs.Prelude.{◌≡◌, List, [], ◌++◌, ℤ, Option, Some, None}
use Rattle.word_eqs.specs.declared.list.Act.TheVariants.{Prop}
use Rattle.word_eqs.specs.declared.list.Step.{Step}
use Rattle.word_eqs.specs.Meaning.{Values, Respects}
use Rattle.joint_ir.specs.declared.ctype.IntType.{IntType}
use Rattle.joint_ir.specs.declared.stmt.TTarget.{TTarget}
use Rattle.joint_ir.specs.declared.stmt.TUpdate.{TUpdate}
use Rattle.joint_ir.specs.Steps.{rows_in, right_value}
use Rattle.joint_ir.specs.Types.{converted}
use Rattle.joint_ir.specs.Values.{Answer, Value, and_then, binary_value}
use Rattle.joint_ir.specs.WellFormed.{Scope, FitsTarget, FitsUpdate, right_type}
use Rattle.sized_terms.specs.declared.SizedTerm.{SizedTerm}
use Rattle.sized_terms.specs.Sized.{Has, bits}
use Rattle.checked_terms.specs.declared.Check.{Check}
use Rattle.checked_terms.specs.Checked.{stands}
use Rattle.unrolled.specs.declared.Unrolled.{Unrolled}
use Rattle.trails.specs.Trails.{Through, trail}
use Rattle.unwind_state.specs.declared.state.Guard.{Guard}
use Rattle.unwind_state.specs.declared.state.State.{State}
use Rattle.unwind_state.specs.Guards.{Adds, bit_at}
use Rattle.unwind_state.specs.Images.{IsState, IsSettled}
use Rattle.unwind_state.specs.Unwinding.{Grows, Gives, Asks, IsPushed}
use Rattle.unwind_simple.specs.declared.simple.Activation.{Activation}
use Rattle.unwind_simple.specs.Simple.{is_in, setting_of}

-- an update and what it updates
pub record FitsBoth (target : TTarget) (u : TUpdate) (c : Scope) : Type 0 where
  pub target_fits : FitsTarget c target
  pub update_fits : FitsUpdate c u

-- an update that fits in some program
pub record IsUpdate (u : TUpdate) : Type 0 where
  pub scope : Scope
  pub fits : FitsUpdate scope u

-- what an update of an object of type t makes of its old value and the right operand (C99 6.5.16.2)
abbrev pub updated : IntType → TUpdate → (old right : ℤ) → Answer
updated t u x y = and_then (binary_value u.op u.ty u.division u.other (converted u.ty x) y) (λ n. Value (converted t n))

-- a term of a type that has this number in each valuation
pub record IsNumber (old new : Unrolled) (ty : IntType) (t : SizedTerm) (number_of : Values → ℤ) : Type 0 where
  pub adds : Adds old new
  pub has : Has new.terms t
  pub width : t.width ≡ ty.bits
  pub value : (v : Values) → Respects v new.terms → stands ty v t ≡ number_of v

-- a check stands in the list, if there is one
abbrev pub IsTested : (old new : Unrolled) → Guard → Option Check → Type 0
IsTested old new g None = new ≡ old
IsTested old new g (Some c) = IsPushed old new g (Prop c.prop.0 c.test.term)

-- checks under a guard, and the term of an answer that hangs on terms alone
pub record IsAnswered (old new : Unrolled) (ty : IntType) (g : Guard) (x : SizedTerm) (answer : Values → Answer) : Type 0 where
  pub grows : Grows old.terms new.terms
  pub has : Has new.terms x
  pub width : x.width ≡ ty.bits
  pub more : List Step
  pub list : new.list ≡ old.list ++ more
  pub idle : (v : Values) → Respects v new.terms → bit_at v g ≡ 0 → trail v more ≡ Through []
  pub live : (v : Values) → Respects v new.terms → bit_at v g ≡ 1 → Gives ty (answer v) (trail v more) (bits v x)

-- the term of an update's right operand, wherever the update fits
pub record IsRight (a : Activation) (n0 n1 : Unrolled) (s : State) (u : TUpdate) (g : Guard) (t : SizedTerm) : Type 0 where
  pub grows : Grows n0.terms n1.terms
  pub has : Has n1.terms t
  pub width : t.width ≡ (right_type u.ty u.right).bits
  pub asks : (c : Scope) → is_in a c → FitsUpdate c u → Asks (IsSettled a.pair.now) n0 n1 s (right_type u.ty u.right) (λ x. right_value (rows_in (setting_of a) x) u.right) g t (IsState a.pair.now c.locals)
