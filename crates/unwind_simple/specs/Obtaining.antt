-- What coming to a value promises: an expression's, any number, or a call's result.
use Rattle.std.specs.Prelude.{◌≡◌, ℕ, List, [], ◌++◌, Some, None, true, ℤ, slice_get}
use Rattle.bits_core.specs.Word.{Word, number}
use Rattle.word_eqs.specs.declared.list.Step.{Step}
use Rattle.word_eqs.specs.Meaning.{Values, Respects}
use Rattle.joint_ir.specs.declared.ctype.IntType.{IntType}
use Rattle.joint_ir.specs.declared.program.Function.{Function}
use Rattle.joint_ir.specs.declared.stmt.TCall.{TCall}
use Rattle.joint_ir.specs.declared.stmt.TInit.{TInit}
use Rattle.joint_ir.specs.Effects.{Effect, Told, Onward, preceded}
use Rattle.joint_ir.specs.States.{JointState}
use Rattle.joint_ir.specs.Steps.{with_init}
use Rattle.joint_ir.specs.WellFormed.{Scope, FitsInit}
use Rattle.sized_terms.specs.declared.SizedTerm.{SizedTerm}
use Rattle.sized_terms.specs.Sized.{Has, bits}
use Rattle.unrolled.specs.declared.Unrolled.{Unrolled}
use Rattle.trails.specs.Following.{EndsAt}
use Rattle.trails.specs.Trails.{Trail, Through, Halts, values_of, widths_of, trail}
use Rattle.unwind_state.specs.declared.state.Guard.{Guard}
use Rattle.unwind_state.specs.declared.state.State.{State}
use Rattle.unwind_state.specs.Guards.{bit_at}
use Rattle.unwind_state.specs.Images.{Image, look, IsState, IsSettled}
use Rattle.unwind_state.specs.Unwinding.{Grows}
use Rattle.unwind_simple.specs.declared.simple.Activation.{Activation}
use Rattle.unwind_simple.specs.Simple.{setting_of, calls_in, is_in}

-- how a run comes to a number, and what goes on with it
abbrev pub Valuing : Type 0
Valuing = JointState → List ℕ → (go : ℤ → Onward) → Effect

-- the run draws just the words read, each at its width, and goes on with a number, in a state of which something holds
pub record GoesWith (run : List ℕ → (ℤ → Onward) → Effect) (reads : List Word) (n : ℤ) (holds : JointState → Type 0) : Type 0 where
  pub state : JointState
  pub told : Told
  pub held : holds state
  pub widths : told.widths ≡ widths_of reads
  pub runs : (go : ℤ → Onward) (rest : List ℕ) → run (values_of reads ++ rest) go ≡ preceded told (go n state rest)

-- On the choices that a list reads the run comes to a number, or ends as the list does, whatever would have gone on.
abbrev pub ComesTo : (run : List ℕ → (ℤ → Onward) → Effect) → Trail → ℤ → (holds : JointState → Type 0) → Type 0
ComesTo run (Through reads) n holds = GoesWith run reads n holds
ComesTo run (Halts reads stop) n holds = (go : ℤ → Onward) → EndsAt (λ c. run c go) reads stop

-- What was pushed comes to a number of a type where the guard is 1, and the term stands for it; the terms of the state are as
-- they were. `holds` relates its words to the run's state, before and behind.
pub record Obtains (fixed : Image → Type 0) (old new : Unrolled) (at : State) (t : IntType) (run : Valuing) (g : Guard) (x : SizedTerm) (holds : Image → JointState → Type 0) : Type 0 where
  pub grown : (v : Values) → Respects v new.terms → Respects v old.terms
  pub more : List Step
  pub list : new.list ≡ old.list ++ more
  pub idle : (v : Values) → Respects v new.terms → bit_at v g ≡ 0 → fixed (look v at) → trail v more ≡ Through []
  pub live : (v : Values) → Respects v new.terms → bit_at v g ≡ 1 → fixed (look v at) → (s : JointState) → holds (look v at) s →
      ComesTo (run s) (trail v more) (number t.signed t.bits (bits v x)) (holds (look v at))

-- the term of what an object of a type is set to, or of what is returned, wherever it fits
pub record IsObtained (a : Activation) (n0 n1 : Unrolled) (s : State) (ty : IntType) (init : TInit) (g : Guard) (t : SizedTerm) : Type 0 where
  pub grows : Grows n0.terms n1.terms
  pub has : Has n1.terms t
  pub width : t.width ≡ ty.bits
  pub obtains : (c : Scope) → is_in a c → FitsInit c true ty init →
      Obtains (IsSettled a.pair.now) n0 n1 s ty (λ x choices go. with_init (setting_of a) (calls_in a) ty init x choices go) g t (IsState a.pair.now c.locals)

-- a call without arguments of a function without body, which gives any number of a type
pub record IsOpen (a : Activation) (call : TCall) (ty : IntType) : Type 0 where
  pub function : Function
  pub found : slice_get a.pair.now.program.functions call.function ≡ Some function
  pub open_ : function.body ≡ None
  pub result : function.result ≡ Some ty
  pub alone : call.args ≡ []
