-- What the unwinding of a call promises (C99 6.5.2.2).
use Rattle.std.specs.Prelude.{◌≡◌, ℕ, ℤ, nat_lt, ◌&&◌, Bool, true, false, bit_or, pos, List, [], ◌++◌, Option, Some, None}
use Rattle.bits_core.specs.Word.{number}
use Rattle.word_eqs.specs.declared.list.Act.TheVariants.{Prop}
use Rattle.word_eqs.specs.declared.list.Step.{Step}
use Rattle.word_eqs.specs.Meaning.{Values, Respects}
use Rattle.joint_ir.specs.declared.ctype.IntType.{IntType}
use Rattle.joint_ir.specs.declared.program.Function.{Function}
use Rattle.joint_ir.specs.declared.stmt.TCall.{TCall}
use Rattle.joint_ir.specs.declared.stmt.TInit.TheVariants.{Called}
use Rattle.joint_ir.specs.Effects.{then_do}
use Rattle.joint_ir.specs.States.{JointState}
use Rattle.joint_ir.specs.declared.way.Way.{Way}
use Rattle.joint_ir.specs.declared.way.Way.TheVariants.{Next, Breaking, Continuing, Returning}
use Rattle.joint_ir.specs.Statements.{closing, is_below_limit, recursion_prop}
use Rattle.joint_ir.specs.Steps.{Setting, Calls, call_effect, type_or_int, returning, with_init}
use Rattle.joint_ir.specs.WellFormed.{Scope, FitsCall}
use Rattle.sized_terms.specs.declared.SizedTerm.{SizedTerm}
use Rattle.sized_terms.specs.Sized.{Has, bits}
use Rattle.unrolled.specs.declared.Unrolled.{Unrolled}
use Rattle.trails.specs.Following.{way_bit, goes, Follows}
use Rattle.trails.specs.Trails.{Through, trail}
use Rattle.unwind_state.specs.declared.state.Guard.{Guard}
use Rattle.unwind_state.specs.declared.state.State.{State}
use Rattle.unwind_state.specs.declared.state.Flow.{Flow}
use Rattle.unwind_state.specs.Guards.{Adds, bit_at, bits_of}
use Rattle.unwind_state.specs.Images.{Image, look, IsState, IsSettled, HasReturned}
use Rattle.unwind_state.specs.Unwinding.{Grows, IsDrawn, IsPushed}
use Rattle.unwind_state.specs.Writing.{HasObjects}
use Rattle.unwind_simple.specs.declared.simple.Activation.{Activation}
use Rattle.unwind_simple.specs.Simple.{is_in, setting_of, calls_in}
use Rattle.unwind_simple.specs.Obtaining.{Valuing, ComesTo}

-- What was pushed comes to a number of a type where the guard is 1, in a state that may be another one, and the term stands for
-- the number; where the guard is 0 it does nothing, and the words are as they were.
pub record Returns (fixed : Image → Type 0) (n0 n1 : Unrolled) (s0 s1 : State) (t : IntType) (run : Values → Valuing) (g : Guard) (x : SizedTerm) (before behind : Image → JointState → Type 0) : Type 0 where
  pub grown : (v : Values) → Respects v n1.terms → Respects v n0.terms
  pub more : List Step
  pub list : n1.list ≡ n0.list ++ more
  pub settled : (v : Values) → Respects v n1.terms → fixed (look v s0) → fixed (look v s1)
  pub passes : (v : Values) → Respects v n1.terms → bit_at v g ≡ 0 → fixed (look v s0) → trail v more ≡ Through []
  pub kept : (v : Values) → Respects v n1.terms → bit_at v g ≡ 0 → fixed (look v s0) → look v s1 ≡ look v s0
  pub live : (v : Values) → Respects v n1.terms → bit_at v g ≡ 1 → fixed (look v s0) → (s : JointState) → before (look v s0) s → ComesTo (run v s) (trail v more) (number t.signed t.bits (bits v x)) (behind (look v s1))

-- what a call hands on: what was returned, and 0 where the function has no result
abbrev pub handed : Option IntType → JointState → ℤ
handed None s = pos 0
handed (Some t) s = s.returned

-- a call, and what goes on with what it hands on
abbrev pub call_value : Setting → Calls → Option IntType → TCall → Valuing
call_value k calls result call s c go = then_do (call_effect k calls call s c) (λ s' rest. go (handed result s') s' rest)

-- a call of a function with this result was unwound, wherever it fits; the result of the activation around it is as it was
pub record IsCalled (a : Activation) (n0 n1 : Unrolled) (s0 s1 : State) (call : TCall) (result : Option IntType) (g : Guard) (t : SizedTerm) : Type 0 where
  pub grows : Grows n0.terms n1.terms
  pub objects : HasObjects a.pair.now.program n1.terms s1.objects
  pub outer : s1.result ≡ s0.result
  pub has : Has n1.terms t
  pub width : t.width ≡ (type_or_int result).bits
  pub returns : (c : Scope) → is_in a c → FitsCall c call → Returns (IsSettled a.pair.now) n0 n1 s0 s1 (type_or_int result) (λ v. call_value (setting_of a) (calls_in a) result call) g t (IsState a.pair.now c.locals) (IsState a.pair.now c.locals)

-- the same moment, with another number returned, which is handed on
pub record IsClosed (result : Option IntType) (s s' : JointState) (n : ℤ) : Type 0 where
  pub number : ℤ
  pub state : s' ≡ returning s number
  pub handed : handed result s' ≡ n

-- What was made at a function's closing brace, where the body goes on to it: behind a `return` it does nothing. The term is that of
-- what the call hands on.
pub record Closes (n0 n1 : Unrolled) (st : State) (is_main : Bool) (result : Option IntType) (fell : Values → ℕ) (x : SizedTerm) : Type 0 where
  pub grown : (v : Values) → Respects v n1.terms → Respects v n0.terms
  pub more : List Step
  pub list : n1.list ≡ n0.list ++ more
  pub passes : (v : Values) → Respects v n1.terms → fell v ≡ 0 → trail v more ≡ Through []
  pub returned : (v : Values) → Respects v n1.terms → fell v ≡ 0 → (s : JointState) → HasReturned result Returning (look v st) s → handed result s ≡ number (type_or_int result).signed (type_or_int result).bits (bits v x)
  pub live : (v : Values) → Respects v n1.terms → fell v ≡ 1 → (s : JointState) →
      Follows (closing is_main result s) (trail v more) (λ w. way_bit w Next) (λ way s'. IsClosed result s s' (number (type_or_int result).signed (type_or_int result).bits (bits v x))) goes

-- 1 where a body goes on to its closing brace; a `break` or a `continue` that nothing caught counts as that
abbrev pub fell_of : (Way → ℕ) → ℕ
fell_of guards = bit_or (bit_or (guards Next) (guards Breaking)) (guards Continuing)

-- a term of a type that is 0
pub record IsNought (n0 n1 : Unrolled) (ty : IntType) (t : SizedTerm) : Type 0 where
  pub adds : Adds n0 n1
  pub has : Has n1.terms t
  pub width : t.width ≡ ty.bits
  pub value : (v : Values) → Respects v n1.terms → number ty.signed ty.bits (bits v t) ≡ pos 0

-- what a function with a result gives at its closing brace: 0 if it is `main`, and else any number that is drawn
abbrev pub IsEnd : (n0 n1 : Unrolled) → (is_main : Bool) → IntType → Guard → SizedTerm → Type 0
IsEnd n0 n1 true ty g t = IsNought n0 n1 ty t
IsEnd n0 n1 false ty g t = IsDrawn n0 n1 ty.bits g t

-- the term of what a call hands on, by the term of what was returned in the state behind its body
pub record IsClosing (n0 n1 : Unrolled) (is_main : Bool) (result : Option IntType) (ways : Flow) (returned t : SizedTerm) : Type 0 where
  pub grows : Grows n0.terms n1.terms
  pub has : Has n1.terms t
  pub width : t.width ≡ (type_or_int result).bits
  pub closes : (st : State) → st.result ≡ returned → Closes n0 n1 st is_main result (λ v. fell_of (bits_of v ways)) t

-- a function may have one more activation: one is left, and the function has fewer than its limit
abbrev pub may_enter : Activation → (function : ℕ) → Function → Bool
may_enter a f fn = nat_lt 0 a.left && is_below_limit a.pair.now a.bounds.now a.standing.now f fn

-- a call that may not: its function's property breaks where the guard is 1, behind a term that is 0
pub record IsRefused (a : Activation) (n0 n1 : Unrolled) (fn : Function) (g : Guard) (t : SizedTerm) : Type 0 where
  pub mid : Unrolled
  pub nought : IsNought n0 mid (type_or_int fn.result) t
  pub pushed : IsPushed mid n1 g (Prop (recursion_prop a.pair.now.program fn).0 t.term)

-- what a call hands on, converted to the type of the object that is set to it, wherever it fits
pub record IsReceived (a : Activation) (n0 n1 : Unrolled) (s0 s1 : State) (ty : IntType) (call : TCall) (g : Guard) (t : SizedTerm) : Type 0 where
  pub grows : Grows n0.terms n1.terms
  pub objects : HasObjects a.pair.now.program n1.terms s1.objects
  pub outer : s1.result ≡ s0.result
  pub has : Has n1.terms t
  pub width : t.width ≡ ty.bits
  pub receives : (c : Scope) → is_in a c → FitsCall c call → Returns (IsSettled a.pair.now) n0 n1 s0 s1 ty (λ v s choices go. with_init (setting_of a) (calls_in a) ty (Called call) s choices go) g t (IsState a.pair.now c.locals) (IsState a.pair.now c.locals)
