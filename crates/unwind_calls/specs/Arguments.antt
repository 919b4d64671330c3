-- Arguments of a call as terms, and parameters that take them.
use Rattle.std.specs.Prelude.{◌≡◌, ℕ, zero, suc, ℤ, ◌+◌, List, [], ◌∷◌, ◌++◌, map, length, All}
use Rattle.word_eqs.specs.declared.list.Step.{Step}
use Rattle.word_eqs.specs.Guarded.{AtProp}
use Rattle.word_eqs.specs.Meaning.{Values, Respects}
use Rattle.joint_ir.specs.declared.expr.Slot.TheVariants.{Local}
use Rattle.joint_ir.specs.declared.expr.TExpr.{TExpr}
use Rattle.joint_ir.specs.declared.pair.Pair.{Pair}
use Rattle.joint_ir.specs.declared.program.CProgram.{CProgram}
use Rattle.joint_ir.specs.declared.program.PropId.{PropId}
use Rattle.joint_ir.specs.declared.way.Way.TheVariants.{Next}
use Rattle.joint_ir.specs.Effects.{Effect, Told, Onward, Goes, with_values, broken}
use Rattle.joint_ir.specs.States.{JointState}
use Rattle.joint_ir.specs.Statements.{set_params}
use Rattle.joint_ir.specs.Steps.{rows_in, slot_type}
use Rattle.joint_ir.specs.Values.{Rows}
use Rattle.joint_ir.specs.Weights.{slot_length}
use Rattle.joint_ir.specs.WellFormed.{Scope, FitsExpr}
use Rattle.sized_terms.specs.declared.SizedTerm.{SizedTerm}
use Rattle.sized_terms.specs.Sized.{Has}
use Rattle.checked_terms.specs.Checked.{stands}
use Rattle.unrolled.specs.declared.Objects.{Objects}
use Rattle.unrolled.specs.declared.Unrolled.{Unrolled}
use Rattle.trails.specs.Trails.{Trail, Through, Halts, trail}
use Rattle.unwind_state.specs.declared.state.Guard.{Guard}
use Rattle.unwind_state.specs.declared.state.State.{State}
use Rattle.unwind_state.specs.Guards.{Adds, bit_at}
use Rattle.unwind_state.specs.Images.{Image, look, IsState, IsSettled}
use Rattle.unwind_state.specs.Unwinding.{Grows}
use Rattle.unwind_state.specs.Writing.{HasObjects, with_objects}
use Rattle.unwind_simple.specs.declared.simple.Activation.{Activation}
use Rattle.unwind_simple.specs.Simple.{is_in, setting_of}

-- the numbers that terms of expressions' types stand for
abbrev pub numbers_at : Values → List TExpr → List SizedTerm → List ℤ
numbers_at v [] ts = []
numbers_at v (e ∷ es) [] = []
numbers_at v (e ∷ es) (t ∷ ts) = stands e.ty v t ∷ numbers_at v es ts

-- expressions come to values from left to right, or a property breaks, as a list says; no choice is drawn
abbrev pub Lists : Rows → List TExpr → Trail → List ℤ → Type 0
Lists rows es (Through reads) ns = (reads ≡ []) × ((c : List ℕ) (go : List ℤ → Effect) → with_values rows es c go ≡ go ns)
Lists rows es (Halts reads stop) ns = (p : PropId) × (reads ≡ []) × (stop ≡ AtProp p.0) × ((c : List ℕ) (go : List ℤ → Effect) → with_values rows es c go ≡ broken p c)

-- the checks of expressions under a guard, from left to right; the state isn't touched
pub record AsksAll (fixed : Image → Type 0) (old new : Unrolled) (at : State) (rows : JointState → Rows) (es : List TExpr) (g : Guard) (numbers : Values → List ℤ) (before : Image → JointState → Type 0) : Type 0 where
  pub grown : (v : Values) → Respects v new.terms → Respects v old.terms
  pub more : List Step
  pub list : new.list ≡ old.list ++ more
  pub idle : (v : Values) → Respects v new.terms → bit_at v g ≡ 0 → fixed (look v at) → trail v more ≡ Through []
  pub live : (v : Values) → Respects v new.terms → bit_at v g ≡ 1 → fixed (look v at) → (s : JointState) → before (look v at) s → Lists (rows s) es (trail v more) (numbers v)

-- the terms of arguments, wherever they fit
pub record AreArguments (a : Activation) (n0 n1 : Unrolled) (s : State) (es : List TExpr) (g : Guard) (ts : List SizedTerm) : Type 0 where
  pub grows : Grows n0.terms n1.terms
  pub has : All (Has n1.terms) ts
  pub widths : map (λ (t : SizedTerm). t.width) ts ≡ map (λ (e : TExpr). e.ty.bits) es
  pub asks : (c : Scope) → is_in a c → All (FitsExpr c) es → AsksAll (IsSettled a.pair.now) n0 n1 s (λ x. rows_in (setting_of a) x) es g (λ v. numbers_at v es ts) (IsState a.pair.now c.locals)

-- What was made does what a stretch of a run does that draws nothing and only goes on, where the guard is 1; the words are as they
-- were where it is 0. No step was pushed.
pub record Sets (fixed : Image → Type 0) (n0 n1 : Unrolled) (s0 s1 : State) (run : Values → Onward) (g : Guard) (before after : Image → JointState → Type 0) : Type 0 where
  pub grown : (v : Values) → Respects v n1.terms → Respects v n0.terms
  pub list : n1.list ≡ n0.list
  pub settled : (v : Values) → Respects v n1.terms → fixed (look v s0) → fixed (look v s1)
  pub kept : (v : Values) → Respects v n1.terms → bit_at v g ≡ 0 → fixed (look v s0) → look v s1 ≡ look v s0
  pub next : Values → JointState → JointState
  pub told : Values → JointState → Told
  pub quiet : (v : Values) (s : JointState) → (told v s).widths ≡ []
  pub goes : (v : Values) → Respects v n1.terms → bit_at v g ≡ 1 → fixed (look v s0) → (s : JointState) → before (look v s0) s → (c : List ℕ) → run v s c ≡ Goes Next (next v s) (told v s) c
  pub changed : (v : Values) → Respects v n1.terms → bit_at v g ≡ 1 → fixed (look v s0) → (s : JointState) → before (look v s0) s → after (look v s1) (next v s)

-- the numbers of arguments, by the types of the parameters from a place on
abbrev pub params_at : CProgram → Values → (x : ℕ) → List SizedTerm → List ℤ
params_at p v x [] = []
params_at p v x (t ∷ ts) = stands (slot_type p (Local x)) v t ∷ params_at p v (x + 1) ts

-- the terms of arguments have the widths of the parameters from a place on, which are no arrays
abbrev pub FitParams : CProgram → (x : ℕ) → List SizedTerm → Type 0
FitParams p x [] = Unit {0}
FitParams p x (t ∷ ts) = (t.width ≡ (slot_type p (Local x)).bits) × (slot_length p (Local x) ≡ 0) × FitParams p (x + 1) ts

-- the locals that are declared where so many parameters are
abbrev pub with_params : (first : ℕ) → List ℕ → (n : ℕ) → List ℕ
with_params first visible zero = visible
with_params first visible (suc n) = (first + n) ∷ with_params first visible n

-- parameters took arguments where the guard is 1
pub record AreSet (p : Pair) (n0 n1 : Unrolled) (o0 o1 : Objects) (first : ℕ) (ts : List SizedTerm) (g : Guard) : Type 0 where
  pub adds : Adds n0 n1
  pub objects : HasObjects p.program n1.terms o1
  pub sets : (s : State) (line : ℕ) (visible : List ℕ) →
      Sets (IsSettled p) n0 n1 (with_objects s o0) (with_objects s o1) (λ v. set_params line first (params_at p.program v first ts)) g (IsState p visible) (IsState p (with_params first visible (length ts)))
