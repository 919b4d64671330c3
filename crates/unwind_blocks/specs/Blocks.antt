-- Where statements may be unwound, and what the unwinding of each promises.
use Rattle.std.specs.Prelude.{◌≡◌, ℕ, List, [], ◌∷◌, nat_lt}
use Rattle.bits_core.specs.Word.{bit}
use Rattle.word_eqs.specs.Meaning.{Values, Respects}
use Rattle.joint_ir.specs.declared.expr.TExpr.{TExpr}
use Rattle.joint_ir.specs.declared.stmt.TStmt.{TStmt}
use Rattle.joint_ir.specs.declared.way.Way.{Way}
use Rattle.joint_ir.specs.declared.way.Way.TheVariants.{Next, Breaking, Continuing, Returning}
use Rattle.joint_ir.specs.Effects.{Onward}
use Rattle.joint_ir.specs.States.{JointState}
use Rattle.joint_ir.specs.WellFormed.{declared_behind}
use Rattle.sized_terms.specs.declared.SizedTerm.{SizedTerm}
use Rattle.sized_terms.specs.Sized.{bits}
use Rattle.unrolled.specs.declared.Unrolled.{Unrolled}
use Rattle.trails.specs.Following.{goes}
use Rattle.unwind_state.specs.declared.state.Flow.{Flow}
use Rattle.unwind_state.specs.declared.state.Guard.{Guard}
use Rattle.unwind_state.specs.declared.state.Sides.{Sides}
use Rattle.unwind_state.specs.declared.state.State.{State}
use Rattle.unwind_state.specs.Guards.{HasFlow, Adds, AreSides}
use Rattle.unwind_state.specs.Images.{Image, IsState, IsSettled, IsBehind}
use Rattle.unwind_state.specs.Unwinding.{Grows, Unwinds}
use Rattle.unwind_state.specs.Writing.{HasObjects, HasResult}
use Rattle.unwind_simple.specs.declared.simple.Activation.{Activation}
use Rattle.unwind_simple.specs.Simple.{result_in, IsValued}

-- a condition: its value was asked for, and the guard split by whether it isn't 0
pub record IsTested (a : Activation) (n0 n3 : Unrolled) (s : State) (e : TExpr) (g : Guard) (sides : Sides) : Type 0 where
  pub n1 : Unrolled
  pub n2 : Unrolled
  pub value : SizedTerm
  pub set : SizedTerm
  pub valued : IsValued a n0 n1 s e g value
  pub adds : Adds n1 n2
  pub is : (v : Values) → Respects v n2.terms → bits v set ≡ bit (nat_lt 0 (bits v value))
  pub split : AreSides n2 n3 set g sides

-- words stand for a run's state, where these locals are declared
abbrev pub state_at : Activation → List ℕ → Image → JointState → Type 0
state_at a visible = IsState a.pair.now visible

-- words stand for a run's state behind a part of a body, and for what its function returned
abbrev pub behind_at : Activation → List ℕ → Way → Image → JointState → Type 0
behind_at a visible = IsBehind a.pair.now visible (result_in a)

-- A stretch was unwound: it does what a run does, all objects have terms again, so has the result if it had one, and the guards of
-- the ways on are there.
-- `before` and `behind` relate the words to the run's state; `out` says how the run goes on behind the stretch.
pub record IsStretch (a : Activation) (n0 n1 : Unrolled) (s0 s1 : State) (g : Guard) (f : Flow) (before : Image → JointState → Type 0) (behind : Way → Image → JointState → Type 0) (run : Onward) (out : Way → Onward) : Type 0 where
  pub grows : Grows n0.terms n1.terms
  pub objects : HasObjects a.pair.now.program n1.terms s1.objects
  pub result : HasResult (result_in a) n0.terms s0.result → HasResult (result_in a) n1.terms s1.result
  pub flow : HasFlow n1.terms f
  pub does : Unwinds (IsSettled a.pair.now) n0 n1 s0 s1 (λ v. run) g f before behind out

-- a statement was unwound, between the locals that are declared before it and those behind it
abbrev pub IsUnwound : (a : Activation) (n0 n1 : Unrolled) (s0 s1 : State) (g : Guard) (f : Flow) (before behind : List ℕ) (run : Onward) → Type 0
IsUnwound a n0 n1 s0 s1 g f before behind run = IsStretch a n0 n1 s0 s1 g f (state_at a before) (behind_at a behind) run goes

-- the locals that are declared behind statements
abbrev pub behind_items : List TStmt → List ℕ → List ℕ
behind_items [] xs = xs
behind_items (x ∷ items) xs = behind_items items (declared_behind x.node xs)

-- behind statements: their locals are declared, unless they were left
abbrev pub between : (a : Activation) (outer inner : List ℕ) → Way → Image → JointState → Type 0
between a outer inner Next = behind_at a inner Next
between a outer inner Breaking = behind_at a outer Breaking
between a outer inner Continuing = behind_at a outer Continuing
between a outer inner Returning = behind_at a outer Returning

-- statements were unwound, one after another
abbrev pub AreUnwound : (a : Activation) (n0 n1 : Unrolled) (s0 s1 : State) (g : Guard) (f : Flow) (outer inner : List ℕ) (run : Onward) → Type 0
AreUnwound a n0 n1 s0 s1 g f outer inner run = IsStretch a n0 n1 s0 s1 g f (state_at a outer) (between a outer inner) run goes
