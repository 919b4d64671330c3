-- What the unwinding of an expression or of a simple statement promises.
use Rattle.std.specs.Prelude.{◌≡◌, ℕ, List, Option, if◌then◌else◌, slice_get}
use Rattle.joint_ir.specs.declared.ctype.IntType.{IntType}
use Rattle.joint_ir.specs.declared.event.Outcome.TheVariants.{Cut}
use Rattle.joint_ir.specs.declared.expr.TExpr.{TExpr}
use Rattle.joint_ir.specs.declared.program.PropId.{PropId}
use Rattle.joint_ir.specs.declared.stmt.TTarget.{TTarget}
use Rattle.joint_ir.specs.declared.way.Way.TheVariants.{Next}
use Rattle.joint_ir.specs.Effects.{Onward, nothing, Goes, Stops, with_value, broken}
use Rattle.joint_ir.specs.Statements.{calls_at}
use Rattle.joint_ir.specs.Steps.{Setting, Calls, rows_in, slot_type, result_of}
use Rattle.joint_ir.specs.Values.{value_of, is_zero}
use Rattle.joint_ir.specs.WellFormed.{Scope, IsWellFormed, FitsExpr}
use Rattle.sized_terms.specs.declared.SizedTerm.{SizedTerm}
use Rattle.sized_terms.specs.Sized.{Has}
use Rattle.unrolled.specs.declared.Unrolled.{Unrolled}
use Rattle.trails.specs.Following.{goes}
use Rattle.unwind_state.specs.declared.state.Flow.{Flow}
use Rattle.unwind_state.specs.declared.state.Guard.{Guard}
use Rattle.unwind_state.specs.declared.state.State.{State}
use Rattle.unwind_state.specs.Guards.{HasGuard, HasFlow}
use Rattle.unwind_state.specs.Images.{IsState, IsSettled, IsBehind}
use Rattle.unwind_state.specs.Unwinding.{Grows, Asks, Unwinds}
use Rattle.unwind_state.specs.Writing.{HasObjects, HasResult}
use Rattle.unwind_simple.specs.declared.simple.Activation.{Activation}

-- what a run of the same body is of
abbrev pub setting_of : Activation → Setting
setting_of a = record { pair = a.pair.now; bounds = a.bounds.now; here = a.here }

-- what calls do in an activation
abbrev pub calls_in : Activation → Calls
calls_in a = calls_at a.pair.now a.bounds.now a.left a.standing.now

-- the type of what the activation's function returns, if it has a result
abbrev pub result_in : Activation → Option IntType
result_in a = result_of (slice_get a.pair.now.program.functions a.here)

-- a scope of the function that is unwound
abbrev pub is_in : Activation → Scope → Type 0
is_in a c = (c.program ≡ a.pair.now.program) × (c.here ≡ a.here)

-- what a part of a program needs: the pair is well-formed, the part fits somewhere in its function, all objects have terms, so
-- has the result, and the guard is there
pub record MayRun (a : Activation) (n : Unrolled) (s : State) (g : Guard) (Fits : Scope → Type 0) : Type 0 where
  pub well : IsWellFormed a.pair.now
  pub scope : Scope
  pub program : is_in a scope
  pub fits : Fits scope
  pub objects : HasObjects a.pair.now.program n.terms s.objects
  pub result : HasResult (result_in a) n.terms s.result
  pub guard : HasGuard n.terms g

-- an expression that fits somewhere, over objects that have terms, and a guard
pub record MayAsk (a : Activation) (n : Unrolled) (s : State) (e : TExpr) (g : Guard) : Type 0 where
  pub scope : Scope
  pub program : is_in a scope
  pub fits : FitsExpr scope e
  pub objects : HasObjects a.pair.now.program n.terms s.objects
  pub guard : HasGuard n.terms g

-- the term of an expression's value, wherever the expression fits
pub record IsValued (a : Activation) (n0 n1 : Unrolled) (s : State) (e : TExpr) (g : Guard) (t : SizedTerm) : Type 0 where
  pub grows : Grows n0.terms n1.terms
  pub has : Has n1.terms t
  pub width : t.width ≡ e.ty.bits
  pub asks : (c : Scope) → is_in a c → FitsExpr c e → Asks (IsSettled a.pair.now) n0 n1 s e.ty (λ x. value_of (rows_in (setting_of a) x) e) g t (IsState a.pair.now c.locals)

-- the type of a target
abbrev pub stored_type : Activation → TTarget → IntType
stored_type a target = slot_type a.pair.now.program target.slot

-- A statement was unwound: what it does, between the locals that are declared before it and those behind it; all objects have
-- terms again, so has the result if it had one, and the guards of the ways on are there.
pub record IsDone (a : Activation) (n0 n1 : Unrolled) (s0 s1 : State) (g : Guard) (f : Flow) (before behind : List ℕ) (run : Onward) : Type 0 where
  pub grows : Grows n0.terms n1.terms
  pub objects : HasObjects a.pair.now.program n1.terms s1.objects
  pub result : HasResult (result_in a) n0.terms s0.result → HasResult (result_in a) n1.terms s1.result
  pub flow : HasFlow n1.terms f
  pub does : Unwinds (IsSettled a.pair.now) n0 n1 s0 s1 (λ v. run) g f (IsState a.pair.now before) (IsBehind a.pair.now behind (result_in a)) goes

-- an assertion of an expression (`__CPROVER_assert`)
abbrev pub asserted_as : Setting → TExpr → PropId → Onward
asserted_as k e p s c = with_value (value_of (rows_in k s) e) c (λ n. if is_zero n then broken p c else Goes Next s nothing c)

-- an assumption of an expression (`__CPROVER_assume`)
abbrev pub assumed_as : Setting → TExpr → Onward
assumed_as k e s c = with_value (value_of (rows_in k s) e) c (λ n. if is_zero n then Stops Cut nothing c else Goes Next s nothing c)
