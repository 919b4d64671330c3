-- A call that reaches the module, as a statement of an activation.
use Rattle.std.proofs.Common.{◌≡◌, ℕ, List, refl, sym, subst}
use Rattle.joint_ir.specs.declared.way.Way.{Way}
use Rattle.joint_ir.specs.declared.way.Way.TheVariants.{Next, Breaking, Continuing, Returning}
use Rattle.joint_ir.specs.Effects.{Onward}
use Rattle.joint_ir.specs.States.{JointState}
use Rattle.sized_terms.specs.declared.SizedTerm.{SizedTerm}
use Rattle.unrolled.specs.declared.Unrolled.{Unrolled}
use Rattle.unwind_state.specs.declared.state.Flow.{Flow}
use Rattle.unwind_state.specs.declared.state.Guard.{Guard}
use Rattle.unwind_state.specs.declared.state.State.{State}
use Rattle.unwind_state.specs.Guards.{HasGuard, flow_at}
use Rattle.unwind_state.specs.Images.{Image, IsState, IsSettled, IsBehind}
use Rattle.unwind_state.specs.Writing.{HasResult}
use Rattle.trails.specs.Following.{goes}
use Rattle.unwind_state.proofs.Stretches.{unwinds_as}
use Rattle.unwind_simple.specs.declared.simple.Activation.{Activation}
use Rattle.unwind_simple.specs.Simple.{result_in, IsDone}
use Rattle.unwind_simple.proofs.Statements.{grown_guard, grown_result, next_flow, stays}
use Rattle.unwind_frames.specs.Moves.{IsCall, onto_next}

-- what stands behind a call stands behind a statement
then_behind : (a : Activation) (visible : List ℕ) (way : Way) (x : Image) (s : JointState) → onto_next a.pair.now visible way x s → IsBehind a.pair.now visible (result_in a) way x s
then_behind a visible Next x s h = stays a visible x s h
then_behind a visible Breaking x s h = absurd h
then_behind a visible Continuing x s h = absurd h
then_behind a visible Returning x s h = absurd h

pub called_done : (a : Activation) (n0 n1 : Unrolled) (s0 s1 : State) (g : Guard) (f : Flow) (visible : List ℕ) (run : Onward) → f ≡ flow_at Next g → HasGuard n0.terms g → IsCall a.pair.now n0 n1 s0 s1 g run → IsDone a n0 n1 s0 s1 g f visible visible run
called_done a n0 n1 s0 s1 g f visible run e h C =
    subst (λ (f : Flow). IsDone a n0 n1 s0 s1 g f visible visible run) (sym e)
    (record {
      grows = C.grows;
      objects = C.objects_;
      result = λ r. subst (λ (x : SizedTerm). HasResult (result_in a) n1.terms x) (sym C.result_) (grown_result a n0.terms n1.terms s0.result C.grows r);
      flow = next_flow a n1.terms g (grown_guard a n0 n1 g C.grows h);
      does = unwinds_as (IsSettled a.pair.now) n0 n1 s0 s1 (λ v. run) (λ v. run) g (flow_at Next g) (IsState a.pair.now visible) (IsState a.pair.now visible) (onto_next a.pair.now visible) (IsBehind a.pair.now visible (result_in a)) goes goes
          (λ x s h. h) (λ v r s h c. refl) (then_behind a visible) (λ way s c. refl) (C.does visible);
    })
