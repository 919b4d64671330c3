-- A whole list, from a run's beginning and the body of `main`.
use Rattle.std.proofs.Common.{◌≡◌, ℕ, List, [], ◌++◌, refl, sym, ap, ◌∙◌, subst}
use Rattle.std.specs.Prelude.{slice_get}
use Rattle.joint_ir.specs.declared.event.Event.{Event}
use Rattle.joint_ir.specs.declared.event.Event.TheVariants.{Frame}
use Rattle.joint_ir.specs.declared.event.Outcome.TheVariants.{Ended}
use Rattle.joint_ir.specs.declared.way.Way.{Way}
use Rattle.joint_ir.specs.declared.way.Way.TheVariants.{Next}
use Rattle.joint_ir.specs.Effects.{Effect, nothing, seen, joined, Goes, Stops, Onward, preceded, then_do}
use Rattle.joint_ir.specs.Runs.{run_of, ended, body_of, main_effect}
use Rattle.joint_ir.specs.States.{JointState}
use Rattle.joint_ir.specs.Views.{shown}
use Rattle.trails.specs.Following.{goes, Follows}
use Rattle.trails.specs.Trails.{Trail, Through, Halts, trail_then, trail}
use Rattle.trails.proofs.Covers.{covers}
use Rattle.trails.proofs.Walking.{trail-append}
use Rattle.trails.proofs.Ways.{joined_twice}
use Rattle.unwind_state.specs.Guards.{bits_of}
use Rattle.unwind_state.specs.Images.{look, IsBehind}
use Rattle.unwind_module.specs.Starting.{MainCovers}
use Rattle.unwind_module.proofs.Draws.{reads_follow}

-- the end of a run behind its last statement
end_follows : (event : Event) (run : List ℕ → Effect) (t : Trail) (guards : Way → ℕ) (holds : Way → JointState → Type 0) → Follows run t guards holds goes →
    Follows (λ c. ended (preceded (seen event) (run c))) t guards (λ way s. Unit {0}) (λ way s c. Stops Ended nothing c)
end_follows event run (Through r) guards holds a = record {
  way = a.way;
  state = a.state;
  told = joined (seen event) a.told;
  at = a.at;
  held = tt;
  widths = a.widths;
  runs = λ rest. ap (λ e. ended (preceded (seen event) e)) (a.runs rest) ∙ ap (λ t. Stops Ended t rest) (joined_twice (seen event) a.told nothing);
}
end_follows event run (Halts r stop) guards holds a = record { outcome = a.outcome; told = joined (seen event) a.told; broken = a.broken; widths = a.widths; runs = λ rest. ap (λ e. ended (preceded (seen event) e)) (a.runs rest) }

pub main_runs : MainCovers
main_runs p b n1 n2 s1 s2 f visible result B U ordered narrow few = record {
  ordered = ordered;
  narrow = narrow;
  runs = λ v a.
      let r = a.respects in
      let r1 = U.grown v r in
      let s = B.first v in
      let main : Onward = main_effect p b (body_of (slice_get p.program.functions p.program.main)) in
      let event : Event = Frame 0 (shown p.module s.view) in
      let M = U.live v r refl (B.settled v r1) s (B.stands v r1) in
      let F = reads_follow (B.reads v) (run_of p b) (λ c. ended (preceded (seen event) (main s c))) (trail v U.more) (bits_of v f) (λ way s. Unit {0}) (λ way s c. Stops Ended nothing c)
      (λ rest. B.runs v r1 rest (λ s c. ended (then_do (Goes Next s (seen (Frame 0 (shown p.module s.view))) c) main)))
      (end_follows event (main s) (trail v U.more) (bits_of v f) (λ w. IsBehind p visible result w (look v s2)) M) in
      covers p b n2.terms n2.list v (bits_of v f) r ordered.steps
      (subst (λ t. Follows (run_of p b) t (bits_of v f) (λ way s. Unit {0}) (λ way s c. Stops Ended nothing c))
      (sym (ap (trail v) U.list ∙ trail-append v n1.list U.more ∙ ap (λ t. trail_then t (trail v U.more)) (B.through v r1))) F);
  few = few;
}
