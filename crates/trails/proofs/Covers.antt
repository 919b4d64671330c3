-- A whole list beside a run of a pair.
use Rattle.std.proofs.Common.{◌≡◌, ℕ, List, [], refl, sym, ap, ◌∙◌, subst, append-nil}
use Rattle.word_eqs.specs.Assignments.{broken_in}
use Rattle.word_eqs.specs.Guarded.{Stop, AtCut, AtProp, Walk, walk, choices_read}
use Rattle.joint_ir.specs.declared.event.Outcome.{Outcome}
use Rattle.joint_ir.specs.declared.event.Outcome.TheVariants.{Ended}
use Rattle.joint_ir.specs.declared.way.Way.{Way}
use Rattle.joint_ir.specs.Effects.{Effect, Told, nothing, joined, Stops}
use Rattle.joint_ir.specs.Runs.{run_of}
use Rattle.unwound.specs.Covers.{broken_by}
use Rattle.trails.specs.Covering.{TrailsCover}
use Rattle.trails.specs.Trails.{Trail, Through, Halts, values_of, trail}
use Rattle.trails.specs.Following.{stop_prop, Follows}
use Rattle.trails.proofs.Walking.{numbered, widthed, walk_is, widths_are, by_width}
use Rattle.trails.proofs.Ways.{joined_nothing}

-- what a run does on the choices of a trail alone
record Draws (run : List ℕ → Effect) (w b : Walk) : Type 0 where
  pub outcome : Outcome
  pub told : Told
  pub runs : run (choices_read w) ≡ Stops outcome told []
  pub widths : told.widths ≡ choices_read b
  pub breaks : broken_by outcome ≡ broken_in w

stop_is : (r : List ℕ) (stop : Stop) → stop_prop stop ≡ broken_in (Walk.Stops r stop)
stop_is r AtCut = refl
stop_is r (AtProp p) = refl

draws : (run : List ℕ → Effect) (t : Trail) (guards : Way → ℕ) → Follows run t guards (λ way s. Unit {0}) (λ way s c. Stops Ended nothing c) → Draws run (numbered t) (widthed t)
draws run (Through r) guards a = record {
  outcome = Ended;
  told = joined a.told nothing;
  runs = ap run (sym (append-nil (values_of r))) ∙ a.runs [];
  widths = ap (λ (t : Told). t.widths) (joined_nothing a.told) ∙ a.widths;
  breaks = refl;
}
draws run (Halts r stop) guards a = record {
  outcome = a.outcome;
  told = a.told;
  runs = ap run (sym (append-nil (values_of r))) ∙ a.runs [];
  widths = a.widths;
  breaks = a.broken ∙ stop_is (values_of r) stop;
}

pub covers : TrailsCover
covers pair bounds g list v guards r fit h =
    let d : Draws (run_of pair bounds) (walk v list) (walk (by_width g v) list) =
    subst (λ w. Draws (run_of pair bounds) w (walk (by_width g v) list)) (walk_is v list)
    (subst (Draws (run_of pair bounds) (numbered (trail v list))) (widths_are g v r.vars list fit) (draws (run_of pair bounds) (trail v list) guards h)) in
    record { outcome = d.outcome; told = d.told; runs = d.runs; widths = d.widths; breaks = d.breaks }
