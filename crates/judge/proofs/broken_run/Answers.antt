use Rattle.std.proofs.Common.{◌≡◌, List, [], ℕ, sym, ◌∙◌, subst}
use Rattle.joint_ir.specs.declared.event.Outcome.{Outcome}
use Rattle.joint_ir.specs.declared.event.Outcome.TheVariants.{Broken}
use Rattle.joint_ir.specs.Effects.{Effect, Told, Stops, TooFew}
use Rattle.joint_ir.specs.Runs.{run_of}
use Rattle.joint_step.specs.Ends.{IsCutOff}
use Rattle.joint_step.specs.declared.run.ReplayEnd.{ReplayEnd}
use Rattle.lifting.specs.Lift.{values_in}
use Rattle.pair_proof.proofs.Composition.{shown_breaks, stops_same}
use Rattle.judge.proofs.broken_run.Goals as goal

not_short : (o : Outcome) (told : Told) (rest : List ℕ) (e : Effect) → e ≡ Stops o told rest → e ≡ TooFew → ⊥
not_short o told rest e is short = cc

pub unreachable-requires : goal.unreachable-requires
unreachable-requires c =
    let u = c.args.unwound.now in
    let b = c.args.blasted.now in
    let r = shown_breaks c.args.pair.now c.args.bounds.now u.terms u.list b.net b.root b.wires c.requires.covers c.requires.stands (values_in c.args.model.now) c.requires.values c.requires.root c.in_ok-choices.choices c.in_ok-choices.ensures in
    not_short (Broken r.1) r.0 [] (run_of c.args.pair.now c.args.bounds.now c.in_ok-choices.choices) r.2
    (subst (λ (e : ReplayEnd). IsCutOff e (run_of c.args.pair.now c.args.bounds.now c.in_ok-choices.choices)) c.in-Err-TooFew.field-0-is c.in-Err-TooFew.ensures)

pub returns-in-Ok : goal.returns-in-Ok
returns-in-Ok c =
    let u = c.args.unwound.now in
    let b = c.args.blasted.now in
    let r = shown_breaks c.args.pair.now c.args.bounds.now u.terms u.list b.net b.root b.wires c.requires.covers c.requires.stands (values_in c.args.model.now) c.requires.values c.requires.root c.in_ok-choices.choices c.in_ok-choices.ensures in
    let run = c.in-Ok.ensures in
    record { runs = run; property = r.1; breaks = stops_same c.in-Ok.replayed.outcome (Broken r.1) (record { events = c.in-Ok.replayed.events; widths = run.0 }) r.0 run.1 [] (sym run.2 ∙ r.2) }
