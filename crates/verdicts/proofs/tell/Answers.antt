use Rattle.std.proofs.Common.{◌≡◌, ◌≤◌, ℕ, ap, subst, ◌∙◌, arith}
use Rattle.std.specs.Prelude.{min}
use Rattle.joint_ir.specs.declared.event.Outcome.{Outcome}
use Rattle.joint_ir.specs.declared.event.Outcome.TheVariants.{Broken}
use Rattle.joint_ir.specs.Effects.{Told as Events, Stops}
use Rattle.joint_ir.specs.Runs.{run_of}
use Rattle.judge.specs.Verdict.{IsVerdict, IsFailure}
use Rattle.named_breaks.proofs.Runs.{break_named}
use Rattle.verdicts.proofs.tell.Goals as goal

light : (w n : ℕ) → n ≡ min w 16777217 → n ≤ 16777216 → w ≤ 16777216
light w n is le = omega (arith, is, le)

pub returns-in_ok-text-in-Failed : goal.returns-in_ok-text-in-Failed
returns-in_ok-text-in-Failed g c =
    let pair = c.args.pair.now in
    let bounds = c.args.bounds.now in
    let choices = c.in-Failed._choices in
    let replayed = c.in-Failed.replayed in
    let failure : IsFailure pair bounds choices replayed = subst (IsVerdict pair bounds c.args.budget) c.in-Failed.is c.in_ok-proof.ensures in
    let run = failure.runs in
    let events : Events = record { events = replayed.events; widths = run.0 } in
    let runs : run_of pair bounds choices ≡ Stops (Broken failure.property) events run.1 = run.2 ∙ ap (λ (o : Outcome). Stops o events run.1) failure.breaks in (
      light _ _ c.weight.ensures c.if-weight-gt-HEAVIEST.false,
      record {
        choices = choices;
        prop = failure.property;
        events = events;
        rest = run.1;
        runs = runs;
        ends = break_named pair bounds choices failure.property events run.1 runs;
        is = c.in_ok-text-in-Failed.ensures;
      },
    )
