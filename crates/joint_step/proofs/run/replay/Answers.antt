use Rattle.std.proofs.Common.{List, sym, subst}
use Rattle.joint_ir.specs.declared.event.Event.{Event}
use Rattle.joint_ir.specs.Effects.{Effect}
use Rattle.joint_ir.specs.Runs.{run_of}
use Rattle.joint_machine.specs.Moments.{Halts}
use Rattle.joint_step.proofs.Runs.{IsTold, start_told, run_told}
use Rattle.joint_step.proofs.run.replay.Goals as goal

pub returns-in-Err : goal.returns-in-Err
returns-in-Err c =
    start_told c.finished.result c.in-Err.halt c.args.choices.now (run_of c.args.pair.now c.args.bounds.now c.args.choices.now)
    (c.in-Err.ensures.halts c.args.bounds.now)
    (subst (λ (es : List Event). IsTold c.finished.result es c.in-Err.halt) c.new.ensures.items c.finished.ensures)

pub returns-in-Ok : goal.returns-in-Ok
returns-in-Ok c =
    let r = c.finished-in-Ok.result in
    let e = run_of c.args.pair.now c.args.bounds.now c.args.choices.now in
    run_told r c.run_main-halt.result c.run_main-halt.new.machine e
    (subst (λ (x : Effect). Halts c.run_main-halt.result c.run_main-halt.new.machine x) (sym (c.in-Ok.ensures.begun c.args.bounds.now)) c.run_main-halt.ensures)
    c.finished-in-Ok.ensures
