use Rattle.joint_step.proofs.Runs.{main_of, run_ends, halt_ends}
use Rattle.joint_step.proofs.run.run_main.Goals as goal

pub returns-in-Ok : goal.returns-in-Ok
returns-in-Ok c = run_ends c.in-Ok.field-0 c.args.machine.now c.main_body.new.machine (main_of c.args.pair.now c.args.bounds.now) c.in-Ok.ensures

pub returns-in-Err : goal.returns-in-Err
returns-in-Err c = halt_ends c.in-Err.halt c.main_body.new.machine _ c.in-Err.ensures
