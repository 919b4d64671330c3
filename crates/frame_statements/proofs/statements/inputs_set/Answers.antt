use Rattle.std.proofs.Common.{refl}
use Rattle.joint_ir.specs.Steps.{set_inputs}
use Rattle.unwind_simple.specs.Simple.{setting_of}
use Rattle.frame_statements.proofs.Doing.{called_done}
use Rattle.frame_statements.proofs.statements.inputs_set.Goals as goal

pub returns : goal.returns
returns c = λ d inside.
    let a = c.args.at.now in
    called_done a c.args.net.now c.set_inputs.new.net c.args.state.now c.set_inputs.new.state c.args.guard c.only.result d.locals (set_inputs (setting_of a)) c.only.ensures c.requires.guard (c.in_ok-set_inputs.ensures (setting_of a) refl)
