use Rattle.joint_ir.specs.Steps.{set_inputs, next_frame}
use Rattle.joint_machine.specs.Moments.{setting_of}
use Rattle.joint_step.proofs.parts.simple.Goals as goal

pub returns-in-SetInputs-clause-does : goal.returns-in-SetInputs-clause-does
returns-in-SetInputs-clause-does c = λ calls place.
    let a = c.args.at.now in
    rw c.in-SetInputs.is
    (c.past-in-SetInputs.ensures.does c.args.machine.now c.set_inputs.new.self (set_inputs (setting_of a)) c.set_inputs.ensures.does)

pub returns-in-NextFrame-clause-does : goal.returns-in-NextFrame-clause-does
returns-in-NextFrame-clause-does c = λ calls place.
    let a = c.args.at.now in
    rw c.in-NextFrame.is
    (c.past-in-NextFrame.ensures.does c.args.machine.now c.next_frame.new.self (next_frame (setting_of a) c.in-NextFrame.prop) c.next_frame.ensures.does)
