use Rattle.std.proofs.Common.{List, ℕ, ap, ◌∙◌}
use Rattle.joint_ir.specs.States.{View}
use Rattle.joint_ir.specs.Views.{settled_wires}
use Rattle.joint_view.proofs.steps.settled_view.Goals as goal

pub returns-clause-value : goal.returns-clause-value
returns-clause-value c =
    let m = c.args.flat.now in
    let view : List ℕ → View = λ wires. record { registers = c.args.registers; inputs = c.args.inputs; wires = wires } in
    c.new.ensures
    ∙ ap view (c.in_ok-wires.ensures.value
    ∙ ap (λ r. settled_wires m r c.as_slice-2.result.now c.args.unknown.now) c.as_slice.ensures
    ∙ ap (λ i. settled_wires m c.args.registers i c.args.unknown.now) c.as_slice-2.ensures)
