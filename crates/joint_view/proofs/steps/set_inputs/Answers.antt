use Rattle.std.proofs.Common.{drop, ap, ◌∙◌, subst}
use Rattle.joint_ir.specs.Effects.{draw_all}
use Rattle.joint_ir.specs.Steps.{settled_view}
use Rattle.joint_ir.specs.Views.{site_widths, driven}
use Rattle.joint_view.specs.Halts.{Draws}
use Rattle.joint_view.specs.Moves.{row_items}
use Rattle.joint_view.proofs.Calls.{inputs_moved}
use Rattle.joint_view.proofs.steps.set_inputs.Goals as goal

pub returns-clause-moves : goal.returns-clause-moves
returns-clause-moves c = λ k s at same.
    let p = c.args.pair.now in
    let v = c.args.view.now in
    let members = row_items c.args.members.now in
    let unknown = c.in_ok-unknown.unknown in
    let left = drop unknown.at c.args.choices.now in
    let inputs = c.in_ok-inputs.ensures.value ∙ ap (driven p members) c.inputs.ensures in
    inputs_moved (row_items c.in_ok-members.members.items) c.in_ok-new.new c.in_ok-changed.field-0
    p v members unknown.numbers (drop c.args.at c.args.choices.now) left k s at same
    (subst (λ sites. Draws (draw_all (site_widths sites) (drop c.args.at c.args.choices.now)) unknown.numbers left) c.as_slice.ensures c.in_ok-unknown.ensures.drawn)
    (c.in_ok-new.ensures.value
    ∙ ap (λ r. settled_view p.module r c.in_ok-inputs.inputs c.as_slice-2.result.now) (c.in_ok-registers.ensures ∙ c.registers.ensures)
    ∙ ap (λ i. settled_view p.module v.registers i c.as_slice-2.result.now) inputs
    ∙ ap (λ u. settled_view p.module v.registers (driven p members v.inputs) u) c.as_slice-2.ensures)
    c.in_ok-members.ensures c.in_ok-changed.ensures
