use Rattle.std.proofs.Common.{drop, ap, ◌∙◌, subst}
use Rattle.joint_ir.specs.Effects.{draw_all}
use Rattle.joint_ir.specs.Steps.{settled_view}
use Rattle.joint_ir.specs.Views.{site_widths}
use Rattle.joint_view.specs.Halts.{Draws}
use Rattle.joint_view.specs.Moves.{row_items}
use Rattle.joint_view.proofs.Calls.{state_begun}
use Rattle.joint_view.proofs.steps.begin.Goals as goal

pub returns-clause-begun : goal.returns-clause-begun
returns-clause-begun c =
    let p = c.args.pair.now in
    let choices = c.args.choices.now in
    let registers = c.in_ok-registers.registers in
    let inputs = c.in_ok-inputs.inputs in
    let unknown = c.in_ok-unknown.unknown in
    state_begun (row_items c.in_ok-members.members.items) c.in_ok-view.view p registers.numbers inputs.numbers unknown.numbers
    choices (drop registers.at choices) (drop inputs.at choices) (drop unknown.at choices)
    c.in_ok-registers.ensures.drawn c.in_ok-inputs.ensures.drawn
    (subst (λ sites. Draws (draw_all (site_widths sites) (drop inputs.at choices)) unknown.numbers (drop unknown.at choices)) c.as_slice.ensures c.in_ok-unknown.ensures.drawn)
    (c.in_ok-view.ensures.value ∙ ap (λ u. settled_view p.module registers.numbers inputs.numbers u) c.as_slice-2.ensures)
    c.in_ok-members.ensures
