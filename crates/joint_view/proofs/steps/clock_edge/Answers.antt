use Rattle.std.proofs.Common.{drop, ap, ◌∙◌, subst}
use Rattle.joint_ir.specs.Effects.{draw_all}
use Rattle.joint_ir.specs.Steps.{settled_view}
use Rattle.joint_ir.specs.Views.{site_widths, next_registers}
use Rattle.joint_view.specs.Halts.{Draws}
use Rattle.joint_view.specs.Moves.{row_items}
use Rattle.joint_view.proofs.Calls.{edge_taken}
use Rattle.joint_view.proofs.steps.clock_edge.Goals as goal

pub returns-clause-moves : goal.returns-clause-moves
returns-clause-moves c = λ k s at same.
    let p = c.args.pair.now in
    let v = c.args.view.now in
    let choices = c.args.choices.now in
    let at_edge = c.in_ok-at_edge.at_edge in
    let inputs = c.in_ok-inputs.inputs in
    let unknown = c.in_ok-unknown.unknown in
    edge_taken (row_items c.in_ok-members.members.items) c.in_ok-new.new c.in_ok-changed.field-0
    p v c.args.edges at_edge.numbers inputs.numbers unknown.numbers
    (drop c.args.at choices) (drop at_edge.at choices) (drop inputs.at choices) (drop unknown.at choices) k s at same
    (subst (λ sites. Draws (draw_all (site_widths sites) (drop c.args.at choices)) at_edge.numbers (drop at_edge.at choices)) c.as_slice.ensures c.in_ok-at_edge.ensures.drawn)
    c.in_ok-inputs.ensures.drawn
    (subst (λ sites. Draws (draw_all (site_widths sites) (drop inputs.at choices)) unknown.numbers (drop unknown.at choices)) c.as_slice-2.ensures c.in_ok-unknown.ensures.drawn)
    (c.in_ok-new.ensures.value
    ∙ ap (λ r. settled_view p.module r inputs.numbers c.as_slice-4.result.now) (c.in_ok-registers.ensures.value ∙ ap (next_registers p.module v) c.as_slice-3.ensures)
    ∙ ap (λ u. settled_view p.module (next_registers p.module v at_edge.numbers) inputs.numbers u) c.as_slice-4.ensures)
    c.in_ok-members.ensures c.in_ok-changed.ensures
