use Rattle.std.proofs.Common.{[], get_or, ap, ◌∙◌}
use Rattle.ll_actions.specs.declared.step.Step.{Step}
use Rattle.node_depth.specs.declared.weave.Weave.{Weave}
use Rattle.node_depth.specs.Pass.{held, step_of, run}
use Rattle.node_depth.proofs.PassSteps.{few_more, run_turn}
use Rattle.node_depth.proofs.weave.nodes_of.Goals as goal

pub loop-step-preserved : goal.loop-step-preserved
loop-step-preserved c =
    let before = held c.loop-step.parts.items c.loop-step.nodes.items in
    let none : Step = record { action = 0; token = 0 } in
    let token = (get_or c.args.steps.now c.loop-step.step-index none).token in
    record {
      state = run_turn c.args.weaves.now c.args.steps.now c.loop-step.step-index none before (held c.weave_step.new.parts.items c.weave_step.new.nodes.items) (run c.args.weaves.now c.args.steps.now (held [] []))
          c.loop-step-test.true c.loop-step.invariant.state (c.in_ok-weave_step.ensures ∙ ap (λ (w : Weave). step_of w token before) c.weave_at-weave.ensures);
      few = few_more c.weave_at-weave.result token c.loop-step.step-index c.loop-step.parts.items c.weave_step.new.parts.items c.loop-step.nodes.items c.weave_step.new.nodes.items c.in_ok-weave_step.ensures c.loop-step.invariant.few;
    }
