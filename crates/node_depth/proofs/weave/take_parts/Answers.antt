use Rattle.std.proofs.Common.{reverse, drop, subst, sym, ◌∙◌, ◌+◌, ◌-◌}
use Rattle.node_depth.specs.declared.weave.Part.{Part}
use Rattle.node_depth.specs.Pass.{gathered, total}
use Rattle.node_depth.proofs.PassSteps.{Gathering, gather_one, gather_none}
use Rattle.node_depth.proofs.weave.take_parts.Goals as goal
use Rattle.node_depth.proofs.weave.take_parts.Goals.{in-Some, in_default}

pub loop-done-preserved : goal.loop-done-preserved
loop-done-preserved c =
    let st = reverse c.args.parts.now.items in
    let next = λ (w : Part). Gathering (c.args.takes - (c.loop-done._done + 1)) w (reverse c.pop.new.self.items) (gathered c.args.takes st) (drop c.args.takes st) (total st) in
    elim c.match-pop.branch [
      | in-Some w ↦ subst next (sym (w.whole-is ∙ w.beside-whole.ensures))
          (gather_one c.args.takes c.loop-done._done c.loop-done.whole (gathered c.args.takes st) w.in-Some.part c.loop-done.parts.items c.pop.new.self.items (drop c.args.takes st) (total st) c.loop-done-test.true w.in-Some.ensures.items c.loop-done.invariant)
      | in_default w ↦ subst next (sym w.whole-is)
          (gather_none c.args.takes c.loop-done._done c.loop-done.whole (gathered c.args.takes st) c.loop-done.parts.items c.pop.new.self.items (drop c.args.takes st) (total st) c.loop-done-test.true (let a = c.loop-done.parts.ok.0 in let b = w.in_default.ensures.cases.0 in sym a ∙ b) w.in_default.ensures.items c.loop-done.invariant)
    ]
