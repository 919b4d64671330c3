use Rattle.std.proofs.Common.{rules, ◌∙◌}
use Rattle.std.proofs.lemmas.Int.{to_z-of_z}
use mir.Val.{SFits}
use mir.Syntax.{w128}
use Rattle.joint_value.proofs.Elements.{filled_more}
use Rattle.joint_value.proofs.store.first_row.Goals as goal

pub loop-k-preserved : goal.loop-k-preserved
loop-k-preserved c =
    let f : SFits w128 c.at.result = search rules in
    filled_more _ _ _ _ _ c.loop-k.invariant c.in_ok-push.ensures.items (to_z-of_z w128 c.at.result f ∙ c.at.ensures)
