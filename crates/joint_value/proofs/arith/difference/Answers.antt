use Rattle.std.proofs.Common.{rules, ◌-ℤ◌}
use Rattle.std.proofs.lemmas.Int.{to_z-of_z}
use mir.Val.{SFits}
use mir.Syntax.{w128}
use Rattle.joint_value.proofs.arith.difference.Goals as goal

pub returns : goal.returns
returns c =
    let f : SFits w128 (c.args.x -ℤ c.args.y) = search rules in
    let fx : SFits w128 c.args.x = c.ranges.x in
    let fy : SFits w128 c.args.y = c.ranges.y in
    simp to_z-of_z at c.result_in.ensures
