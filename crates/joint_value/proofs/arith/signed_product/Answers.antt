use Rattle.std.proofs.Common.{◌*ℤ◌, lit<}
use Rattle.std.proofs.lemmas.Int.{to_z-of_z, fits_signed_mul}
use mir.Val.{SFits}
use mir.Syntax.{w128}
use Rattle.joint_value.proofs.arith.signed_product.Goals as goal

pub returns : goal.returns
returns c =
    let f : SFits w128 (c.args.x *ℤ c.args.y) =
    fits_signed_mul w128 c.args.x c.args.y 9223372036854775808 9223372036854775808 c.requires.x c.requires.y (lit< tt) in
    let fx : SFits w128 c.args.x = c.ranges.x in
    let fy : SFits w128 c.args.y = c.ranges.y in
    simp to_z-of_z at c.result_in.ensures
