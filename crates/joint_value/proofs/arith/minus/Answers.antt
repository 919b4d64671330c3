use Rattle.std.proofs.Common.{◌≡◌, ◌∙◌, ap, pos, neg_ℤ, ◌-ℤ◌, arith}
use Rattle.std.proofs.lemmas.Int.{ints}
use mir.Val.{to_z, of_z}
use mir.Syntax.{w128}
use Rattle.joint_ir.specs.Values.{result_in}
use Rattle.joint_value.proofs.arith.minus.Goals as goal

pub returns : goal.returns
returns c =
    let e : to_z w128 (of_z w128 (pos 0 -ℤ to_z w128 (of_z w128 c.args.x))) ≡ neg_ℤ c.args.x = omega (arith, ints) in
    c.result_in.ensures ∙ ap (result_in c.args.ty c.args.prop) e
