use Rattle.std.proofs.Common.{rules, ◌≡◌, ◌∙◌, ap, pos, neg_ℤ, ◌-ℤ◌, arith}
use Rattle.std.proofs.lemmas.Int.{ints, to_z-of_z}
use mir.Val.{to_z, of_z, SFits}
use mir.Syntax.{w128}
use Rattle.joint_ir.specs.Types.{converted}
use Rattle.joint_value.proofs.arith.flipped.Goals as goal

pub returns : goal.returns
returns c =
    let e : to_z w128 (of_z w128 (to_z w128 (of_z w128 (pos 0 -ℤ to_z w128 (of_z w128 c.args.x))) -ℤ pos 1)) ≡ neg_ℤ c.args.x -ℤ pos 1 = omega (arith, ints) in
    let f : SFits w128 c.converted.result = search rules in
    to_z-of_z w128 c.converted.result f ∙ c.converted.ensures ∙ ap (converted c.args.ty) e
