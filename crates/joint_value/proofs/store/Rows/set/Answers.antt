use Rattle.std.proofs.Common.{◌<◌, length, refl, arith}
use Rattle.std.specs.Vec.{with_item}
use Rattle.std.proofs.lemmas.Int.{to_z-of_z}
use mir.Val.{to_z, of_z}
use mir.Syntax.{w128}
use Rattle.joint_value.proofs.Elements.{put_row}
use Rattle.joint_value.proofs.store.Rows.set.Goals as goal

pub returns-then-element-len : goal.returns-then-element-len
returns-then-element-len c =
    let row = c.index_mut-row.result.now in
    let there : c.args.at < length c.self.inside.rows.items = omega (arith, c.len.ensures) in
    put_row _ _ _ _ row (with_item row c.args.element (to_z w128 (of_z w128 c.args.number))) _ _ c.self.view_is there c.index_mut-row.ensures.value refl
    (to_z-of_z w128 c.args.number c.ranges.number)
