use Rattle.std.proofs.Common.{◌≡◌, ◌^◌, ◌*ℤ◌, pos, ap}
use Rattle.std.proofs.lemmas.Int.{to_z-of_z}
use mir.Val.{SFits}
use mir.Syntax.{w128}
use Rattle.joint_value.proofs.Shifts.{shift_fits}
use Rattle.joint_value.proofs.arith.shifted_left.Goals as goal

pub overflow_mul-result : goal.overflow_mul-result
overflow_mul-result c =
    let f : SFits w128 (c.args.x *ℤ c.power.result) = shift_fits c.args.x c.power.result c.args.y c.requires.low c.requires.high c.requires.y c.power.ensures.value in
    let fx : SFits w128 c.args.x = c.ranges.x in
    let fp : SFits w128 c.power.result = record { sfits = c.power.type_inv } in
    simp to_z-of_z f

pub returns : goal.returns
returns c =
    let f : SFits w128 (c.args.x *ℤ c.power.result) = shift_fits c.args.x c.power.result c.args.y c.requires.low c.requires.high c.requires.y c.power.ensures.value in
    let fx : SFits w128 c.args.x = c.ranges.x in
    let fp : SFits w128 c.power.result = record { sfits = c.power.type_inv } in
    let e : c.args.x *ℤ c.power.result ≡ c.args.x *ℤ pos (2 ^ c.args.y) = ap (λ p. c.args.x *ℤ p) c.power.ensures.value in
    record { value = simp to_z-of_z e }
