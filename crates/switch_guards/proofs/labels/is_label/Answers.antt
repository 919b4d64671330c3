use Rattle.std.proofs.Common.{◌≤◌, length, arith}
use Rattle.joint_ir.specs.Statements.{is_case}
use Rattle.switch_guards.specs.Entries.{number_of}
use Rattle.switch_guards.proofs.Bits.{bit_more, bit_last}
use Rattle.switch_guards.proofs.labels.is_label.Goals as goal

pub loop-label-preserved : goal.loop-label-preserved
loop-label-preserved c =
    bit_more c.args.net.now c.loop-label.net c.or_label.new.net c.args.ty c.args.value c.loop-label.any c.in_ok-any-2.any c.args.labels.now c.loop-label.label-index _ c.loop-label-test.true c.loop-label.invariant c.in_ok-any-2.ensures

pub returns : goal.returns
returns c =
    let h = c.loop-label-test.false in
    let over : length c.args.labels.now ≤ c.loop-label.label-index = omega (arith, h) in
    bit_last c.args.net.now c.loop-label.net c.loop-label.any c.args.labels.now c.loop-label.label-index (λ v. is_case (number_of c.args.ty v c.args.value)) over c.loop-label.invariant
