use Rattle.std.proofs.Common.{◌≡◌, arith}
use Rattle.bitblast.proofs.ShapeLaws.{constant_step, constant_value}
use Rattle.bitblast.proofs.shapes.constant.Goals as goal

pub loop-preserved : goal.loop-preserved
loop-preserved c = constant_step _ _ _ _ _ _ _ c.constant_edge.ensures.there c.constant_edge.ensures.value c.push.ensures.items c.loop.invariant

pub returns-clause-value : goal.returns-clause-value
returns-clause-value c a v =
    let width : c.loop.counter ≡ c.args.word.width = omega (arith, c.loop.auto.counter-end, c.loop-test.false, c.width-end.ensures.width) in
    constant_value _ c.args.word _ _ _ width c.width-end.ensures.proper.below c.loop.invariant a v
