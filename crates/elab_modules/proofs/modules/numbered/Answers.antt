use Rattle.std.proofs.Common.{ap, ◌+◌}
use Rattle.elab_modules.proofs.Numbering.{numbered_next, numbered_end, twice_next, twice_end}
use Rattle.elab_modules.proofs.modules.numbered.Goals as goal

pub loop-m-preserved : goal.loop-m-preserved
loop-m-preserved c = (
  ap (λ n. n + 1) c.loop-m.invariant.0,
  numbered_next c.args.modules.now c.loop-m.m-index _ c.loop-m.n c.m-item.result _ _ _ c.loop-m-test.true c.m-item.is c.loop-m.invariant.1 c.in_ok-add.ensures,
  twice_next c.args.modules.now c.loop-m.m-index _ c.loop-m.n c.m-item.result _ _ _ _ _ _ c.loop-m-test.true c.m-item.is c.loop-m.invariant.2 c.find-before.ensures c.twice_at.ensures c.in_ok-add.ensures,
)

pub returns-clause-numbers : goal.returns-clause-numbers
returns-clause-numbers c = numbered_end c.args.modules.now c.loop-m.m-index _ c.loop-m.n _ c.loop-m-test.false c.loop-m.invariant.1

pub returns-clause-twice : goal.returns-clause-twice
returns-clause-twice c = twice_end c.args.modules.now c.loop-m.m-index _ c.loop-m.n _ _ c.loop-m-test.false c.loop-m.invariant.2
