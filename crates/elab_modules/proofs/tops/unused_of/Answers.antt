use Rattle.std.proofs.Common.{ap, ◌+◌}
use Rattle.elab_modules.proofs.Unused.{unused_next, unused_end}
use Rattle.elab_modules.proofs.tops.unused_of.Goals as goal

pub loop-m-preserved : goal.loop-m-preserved
loop-m-preserved c = (
  ap (λ n. n + 1) c.loop-m.invariant.0,
  unused_next c.args.modules.now c.loop-m.m-index c.args.used.now c.loop-m.n _ _ c.loop-m.invariant.1 c.m-item.result _ _ c.loop-m-test.true c.m-item.is c.in_ok-unused_one.ensures,
)

pub returns : goal.returns
returns c = unused_end c.args.modules.now c.loop-m.m-index c.args.used.now c.loop-m.n _ _ c.loop-m.invariant.1 c.loop-m-test.false
