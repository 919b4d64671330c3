use Rattle.std.proofs.Common.{arith}
use Rattle.pair_checks.proofs.Testing.{firsts_fit}
use Rattle.pair_checks.proofs.lists.fit_firsts.Goals as goal

pub returns : goal.returns
returns c = λ yes. firsts_fit c.args.firsts.now c.args.widths.now (omega (arith, c.if-firsts-widths.false)) (λ k lt. c.loop-k.invariant k (omega (arith, lt, c.loop-k-test.false)))
