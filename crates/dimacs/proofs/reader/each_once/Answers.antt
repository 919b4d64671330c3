use Rattle.std.proofs.Common.{arith}
use Rattle.cdcl.proofs.Back.{zero_lit}
use Rattle.cdcl.proofs.Once.{once-start, once-push}
use Rattle.dimacs.proofs.reader.each_once.Goals as goal

pub loop-l-init : goal.loop-l-init
loop-l-init c = once-start c.new-out.result.items c.new-out.ensures.items

pub loop-l-preserved : goal.loop-l-preserved
loop-l-preserved c =
    once-push c.args.lits.now c.loop-l.out.items c.push.new.self.items c.as_slice.result.now c.loop-l.l-index zero_lit (omega arith) c.as_slice.ensures.value
    c.if-has_lit.ensures c.in_ok-push.ensures.items c.loop-l.invariant.0 c.loop-l.invariant.1
