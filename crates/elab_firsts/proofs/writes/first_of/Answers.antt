use Rattle.std.proofs.Common.{refl, sym}
use Rattle.elab_firsts.specs.Writes.{first_of}
use Rattle.elab_firsts.proofs.Latest.{or_none, latest_next, latest_end}
use Rattle.elab_firsts.proofs.writes.first_of.Goals as goal

pub loop-w-init : goal.loop-w-init
loop-w-init c = sym (or_none (first_of c.args.writes.now c.args.signal c.args.word))

pub loop-w-preserved : goal.loop-w-preserved
loop-w-preserved c =
    latest_next c.args.writes.now c.args.signal c.args.word c.loop-w.w-index _ c.loop-w.found c.loop-w.invariant
    _ _ _ _ c.loop-w-test.true refl c.write_at.ensures c.or-found.ensures

pub returns : goal.returns
returns c = latest_end c.args.writes.now c.args.signal c.args.word c.loop-w.w-index _ c.loop-w.found c.loop-w.invariant c.loop-w-test.false
