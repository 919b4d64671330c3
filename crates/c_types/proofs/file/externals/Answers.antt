use Rattle.c_types.proofs.Walking.{file_next}
use Rattle.c_types.proofs.file.externals.Goals as goal

pub loop-x-preserved : goal.loop-x-preserved
loop-x-preserved c =
    file_next c.args.names.now c.args.file.now c.loop-x.file c.external.new.file c.args.xs.now c.loop-x.x-index c.x-item.result
    c.loop-x-test.true c.x-item.is c.loop-x.invariant c.in_ok-external.ensures
