use Rattle.std.proofs.Common.{arith}
use Rattle.bitblast.proofs.Naming.{place_of}
use Rattle.bitblast.proofs.order.latest_of.Goals as goal

pub bounds-last-id : goal.bounds-last-id
bounds-last-id c = c.requires _ (place_of c.args.ids.now c.loop-id.id-index _ (omega arith))
