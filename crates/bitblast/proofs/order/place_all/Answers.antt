use Rattle.std.proofs.Common.{refl}
use Rattle.bitblast.proofs.Placed.{placed_none, placed_more}
use Rattle.bitblast.proofs.order.place_all.Goals as goal

pub loop-k-init : goal.loop-k-init
loop-k-init c = placed_none c.args.terms.now c.args.list.now c.args.place.now c.requires

pub loop-k-preserved : goal.loop-k-preserved
loop-k-preserved c =
    placed_more c.args.terms.now c.args.list.now c.loop-k.k c.get-step.result c.loop-k.place c.place_one.new.place c.get-step.ensures (c.if-not-fits.ensures refl) c.loop-k.invariant (c.if-not-place_one.ensures refl)
