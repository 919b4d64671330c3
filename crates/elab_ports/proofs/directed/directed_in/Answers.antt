use Rattle.std.proofs.Common.{◌+◌, [], take}
use Rattle.std.specs.Prelude.{flat_map}
use Rattle.elab_ports.specs.Ports.{item_directed}
use Rattle.elab_ports.proofs.Keeping.{keeps_then, joined_more}
use Rattle.elab_ports.proofs.directed.directed_in.Goals as goal

pub loop-i-preserved : goal.loop-i-preserved
loop-i-preserved c =
    keeps_then [] c.loop-i.table c.keep_item.new.table (flat_map item_directed (take c.loop-i.i-index c.args.items.now)) (item_directed c.i-item.result) (flat_map item_directed (take (c.loop-i.i-index + 1) c.args.items.now))
    (joined_more item_directed c.args.items.now c.loop-i.i-index c.i-item.result _ c.loop-i-test.true c.i-item.is) c.loop-i.invariant c.in_ok-keep_item.ensures
