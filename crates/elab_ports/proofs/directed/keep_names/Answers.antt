use Rattle.std.proofs.Common.{◌+◌, [], ◌∷◌, map, take}
use Rattle.elab_ports.specs.Ports.{directed_name}
use Rattle.elab_ports.proofs.Keeping.{keeps_then, mapped_more}
use Rattle.elab_ports.proofs.directed.keep_names.Goals as goal

pub loop-x-preserved : goal.loop-x-preserved
loop-x-preserved c =
    let f = directed_name c.args.kind in
    keeps_then c.args.table.now c.loop-x.table c.keep_first.new.table (map f (take c.loop-x.x-index c.args.xs.now)) (f c.x-item.result ∷ []) (map f (take (c.loop-x.x-index + 1) c.args.xs.now))
    (mapped_more f c.args.xs.now c.loop-x.x-index c.x-item.result _ c.loop-x-test.true c.x-item.is) c.loop-x.invariant c.in_ok-keep_first.ensures
