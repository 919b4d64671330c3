use Rattle.std.proofs.Common.{ap, ◌∙◌}
use Rattle.elab_connections.specs.Drivers.{place_drivers}
use Rattle.elab_connections.proofs.Joining.{ordered_more}
use Rattle.elab_connections.proofs.drivers.ordered_drivers.Goals as goal

pub loop-place-preserved : goal.loop-place-preserved
loop-place-preserved c =
    ordered_more c.args.names.now c.args.outer c.args.first c.args.ports.now.directions c.args.es.now c.loop-place.place c.index-es-place.result _ c.loop-place.drivers c.in_ok-more.more _
    c.loop-place-test.true c.index-es-place.is c.loop-place.invariant
    (c.in_ok-more.ensures ∙ ap (λ o. place_drivers c.args.names.now c.args.outer c.args.first o c.loop-place.place c.index-es-place.result) c.get-direction.ensures.value)
    c.in_ok-append.ensures
