use Rattle.elab_declarations.specs.Values.{given_constant}
use Rattle.elab_declarations.proofs.Mapped.{map_next}
use Rattle.elab_declarations.proofs.overrides.constants_of.Goals as goal

pub loop-e-preserved : goal.loop-e-preserved
loop-e-preserved c =
    map_next (given_constant c.args.outer.now) c.args.es.now c.loop-e.e-index c.e-item.result _ c.in_ok-c.c _ _
    c.loop-e-test.true c.e-item.is c.loop-e.invariant c.in_ok-c.ensures c.in_ok-push.ensures.ok
