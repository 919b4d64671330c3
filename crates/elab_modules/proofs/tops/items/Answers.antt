use Rattle.std.proofs.Common.{refl}
use Rattle.elab_modules.specs.Tops.{with_item, with_items}
use Rattle.elab_modules.proofs.Walking.{walk_next, walk_end}
use Rattle.elab_modules.proofs.tops.items.Goals as goal

pub loop-i-preserved : goal.loop-i-preserved
loop-i-preserved c =
    walk_next (with_item c.args.own.now) (with_items c.args.own.now) (λ x xs s. refl) c.args.list.now c.loop-i.i-index c.i-item.result _ _ _ _
    c.loop-i-test.true c.i-item.is c.loop-i.invariant c.in_ok-item.ensures

pub returns : goal.returns
returns c =
    walk_end (with_item c.args.own.now) (with_items c.args.own.now) (λ x xs s. refl) (λ s. refl) c.args.list.now c.loop-i.i-index _ _ c.loop-i-test.false c.loop-i.invariant
