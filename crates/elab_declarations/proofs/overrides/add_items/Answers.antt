use Rattle.std.proofs.Common.{refl}
use Rattle.std.specs.Prelude.{flat_map}
use Rattle.elab_declarations.specs.Overrides.{item_names, numbered}
use Rattle.elab_declarations.proofs.Walking.{walk_next, walk_end}
use Rattle.elab_declarations.proofs.Numbering.{numbered_append}
use Rattle.elab_declarations.proofs.overrides.add_items.Goals as goal

pub loop-item-preserved : goal.loop-item-preserved
loop-item-preserved c =
    walk_next (λ x s. numbered s (item_names x)) (λ xs s. numbered s (flat_map item_names xs)) (λ x xs s. numbered_append s (item_names x) (flat_map item_names xs))
    c.args.items.now c.loop-item.item-index _ _ _ _ _ c.loop-item-test.true c.item-item.is c.loop-item.invariant c.in_ok-add_item.ensures

pub returns : goal.returns
returns c =
    walk_end (λ x s. numbered s (item_names x)) (λ xs s. numbered s (flat_map item_names xs)) (λ x xs s. numbered_append s (item_names x) (flat_map item_names xs)) (λ s. refl)
    c.args.items.now c.loop-item.item-index _ _ c.loop-item-test.false c.loop-item.invariant
