use Rattle.std.proofs.Common.{List, [], refl, ap, ◌∙◌}
use Rattle.v_tree.specs.declared.item.Item.{Item}
use Rattle.v_tree.specs.declared.item.Module.{Module}
use Rattle.elab_modules.specs.Tops.{Used, with_items, with_modules}
use Rattle.elab_modules.proofs.Walking.{walk_next, walk_end}
use Rattle.elab_modules.proofs.tops.used_by.Goals as goal

pub loop-m-preserved : goal.loop-m-preserved
loop-m-preserved c =
    walk_next (λ (m : Module) (s : Used). with_items m.name.name m.items s) with_modules (λ x xs s. refl) c.args.modules.now c.loop-m.m-index c.m-item.result _ _ c.loop-m.used c.items.new.used
    c.loop-m-test.true c.m-item.is c.loop-m.invariant (c.in_ok-items.ensures ∙ ap (λ (l : List Item). with_items c.m-item.result.name.name l c.loop-m.used) c.as_slice.ensures)

pub returns : goal.returns
returns c =
    walk_end (λ (m : Module) (s : Used). with_items m.name.name m.items s) with_modules (λ x xs s. refl) (λ s. refl) c.args.modules.now c.loop-m.m-index _ _ c.loop-m-test.false c.loop-m.invariant
