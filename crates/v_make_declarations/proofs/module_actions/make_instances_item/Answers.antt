use Rattle.std.proofs.Common.{◌∷◌, Some, reverse, sym, ◌∙◌}
use Rattle.stack_parts.proofs.Takings.{three_found, three_lost}
use Rattle.v_stack.specs.Values.{with_instances, with_name, with_overrides}
use Rattle.v_tree.specs.declared.item.Item.TheVariants as Item
use Rattle.v_stack.specs.declared.values.ModuleValue.TheVariants as ModuleValue
use Rattle.v_stack.specs.declared.values.Value.TheVariants as Value
use Rattle.v_make_declarations.proofs.module_actions.make_instances_item.Goals as goal

pub returns : goal.returns
returns c =
    let e = three_found c.take_instances-instances.result c.take_overrides-overrides.result c.take_name-kind.result (with_instances (reverse c.args.stack.now.items)) with_overrides with_name (reverse c.take_instances-instances.new.stack.items) (reverse c.take_overrides-overrides.new.stack.items) (reverse c.take_name-kind.new.stack.items) c.take_instances-instances.ensures c.take_overrides-overrides.ensures c.take_name-kind.ensures (λ instances overrides kind rest. Some (Value.Module (ModuleValue.Item (Item.Instances (record { «module» = kind; overrides = overrides; instances = instances }))) ∷ rest)) (c.in-Some.instances, c.in-Some.overrides, c.in-Some.kind) (sym c.all_three.ensures ∙ c.in-Some.is) in
    let p = c.in_ok-put.ensures in
    cc

pub returns-in_default : goal.returns-in_default
returns-in_default c = three_lost c.take_instances-instances.result c.take_overrides-overrides.result c.take_name-kind.result (with_instances (reverse c.args.stack.now.items)) with_overrides with_name (reverse c.take_instances-instances.new.stack.items) (reverse c.take_overrides-overrides.new.stack.items) (reverse c.take_name-kind.new.stack.items) c.take_instances-instances.ensures c.take_overrides-overrides.ensures c.take_name-kind.ensures (λ instances overrides kind rest. Some (Value.Module (ModuleValue.Item (Item.Instances (record { «module» = kind; overrides = overrides; instances = instances }))) ∷ rest)) (sym c.all_three.ensures ∙ c.in_default.is)
