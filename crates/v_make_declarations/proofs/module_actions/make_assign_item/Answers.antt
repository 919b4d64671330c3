use Rattle.std.proofs.Common.{◌∷◌, Some, reverse, sym, ◌∙◌}
use Rattle.stack_parts.proofs.Takings.{two_found, two_lost}
use Rattle.v_stack.specs.Values.{with_net_assignments, with_place}
use Rattle.v_tree.specs.declared.item.Item.TheVariants as Item
use Rattle.v_stack.specs.declared.values.ModuleValue.TheVariants as ModuleValue
use Rattle.v_stack.specs.declared.values.Value.TheVariants as Value
use Rattle.v_make_declarations.proofs.module_actions.make_assign_item.Goals as goal

pub returns : goal.returns
returns c =
    let e = two_found c.take_net_assignments-assignments.result c.take_place-place.result (with_net_assignments (reverse c.args.stack.now.items)) with_place (reverse c.take_net_assignments-assignments.new.stack.items) (reverse c.take_place-place.new.stack.items) c.take_net_assignments-assignments.ensures c.take_place-place.ensures (λ assignments place rest. Some (Value.Module (ModuleValue.Item (Item.Assign (record { place = place; assignments = assignments }))) ∷ rest)) (c.in-Some.assignments, c.in-Some.place) (sym c.all_two.ensures ∙ c.in-Some.is) in
    let p = c.in_ok-put.ensures in
    cc

pub returns-in_default : goal.returns-in_default
returns-in_default c = two_lost c.take_net_assignments-assignments.result c.take_place-place.result (with_net_assignments (reverse c.args.stack.now.items)) with_place (reverse c.take_net_assignments-assignments.new.stack.items) (reverse c.take_place-place.new.stack.items) c.take_net_assignments-assignments.ensures c.take_place-place.ensures (λ assignments place rest. Some (Value.Module (ModuleValue.Item (Item.Assign (record { place = place; assignments = assignments }))) ∷ rest)) (sym c.all_two.ensures ∙ c.in_default.is)
