use Rattle.std.proofs.Common.{◌∷◌, Some, reverse, sym, ◌∙◌}
use Rattle.stack_parts.proofs.Takings.{two_found, two_lost}
use Rattle.v_stack.specs.Values.{with_place, with_stmt}
use Rattle.v_tree.specs.declared.item.Item.TheVariants as Item
use Rattle.v_stack.specs.declared.values.ModuleValue.TheVariants as ModuleValue
use Rattle.v_stack.specs.declared.values.Value.TheVariants as Value
use Rattle.v_make_declarations.proofs.module_actions.make_initial_item.Goals as goal

pub returns : goal.returns
returns c =
    let e = two_found c.take_stmt-body.result c.take_place-place.result (with_stmt (reverse c.args.stack.now.items)) with_place (reverse c.take_stmt-body.new.stack.items) (reverse c.take_place-place.new.stack.items) c.take_stmt-body.ensures c.take_place-place.ensures (λ body place rest. Some (Value.Module (ModuleValue.Item (Item.Initial place body)) ∷ rest)) (c.in-Some.body, c.in-Some.place) (sym c.all_two.ensures ∙ c.in-Some.is) in
    let p = c.in_ok-put.ensures in
    cc

pub returns-in_default : goal.returns-in_default
returns-in_default c = two_lost c.take_stmt-body.result c.take_place-place.result (with_stmt (reverse c.args.stack.now.items)) with_place (reverse c.take_stmt-body.new.stack.items) (reverse c.take_place-place.new.stack.items) c.take_stmt-body.ensures c.take_place-place.ensures (λ body place rest. Some (Value.Module (ModuleValue.Item (Item.Initial place body)) ∷ rest)) (sym c.all_two.ensures ∙ c.in_default.is)
