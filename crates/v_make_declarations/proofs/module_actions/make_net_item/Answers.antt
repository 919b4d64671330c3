use Rattle.std.proofs.Common.{◌∷◌, Some, reverse, sym, ◌∙◌}
use Rattle.stack_parts.proofs.Takings.{four_found, four_lost}
use Rattle.v_stack.specs.Values.{with_declarators, with_place, with_range_option, with_sign}
use Rattle.v_tree.specs.declared.item.Item.TheVariants as Item
use Rattle.v_stack.specs.declared.values.ModuleValue.TheVariants as ModuleValue
use Rattle.v_stack.specs.declared.values.Value.TheVariants as Value
use Rattle.v_make_declarations.proofs.module_actions.make_net_item.Goals as goal

pub returns : goal.returns
returns c =
    let e = four_found c.take_declarators-nets.result c.take_range_option-range.result c.take_sign-signed.result c.take_place-place.result (with_declarators (reverse c.args.stack.now.items)) with_range_option with_sign with_place (reverse c.take_declarators-nets.new.stack.items) (reverse c.take_range_option-range.new.stack.items) (reverse c.take_sign-signed.new.stack.items) (reverse c.take_place-place.new.stack.items) c.take_declarators-nets.ensures c.take_range_option-range.ensures c.take_sign-signed.ensures c.take_place-place.ensures (λ nets range signed place rest. Some (Value.Module (ModuleValue.Item (Item.Net (record { place = place; signed = signed; range = range; nets = nets }))) ∷ rest)) (c.in-Some.nets, c.in-Some.range, c.in-Some.signed, c.in-Some.place) (sym c.all_four.ensures ∙ c.in-Some.is) in
    let p = c.in_ok-put.ensures in
    cc

pub returns-in_default : goal.returns-in_default
returns-in_default c = four_lost c.take_declarators-nets.result c.take_range_option-range.result c.take_sign-signed.result c.take_place-place.result (with_declarators (reverse c.args.stack.now.items)) with_range_option with_sign with_place (reverse c.take_declarators-nets.new.stack.items) (reverse c.take_range_option-range.new.stack.items) (reverse c.take_sign-signed.new.stack.items) (reverse c.take_place-place.new.stack.items) c.take_declarators-nets.ensures c.take_range_option-range.ensures c.take_sign-signed.ensures c.take_place-place.ensures (λ nets range signed place rest. Some (Value.Module (ModuleValue.Item (Item.Net (record { place = place; signed = signed; range = range; nets = nets }))) ∷ rest)) (sym c.all_four.ensures ∙ c.in_default.is)
