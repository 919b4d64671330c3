use Rattle.std.proofs.Common.{◌∷◌, Some, reverse, sym, ◌∙◌}
use Rattle.stack_parts.proofs.Takings.{three_found, three_lost}
use Rattle.v_stack.specs.Values.{with_expr_option, with_name, with_place}
use Rattle.v_stack.specs.declared.values.ConnectValue.TheVariants as ConnectValue
use Rattle.v_stack.specs.declared.values.Value.TheVariants as Value
use Rattle.v_make_statements.proofs.connection_actions.make_named.Goals as goal

pub returns : goal.returns
returns c =
    let e = three_found c.take_expr_option-value.result c.take_name-name.result c.take_place-place.result (with_expr_option (reverse c.args.stack.now.items)) with_name with_place (reverse c.take_expr_option-value.new.stack.items) (reverse c.take_name-name.new.stack.items) (reverse c.take_place-place.new.stack.items) c.take_expr_option-value.ensures c.take_name-name.ensures c.take_place-place.ensures (λ value name place rest. Some (Value.Connect (ConnectValue.Named (record { place = place; name = name; value = value })) ∷ rest)) (c.in-Some.value, c.in-Some.name, c.in-Some.place) (sym c.all_three.ensures ∙ c.in-Some.is) in
    let p = c.in_ok-put.ensures in
    cc

pub returns-in_default : goal.returns-in_default
returns-in_default c = three_lost c.take_expr_option-value.result c.take_name-name.result c.take_place-place.result (with_expr_option (reverse c.args.stack.now.items)) with_name with_place (reverse c.take_expr_option-value.new.stack.items) (reverse c.take_name-name.new.stack.items) (reverse c.take_place-place.new.stack.items) c.take_expr_option-value.ensures c.take_name-name.ensures c.take_place-place.ensures (λ value name place rest. Some (Value.Connect (ConnectValue.Named (record { place = place; name = name; value = value })) ∷ rest)) (sym c.all_three.ensures ∙ c.in_default.is)
