use Rattle.std.proofs.Common.{◌∷◌, Some, reverse, sym, ◌∙◌}
use Rattle.stack_parts.proofs.Takings.{two_found, two_lost}
use Rattle.v_stack.specs.Values.{with_expr_option, with_name}
use Rattle.v_stack.specs.declared.values.NamesValue.TheVariants as NamesValue
use Rattle.v_stack.specs.declared.values.Value.TheVariants as Value
use Rattle.v_make_declarations.proofs.declaration_actions.make_declarator.Goals as goal

pub returns : goal.returns
returns c =
    let e = two_found c.take_expr_option-value.result c.take_name-name.result (with_expr_option (reverse c.args.stack.now.items)) with_name (reverse c.take_expr_option-value.new.stack.items) (reverse c.take_name-name.new.stack.items) c.take_expr_option-value.ensures c.take_name-name.ensures (λ value name rest. Some (Value.Names (NamesValue.Declarator (record { name = name; value = value })) ∷ rest)) (c.in-Some.value, c.in-Some.name) (sym c.all_two.ensures ∙ c.in-Some.is) in
    let p = c.in_ok-put.ensures in
    cc

pub returns-in_default : goal.returns-in_default
returns-in_default c = two_lost c.take_expr_option-value.result c.take_name-name.result (with_expr_option (reverse c.args.stack.now.items)) with_name (reverse c.take_expr_option-value.new.stack.items) (reverse c.take_name-name.new.stack.items) c.take_expr_option-value.ensures c.take_name-name.ensures (λ value name rest. Some (Value.Names (NamesValue.Declarator (record { name = name; value = value })) ∷ rest)) (sym c.all_two.ensures ∙ c.in_default.is)
