use Rattle.std.proofs.Common.{◌∷◌, Some, reverse, sym, ◌∙◌}
use Rattle.stack_parts.proofs.Takings.{two_found, two_lost}
use Rattle.v_stack.specs.Values.{with_expr, with_name}
use Rattle.v_stack.specs.declared.values.DeclareValue.TheVariants as DeclareValue
use Rattle.v_stack.specs.declared.values.Value.TheVariants as Value
use Rattle.v_make_declarations.proofs.declaration_actions.make_parameter.Goals as goal

pub returns : goal.returns
returns c =
    let e = two_found c.take_expr-value.result c.take_name-name.result (with_expr (reverse c.args.stack.now.items)) with_name (reverse c.take_expr-value.new.stack.items) (reverse c.take_name-name.new.stack.items) c.take_expr-value.ensures c.take_name-name.ensures (λ value name rest. Some (Value.Declare (DeclareValue.Parameter (record { name = name; value = value })) ∷ rest)) (c.in-Some.value, c.in-Some.name) (sym c.all_two.ensures ∙ c.in-Some.is) in
    let p = c.in_ok-put.ensures in
    cc

pub returns-in_default : goal.returns-in_default
returns-in_default c = two_lost c.take_expr-value.result c.take_name-name.result (with_expr (reverse c.args.stack.now.items)) with_name (reverse c.take_expr-value.new.stack.items) (reverse c.take_name-name.new.stack.items) c.take_expr-value.ensures c.take_name-name.ensures (λ value name rest. Some (Value.Declare (DeclareValue.Parameter (record { name = name; value = value })) ∷ rest)) (sym c.all_two.ensures ∙ c.in_default.is)
