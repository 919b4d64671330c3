use Rattle.std.proofs.Common.{◌≡◌, [], ◌∷◌, ◌++◌, Some, None, reverse, sym, ◌∙◌}
use Rattle.stack_parts.proofs.Takings.{three_found, three_lost}
use Rattle.c_stack.specs.Values.{with_expression, with_groups, with_place}
use Rattle.c_tree.specs.declared.statements.Statement.TheVariants as statement
use Rattle.c_stack.specs.declared.values.Value.TheVariants as value
use Rattle.c_stack.specs.declared.values.StatementValue.TheVariants as statement_value
use Rattle.c_make_statements.proofs.statement_actions.make_switch.Goals as goal

pub returns : goal.returns
returns c =
    let e = three_found c.take_groups-groups.result c.take_expression-given.result c.take_place-place.result (with_groups (reverse c.args.stack.now.items)) with_expression with_place (reverse c.take_groups-groups.new.stack.items) (reverse c.take_expression-given.new.stack.items) (reverse c.take_place-place.new.stack.items) c.take_groups-groups.ensures c.take_expression-given.ensures c.take_place-place.ensures (λ groups given place rest. Some (value.Statement (statement_value.Statement (statement.Switch place given groups)) ∷ rest)) (c.in-Some.groups, c.in-Some.given, c.in-Some.place) (sym c.all_three.ensures ∙ c.in-Some.is) in
    let p = c.in_ok-put.ensures in
    cc

pub returns-in_default : goal.returns-in_default
returns-in_default c = three_lost c.take_groups-groups.result c.take_expression-given.result c.take_place-place.result (with_groups (reverse c.args.stack.now.items)) with_expression with_place (reverse c.take_groups-groups.new.stack.items) (reverse c.take_expression-given.new.stack.items) (reverse c.take_place-place.new.stack.items) c.take_groups-groups.ensures c.take_expression-given.ensures c.take_place-place.ensures (λ groups given place rest. Some (value.Statement (statement_value.Statement (statement.Switch place given groups)) ∷ rest)) (sym c.all_three.ensures ∙ c.in_default.is)
