use Rattle.std.proofs.Common.{◌≡◌, [], ◌∷◌, ◌++◌, Some, None, reverse, sym, ◌∙◌}
use Rattle.stack_parts.proofs.Takings.{two_found, two_lost}
use Rattle.c_stack.specs.Values.{with_expressions, with_name}
use Rattle.c_tree.specs.declared.statements.Simple.TheVariants as simple
use Rattle.c_stack.specs.declared.values.Value.TheVariants as value
use Rattle.c_stack.specs.declared.values.StatementValue.TheVariants as statement_value
use Rattle.c_make_statements.proofs.statement_actions.make_call.Goals as goal

pub returns : goal.returns
returns c =
    let e = two_found c.take_expressions-arguments.result c.take_name-name.result (with_expressions (reverse c.args.stack.now.items)) with_name (reverse c.take_expressions-arguments.new.stack.items) (reverse c.take_name-name.new.stack.items) c.take_expressions-arguments.ensures c.take_name-name.ensures (λ arguments name rest. Some (value.Statement (statement_value.Simple (simple.Called (record { name = name; arguments = arguments }))) ∷ rest)) (c.in-Some.arguments, c.in-Some.name) (sym c.all_two.ensures ∙ c.in-Some.is) in
    let p = c.in_ok-put.ensures in
    cc

pub returns-in_default : goal.returns-in_default
returns-in_default c = two_lost c.take_expressions-arguments.result c.take_name-name.result (with_expressions (reverse c.args.stack.now.items)) with_name (reverse c.take_expressions-arguments.new.stack.items) (reverse c.take_name-name.new.stack.items) c.take_expressions-arguments.ensures c.take_name-name.ensures (λ arguments name rest. Some (value.Statement (statement_value.Simple (simple.Called (record { name = name; arguments = arguments }))) ∷ rest)) (sym c.all_two.ensures ∙ c.in_default.is)
