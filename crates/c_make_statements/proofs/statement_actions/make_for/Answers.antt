use Rattle.std.proofs.Common.{◌≡◌, [], ◌∷◌, ◌++◌, Some, None, reverse, sym, ap, ◌∙◌}
use Rattle.stack_parts.proofs.Takings.{five_found, five_lost}
use Rattle.c_stack.specs.Values.{with_statement, with_simple_option, with_expression_option, with_for_first, with_place}
use Rattle.c_tree.specs.declared.statements.Statement.TheVariants as statement
use Rattle.c_stack.specs.declared.values.Value.TheVariants as value
use Rattle.c_stack.specs.declared.values.StatementValue.TheVariants as statement_value
use Rattle.c_make_statements.proofs.statement_actions.make_for.Goals as goal

pub returns : goal.returns
returns c =
    let e = five_found c.take_statement-body.result c.take_simple_option-step.result c.take_expression_option-condition.result c.take_for_first-first.result c.take_place-place.result (with_statement (reverse c.args.stack.now.items)) with_simple_option with_expression_option with_for_first with_place (reverse c.take_statement-body.new.stack.items) (reverse c.take_simple_option-step.new.stack.items) (reverse c.take_expression_option-condition.new.stack.items) (reverse c.take_for_first-first.new.stack.items) (reverse c.take_place-place.new.stack.items) c.take_statement-body.ensures c.take_simple_option-step.ensures c.take_expression_option-condition.ensures c.take_for_first-first.ensures c.take_place-place.ensures (λ body step condition first place rest. Some (value.Statement (statement_value.Statement (statement.For place first condition step body)) ∷ rest)) (c.in-Some.body, c.in-Some.step, c.in-Some.condition, c.in-Some.first, c.in-Some.place) (sym c.all_five.ensures ∙ c.in-Some.is) in
    let f0 = c.in_ok-body.ensures in
    let g0 = f0.0 in
    let h0 = f0.1 in
    let q0 = ap (λ y. y.0) h0 in
    let q1 = ap (λ y. y.1) h0 in
    let q2 = ap (λ y. y.2) h0 in
    let q3 = ap (λ y. y.3) h0 in
    let p = c.in_ok-put.ensures in
    cc

pub returns-in_default : goal.returns-in_default
returns-in_default c = five_lost c.take_statement-body.result c.take_simple_option-step.result c.take_expression_option-condition.result c.take_for_first-first.result c.take_place-place.result (with_statement (reverse c.args.stack.now.items)) with_simple_option with_expression_option with_for_first with_place (reverse c.take_statement-body.new.stack.items) (reverse c.take_simple_option-step.new.stack.items) (reverse c.take_expression_option-condition.new.stack.items) (reverse c.take_for_first-first.new.stack.items) (reverse c.take_place-place.new.stack.items) c.take_statement-body.ensures c.take_simple_option-step.ensures c.take_expression_option-condition.ensures c.take_for_first-first.ensures c.take_place-place.ensures (λ body step condition first place rest. Some (value.Statement (statement_value.Statement (statement.For place first condition step body)) ∷ rest)) (sym c.all_five.ensures ∙ c.in_default.is)
