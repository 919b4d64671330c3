use Rattle.std.proofs.Common.{◌≡◌, [], ◌∷◌, ◌++◌, Some, None, reverse, sym, ◌∙◌}
use Rattle.stack_parts.proofs.Takings.{three_found, three_lost}
use Rattle.c_stack.specs.Values.{with_assignment_mark, with_expression, with_path}
use Rattle.c_tree.specs.declared.statements.Simple.TheVariants as simple
use Rattle.c_stack.specs.declared.values.Value.TheVariants as value
use Rattle.c_stack.specs.declared.values.StatementValue.TheVariants as statement_value
use Rattle.c_make_statements.proofs.statement_actions.make_update.Goals as goal

pub returns : goal.returns
returns c =
    let e = three_found c.take_expression-operand.result c.take_assignment_mark-mark.result c.take_path-target.result (with_expression (reverse c.args.stack.now.items)) with_assignment_mark with_path (reverse c.take_expression-operand.new.stack.items) (reverse c.take_assignment_mark-mark.new.stack.items) (reverse c.take_path-target.new.stack.items) c.take_expression-operand.ensures c.take_assignment_mark-mark.ensures c.take_path-target.ensures (λ operand mark target rest. Some (value.Statement (statement_value.Simple (simple.Update target mark operand)) ∷ rest)) (c.in-Some.operand, c.in-Some.mark, c.in-Some.target) (sym c.all_three.ensures ∙ c.in-Some.is) in
    let p = c.in_ok-put.ensures in
    cc

pub returns-in_default : goal.returns-in_default
returns-in_default c = three_lost c.take_expression-operand.result c.take_assignment_mark-mark.result c.take_path-target.result (with_expression (reverse c.args.stack.now.items)) with_assignment_mark with_path (reverse c.take_expression-operand.new.stack.items) (reverse c.take_assignment_mark-mark.new.stack.items) (reverse c.take_path-target.new.stack.items) c.take_expression-operand.ensures c.take_assignment_mark-mark.ensures c.take_path-target.ensures (λ operand mark target rest. Some (value.Statement (statement_value.Simple (simple.Update target mark operand)) ∷ rest)) (sym c.all_three.ensures ∙ c.in_default.is)
