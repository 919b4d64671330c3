use Rattle.std.proofs.Common.{◌≡◌, [], ◌∷◌, ◌++◌, Some, None, reverse, sym, ◌∙◌}
use Rattle.stack_parts.proofs.Takings.{two_found, two_lost}
use Rattle.c_stack.specs.Values.{with_path, with_step_mark}
use Rattle.c_tree.specs.declared.statements.Simple.TheVariants as simple
use Rattle.c_stack.specs.declared.values.Value.TheVariants as value
use Rattle.c_stack.specs.declared.values.StatementValue.TheVariants as statement_value
use Rattle.c_make_statements.proofs.statement_actions.make_step_after.Goals as goal

pub returns : goal.returns
returns c =
    let e = two_found c.take_step_mark-mark.result c.take_path-target.result (with_step_mark (reverse c.args.stack.now.items)) with_path (reverse c.take_step_mark-mark.new.stack.items) (reverse c.take_path-target.new.stack.items) c.take_step_mark-mark.ensures c.take_path-target.ensures (λ mark target rest. Some (value.Statement (statement_value.Simple (simple.StepAfter target mark)) ∷ rest)) (c.in-Some.mark, c.in-Some.target) (sym c.all_two.ensures ∙ c.in-Some.is) in
    let p = c.in_ok-put.ensures in
    cc

pub returns-in_default : goal.returns-in_default
returns-in_default c = two_lost c.take_step_mark-mark.result c.take_path-target.result (with_step_mark (reverse c.args.stack.now.items)) with_path (reverse c.take_step_mark-mark.new.stack.items) (reverse c.take_path-target.new.stack.items) c.take_step_mark-mark.ensures c.take_path-target.ensures (λ mark target rest. Some (value.Statement (statement_value.Simple (simple.StepAfter target mark)) ∷ rest)) (sym c.all_two.ensures ∙ c.in_default.is)
