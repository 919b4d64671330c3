use Rattle.std.proofs.Common.{◌≡◌, [], ◌∷◌, ◌++◌, Some, None, reverse, sym, ◌∙◌}
use Rattle.stack_parts.proofs.Takings.{two_found, two_lost}
use Rattle.c_stack.specs.Values.{with_initializer, with_path}
use Rattle.c_tree.specs.declared.statements.Simple.TheVariants as simple
use Rattle.c_stack.specs.declared.values.Value.TheVariants as value
use Rattle.c_stack.specs.declared.values.StatementValue.TheVariants as statement_value
use Rattle.c_make_statements.proofs.statement_actions.make_assign.Goals as goal

pub returns : goal.returns
returns c =
    let e = two_found c.take_initializer-given.result c.take_path-target.result (with_initializer (reverse c.args.stack.now.items)) with_path (reverse c.take_initializer-given.new.stack.items) (reverse c.take_path-target.new.stack.items) c.take_initializer-given.ensures c.take_path-target.ensures (λ given target rest. Some (value.Statement (statement_value.Simple (simple.Assign target given)) ∷ rest)) (c.in-Some.given, c.in-Some.target) (sym c.all_two.ensures ∙ c.in-Some.is) in
    let p = c.in_ok-put.ensures in
    cc

pub returns-in_default : goal.returns-in_default
returns-in_default c = two_lost c.take_initializer-given.result c.take_path-target.result (with_initializer (reverse c.args.stack.now.items)) with_path (reverse c.take_initializer-given.new.stack.items) (reverse c.take_path-target.new.stack.items) c.take_initializer-given.ensures c.take_path-target.ensures (λ given target rest. Some (value.Statement (statement_value.Simple (simple.Assign target given)) ∷ rest)) (sym c.all_two.ensures ∙ c.in_default.is)
