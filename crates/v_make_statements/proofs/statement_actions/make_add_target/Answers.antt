use Rattle.std.proofs.Common.{[], ◌∷◌, ◌++◌, Some, reverse, sym, ◌∙◌}
use Rattle.stack_parts.proofs.Takings.{two_lost}
use Rattle.v_stack.specs.Values.{with_target, with_targets}
use Rattle.v_stack.specs.declared.values.StmtValue.TheVariants as StmtValue
use Rattle.v_stack.specs.declared.values.Value.TheVariants as Value
use Rattle.v_make_statements.proofs.statement_actions.make_add_target.Goals as goal

pub returns-in_default : goal.returns-in_default
returns-in_default c = two_lost c.take_target-target.result c.take_targets-targets.result (with_target (reverse c.args.stack.now.items)) with_targets (reverse c.take_target-target.new.stack.items) (reverse c.take_targets-targets.new.stack.items) c.take_target-target.ensures c.take_targets-targets.ensures (λ target targets rest. Some (Value.Stmt (StmtValue.Targets (targets ++ target ∷ [])) ∷ rest)) (sym c.all_two.ensures ∙ c.in_default.is)
