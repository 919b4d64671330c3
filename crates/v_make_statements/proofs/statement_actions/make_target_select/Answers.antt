use Rattle.std.proofs.Common.{◌∷◌, Some, reverse, sym, ◌∙◌}
use Rattle.stack_parts.proofs.Takings.{two_found, two_lost}
use Rattle.v_stack.specs.Values.{with_name, with_selection}
use Rattle.v_stack.specs.declared.values.StmtValue.TheVariants as StmtValue
use Rattle.v_tree.specs.declared.stmt.Target.TheVariants as Target
use Rattle.v_stack.specs.declared.values.Value.TheVariants as Value
use Rattle.v_make_statements.proofs.statement_actions.make_target_select.Goals as goal

pub returns : goal.returns
returns c =
    let e = two_found c.take_selection-selection.result c.take_name-name.result (with_selection (reverse c.args.stack.now.items)) with_name (reverse c.take_selection-selection.new.stack.items) (reverse c.take_name-name.new.stack.items) c.take_selection-selection.ensures c.take_name-name.ensures (λ selection name rest. Some (Value.Stmt (StmtValue.Target (Target.Select name selection)) ∷ rest)) (c.in-Some.selection, c.in-Some.name) (sym c.all_two.ensures ∙ c.in-Some.is) in
    let p = c.in_ok-put.ensures in
    cc

pub returns-in_default : goal.returns-in_default
returns-in_default c = two_lost c.take_selection-selection.result c.take_name-name.result (with_selection (reverse c.args.stack.now.items)) with_name (reverse c.take_selection-selection.new.stack.items) (reverse c.take_name-name.new.stack.items) c.take_selection-selection.ensures c.take_name-name.ensures (λ selection name rest. Some (Value.Stmt (StmtValue.Target (Target.Select name selection)) ∷ rest)) (sym c.all_two.ensures ∙ c.in_default.is)
