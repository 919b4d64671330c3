use Rattle.std.proofs.Common.{◌∷◌, Some, reverse, sym, ◌∙◌}
use Rattle.stack_parts.proofs.Takings.{three_found, three_lost}
use Rattle.v_stack.specs.Values.{with_label, with_place, with_stmts}
use Rattle.v_tree.specs.declared.stmt.Stmt.TheVariants as Stmt
use Rattle.v_stack.specs.declared.values.StmtValue.TheVariants as StmtValue
use Rattle.v_stack.specs.declared.values.Value.TheVariants as Value
use Rattle.v_make_statements.proofs.statement_actions.make_block.Goals as goal

pub returns : goal.returns
returns c =
    let e = three_found c.take_stmts-body.result c.take_label-label.result c.take_place-place.result (with_stmts (reverse c.args.stack.now.items)) with_label with_place (reverse c.take_stmts-body.new.stack.items) (reverse c.take_label-label.new.stack.items) (reverse c.take_place-place.new.stack.items) c.take_stmts-body.ensures c.take_label-label.ensures c.take_place-place.ensures (λ body label place rest. Some (Value.Stmt (StmtValue.Stmt (Stmt.Block place label body)) ∷ rest)) (c.in-Some.body, c.in-Some.label, c.in-Some.place) (sym c.all_three.ensures ∙ c.in-Some.is) in
    let p = c.in_ok-put.ensures in
    cc

pub returns-in_default : goal.returns-in_default
returns-in_default c = three_lost c.take_stmts-body.result c.take_label-label.result c.take_place-place.result (with_stmts (reverse c.args.stack.now.items)) with_label with_place (reverse c.take_stmts-body.new.stack.items) (reverse c.take_label-label.new.stack.items) (reverse c.take_place-place.new.stack.items) c.take_stmts-body.ensures c.take_label-label.ensures c.take_place-place.ensures (λ body label place rest. Some (Value.Stmt (StmtValue.Stmt (Stmt.Block place label body)) ∷ rest)) (sym c.all_three.ensures ∙ c.in_default.is)
