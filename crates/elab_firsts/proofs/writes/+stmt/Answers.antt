use Rattle.std.proofs.Common.{refl, ap, ◌∙◌}
use Rattle.std.specs.Prelude.{flat_map}
use Rattle.v_tree.specs.declared.stmt.Stmt.{Stmt}
use Rattle.elab_names.proofs.Cases.{case_one}
use Rattle.elab_firsts.specs.Writes.{loop_writes, stmt_writes}
use Rattle.elab_firsts.proofs.Equations.{block_made, for_made, loop_made}
use Rattle.elab_firsts.proofs.writes.+stmt.Goals as goal

pub stmt_writes-returns-in_ok-writes-in-Block : goal.stmt_writes-returns-in_ok-writes-in-Block
stmt_writes-returns-in_ok-writes-in-Block t c =
    let f = λ (s : Stmt). stmt_writes c.args.names.now s c.args.turns.now in
    case_one f (flat_map f) (λ l. l) _ _ _ _ _ _
    c.in-Block.is c.as_slice.ensures c.in_ok-writes-in-Block.ensures refl (block_made c.args.names.now c.args.turns.now c.in-Block.field-0 c.in-Block.field-1 _)

pub stmt_writes-returns-in_ok-writes-in-For : goal.stmt_writes-returns-in_ok-writes-in-For
stmt_writes-returns-in_ok-writes-in-For t c =
    case_one (λ (s : Stmt). stmt_writes c.args.names.now s c.args.turns.now) (λ (s : Stmt). loop_writes c.args.names.now (stmt_writes c.args.names.now s) c.args.turns.now c.in-For.head) (λ l. l) _ _ _ _ _ _
    c.in-For.is c.get.ensures c.in_ok-writes-in-For.ensures refl (for_made c.args.names.now c.args.turns.now c.in-For.field-0 c.in-For.head _)

pub loop_writes-returns : goal.loop_writes-returns
loop_writes-returns t c =
    loop_made c.args.names.now c.args.turns.now c.args.body.now c.args.head.now _ _ _ _ _
    c.find.ensures c.integer_number-integer.ensures c.in_ok-taken.ensures c.as_slice.ensures c.in_ok-writes.ensures

pub turn_writes-returns : goal.turn_writes-returns
turn_writes-returns t c =
    c.in_ok-writes.ensures ∙ ap (stmt_writes c.args.names.now c.args.body.now) (c.as_slice.ensures ∙ c.in_ok-inside.ensures)
