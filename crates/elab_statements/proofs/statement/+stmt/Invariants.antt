use Rattle.std.proofs.Common.{◌≡◌, take, map}
use Rattle.elab_names.specs.declared.constant.Worth.TheVariants.{Value}
use Rattle.elab_loops.specs.Loops.{with_turn}
use Rattle.elab_statements.specs.Statements.{flat_stmt, flat_item}
use Rattle.elab_statements.proofs.statement.+stmt.Given as goal

abbrev pub invariant-flat_body-loop-s : goal.invariant-flat_body-loop-s
invariant-flat_body-loop-s l = l.flat ≡ map (λ s. flat_stmt l.names s l.turns) (take l.s-index l.body)

abbrev pub invariant-flat_items-loop-c : goal.invariant-flat_items-loop-c
invariant-flat_items-loop-c l = l.flat ≡ map (λ c. flat_item l.names l.kind c l.turns) (take l.c-index l.items)

abbrev pub invariant-flat_copies-loop-value : goal.invariant-flat_copies-loop-value
invariant-flat_copies-loop-value l = l.copies ≡ map (λ v. flat_stmt l.names l.body (with_turn l.turns l.integer (Value v))) (take l.value-index l.values)
