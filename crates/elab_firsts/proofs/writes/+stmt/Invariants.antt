use Rattle.std.proofs.Common.{◌≡◌, take}
use Rattle.std.specs.Prelude.{flat_map}
use Rattle.elab_names.specs.declared.constant.Worth.TheVariants.{Value}
use Rattle.elab_loops.specs.Loops.{with_turn}
use Rattle.elab_firsts.specs.Writes.{stmt_writes}
use Rattle.elab_firsts.proofs.writes.+stmt.Given as goal

abbrev pub invariant-stmts_writes-loop-s : goal.invariant-stmts_writes-loop-s
invariant-stmts_writes-loop-s l = l.writes ≡ flat_map (λ s. stmt_writes l.names s l.turns) (take l.s-index l.body)

abbrev pub invariant-turns_writes-loop-value : goal.invariant-turns_writes-loop-value
invariant-turns_writes-loop-value l = l.writes ≡ flat_map (λ v. stmt_writes l.names l.body (with_turn l.turns l.integer (Value v))) (take l.value-index l.values)
