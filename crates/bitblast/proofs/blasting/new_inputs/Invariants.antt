use Rattle.std.proofs.Common.{◌≡◌, ◌++◌, length, replicate}
use Rattle.gate_net.specs.declared.net.Node.TheVariants.{Input}
use Rattle.bitblast.specs.Blasted.{inputs_from}
use Rattle.bitblast.proofs.blasting.new_inputs.Given as goal

abbrev pub invariant-loop : goal.invariant-loop
invariant-loop l = record { net : l.net ≡ l.fn.net ++ replicate l.counter Input; word : l.word.items ≡ inputs_from (length l.fn.net) (replicate l.counter Input) }
