use Rattle.std.proofs.Common.{ℕ, take}
use Rattle.std.specs.Prelude.{Contains}
use Rattle.word_eqs.specs.Graph.{places}
use Rattle.bitblast.specs.Wires.{IsMade}
use Rattle.bitblast.proofs.making.first_unmade.Given as goal

abbrev pub invariant-loop-id : goal.invariant-loop-id
invariant-loop-id l = (k : ℕ) → Contains (places (take l.id-index l.ids)) k → IsMade l.words k
