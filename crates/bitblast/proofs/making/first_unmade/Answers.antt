use Rattle.std.proofs.Common.{rules, arith}
use Rattle.bitblast.specs.Wires.{IsMade}
use Rattle.bitblast.proofs.Naming.{named_more, place_of}
use Rattle.bitblast.proofs.making.first_unmade.Goals as goal

pub edges_of-requires : goal.edges_of-requires
edges_of-requires c = c.requires _ (place_of c.args.ids.now c.loop-id.id-index _ (omega arith))

pub loop-id-preserved : goal.loop-id-preserved
loop-id-preserved c = named_more (IsMade c.args.words.now) c.args.ids.now c.loop-id.id-index (record { 0 = 0 }) (omega arith) c.loop-id.invariant (search rules)
