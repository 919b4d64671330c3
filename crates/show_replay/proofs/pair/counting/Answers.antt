use Rattle.std.proofs.Common.{arith}
use Rattle.show_replay.proofs.Same.{well_formed}
use Rattle.show_replay.proofs.pair.counting.Goals as goal

-- src/pair.rt:220:1
pub returns-clause-well : goal.returns-clause-well
returns-clause-well c = well_formed _ _ _ _ (c.in_ok-program.ensures) (c.in_ok-counter.ensures) (c.in_ok-one.ensures) (omega arith)
