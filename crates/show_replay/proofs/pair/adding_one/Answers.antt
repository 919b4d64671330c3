use Rattle.show_replay.proofs.Same.{adding_well_formed}
use Rattle.show_replay.proofs.pair.adding_one.Goals as goal

pub returns-clause-well : goal.returns-clause-well
returns-clause-well c = adding_well_formed _ _ _ (c.in_ok-adding_program.ensures) (c.in_ok-counter.ensures) c.new.ensures
