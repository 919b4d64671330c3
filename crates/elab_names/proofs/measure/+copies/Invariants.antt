use Rattle.elab_names.proofs.measure.+copies.Given as goal

abbrev pub decreases-copies : goal.decreases-copies
decreases-copies l = l.more
