use Rattle.bound_pairs.proofs.Fitting.{fits_as}
use Rattle.bound_pairs.proofs.bound_pair.Goals as goal

-- src/lib.rt:18:1
pub returns-clause-well : goal.returns-clause-well
returns-clause-well c =
    fits_as c.args.program c.args.flat c.requires.program_fits c.requires.module_fits c.requires.apart c.in_ok-binding.ensures.clean c.in_ok-binding.binding c.in_ok-binding.ensures.bound
