use Rattle.c_structs.proofs.Fitting.{structs_keep_fitting, depths_stay}
use Rattle.c_structs.proofs.structs_fit.Goals as goal

pub returns-clause-fit : goal.returns-clause-fit
returns-clause-fit c = structs_keep_fitting

pub returns-clause-depths : goal.returns-clause-depths
returns-clause-depths c = depths_stay
