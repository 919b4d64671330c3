use Rattle.joint_laws.proofs.WorkedRuns.{worked_runs}
use Rattle.joint_laws.proofs.Fitting.{worked_pairs}
use Rattle.joint_laws.proofs.worked.Goals as goal

pub returns-clause-runs : goal.returns-clause-runs
returns-clause-runs c = worked_runs

pub returns-clause-pairs : goal.returns-clause-pairs
returns-clause-pairs c = worked_pairs
