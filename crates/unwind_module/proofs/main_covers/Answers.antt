use Rattle.unwind_module.proofs.Starts.{main_runs}
use Rattle.unwind_module.proofs.main_covers.Goals as goal

pub returns : goal.returns
returns c = main_runs
