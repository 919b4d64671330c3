use Rattle.exact_draws.proofs.Runs.{run_draws}
use Rattle.exact_draws.proofs.exact_draws.Goals as goal

pub returns : goal.returns
returns c = run_draws
