use Rattle.node_count.proofs.Few.{count_law}
use Rattle.node_count.proofs.count_law.Goals as goal

pub returns : goal.returns
returns c = count_law
