use Rattle.v_actions.proofs.Laws.{tree_law}
use Rattle.v_actions.proofs.tree_law.Goals as goal

pub returns : goal.returns
returns c = tree_law
