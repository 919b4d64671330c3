use Rattle.v_depth.proofs.Laws.{depth_law}
use Rattle.v_depth.proofs.depth_law.Goals as goal

pub returns : goal.returns
returns c = depth_law
