use Rattle.v_depth.proofs.Sizes.{size_law}
use Rattle.v_depth.proofs.size_law.Goals as goal

pub returns : goal.returns
returns c = size_law
