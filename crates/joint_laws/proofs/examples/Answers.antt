use Rattle.joint_laws.proofs.Counting.{examples}
use Rattle.joint_laws.proofs.examples.Goals as goal

pub returns : goal.returns
returns c = examples
