use Rattle.joint_laws.proofs.Choices.{enough}
use Rattle.joint_laws.proofs.enough_choices.Goals as goal

pub returns : goal.returns
returns c = enough
