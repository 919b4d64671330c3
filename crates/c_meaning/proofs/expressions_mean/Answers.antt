use Rattle.c_meaning.proofs.Means.{has_meaning}
use Rattle.c_meaning.proofs.Standing.{stands}
use Rattle.c_meaning.proofs.expressions_mean.Goals as goal

pub returns-clause-means : goal.returns-clause-means
returns-clause-means c = has_meaning

pub returns-clause-stand : goal.returns-clause-stand
returns-clause-stand c = stands
