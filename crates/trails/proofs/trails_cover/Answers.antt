use Rattle.trails.proofs.Covers.{covers}
use Rattle.trails.proofs.trails_cover.Goals as goal

pub returns : goal.returns
returns c = covers
