use Rattle.list_laws.proofs.Matching.{each_matched}
use Rattle.list_laws.proofs.each_list_matched.Goals as goal

pub returns : goal.returns
returns c = each_matched
