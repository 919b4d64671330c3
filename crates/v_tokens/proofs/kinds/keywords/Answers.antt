use Rattle.std.proofs.Common.{refl}
use Rattle.v_tokens.specs.Kinds.{KEYWORDS}
use Rattle.v_tokens.proofs.kinds.keywords.Goals as goal

pub returns : goal.returns
unfolding KEYWORDS
returns c = refl
