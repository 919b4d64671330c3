use Rattle.std.proofs.Common.{refl}
use Rattle.c_tokens.specs.Kinds.{KEYWORDS}
use Rattle.c_tokens.proofs.kinds.keywords.Goals as goal

pub returns : goal.returns
unfolding KEYWORDS
returns c = refl
