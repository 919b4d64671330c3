use Rattle.std.proofs.Common.{refl}
use Rattle.c_tokens.specs.Kinds.{SUFFIXES}
use Rattle.c_tokens.proofs.kinds.suffixes.Goals as goal

pub returns : goal.returns
unfolding SUFFIXES
returns c = refl
