use Rattle.std.proofs.Common.{refl}
use Rattle.c_tokens.specs.Kinds.{MARKS}
use Rattle.c_tokens.proofs.kinds.marks.Goals as goal

pub returns : goal.returns
unfolding MARKS
returns c = refl
