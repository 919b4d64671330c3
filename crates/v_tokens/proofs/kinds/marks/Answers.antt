use Rattle.std.proofs.Common.{refl}
use Rattle.v_tokens.specs.Kinds.{MARKS}
use Rattle.v_tokens.proofs.kinds.marks.Goals as goal

pub returns : goal.returns
unfolding MARKS
returns c = refl
