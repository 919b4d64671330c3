-- The nodes of a tree are no more than the tokens of its text, and one.
use Rattle.v_depth.specs.Laws.{SizeLaw}
use Rattle.v_depth.proofs.Laws.{told}

pub size_law : SizeLaw
size_law text tree is = (told text is.productions tree is.parses is.builds).few
