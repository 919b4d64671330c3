-- The nodes of a tree are few for the bytes of its text.
use Rattle.std.proofs.Common.{arith}
use Rattle.c_tokens.proofs.GivenLemmas.{c_tokens-few}
use Rattle.c_depth.specs.Laws.{SizeLaw}
use Rattle.c_depth.proofs.Laws.{told}

pub size_law : SizeLaw
size_law text tree is =
    let n = (told text is.productions tree is.parses is.builds).few in
    let few = c_tokens-few text in
    omega (arith, n, few)
