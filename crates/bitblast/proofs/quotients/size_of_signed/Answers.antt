use Rattle.bitblast.proofs.SignedLaws.{size_word}
use Rattle.bitblast.proofs.quotients.size_of_signed.Goals as goal

pub returns : goal.returns
returns c = size_word _ _ _ c.args.word.now c.in_ok-negative.negative.items _ _ _ c.requires.some c.deref.ensures.0 c.in_ok-negative.ensures c.in_ok-made.ensures
