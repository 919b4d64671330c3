use Rattle.bitblast.proofs.SumLaws.{negated_word}
use Rattle.bitblast.proofs.sums.negate.Goals as goal

pub returns : goal.returns
returns c = negated_word _ _ c.args.word.now _ c.filled-zeros.result.items _ _ c.deref.ensures.0 c.filled-zeros.ensures c.falsity.ensures.value c.in_ok-made.ensures
