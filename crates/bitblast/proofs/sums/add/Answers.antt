use Rattle.bitblast.proofs.SumLaws.{sum_word, no_carry}
use Rattle.bitblast.proofs.sums.add.Goals as goal

pub returns : goal.returns
returns c = sum_word _ _ _ _ _ _ _ _ c.in_ok-made.ensures (λ a r. no_carry _ _ _ _ (c.falsity-zero.ensures.value a r))
