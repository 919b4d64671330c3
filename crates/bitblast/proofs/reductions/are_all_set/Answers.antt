use Rattle.bitblast.proofs.Reducing.{all_edge}
use Rattle.bitblast.proofs.reductions.are_all_set.Goals as goal

pub returns : goal.returns
returns c =
    all_edge _ _ c.args.word.now _ c.inverted-turned.result.items _ _ c.deref.ensures.0 c.inverted-turned.ensures.bits c.inverted-turned.ensures.value
    c.opposite.ensures.node c.opposite.ensures.value c.in_ok-some.ensures
