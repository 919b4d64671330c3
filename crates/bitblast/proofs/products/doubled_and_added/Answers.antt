use Rattle.bitblast.proofs.ProductLaws.{doubled_word}
use Rattle.bitblast.proofs.products.doubled_and_added.Goals as goal

pub returns : goal.returns
returns c =
    doubled_word _ _ _ c.args.word.now c.args.more.now c.in_ok-part.part.items _ _ _ _ _ _ c.requires.widths c.with_low-twice.ensures c.deref.ensures.0 c.deref-2.ensures.0
    c.falsity.ensures.value c.in_ok-part.ensures c.in_ok-made.ensures
