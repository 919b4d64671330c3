use Rattle.std.proofs.Common.{ap, ◌∙◌, replicate}
use Rattle.bitblast.proofs.Ending.{at_start}
use Rattle.bitblast.proofs.Placing.{no_word}
use Rattle.bitblast.proofs.blasting.Maker.new.Goals as goal

pub returns : goal.returns
returns c =
    at_start c.args.terms.now c.args.list.now _ _ _ c.truth-live.result c.falsity-root.result c.vars.ensures.proper c.in_ok-net.ensures
    (c.in_ok-wires.ensures ∙ ap (λ n. replicate n no_word) c.vars.ensures.value) (c.in_ok-words.ensures ∙ ap (λ n. replicate n no_word) c.len-2.ensures.value)
    c.truth-live.ensures.within c.falsity-root.ensures.there c.truth-live.ensures.value c.falsity-root.ensures.value
