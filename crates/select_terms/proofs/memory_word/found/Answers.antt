use Rattle.std.proofs.Common.{◌<◌, sym, ◌∙◌, subst}
use Rattle.word_eqs.specs.Graph.{width_in}
use Rattle.select_terms.proofs.Reading.{found_near, found_far, far, near}
use Rattle.select_terms.proofs.memory_word.found.Goals as goal

pub returns-then-not-fits-clause-adds : goal.returns-then-not-fits-clause-adds
returns-then-not-fits-clause-adds c =
    let w = c.width_of-width.ensures.width in
    found_far c.args.terms.now c.args.index.0 c.args.word.0 c.args.so_far.0 c.args.place _ c.args.signed c.len.ensures.proper (subst (λ k. 0 < k) w c.width_of-width.ensures.some) c.requires.index c.requires.so_far c.requires.width
    (far c.args.signed c.width_of-width.result (width_in c.args.terms.now c.args.index.0) c.bits_of.result c.args.place c.bits_of.ensures w (sym c.if-not-fits.true ∙ c.fits.ensures))

pub returns-clause-adds : goal.returns-clause-adds
returns-clause-adds c =
    let w = c.width_of-width.ensures.width in
    found_near c.args.terms.now c.chosen.new.terms c.args.index.0 c.args.word.0 c.args.so_far.0 c.in_ok-t.t.0 c.args.place c.args.signed c.chosen.ensures.proper (subst (λ k. 0 < k) w c.width_of-width.ensures.some) c.requires.index
    (near c.args.signed c.width_of-width.result (width_in c.args.terms.now c.args.index.0) c.bits_of.result c.args.place c.bits_of.ensures w (sym c.if-not-fits.false ∙ c.fits.ensures)) c.in_ok-t.ensures.adds
