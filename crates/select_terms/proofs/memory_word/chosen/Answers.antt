use Rattle.std.proofs.Common.{◌%◌, ◌^◌, ap, ◌∙◌}
use Rattle.bits_core.specs.Word.{word}
use Rattle.select_terms.proofs.Reading.{chosen_made}
use Rattle.select_terms.proofs.memory_word.chosen.Goals as goal

pub returns-clause-adds : goal.returns-clause-adds
returns-clause-adds c =
    chosen_made c.args.terms.now c.constant.new.terms c.two.new.terms c.choose.new.terms c.args.index.0 c.args.word.0 c.args.so_far.0 c.in_ok-number.number.0 c.in_ok-here.here.0 c.in_ok-t.t.0 c.args.place c.from_low_bits.result
    (c.from_low_bits.ensures.value ∙ ap (λ w. word w (c.args.place % 2 ^ w)) c.width_of-width.ensures.width) c.requires.fits c.requires.index c.requires.word
    c.in_ok-number.ensures.adds c.in_ok-here.ensures.adds c.in_ok-t.ensures.adds
