use Rattle.std.proofs.Common.{◌%◌, ◌^◌, ap, ◌∙◌}
use Rattle.bits_core.specs.Word.{Word, word}
use Rattle.bits_core.specs.Ops.{word2}
use Rattle.bits_core.specs.declared.op.Op2.TheVariants.{Sub}
use Rattle.select_terms.proofs.Steps.{place_made}
use Rattle.select_terms.proofs.selection_terms.place.Goals as goal

pub returns-clause-adds : goal.returns-clause-adds
returns-clause-adds c =
    place_made c.args.terms.now c.resize.new.terms c.constant.new.terms c.two.new.terms c.args.index.0 c.in_ok-wide.wide.0 c.in_ok-offset.offset.0 c.in_ok-t.t.0 c.args.width c.args.bits c.args.lowest c.args.signed c.apply2.result
    (c.apply2.ensures ∙ ap (λ (x : Word). word2 Sub x c.from_low_bits-down.result) c.from_low_bits-up.ensures.value ∙ ap (λ (x : Word). word2 Sub (word c.args.width (c.args.bits % 2 ^ c.args.width)) x) c.from_low_bits-down.ensures.value)
    c.in_ok-wide.ensures.adds c.in_ok-offset.ensures.adds c.in_ok-t.ensures.adds
