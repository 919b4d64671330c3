use Rattle.std.proofs.Common.{ap, ◌∙◌}
use Rattle.std.proofs.lemmas.Int.{to_z-of_z}
use mir.Val.{SFits}
use mir.Syntax.{w128}
use Rattle.bits_core.specs.Word.{Word}
use Rattle.checked_terms.proofs.Results.{literal_made}
use Rattle.checked_terms.proofs.tests_of.literal.Goals as goal

pub returns : goal.returns
returns c =
    let f : SFits w128 c.args.n = c.ranges.n in
    let e = simp to_z-of_z at c.low_bits-word.ensures in
    literal_made c.args.terms.now c.constant.new.terms c.args.ty c.args.n c.in_ok-t.t c.value.result c.requires.ty c.requires.within
    (c.value.ensures.value ∙ ap (λ (a : Word). a.value) e) c.in_ok-t.ensures
