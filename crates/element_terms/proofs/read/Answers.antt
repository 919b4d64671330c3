use Rattle.std.proofs.Common.{◌≡◌, ◌<◌, length, get_or, Some, arith}
use Rattle.std.specs.Prelude.{slice_get}
use Rattle.std.proofs.lemmas.Option.{slice_get-get_or}
use Rattle.word_eqs.specs.declared.term.TermId.{TermId}
use Rattle.element_terms.specs.Elements.{sized}
use Rattle.element_terms.proofs.Parts.{reads_first, reads_more}
use Rattle.element_terms.proofs.read.Goals as goal

pub loop-k-init : goal.loop-k-init
loop-k-init c =
    let none : TermId = record { 0 = 0 } in
    let at : slice_get c.args.elements.now 0 ≡ Some (get_or c.args.elements.now 0 none) = slice_get-get_or c.args.elements.now 0 none c.requires.filled in
    reads_first c.args.terms.now c.args.index c.args.elements.now c.args.width (get_or c.args.elements.now 0 none) c.len.ensures.proper c.requires.elements at

pub chosen-requires-clause-element : goal.chosen-requires-clause-element
chosen-requires-clause-element c =
    let none : TermId = record { 0 = 0 } in
    let lt : c.loop-k.k < length c.args.elements.now = omega arith in
    let at : slice_get c.args.elements.now c.loop-k.k ≡ Some (get_or c.args.elements.now c.loop-k.k none) = slice_get-get_or c.args.elements.now c.loop-k.k none lt in
    c.loop-k.invariant.builds.kept (sized (get_or c.args.elements.now c.loop-k.k none) c.args.width) (c.requires.elements c.loop-k.k (get_or c.args.elements.now c.loop-k.k none) at)

pub loop-k-preserved : goal.loop-k-preserved
loop-k-preserved c =
    let none : TermId = record { 0 = 0 } in
    let lt : c.loop-k.k < length c.args.elements.now = omega arith in
    let at : slice_get c.args.elements.now c.loop-k.k ≡ Some (get_or c.args.elements.now c.loop-k.k none) = slice_get-get_or c.args.elements.now c.loop-k.k none lt in
    reads_more c.args.terms.now c.loop-k.terms c.chosen.new.terms c.args.index c.args.elements.now c.args.width c.loop-k.k c.loop-k.t c.in_ok-t.t (get_or c.args.elements.now c.loop-k.k none) at c.loop-k.invariant c.in_ok-t.ensures
