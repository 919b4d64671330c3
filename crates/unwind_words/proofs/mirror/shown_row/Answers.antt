use Rattle.std.proofs.Common.{◌+◌, length, take, get_or, refl, sym, subst}
use Rattle.std.proofs.lemmas.List.{get_or_default}
use Rattle.word_eqs.specs.declared.term.TermId.{TermId}
use Rattle.unrolled.specs.declared.Unrolled.{Unrolled}
use Rattle.unwind_state.specs.Writing.{sized}
use Rattle.unwind_words.specs.Rows.{IsShown}
use Rattle.unwind_words.proofs.Showing.{copy_there, one_shown}
use Rattle.unwind_words.proofs.mirror.shown_row.Goals as goal

pub resize-requires-clause-has : goal.resize-requires-clause-has
resize-requires-clause-has c =
    let d : TermId = record { 0 = 0 } in
    let row = c.args.words.now in
    let w = c.args.signal.now.bits in
    c.loop-k.invariant.adds.kept (sized (get_or row c.loop-k.k d) w) (copy_there c.args.net.now.terms (length row) w row c.loop-k.k d c.requires.words c.loop-k-test.true)

pub loop-k-preserved : goal.loop-k-preserved
loop-k-preserved c =
    let d : TermId = record { 0 = 0 } in
    let row = c.args.words.now in
    let k = c.loop-k.k in
    let a = get_or row k d in
    let net : Unrolled = record { terms = c.resize.new.terms; list = c.loop-k.net.list } in
    subst (λ l. IsShown c.args.net.now net c.args.ty c.args.signal.now (take (k + 1) row) l) (sym c.in_ok-push.ensures.ok)
    (one_shown c.args.net.now c.loop-k.net net c.args.ty c.args.signal.now row c.loop-k.ids k a c.in_ok-t.t c.requires.ty c.requires.signal c.requires.wide c.loop-k-test.true (get_or_default row k d a c.loop-k-test.true) c.loop-k.invariant c.requires.words c.in_ok-t.ensures refl)
