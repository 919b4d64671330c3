use Rattle.std.proofs.Common.{◌<◌, length, get_or, arith}
use Rattle.std.proofs.lemmas.List.{get_or_default}
use Rattle.word_eqs.specs.declared.term.TermId.{TermId}
use Rattle.pair_checks.proofs.Testing.{term_more}
use Rattle.pair_checks.proofs.lists.are_terms.Goals as goal

pub loop-k-preserved : goal.loop-k-preserved
loop-k-preserved c =
    let ids = c.args.ids.now in
    let ws = c.args.widths.now in
    let k = c.loop-k.k in
    let d : TermId = record { 0 = 0 } in
    let t = get_or ids k d in
    let w = get_or ws k 0 in
    let lt : k < length ids = c.loop-k-test.true in
    let lt' : k < length ws = omega (arith, c.if-ids-widths.false, c.loop-k-test.true) in
    term_more c.args.terms.now ids ws k t w lt lt' (get_or_default ids k d t lt) (get_or_default ws k 0 w lt') c.loop-k.invariant
    (c.is_term.ensures.there c.if-not-is_term.false) (c.is_term.ensures.sized c.if-not-is_term.false)
