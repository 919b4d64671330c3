use Rattle.std.proofs.Common.{◌≡◌, ◌<◌, ◌≤◌, ◌+◌, length, get_or, Some, sym, subst, arith}
use Rattle.std.specs.Prelude.{slice_get}
use Rattle.std.proofs.lemmas.Option.{slice_get-get_or}
use Rattle.word_eqs.specs.declared.term.Term.{Term}
use Rattle.word_eqs.proofs.Graphs.{no_term}
use Rattle.word_eqs.proofs.Evaluating.{Evaluated, evaluated_more, evaluated_all}
use Rattle.word_eqs.proofs.terms.Terms.eval_into.Goals as goal

pub loop-k-preserved : goal.loop-k-preserved
loop-k-preserved c =
    let k = c.loop-k.k in
    let g = c.args.self.now in
    let lt : k < length g.terms = omega (arith, c.loop-k-test.true, c.len-k-end.ensures.value) in
    let x : Term = get_or g.terms k no_term in
    let at : slice_get g.terms k ≡ Some x = slice_get-get_or g.terms k no_term lt in
    subst (λ out. Evaluated g c.args.env.now out (k + 1)) (sym c.set.ensures)
    (evaluated_more g c.args.env.now c.loop-k.out k x c.eval_at-word.result c.len-k-end.ensures.proper c.requires.words c.loop-k.invariant lt at (c.eval_at-word.ensures x at))

pub returns-clause-values : goal.returns-clause-values
returns-clause-values c =
    let g = c.args.self.now in
    let le : length g.terms ≤ c.loop-k.k = omega (arith, c.loop-k-test.false, c.len-k-end.ensures.value) in
    evaluated_all g c.args.env.now c.loop-k.out c.loop-k.k le c.loop-k.invariant
