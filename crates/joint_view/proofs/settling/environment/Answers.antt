use Rattle.std.proofs.Common.{◌≡◌, ◌<◌, ◌++◌, length, get_or, drop, map, sym, ap, ◌∙◌, arith}
use Rattle.std.proofs.lemmas.List.{drop_all, append-nil}
use Rattle.bits_core.specs.Word.{Word, word}
use Rattle.joint_ir.specs.Views.{worded}
use Rattle.joint_view.proofs.Fitting.{words_length, word_below}
use Rattle.joint_view.proofs.Values.{worded_more, worded_widths}
use Rattle.joint_view.proofs.settling.environment.Goals as goal

pub bounds-numbers-k : goal.bounds-numbers-k
bounds-numbers-k c = omega (arith, words_length c.args.terms.now.vars c.args.numbers.now c.requires)

pub word_of-requires-clause-below : goal.word_of-requires-clause-below
word_of-requires-clause-below c =
    let vars = c.args.terms.now.vars in
    let lt : c.loop-k.k < length vars = omega (arith, c.loop-k-test.true, c.vars-k-end.ensures.value) in
    rw c.width_of_var-width.ensures.width (word_below vars c.args.numbers.now c.loop-k.k c.requires lt)

pub loop-k-preserved : goal.loop-k-preserved
loop-k-preserved c =
    let vars = c.args.terms.now.vars in
    let numbers = c.args.numbers.now in
    let k = c.loop-k.k in
    let lt : k < length vars = omega (arith, c.loop-k-test.true, c.vars-k-end.ensures.value) in
    let same = words_length vars numbers c.requires in
    worded_more vars numbers c.loop-k.env c.push.new.self _ k c.word_of.result lt (omega arith)
    (c.word_of.ensures ∙ ap (λ w. word w (get_or numbers k 0)) c.width_of_var-width.ensures.width) c.in_ok-push.ensures.ok c.loop-k.invariant

pub returns-clause-widths : goal.returns-clause-widths
returns-clause-widths c =
    let vars = c.args.terms.now.vars in
    let numbers = c.args.numbers.now in
    let is : c.loop-k.env ≡ worded vars numbers =
    sym (append-nil c.loop-k.env)
    ∙ ap (λ l. c.loop-k.env ++ worded l (drop c.loop-k.k numbers)) (sym (drop_all c.loop-k.k vars (omega (arith, c.loop-k-test.false, c.vars-k-end.ensures.value))))
    ∙ c.loop-k.invariant in
    ap (map (λ (a : Word). a.width)) is ∙ worded_widths vars numbers c.requires
