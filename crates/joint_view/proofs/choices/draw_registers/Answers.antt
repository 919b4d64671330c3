use Rattle.std.proofs.Common.{◌+◌, ◌++◌, [], ◌∷◌, drop, get_or, None, ap, ◌∙◌, arith}
use Rattle.std.proofs.lemmas.List.{drop_all, append-nil, get_or_default}
use Rattle.std.proofs.lemmas.Result.{err_from_is_err_and}
use Rattle.joint_ir.specs.Runs.{draw_registers}
use Rattle.joint_view.specs.Halts.{unmeasured}
use Rattle.joint_view.proofs.Fitting.{words_more, firsts_length, first_below}
use Rattle.joint_view.proofs.Draws.{draw_registers_more, register_at, halts_first}
use Rattle.joint_view.proofs.choices.draw_registers.Goals as goal

pub offset_bounds-firsts-k : goal.offset_bounds-firsts-k
offset_bounds-firsts-k c = omega (arith, firsts_length c.args.firsts.now c.args.widths.now c.requires.firsts)

pub bounds-firsts-k : goal.bounds-firsts-k
bounds-firsts-k c = omega (arith, firsts_length c.args.firsts.now c.args.widths.now c.requires.firsts)

pub draw_register-requires-clause-first : goal.draw_register-requires-clause-first
draw_register-requires-clause-first c = first_below c.args.firsts.now c.args.widths.now c.loop-k.k _ c.requires.firsts c.loop-k-test.true

pub loop-k-preserved : goal.loop-k-preserved
loop-k-preserved c =
    let firsts = c.args.firsts.now in
    let k = c.loop-k.k in
    let same = firsts_length firsts c.args.widths.now c.requires.firsts in
    record {
      drawn = draw_registers_more c.args.choices.now c.loop-k.next c.loop-k.numbers c.push.new.self k c.in_ok-n.n
          c.in_ok-push.ensures.ok firsts c.args.widths.now _ (get_or firsts k None) c.in_ok-n.behind c.loop-k-test.true
          same (get_or_default firsts k _ _ (omega (arith, same, c.loop-k-test.true))) c.in_ok-n.ensures.drawn c.loop-k.invariant.drawn;
      words = words_more c.args.widths.now c.loop-k.numbers c.push.new.self k c.in_ok-n.n
          c.loop-k-test.true c.loop-k.invariant.words c.in_ok-n.ensures.below c.in_ok-push.ensures.ok;
      within = λ le. c.in_ok-n.ensures.within (c.loop-k.invariant.within le);
    }

pub returns-in_err-n-clause-halts : goal.returns-in_err-n-clause-halts
returns-in_err-n-clause-halts c =
    let p = err_from_is_err_and c.from_residual.result c.from_residual.ensures.1 in
    let firsts = c.args.firsts.now in
    let widths = c.args.widths.now in
    let k = c.loop-k.k in
    let same = firsts_length firsts widths c.requires.firsts in
    let first = get_or firsts k None in
    let left = drop c.loop-k.next c.args.choices.now in
    rw (p.1, p.2) (halts_first c.in_err-n.field-0.0 (draw_registers (first ∷ []) (get_or widths k 0 ∷ []) left) (draw_registers firsts widths (drop c.args.at c.args.choices.now))
    (λ go ns rest. draw_registers (drop (k + 1) firsts) (drop (k + 1) widths) rest (λ ms. go (c.loop-k.numbers ++ (ns ++ ms))))
    (λ go. c.loop-k.invariant.drawn go ∙ ap unmeasured (register_at firsts widths left k first c.loop-k-test.true same (get_or_default firsts k _ _ (omega (arith, same, c.loop-k-test.true))) (λ ns. go (c.loop-k.numbers ++ ns))))
    c.in_err-n.ensures.halts)

pub returns-clause-drawn : goal.returns-clause-drawn
returns-clause-drawn c = λ go.
    let firsts = c.args.firsts.now in
    let same = firsts_length firsts c.args.widths.now c.requires.firsts in
    c.loop-k.invariant.drawn go
    ∙ ap (λ fs. unmeasured (draw_registers fs (drop c.loop-k.k c.args.widths.now) (drop c.loop-k.next c.args.choices.now) (λ ns. go (c.loop-k.numbers ++ ns)))) (drop_all c.loop-k.k firsts (omega (arith, same, c.loop-k-test.false)))
    ∙ ap (λ ns. unmeasured (go ns (drop c.loop-k.next c.args.choices.now))) (append-nil c.loop-k.numbers)
