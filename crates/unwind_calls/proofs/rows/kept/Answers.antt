use Rattle.std.proofs.Common.{◌≡◌, ◌+◌, ◌-◌, take, drop, sym, ap, ◌∙◌, arith}
use Rattle.std.proofs.lemmas.List.{take_all, drop-take}
use Rattle.unwind_calls.proofs.rows.kept.Goals as goal

pub returns : goal.returns
returns c =
    let first = c.args.first in
    let end = c.args.end in
    let rows = c.args.rows.now in
    let order = c.requires.order in
    let past = c.loop-row-test.false in
    let part = take (end - first) (drop first rows) in
    let all : first + (end - first) ≡ end = omega (arith, order) in
    c.loop-row.invariant ∙ take_all c.loop-row.row-index part (omega (arith, past)) ∙ sym (drop-take first (end - first) rows) ∙ ap (λ n. drop first (take n rows)) all
