use Rattle.std.proofs.Common.{◌≡◌, ◌+◌, ◌-◌, ◌/◌, ◌%◌, ◌^◌, ap, ◌∙◌, arith}
use Rattle.bits_core.specs.Word.{word}
use Rattle.word_eqs.specs.Graph.{width_in}
use Rattle.word_eqs.specs.declared.term.TermNode.TheVariants.{Slice}
use Rattle.term_steps.proofs.Adding.{made, weaken}
use Rattle.term_steps.proofs.steps.highest.Goals as goal

pub returns-clause-adds : goal.returns-clause-adds
returns-clause-adds c =
    let x = c.in_ok-t.ensures in
    let g = c.args.terms.now in
    let h = c.width_of-high.result - 1 in
    let one : h - h + 1 ≡ 1 = omega arith in
    weaken g c.add.new.self (h - h + 1) 1 0 0 1 1 c.in_ok-t.t.0 _
    (made g c.add.new.self (Slice c.args.a h h) c.in_ok-t.t.0 (λ v. (v.term c.args.a.0).value / 2 ^ (width_in g c.args.a.0 - 1) % 2) x.ok x.made x.typed x.cost
    (λ v r. ap (λ k. word (h - h + 1) ((v.term c.args.a.0).value / 2 ^ h % 2 ^ k)) one ∙ ap (λ k. word (h - h + 1) ((v.term c.args.a.0).value / 2 ^ (k - 1) % 2)) c.width_of-high.ensures.width))
    one (omega arith) (omega arith)
