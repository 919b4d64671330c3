use Rattle.std.proofs.Common.{◌-◌, ◌^◌, ◌<◌, ap, ◌∙◌, subst, refl, arith}
use Rattle.std.specs.Prelude.{if◌then◌else◌}
use Rattle.word_eqs.specs.Graph.{width_in}
use Rattle.select_terms.proofs.Steps.{site_kept}
use Rattle.select_terms.proofs.selection_terms.select.Goals as goal

pub returns-then-lowest-above_all-clause-adds : goal.returns-then-lowest-above_all-clause-adds
returns-then-lowest-above_all-clause-adds c =
    let g = c.args.terms.now in
    let t = c.if-lowest-above_all.true in
    let w = c.width_of-narrow.ensures.width in
    let a = c.above_all.ensures.value ∙ ap (λ k. if c.args.signed then 2 ^ (k - 1) else 2 ^ k) w in
    let b = c.width_of-bits.ensures.width in
    site_kept g c.args.signal.0 c.args.index.0 c.args.site.0 (width_in g c.args.site.0) _ c.args.lowest c.args.signed c.len.ensures.proper (subst (λ k. 0 < k) w c.width_of-narrow.ensures.some) c.requires.index c.requires.site refl
    (omega (arith, t, a, b))
