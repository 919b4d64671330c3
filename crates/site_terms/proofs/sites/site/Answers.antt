use Rattle.std.proofs.Common.{refl, arith}
use Rattle.site_terms.proofs.Fresh.{site_one, site_two, fresh_vars}
use Rattle.site_terms.proofs.sites.site.Goals as goal

pub returns-then-width-le64-clause-made : goal.returns-then-width-le64-clause-made
returns-then-width-le64-clause-made c = site_one c.args.terms.now c.fresh.new.terms c.args.width c.in_ok-t.t.0 c.if-width-le64.true c.in_ok-t.ensures.fresh

pub fresh-requires-3-clause-few : goal.fresh-requires-3-clause-few
fresh-requires-3-clause-few c = let x = fresh_vars _ _ _ _ c.in_ok-low.ensures.fresh in let y = c.requires.few in omega (arith, x, y)

pub returns-clause-made : goal.returns-clause-made
returns-clause-made c = site_two c.args.terms.now c.fresh-2.new.terms c.fresh-3.new.terms c.join.new.terms c.args.width _ c.in_ok-low.low.0 c.in_ok-high.high.0 c.in_ok-t-2.t.0 c.if-width-le64.false refl c.in_ok-low.ensures.fresh c.in_ok-high.ensures.fresh c.in_ok-t-2.ensures.adds
