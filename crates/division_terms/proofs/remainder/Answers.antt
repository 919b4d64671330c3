use Rattle.division_terms.proofs.Divided.{signed_remainder, unsigned_remainder}
use Rattle.division_terms.proofs.remainder.Goals as goal

pub returns-in_ok-r : goal.returns-in_ok-r
returns-in_ok-r c =
    signed_remainder c.args.terms.now c.signed.new.terms c.args.ty c.args.division c.args.other c.args.a c.args.b c.in_ok-r.r c.requires.ty c.requires.division c.requires.first c.requires.second c.requires.width_a c.requires.width_b
    c.if-ty.true c.in_ok-r.ensures

pub returns-in_ok-r-2 : goal.returns-in_ok-r-2
returns-in_ok-r-2 c =
    unsigned_remainder c.args.terms.now c.unsigned.new.terms c.args.ty c.args.division c.args.other c.args.a c.args.b c.in_ok-r-2.r c.requires.ty c.requires.division c.requires.first c.requires.second c.requires.width_a c.requires.width_b
    c.if-ty.false (c.requires.wraps c.if-ty.false) c.in_ok-r-2.ensures
