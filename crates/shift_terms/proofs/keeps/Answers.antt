use Rattle.shift_terms.proofs.Shifted.{keeps_made}
use Rattle.shift_terms.proofs.keeps.Goals as goal

pub returns : goal.returns
returns c =
    keeps_made c.args.terms.now c.two.new.terms c.two-2.new.terms c.constant.new.terms c.two-3.new.terms c.one.new.terms c.two-4.new.terms c.two-5.new.terms
    c.args.a c.args.by c.args.shifted c.args.within c.in_ok-back.back c.in_ok-same.same c.in_ok-zero.zero c.in_ok-negative.negative c.in_ok-natural.natural c.in_ok-both.both c.in_ok-t.t
    c.requires.width_by c.requires.width_shifted c.requires.bit c.in_ok-back.ensures c.in_ok-same.ensures c.in_ok-zero.ensures c.in_ok-negative.ensures c.in_ok-natural.ensures c.in_ok-both.ensures c.in_ok-t.ensures
