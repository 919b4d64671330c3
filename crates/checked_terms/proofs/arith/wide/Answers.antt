use Rattle.checked_terms.proofs.Results.{wide_made}
use Rattle.checked_terms.proofs.arith.wide.Goals as goal

pub returns : goal.returns
returns c =
    wide_made c.args.terms.now c.resize.new.terms c.resize-2.new.terms c.two.new.terms c.args.op c.args.to c.args.a c.args.b c.in_ok-x.x c.in_ok-y.y c.in_ok-t.t
    c.in_ok-x.ensures c.in_ok-y.ensures c.requires.same c.in_ok-t.ensures
