use Rattle.checked_terms.proofs.Results.{bits_made}
use Rattle.checked_terms.proofs.tests_of.bitwise.Goals as goal

pub returns : goal.returns
returns c =
    bits_made c.args.terms.now c.two.new.terms c.args.ty c.args.op c.args.a c.args.b c.in_ok-t.t c.requires.first c.requires.second c.requires.width_a c.requires.width_b c.requires.op c.in_ok-t.ensures
