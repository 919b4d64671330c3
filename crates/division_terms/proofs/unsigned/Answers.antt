use Rattle.division_terms.proofs.Divided.{unsigned_made}
use Rattle.division_terms.proofs.unsigned.Goals as goal

pub returns : goal.returns
returns c =
    unsigned_made c.args.terms.now c.two.new.terms c.args.op c.args.ty c.args.division c.args.a c.args.b c.in_ok-value.value c.check_for.result
    c.requires.second c.requires.width_a c.requires.width_b c.requires.op c.check_for.ensures c.in_ok-value.ensures
