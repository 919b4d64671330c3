use Rattle.division_terms.proofs.Divided.{signed_made}
use Rattle.division_terms.proofs.signed.Goals as goal

pub returns : goal.returns
returns c =
    signed_made c.args.terms.now c.fits.new.terms c.two.new.terms c.args.op c.args.ty c.args.division c.args.other c.args.a c.args.b c.in_ok-within.within c.in_ok-value.value c.check_for.result c.check_for-2.result
    c.requires.first c.requires.second c.requires.width_a c.requires.width_b c.requires.op c.check_for.ensures c.check_for-2.ensures c.in_ok-within.ensures c.in_ok-value.ensures
