use Rattle.shift_terms.proofs.Shifted.{right_made}
use Rattle.shift_terms.proofs.right.Goals as goal

pub returns : goal.returns
returns c =
    right_made c.args.terms.now c.amount_of.new.terms c.args.ty c.args.from c.args.prop c.args.a c.args.b c.in_ok-amount.amount c.requires.ty c.requires.shift c.requires.first c.requires.second c.requires.width_a c.requires.width_b c.in_ok-amount.ensures
    c.two.new.terms c.in_ok-value.value c.check_for.result c.right_op.result c.right_op.ensures c.check_for.ensures c.in_ok-value.ensures
