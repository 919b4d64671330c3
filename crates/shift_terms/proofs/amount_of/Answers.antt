use Rattle.shift_terms.proofs.Shifted.{amount_made}
use Rattle.shift_terms.proofs.amount_of.Goals as goal

pub returns : goal.returns
returns c =
    amount_made c.args.terms.now c.constant.new.terms c.two.new.terms c.resize.new.terms c.args.ty c.args.from c.args.b c.in_ok-limit.limit c.in_ok-within.within c.in_ok-by.by
    c.requires.has c.requires.width c.requires.ty.few c.requires.wide c.in_ok-limit.ensures c.in_ok-within.ensures c.in_ok-by.ensures
