use Rattle.shift_terms.proofs.Shifted.{left_plain, left_checked}
use Rattle.shift_terms.proofs.left.Goals as goal

pub returns-in_ok-test : goal.returns-in_ok-test
returns-in_ok-test c =
    left_checked c.args.terms.now c.amount_of.new.terms c.args.ty c.args.from c.args.prop c.args.a c.args.b c.in_ok-amount.amount c.requires.ty c.requires.shift c.requires.first c.requires.second c.requires.width_a c.requires.width_b c.in_ok-amount.ensures
    c.two.new.terms c.keeps.new.terms c.in_ok-value.value c.in_ok-test.test c.check_for.result c.if-ty.true c.check_for.ensures c.in_ok-value.ensures c.in_ok-test.ensures

pub returns-else-ty : goal.returns-else-ty
returns-else-ty c =
    left_plain c.args.terms.now c.amount_of.new.terms c.args.ty c.args.from c.args.prop c.args.a c.args.b c.in_ok-amount.amount c.requires.ty c.requires.shift c.requires.first c.requires.second c.requires.width_a c.requires.width_b c.in_ok-amount.ensures
    c.two.new.terms c.in_ok-value.value c.check_for-else-ty.result c.if-ty.false c.check_for-else-ty.ensures c.in_ok-value.ensures
