use Rattle.checked_terms.proofs.Results.{unsigned_minus}
use Rattle.checked_terms.proofs.arith.minus.Goals as goal

pub returns-in_ok-value : goal.returns-in_ok-value
returns-in_ok-value c =
    unsigned_minus c.args.terms.now c.one.new.terms c.args.ty c.args.other c.args.a c.in_ok-value.value
    c.requires.ty c.if-ty.false (c.requires.wraps c.if-ty.false) c.requires.width c.in_ok-value.ensures
