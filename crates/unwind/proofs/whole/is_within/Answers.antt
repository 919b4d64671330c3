use Rattle.unwind.proofs.whole.is_within.Goals as goal

pub is_small-requires-clause-fit : goal.is_small-requires-clause-fit
is_small-requires-clause-fit c = (c.in_ok-ordered.ensures c.if-not-ordered.false).steps

pub returns : goal.returns
returns c = λ yes. record { ordered = c.in_ok-ordered.ensures c.if-not-ordered.false; small = c.is_small.ensures yes }
