use Rattle.std.proofs.Common.{arith}
use Rattle.std.proofs.lemmas.Option.{slice_get_within}
use Rattle.bitblast.proofs.Placed.{act_terms_there}
use Rattle.bitblast.proofs.order.are_early.Goals as goal

pub is_early-requires-clause-guard : goal.is_early-requires-clause-guard
is_early-requires-clause-guard c = let s = (c.requires.fit c.loop-k.k c.get.result c.get.ensures).guard in omega arith

pub is_early-requires-clause-terms : goal.is_early-requires-clause-terms
is_early-requires-clause-terms c = λ t h.
    let l = act_terms_there c.args.terms.now c.get.result.act t (c.requires.fit c.loop-k.k c.get.result c.get.ensures).act h in
    omega arith

pub returns : goal.returns
returns c = λ e j s at.
    let l = slice_get_within c.args.list.now j s at in
    c.loop-k.invariant j s (omega (arith, c.loop-k-test.false, c.len-k-end.ensures)) at
