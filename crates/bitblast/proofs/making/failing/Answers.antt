use Rattle.bitblast.proofs.Testing.{tested}
use Rattle.bitblast.proofs.making.failing.Goals as goal

pub returns : goal.returns
returns c =
    tested _ _ _ _ _ c.args.terms.now c.args.vars.now c.args.words.now _ _ c.args.guard.0 c.args.t.0 c.edges_of.result.now c.edges_of-2.result.now _ _ c.opposite.result _ c.requires c.in_ok-make.ensures.rest c.in_ok-make.ensures.made c.in_ok-make-2.ensures.rest c.in_ok-make-2.ensures.made
    c.edges_of.ensures.value c.edges_of-2.ensures.value c.in_ok-holds.ensures c.opposite.ensures.value c.in_ok-e.ensures
