use Rattle.bitblast.proofs.NodeLaws.{two_node}
use Rattle.bitblast.proofs.nodes.two_edges.Goals as goal

pub returns : goal.returns
returns c =
    two_node _ _ c.args.terms.now c.args.vars.now c.args.words.now c.args.op c.args.a c.args.b _ _ _ c.requires c.edges_of.ensures.value c.edges_of-2.ensures.value c.in_ok-made.ensures
