use Rattle.bitblast.proofs.NodeLaws.{joined_node}
use Rattle.bitblast.proofs.nodes.joined_edges.Goals as goal

pub returns : goal.returns
returns c =
    joined_node _ c.args.terms.now c.args.vars.now c.args.words.now c.args.a c.args.b _ _ _ c.requires c.edges_of.ensures.value c.edges_of-2.ensures.value c.join.ensures.bits c.join.ensures.there c.join.ensures.value
