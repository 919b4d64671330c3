use Rattle.bitblast.proofs.NodeLaws.{resized_node}
use Rattle.bitblast.proofs.nodes.resized_edges.Goals as goal

pub returns : goal.returns
returns c =
    resized_node _ c.args.terms.now c.args.vars.now c.args.words.now c.args.a c.args.to c.args.signed _ _ c.requires c.edges_of.ensures.value c.resize.ensures.bits c.resize.ensures.there c.resize.ensures.value
