use Rattle.bitblast.proofs.NodeLaws.{one_node}
use Rattle.bitblast.proofs.nodes.one_edges.Goals as goal

pub returns : goal.returns
returns c =
    one_node _ _ c.args.terms.now c.args.vars.now c.args.words.now c.args.op c.args.a _ _ c.requires c.edges_of.ensures.value c.in_ok-made.ensures
