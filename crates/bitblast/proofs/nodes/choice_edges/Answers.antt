use Rattle.bitblast.proofs.NodeLaws.{choice_node}
use Rattle.bitblast.proofs.nodes.choice_edges.Goals as goal

pub returns : goal.returns
returns c =
    choice_node _ _ c.args.terms.now c.args.vars.now c.args.words.now c.args.c c.args.a c.args.b _ _ _ _ _ c.requires c.edges_of.ensures.value c.edges_of-2.ensures.value c.edges_of-3.ensures.value
    c.in_ok-made.ensures
