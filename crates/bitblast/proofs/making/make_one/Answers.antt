use Rattle.std.proofs.Common.{ap, ◌∙◌}
use Rattle.std.specs.Prelude.{slice_set}
use Rattle.bitblast.proofs.Translating.{one_made, one_ready}
use Rattle.bitblast.proofs.making.make_one.Goals as goal

pub node_edges-requires : goal.node_edges-requires
node_edges-requires c = one_ready _ c.args.terms.now c.args.vars.now c.args.words.now c.args.t.0 _ c.node.ensures c.requires

pub returns : goal.returns
returns c =
    one_made _ _ c.args.terms.now c.args.vars.now c.args.words.now _ c.args.t.0 _ (record { items = c.in_ok-made.made.items }) c.node.ensures c.requires c.in_ok-made.ensures
    (c.in_ok-put.ensures ∙ ap (λ l. slice_set c.args.words.now c.args.t.0 (record { items = l })) c.deref.ensures.0)
