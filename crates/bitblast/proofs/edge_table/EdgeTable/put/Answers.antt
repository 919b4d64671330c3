use Rattle.std.proofs.Common.{ap, ◌∙◌, length, arith}
use Rattle.std.specs.Prelude.{slice_set}
use Rattle.bitblast.specs.Table.{words_at}
use Rattle.bitblast.proofs.TableLaws.{words_put}
use Rattle.bitblast.proofs.edge_table.EdgeTable.put.Goals as goal

pub returns : goal.returns
returns c =
    ap (λ e. words_at e (slice_set c.self.inside.spans.items c.args.at (record { start = c.len-start.result; width = length c.args.word.now }))) c.in_ok-extend_from_slice.ensures.items
    ∙ words_put c.self.inside.edges.items c.args.word.now c.self.inside.spans.items c.args.at c.len-start.result (omega arith) c.self.invariant
    ∙ ap (λ l. slice_set l c.args.at (record { items = c.args.word.now })) c.self.view_is
