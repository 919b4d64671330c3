use Rattle.std.proofs.Common.{ap, ◌∙◌, refl}
use Rattle.bitblast.specs.Table.{words_at}
use Rattle.bitblast.proofs.TableLaws.{no_words}
use Rattle.bitblast.proofs.edge_table.EdgeTable.new.Goals as goal

pub returns : goal.returns
returns c = ap (words_at _) (c.in_ok-spans.ensures.items_if_clones_equal (λ y e. e)) ∙ no_words c.args.words (record { start = 0; width = 0 }) _ refl
