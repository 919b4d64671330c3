use Rattle.std.proofs.Common.{sym, subst}
use Rattle.flat_bits.specs.Index.{IsIndexOf}
use Rattle.flat_bits.proofs.Indexes.{near_is, index-parentheses}
use Rattle.flat_bits.proofs.index.+constant_index.Goals as goal

pub returns-in-Literal : goal.returns-in-Literal
returns-in-Literal t c shapes = subst (λ e. IsIndexOf shapes e c.number_index.result) (sym c.in-Literal.is) (near_is shapes c.in-Literal.n c.number_index.result c.number_index.ensures.word c.number_index.ensures.index)

pub returns-in-Parentheses : goal.returns-in-Parentheses
returns-in-Parentheses t c shapes = index-parentheses shapes _ _ _ _ c.in-Parentheses.is c.get.ensures (c.constant_index.ensures shapes)
