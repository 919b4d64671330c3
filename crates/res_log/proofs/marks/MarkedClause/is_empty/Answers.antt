use Rattle.std.proofs.Common.{sym, ◌∙◌, subst}
use Rattle.std.proofs.lemmas.Bool.{eqb-true, eq-eqb}
use Rattle.res_log.specs.Marks.{IsBlank}
use Rattle.res_log.proofs.Marking.{blank-from_count, count-from_blank}
use Rattle.res_log.proofs.marks.MarkedClause.is_empty.Goals as goal

pub returns : goal.returns
returns c = (
  λ t. subst IsBlank c.self.view_is (blank-from_count c.self.inside.signs.items (c.self.invariant ∙ eqb-true _ _ t)),
  λ b. eq-eqb _ _ (sym c.self.invariant ∙ count-from_blank c.self.inside.signs.items (subst IsBlank (sym c.self.view_is) b)),
)
