use Rattle.std.proofs.Common.{sym, ap, ◌∙◌}
use Rattle.c_tree.specs.Starts.{statement_start as statement_place}
use Rattle.c_starts.proofs.Equations.{for_start}
use Rattle.c_starts.proofs.statements.statement_start.Goals as goal

pub returns-in-For : goal.returns-in-For
returns-in-For c = sym (ap statement_place c.in-For.is ∙ for_start c.in-For.place c.in-For.field-1 c.in-For.field-2 c.in-For.field-3 c.in-For.field-4)
