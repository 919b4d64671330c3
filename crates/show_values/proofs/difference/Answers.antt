use Rattle.show_values.proofs.Worked.{difference_evaluable}
use Rattle.show_values.proofs.difference.Goals as goal

pub returns : goal.returns
returns c = difference_evaluable _ _ c.in_ok-left.ensures c.in_ok-right.ensures
