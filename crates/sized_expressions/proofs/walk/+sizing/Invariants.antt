use Rattle.std.proofs.Common.{drop}
use Rattle.flat_values.specs.Fits.{shapes_of}
use Rattle.row_terms.proofs.Joining.{Sofar}
use Rattle.sized_expressions.specs.Rows.{AreReady}
use Rattle.sized_expressions.specs.Sized.{world_in}
use Rattle.sized_expressions.proofs.walk.+sizing.Given as goal

-- the parts before an index are a term, and those from it on are left
abbrev pub invariant-row-loop-e : goal.invariant-row-loop-e
invariant-row-loop-e l = record {
  walked : Sofar (shapes_of l.signals) (world_in l.starts l.words) l.sofar l.fn.terms l.terms l.parts (drop l.e-index l.parts);
  fits : AreReady l.signals l.starts l.words l.terms (drop l.e-index l.parts);
}
