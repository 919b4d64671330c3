use Rattle.std.specs.Prelude.{pos}
use Rattle.unwind_state.specs.Guards.{Adds}
use Rattle.unwind.specs.Rows.{IsElement, ArePart}
use Rattle.unwind.proofs.rows.row.Given as goal

abbrev pub invariant-loop-k : goal.invariant-loop-k
invariant-loop-k l = record {
  adds : Adds l.fn.net l.net;
  zero : IsElement l.net l.net l.var.ty l.zero (pos 0);
  part : ArePart l.net.terms l.var l.k l.ids;
}
