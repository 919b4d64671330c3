use Rattle.std.proofs.Common.{take}
use Rattle.unwind.specs.Rows.{AreRows}
use Rattle.unwind_state.specs.Guards.{Adds}
use Rattle.unwind.proofs.rows.rows.Given as goal

abbrev pub invariant-loop-var : goal.invariant-loop-var
invariant-loop-var l = record {
  adds : Adds l.fn.net l.net;
  rows : AreRows l.net.terms (take l.var-index l.vars) l.rows.items;
}
