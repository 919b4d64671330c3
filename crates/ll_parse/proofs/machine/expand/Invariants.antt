use Rattle.std.proofs.Common.{◌≡◌, ℕ, ◌++◌, List, reverse}
use Rattle.ll_parse.specs.Machine.{Expands}
use Rattle.ll_parse.specs.Tables.{lists_of}
use Rattle.ll_parse.proofs.Steps.{Size}
use Rattle.ll_parse.proofs.machine.expand.Given as goal

abbrev pub invariant-productions : goal.invariant-productions
invariant-productions l = (qs : List ℕ) × (l.productions.items ≡ l.fn.productions.items ++ qs) × Expands (lists_of l.table) l.kind (reverse l.fn.stack.items) qs (reverse l.stack.items)

abbrev pub decreases-productions : goal.decreases-productions
decreases-productions l = Size (lists_of l.table) (reverse l.stack.items)
