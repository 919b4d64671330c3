use Rattle.std.proofs.Common.{◌≡◌, ◌++◌}
use Rattle.ll_parse.proofs.table.push_body.Given as goal

abbrev pub invariant-loop-symbol : goal.invariant-loop-symbol
invariant-loop-symbol l = l.stack.items ≡ l.fn.stack.items ++ l.yielded
