use Rattle.std.proofs.Common.{take, reverse}
use Rattle.ll_parse.specs.Machine.{HasRead, IsKept}
use Rattle.ll_parse.specs.Tables.{grammar_of, lists_of}
use Rattle.ll_parse.proofs.machine.parse.Given as goal

abbrev pub invariant-loop-i : goal.invariant-loop-i
invariant-loop-i l = HasRead (grammar_of (lists_of l.table)) (take l.i l.tokens) l.productions.items (reverse l.stack.items) × IsKept (lists_of l.table) (reverse l.stack.items)
