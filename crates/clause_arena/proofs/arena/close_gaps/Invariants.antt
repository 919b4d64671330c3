use Rattle.std.proofs.Common.{◌≡◌, length, vec_capacity}
use Rattle.clause_arena.specs.Spans.{parts}
use Rattle.clause_arena.proofs.SpanParts.{AreSplit}
use Rattle.clause_arena.proofs.arena.close_gaps.Given as goal

-- The spans so far stand without a gap below end, the others are as they were from end on, and each
-- id keeps its clause.
abbrev pub invariant-loop-i : goal.invariant-loop-i
invariant-loop-i l = record {
  split : AreSplit l.lits.items l.spans l.i l.end;
  same : parts l.lits.items l.spans ≡ parts l.initial.lits.items l.initial.spans;
  len : length l.lits.items ≡ length l.initial.lits.items;
  capacity : vec_capacity l.lits ≡ vec_capacity l.initial.lits;
}
