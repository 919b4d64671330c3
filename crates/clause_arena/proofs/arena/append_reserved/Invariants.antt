use Rattle.std.proofs.Common.{◌≡◌, ◌+◌, ◌++◌, take, vec_len, vec_capacity}
use Rattle.clause_arena.proofs.arena.append_reserved.Given as goal

-- the literals so far stand at the end, in the room that was there
abbrev pub invariant-loop-lit : goal.invariant-loop-lit
invariant-loop-lit l = record {
  pushed : l.lits.items ≡ l.initial.lits.items ++ take l.lit-index l.more;
  counted : vec_len l.lits ≡ vec_len l.initial.lits + l.lit-index;
  capacity : vec_capacity l.lits ≡ vec_capacity l.initial.lits;
}
