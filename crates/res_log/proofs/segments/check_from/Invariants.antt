use Rattle.std.proofs.Common.{◌≡◌, length}
use Rattle.res_log.specs.Marks.{IsBlank}
use Rattle.res_log.specs.Origins.{IsTable}
use Rattle.res_log.specs.Segments.{AreSoundBelow, AreLiveSteps}
use Rattle.res_log.proofs.segments.check_from.Given as goal

abbrev pub invariant-loop-k : goal.invariant-loop-k
invariant-loop-k l = record {
  sound : AreSoundBelow l.arena.clauses l.log l.k;
  live : AreLiveSteps l.arena.clauses l.log l.from l.k;
  blank : IsBlank l.marks;
  size : length l.table.items ≡ length l.arena.clauses;
  table : IsTable l.log l.k l.table.items;
}
