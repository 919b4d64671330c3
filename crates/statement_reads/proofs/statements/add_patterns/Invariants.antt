use Rattle.std.proofs.Common.{take, length}
use Rattle.bit_sets.specs.Sets.{IsWithin}
use Rattle.flat_values.specs.Fits.{shapes_of}
use Rattle.statement_reads.specs.Reads.{AddsPatterns}
use Rattle.statement_reads.proofs.statements.add_patterns.Given as goal

abbrev pub invariant-loop-pattern : goal.invariant-loop-pattern
invariant-loop-pattern l = record {
  within : IsWithin (length l.signals) l.set.items;
  adds : AddsPatterns (shapes_of l.signals) (take l.pattern-index l.patterns) l.fn.set.items l.set.items;
}
