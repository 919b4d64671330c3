use Rattle.std.proofs.Common.{◌≡◌, ◌+◌, drop}
use Rattle.std.proofs.Common.{length as count}
use Rattle.flat_values.specs.Fits.{shapes_of, AreTaken, list_meant}
use Rattle.flat_values.proofs.lengths.+own.Given as goal

-- the parts from an index on are left
abbrev pub invariant-joined_length-loop-e : goal.invariant-joined_length-loop-e
invariant-joined_length-loop-e l = record {
  sum : l.sum + (list_meant (shapes_of l.signals) (drop l.e-index l.parts)).length ≡ (list_meant (shapes_of l.signals) l.parts).length;
  fits : AreTaken (count l.signals) (shapes_of l.signals) (drop l.e-index l.parts);
}
