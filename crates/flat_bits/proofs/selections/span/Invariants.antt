use Rattle.std.proofs.Common.{◌≡◌, ℕ}
use Rattle.bit_sets.specs.Sets.{is_set}
use Rattle.flat_bits.specs.Selections.{in_span}
use Rattle.flat_bits.proofs.selections.span.Given as goal

abbrev pub invariant-loop-j : goal.invariant-loop-j
invariant-loop-j l = (k : ℕ) → is_set l.mask k ≡ in_span l.bits l.from l.j k
