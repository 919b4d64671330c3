use Rattle.std.proofs.Common.{List}
use Rattle.std.specs.Global.{Vec}
use Rattle.bit_sets.specs.declared.Bits.{Bits}
use Rattle.frame_offences.specs.Drivers.{IsFilled, LacksNone}
use Rattle.frame_offences.proofs.missing.first_lacking.Given as goal

abbrev pub invariant-loop-j : goal.invariant-loop-j
invariant-loop-j l = (sets : List (Vec Bits)) → IsFilled sets l.table → LacksNone l.wanted sets l.j
