use Rattle.std.proofs.Common.{◌≡◌, take, map}
use Rattle.elab_patterns.specs.Patterns.{counted_digit}
use Rattle.elab_patterns.proofs.counted_digits.Given as goal

abbrev pub invariant-loop-byte : goal.invariant-loop-byte
invariant-loop-byte l = l.counted ≡ map (counted_digit l.base) (take l.byte-index l.digits)
