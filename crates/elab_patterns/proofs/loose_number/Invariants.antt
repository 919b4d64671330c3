use Rattle.std.proofs.Common.{◌≡◌, ◌++◌, ◌%◌, ◌^◌, take, map}
use Rattle.src_text.specs.Digits.{value_of}
use Rattle.elab_names.specs.Constants.{radix}
use Rattle.elab_patterns.specs.Patterns.{begins_loose, loose_digit, padding}
use Rattle.elab_patterns.proofs.loose_number.Given as goal

abbrev pub invariant-loop-byte : goal.invariant-loop-byte
invariant-loop-byte l = l.bits ≡ value_of (radix l.base) (padding l.base (begins_loose l.base l.digits) ++ map (loose_digit l.base) (take l.byte-index l.digits)) % 2 ^ 128
