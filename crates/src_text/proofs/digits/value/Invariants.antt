use Rattle.std.proofs.Common.{◌≡◌, ◌<◌, ◌^◌, take}
use Rattle.src_text.specs.Digits.{value_of}
use Rattle.src_text.proofs.digits.value.Given as goal

abbrev pub invariant-loop-byte : goal.invariant-loop-byte
invariant-loop-byte l = record {
  is : l.so_far ≡ value_of l.base (take l.byte-index l.digits);
  fits : l.so_far < 2 ^ 128;
}
