use Rattle.std.proofs.Common.{◌≡◌}
use Rattle.src_text.specs.Place.{line_of, column_of}
use Rattle.src_text.proofs.place.place_of.Given as goal

abbrev pub invariant-loop-byte : goal.invariant-loop-byte
invariant-loop-byte l = record {
  line : l.line ≡ line_of l.text l.byte-index;
  column : l.column ≡ column_of l.text l.byte-index;
}
