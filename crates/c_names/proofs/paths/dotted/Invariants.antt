use Rattle.std.proofs.Common.{◌≡◌, ◌++◌, drop}
use Rattle.std.specs.Prelude.{string_bytes}
use Rattle.c_names.specs.Paths.{dotted, behind_dots}
use Rattle.c_names.proofs.paths.dotted.Given as goal

abbrev pub invariant-loop-member : goal.invariant-loop-member
invariant-loop-member l = dotted l.object ≡ string_bytes l.text ++ behind_dots (drop l.member-index l.members)
