use Rattle.std.proofs.Common.{◌≡◌, ◌++◌, take}
use Rattle.bitblast.proofs.shapes.append.Given as goal

abbrev pub invariant-loop-e : goal.invariant-loop-e
invariant-loop-e l = l.word.items ≡ l.initial.word.items ++ take l.e-index l.left
