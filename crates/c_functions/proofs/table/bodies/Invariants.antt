use Rattle.std.proofs.Common.{◌≡◌, [], ◌∷◌, take}
use Rattle.std.specs.List.{fold}
use Rattle.c_functions.specs.Tables.{with_body}
use Rattle.c_functions.proofs.table.bodies.Given as goal

abbrev pub invariant-loop-x : goal.invariant-loop-x
invariant-loop-x l = l.names ≡ fold with_body ([] ∷ []) (take l.x-index l.externals)
