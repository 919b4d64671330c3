use Rattle.std.proofs.Common.{◌≡◌, take}
use Rattle.std.specs.List.{fold}
use Rattle.c_functions.specs.Tables.{entered, no_functions}
use Rattle.c_functions.proofs.table.entered_all.Given as goal

abbrev pub invariant-loop-x : goal.invariant-loop-x
invariant-loop-x l = l.table ≡ fold (entered l.bodies) no_functions (take l.x-index l.externals)
