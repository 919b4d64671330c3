use Rattle.c_types.specs.Ends.{FileSoFar}
use Rattle.c_types.proofs.file.externals.Given as goal

abbrev pub invariant-loop-x : goal.invariant-loop-x
invariant-loop-x l = FileSoFar l.names l.fn.file l.file l.xs l.x-index
