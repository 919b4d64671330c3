use Rattle.c_structs.specs.Tags.{names_offences}
use Rattle.c_structs.specs.Readings.{with_structs}
use Rattle.c_structs.specs.Turns.{SoFar}
use Rattle.c_structs.proofs.members.read_names.Given as goal

abbrev pub invariant-loop-name : goal.invariant-loop-name
invariant-loop-name l = SoFar (λ r ys. with_structs r l.tag ys) (λ r ys. names_offences r.names ys) l.fn.notes l.notes l.fn.reading l.reading l.names l.name-index
