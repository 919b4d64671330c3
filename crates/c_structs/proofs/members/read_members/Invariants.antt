use Rattle.c_structs.specs.Tags.{members_offences}
use Rattle.c_structs.specs.Readings.{nothing_read, with_members}
use Rattle.c_structs.specs.Turns.{SoFar}
use Rattle.c_structs.proofs.members.read_members.Given as goal

abbrev pub invariant-loop-member : goal.invariant-loop-member
invariant-loop-member l = SoFar (with_members l.tags) (λ r ns. members_offences l.scopes l.tags r.names ns) l.fn.notes l.notes nothing_read l.reading l.members l.member-index
