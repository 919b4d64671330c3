use Rattle.c_structs.specs.Tags.{items_offences}
use Rattle.c_structs.specs.Readings.{with_items}
use Rattle.c_structs.specs.Turns.{SoFar}
use Rattle.c_structs.proofs.members.read_items.Given as goal

abbrev pub invariant-loop-item : goal.invariant-loop-item
invariant-loop-item l = SoFar (λ r es. with_items r l.ty es) (λ r es. items_offences l.scopes r.names es) l.fn.notes l.notes l.fn.reading l.reading l.items l.item-index
