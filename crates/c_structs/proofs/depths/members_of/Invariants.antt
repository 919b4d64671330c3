use Rattle.std.proofs.Common.{◌≡◌, ◌++◌, []}
use Rattle.c_structs.specs.Lists.{lists_of, known_tags, inner_of}
use Rattle.c_structs.specs.Under.{members_under}
use Rattle.c_structs.specs.Depths.{pending, steps_left}
use Rattle.c_structs.proofs.depths.members_of.Given as goal

abbrev pub invariant-loop-frame : goal.invariant-loop-frame
invariant-loop-frame l = members_under l.object (inner_of (known_tags [] (lists_of l.lists)) l.fn.tag) ≡ l.members ++ pending (lists_of l.lists) l.stack

abbrev pub decreases-loop-frame : goal.decreases-loop-frame
decreases-loop-frame l = steps_left (lists_of l.lists) l.stack
