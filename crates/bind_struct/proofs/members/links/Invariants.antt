use Rattle.std.proofs.Common.{◌≡◌, ◌++◌, map, drop}
use Rattle.offence_order.specs.Order.{leading}
use Rattle.bind_struct.specs.Binding.{member_offences, links_from}
use Rattle.bind_struct.specs.Paths.{named}
use Rattle.bind_struct.proofs.members.links.Given as goal

abbrev pub invariant-loop-i : goal.invariant-loop-i
invariant-loop-i l =
    (links_from (named l.paths) 0 l.members ≡ l.links ++ links_from (named l.paths) l.i (drop l.i l.members))
    × (leading (map (member_offences l.flat (named l.paths)) l.members) ≡ leading (map (member_offences l.flat (named l.paths)) (drop l.i l.members)))
