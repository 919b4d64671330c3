use Rattle.std.proofs.Common.{take}
use Rattle.unwind_calls.proofs.Listing.{Sofar}
use Rattle.unwind_calls.proofs.values.arguments.Given as goal

-- the arguments before this one have their terms
abbrev pub invariant-loop-e : goal.invariant-loop-e
invariant-loop-e l = Sofar l.at l.fn.net l.net l.state l.es (take l.e-index l.es) l.guard l.terms.items
