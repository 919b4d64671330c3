use Rattle.std.proofs.Common.{reverse, vec_len}
use Rattle.ll_parse.specs.Places.{place_of, below}
use Rattle.ll_parse.proofs.PlaceSteps.{Pop}
use Rattle.ll_parse.proofs.placing.next_place.Given as goal

abbrev pub invariant-tokens : goal.invariant-tokens
invariant-tokens l = Pop l.at (place_of l.place (reverse l.fn.stack.items)) (below (reverse l.fn.stack.items)) (reverse l.stack.items)

abbrev pub decreases-tokens : goal.decreases-tokens
decreases-tokens l = vec_len l.stack
