use Rattle.std.proofs.Common.{reverse, arith}
use Rattle.ll_parse.specs.Places.{place_of, below}
use Rattle.ll_parse.proofs.PlaceSteps.{pop_fits}
use Rattle.ll_parse.proofs.placing.next_place.Goals as goal

pub overflow_add-at : goal.overflow_add-at
overflow_add-at c =
    let h = pop_fits c.tokens.at (place_of c.args.place (reverse c.args.stack.now.items)) (below (reverse c.args.stack.now.items)) c.tokens.stack.items c.tokens.invariant c.pop.new.self.items c.in-Some.symbol c.in-Some.ensures.items (omega arith) in
    omega (arith, h, c.requires)
