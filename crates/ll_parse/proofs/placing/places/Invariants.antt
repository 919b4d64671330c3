use Rattle.std.proofs.Common.{reverse}
use Rattle.ll_parse.specs.Tables.{lists_of}
use Rattle.ll_parse.proofs.PlaceSteps.{Placing}
use Rattle.ll_parse.proofs.placing.places.Given as goal

abbrev pub invariant-loop-production : goal.invariant-loop-production
invariant-loop-production l = Placing (lists_of l.table) l.tokens l.productions l.production-index l.place (reverse l.stack.items) l.placed.items
