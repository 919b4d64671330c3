use Rattle.std.proofs.Common.{reverse, arith}
use Rattle.ll_parse.specs.Tables.{lists_of, grammar_of}
use Rattle.ll_parse.proofs.PlaceSteps.{fits, production_fits, goes}
use Rattle.ll_parse.proofs.Steps.{pushed}
use Rattle.std.proofs.Common.{get_or}
use Rattle.ll_parse.proofs.placing.places.Goals as goal

pub next_place-place-requires : goal.next_place-place-requires
next_place-place-requires c =
    let h = fits (lists_of c.args.table.now) c.requires.ll c.args.tokens.now c.args.productions.now c.loop-production.production-index c.loop-production.place (reverse c.loop-production.stack.items) c.loop-production.placed.items c.loop-production.invariant in
    omega arith

pub push_body-requires-clause-production : goal.push_body-requires-clause-production
push_body-requires-clause-production c =
    production_fits (lists_of c.args.table.now) c.requires.ll c.args.tokens.now c.args.productions.now c.loop-production.production-index c.loop-production.place (reverse c.loop-production.stack.items) c.loop-production.placed.items c.loop-production.invariant c.loop-production-test.true

pub loop-production-preserved : goal.loop-production-preserved
loop-production-preserved c =
    goes (lists_of c.args.table.now) c.requires.ll c.args.tokens.now c.args.productions.now c.loop-production.production-index c.loop-production.place (reverse c.loop-production.stack.items) c.loop-production.placed.items c.loop-production.invariant c.loop-production-test.true
    c.next_place-place.result c.next_place-place.new.stack.items c.push_body.new.stack.items c.push-in-loop-production.new.self.items c.next_place-place.ensures.place c.next_place-place.ensures.rest
    (pushed c.next_place-place.new.stack.items c.push_body.new.stack.items ((grammar_of (lists_of c.args.table.now)).body (get_or c.args.productions.now c.loop-production.production-index 0)) c.in_ok-push_body.ensures)
    c.in_ok-push-2.ensures.items
