use Rattle.std.proofs.Common.{◌≡◌, ◌<◌, ◌-◌, ◌+◌, ◌∷◌, [], List, length, get_or, length-append, set, sym, ap, ◌∙◌, subst, arith}
use Rattle.std.proofs.lemmas.Bool.{and_parts}
use Rattle.cdcl.specs.Trail.{Reasons, AreForcedFrom}
use Rattle.clause_arena.specs.declared.Lit.{Lit}
use Rattle.cdcl.specs.Held.{vars_of, reasons_of}
use Rattle.cdcl.specs.Watched.{listed}
use Rattle.cdcl.proofs.Arrays.{below-at}
use Rattle.cdcl.proofs.Sweeps.{forced-below, spreads-push, spreads-refl}
use Rattle.cdcl.specs.declared.watch.Pair.{Pair}
use Rattle.clause_arena.specs.declared.ClauseId.{ClauseId}
use Rattle.cdcl.proofs.Passing.{gone-here, here-push, forced-push, moved_lists, moved-is, Passing, passing-other, passing-force, passing-move, passing-smaller, passing-at, passing-in, visited-start, slot-below}
use Rattle.cdcl.proofs.propagate.pass.Goals as goal

pub list-init : goal.list-init
list-init c = record {
  spread = spreads-refl c.args.arena.now.clauses c.args.trail.now c.requires.kept;
  here = c.requires.here;
  head = c.requires.head;
  forced = c.requires.forced;
  sized = c.requires.sized;
  watched = c.requires.watched;
  visited = visited-start c.args.arena.now.clauses c.args.trail.now.lits.items (reasons_of c.args.trail.now) c.args.head c.args.watches.now.lists c.args.watches.now.pairs c.args.gone c.requires.watched;
}

pub find_watch-requires-clause-small : goal.find_watch-requires-clause-small
find_watch-requires-clause-small c =
    let s : Passing c.args.arena.now.clauses (vars_of c.list.trail) c.list.trail.lits.items (reasons_of c.list.trail) c.args.head c.args.gone c.list.watches.lists c.list.watches.pairs c.list.i = record {
      gone = gone-here c.list.trail.lits.items c.args.head c.args.gone c.list.invariant.head c.list.invariant.here;
      head = omega (arith, c.list.invariant.head);
      sized = c.list.invariant.sized;
      watched = c.list.invariant.watched;
      visited = c.list.invariant.visited;
    } in
    omega (
      arith,
      c.list.invariant.spread.vars,
      below-at (vars_of c.args.trail.now) c.lits.result.now c.in-Some.other (c.requires.below c.id_under-id.result.0 c.lits.result.now c.lits.ensures.list)
          (passing-other c.args.arena.now.clauses (vars_of c.list.trail) c.list.trail.lits.items (reasons_of c.list.trail) c.args.head c.args.gone c.in-Some.other c.list.watches.lists c.list.watches.pairs c.list.i c.id_under-id.result c.lits.result.now s c.lits.ensures.list c.in-Some.ensures),
    )

pub push-requires-clause-below : goal.push-requires-clause-below
push-requires-clause-below c =
    omega (
      arith,
      c.list.invariant.spread.vars,
      forced-below c.args.arena.now.clauses (vars_of c.args.trail.now) c.id_under-id.result c.lits.result.now c.list.trail.lits.items c.in-Forces.l c.requires.below c.lits.ensures.list c.in-Forces.ensures.1,
    )

pub list-preserved-in-Forces : goal.list-preserved-in-Forces
list-preserved-in-Forces c =
    let s : Passing c.args.arena.now.clauses (vars_of c.list.trail) c.list.trail.lits.items (reasons_of c.list.trail) c.args.head c.args.gone c.list.watches.lists c.list.watches.pairs c.list.i = record {
      gone = gone-here c.list.trail.lits.items c.args.head c.args.gone c.list.invariant.head c.list.invariant.here;
      head = omega (arith, c.list.invariant.head);
      sized = c.list.invariant.sized;
      watched = c.list.invariant.watched;
      visited = c.list.invariant.visited;
    } in
    let t =
    passing-at c.args.arena.now.clauses (vars_of c.push.new.self) (vars_of c.list.trail) c.push.new.self.lits.items _ (reasons_of c.push.new.self) _ c.args.head c.args.gone c.list.watches.lists c.list.watches.pairs _
    c.push.ensures.vars c.in_ok-push-in-Forces.ensures.pushed c.in_ok-push-in-Forces.ensures.reasoned
    (passing-force c.args.arena.now.clauses (vars_of c.list.trail) c.list.trail.lits.items (reasons_of c.list.trail) c.args.head c.args.gone c.in-Forces.l c.list.watches.lists c.list.watches.pairs c.list.i c.id_under-id.result c.lits.result.now
    c.list.invariant.spread.kept.lengths c.id_under-id.ensures c.lits.ensures.list (and_parts _ _ c.in-Forces.ensures.1).0 s)
    in record {
      spread =
          spreads-push c.args.arena.now.clauses c.args.trail.now c.list.trail c.push.new.self c.id_under-id.result c.in-Forces.l c.lits.result.now c.requires.below c.lits.ensures.list
          c.in-Forces.ensures.0 c.in-Forces.ensures.1 c.in_ok-push-in-Forces.ensures.pushed c.in_ok-push-in-Forces.ensures.reasoned c.push.ensures.vars c.list.invariant.spread;
      here = λ d. ap (λ (q : List Lit). get_or q c.args.head d) c.in_ok-push-in-Forces.ensures.pushed ∙ here-push c.list.trail.lits.items c.args.head c.args.gone c.in-Forces.l c.list.invariant.head c.list.invariant.here d;
      head = omega (arith, c.list.invariant.head, ap length c.in_ok-push-in-Forces.ensures.pushed, length-append c.list.trail.lits.items (c.in-Forces.l ∷ []));
      forced = subst (λ (rs : Reasons). AreForcedFrom rs (c.args.head + 1)) (sym c.in_ok-push-in-Forces.ensures.reasoned) (forced-push (reasons_of c.list.trail) (c.args.head + 1) c.id_under-id.result c.list.invariant.forced);
      sized = t.sized;
      watched = t.watched;
      visited = t.visited;
    }

pub add_under-requires : goal.add_under-requires
add_under-requires c =
    let b : c.in-Moves.z.var < vars_of c.args.trail.now = below-at (vars_of c.args.trail.now) c.lits.result.now c.in-Moves.z (c.requires.below c.id_under-id.result.0 c.lits.result.now c.lits.ensures.list) c.in-Moves.ensures.0 in
    slot-below c.in-Moves.z (vars_of c.list.trail) c.list.watches.lists (omega (arith, b, c.list.invariant.spread.vars)) c.list.invariant.sized.one_list_each

pub list-preserved : goal.list-preserved
list-preserved c =
    let s : Passing c.args.arena.now.clauses (vars_of c.list.trail) c.list.trail.lits.items (reasons_of c.list.trail) c.args.head c.args.gone c.list.watches.lists c.list.watches.pairs c.list.i = record {
      gone = gone-here c.list.trail.lits.items c.args.head c.args.gone c.list.invariant.head c.list.invariant.here;
      head = omega (arith, c.list.invariant.head);
      sized = c.list.invariant.sized;
      watched = c.list.invariant.watched;
      visited = c.list.invariant.visited;
    } in
    let two : Pair = record { first = c.in-Moves.z; second = c.in-Some.other } in
    let b : c.in-Moves.z.var < vars_of c.args.trail.now = below-at (vars_of c.args.trail.now) c.lits.result.now c.in-Moves.z (c.requires.below c.id_under-id.result.0 c.lits.result.now c.lits.ensures.list) c.in-Moves.ensures.0 in
    let lt : c.list.i < length (listed c.list.watches.lists c.args.gone) = omega (arith, c.list-test.true, c.len_under.ensures) in
    let t =
    passing-in c.args.arena.now.clauses (vars_of c.list.trail) c.list.trail.lits.items (reasons_of c.list.trail) c.args.head c.args.gone c.set_pair.new.self.lists _ c.set_pair.new.self.pairs _ c.list.i
    (c.set_pair.ensures.lists
    ∙ moved-is c.list.watches.lists c.add_under.new.self.lists c.take_under.new.self.lists c.in-Moves.z c.args.gone c.id_under-id.result c.list.i c.list.trail.lits.items c.in_ok-add_under-in-Moves.ensures.lists c.take_under.ensures.lists c.in-Moves.ensures.1 (gone-here c.list.trail.lits.items c.args.head c.args.gone c.list.invariant.head c.list.invariant.here) c.id_under-id.ensures)
    (c.set_pair.ensures.pairs ∙ ap (λ (ps : List Pair). set ps c.id_under-id.result.0 two) (c.take_under.ensures.pairs ∙ c.add_under.ensures.pairs))
    (passing-move c.args.arena.now.clauses (vars_of c.list.trail) c.list.trail.lits.items (reasons_of c.list.trail) c.args.head c.args.gone c.in-Moves.z c.in-Some.other c.list.watches.lists c.list.watches.pairs c.list.i c.id_under-id.result c.lits.result.now
    lt c.id_under-id.ensures c.lits.ensures.list c.in-Moves.ensures.0 c.in-Moves.ensures.1 c.in-Moves.ensures.2 c.in-Some.ensures (omega (arith, b, c.list.invariant.spread.vars)) (omega (arith, c.requires.small, c.list.invariant.spread.vars)) s)
    in record { spread = c.list.invariant.spread; here = c.list.invariant.here; head = c.list.invariant.head; forced = c.list.invariant.forced; sized = t.sized; watched = t.watched; visited = t.visited }

pub list-smaller : goal.list-smaller
list-smaller c =
    let s : Passing c.args.arena.now.clauses (vars_of c.list.trail) c.list.trail.lits.items (reasons_of c.list.trail) c.args.head c.args.gone c.list.watches.lists c.list.watches.pairs c.list.i = record {
      gone = gone-here c.list.trail.lits.items c.args.head c.args.gone c.list.invariant.head c.list.invariant.here;
      head = omega (arith, c.list.invariant.head);
      sized = c.list.invariant.sized;
      watched = c.list.invariant.watched;
      visited = c.list.invariant.visited;
    } in
    let b : c.in-Moves.z.var < vars_of c.args.trail.now = below-at (vars_of c.args.trail.now) c.lits.result.now c.in-Moves.z (c.requires.below c.id_under-id.result.0 c.lits.result.now c.lits.ensures.list) c.in-Moves.ensures.0 in
    let lt : c.list.i < length (listed c.list.watches.lists c.args.gone) = omega (arith, c.list-test.true, c.len_under.ensures) in
    let m : c.set_pair.new.self.lists ≡ moved_lists c.list.watches.lists c.in-Moves.z c.args.gone c.id_under-id.result c.list.i =
    c.set_pair.ensures.lists
    ∙ moved-is c.list.watches.lists c.add_under.new.self.lists c.take_under.new.self.lists c.in-Moves.z c.args.gone c.id_under-id.result c.list.i c.list.trail.lits.items c.in_ok-add_under-in-Moves.ensures.lists c.take_under.ensures.lists c.in-Moves.ensures.1 (gone-here c.list.trail.lits.items c.args.head c.args.gone c.list.invariant.head c.list.invariant.here) c.id_under-id.ensures
    in
    subst (λ (ls : List (List ClauseId)). length (listed ls c.args.gone) - c.list.i < length (listed c.list.watches.lists c.args.gone) - c.list.i) (sym m)
    (passing-smaller c.args.arena.now.clauses (vars_of c.list.trail) c.list.trail.lits.items (reasons_of c.list.trail) c.args.head c.args.gone c.in-Moves.z c.list.watches.lists c.list.watches.pairs c.list.i c.id_under-id.result
    lt c.id_under-id.ensures c.in-Moves.ensures.1 (omega (arith, b, c.list.invariant.spread.vars)) (omega (arith, c.requires.small, c.list.invariant.spread.vars)) s)
