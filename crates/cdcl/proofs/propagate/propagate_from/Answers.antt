use Rattle.std.proofs.Common.{◌≡◌, ◌<◌, ◌+◌, ℕ, length, Option, subst, arith}
use Rattle.clause_arena.specs.declared.ClauseId.{ClauseId}
use Rattle.cdcl.specs.Held.{vars_of, reasons_of}
use Rattle.cdcl.specs.Watched.{IsWatched, AreVisited, listed}
use Rattle.std.specs.Prelude.{MatchOption}
use Rattle.cdcl.specs.Work.{IsConflict}
use Rattle.cdcl.proofs.Sweeps.{spreads-refl, spreads-then, kept-size}
use Rattle.cdcl.proofs.Watches.{watched-settled}
use Rattle.cdcl.proofs.Passing.{looked-next, forced-later}
use Rattle.cdcl.proofs.propagate.propagate_from.Goals as goal

pub spread-init : goal.spread-init
spread-init c = record {
  spread = spreads-refl c.args.arena.now.clauses c.args.trail.now c.requires.kept;
  from = omega arith;
  to = c.requires.head;
  forced = c.requires.forced;
  sized = c.requires.sized;
  watched = c.requires.watched;
}

pub returns-clause-settled : goal.returns-clause-settled
returns-clause-settled c =
    let e : c.spread.at ≡ length c.spread.trail.lits.items = omega (arith, c.spread-test.false, c.len.ensures, c.spread.invariant.to) in
    watched-settled c.args.arena.now.clauses c.spread.trail.lits.items (reasons_of c.spread.trail) c.spread.watches.lists c.spread.watches.pairs
    (subst (λ (n : ℕ). IsWatched c.args.arena.now.clauses c.spread.trail.lits.items (reasons_of c.spread.trail) n c.spread.watches.lists c.spread.watches.pairs) e c.spread.invariant.watched)

pub spread-smaller : goal.spread-smaller
spread-smaller c =
    omega (arith, c.in_ok-id.ensures.spread.vars, kept-size c.args.arena.now.clauses c.spread.trail c.spread.invariant.spread.kept, c.spread-test.true, c.len.ensures)

pub spread-preserved : goal.spread-preserved
spread-preserved c =
    let lt : c.spread.at < length c.pass.new.trail.lits.items = omega (arith, c.in_ok-id.ensures.spread.longer, c.spread-test.true, c.len.ensures) in
    record {
      spread = spreads-then c.args.arena.now.clauses c.args.trail.now c.spread.trail c.pass.new.trail c.spread.invariant.spread c.in_ok-id.ensures.spread;
      from = omega (arith, c.spread.invariant.from);
      to = omega (arith, lt);
      forced = forced-later (reasons_of c.pass.new.trail) (c.spread.at + 1) c.in_ok-id.ensures.forced;
      sized = c.in_ok-id.ensures.sized;
      watched =
          looked-next c.args.arena.now.clauses (vars_of c.pass.new.trail) c.pass.new.trail.lits.items (reasons_of c.pass.new.trail) c.spread.at c.pass.new.watches.lists c.pass.new.watches.pairs c.negated-gone.result
          c.in_ok-id.ensures.spread.kept lt c.in_ok-id.ensures.here c.in_ok-id.ensures.forced
          (subst (λ (o : Option ClauseId). MatchOption o (AreVisited c.args.arena.now.clauses c.pass.new.trail.lits.items c.pass.new.watches.lists c.pass.new.watches.pairs c.negated-gone.result (length (listed c.pass.new.watches.lists c.negated-gone.result))) (IsConflict c.args.arena.now.clauses c.pass.new.trail.lits.items)) c.in-None.is c.in_ok-id.ensures.passed)
          c.in_ok-id.ensures.watched;
    }
