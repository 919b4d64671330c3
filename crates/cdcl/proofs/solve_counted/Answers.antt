use Rattle.std.proofs.Common.{ℕ, refl, subst, ◌∙◌, arith}
use Rattle.cdcl.specs.declared.turn.Outcome.{Outcome}
use Rattle.cdcl.specs.Turn.{IsTurn, OnAgain}
use Rattle.cdcl.specs.Watching.{IsWatching}
use Rattle.cdcl.specs.Pick.{AreKnown}
use Rattle.cdcl.proofs.Keeping.{keeps-same}
use Rattle.cdcl.specs.Work.{IsConflict}
use Rattle.cdcl.proofs.Solves.{searching-model, settled-none}
use Rattle.cdcl.proofs.Answered.{open-from, searching-begun, refuted-first, refutation-is, searching-turn, turn-smaller, spent-turn, never-spent-turn, keeps-turn}
use Rattle.std.proofs.lemmas.Bool.{both_ways}
use Rattle.cdcl.proofs.solve_counted.Goals as goal

pub returns-then-has_empty_clause-clause-answer : goal.returns-then-has_empty_clause-clause-answer
returns-then-has_empty_clause-clause-answer g c = refuted-first c.args.arena.now.clauses c.args.budget c.new-log.result c.new-log.ensures (c.has_empty_clause.ensures.0 c.if-has_empty_clause.true)

pub returns-then-has_empty_clause-clause-kept : goal.returns-then-has_empty_clause-clause-kept
returns-then-has_empty_clause-clause-kept g c = keeps-same c.args.arena.now.clauses c.args.arena.now.clauses refl

pub returns-in_err-ready-clause-kept : goal.returns-in_err-ready-clause-kept
returns-in_err-ready-clause-kept g c = keeps-same c.args.arena.now.clauses c.args.arena.now.clauses refl

pub returns-in_err-trail-clause-kept : goal.returns-in_err-trail-clause-kept
returns-in_err-trail-clause-kept g c = keeps-same c.args.arena.now.clauses c.args.arena.now.clauses refl

pub returns-in_err-turn-clause-kept : goal.returns-in_err-turn-clause-kept
returns-in_err-turn-clause-kept g c = keeps-turn c.args.arena.now.clauses c.search.arena.clauses c.turn.new.arena.clauses c.search.log c.args.vars c.args.budget c.search.trail c.turn.ensures.clauses c.search.invariant.0

pub returns-in-Satisfied-clause-kept : goal.returns-in-Satisfied-clause-kept
returns-in-Satisfied-clause-kept g c = keeps-turn c.args.arena.now.clauses c.search.arena.clauses c.turn.new.arena.clauses c.search.log c.args.vars c.args.budget c.search.trail c.turn.ensures.clauses c.search.invariant.0

pub returns-in-Refuted-clause-kept : goal.returns-in-Refuted-clause-kept
returns-in-Refuted-clause-kept g c = keeps-turn c.args.arena.now.clauses c.search.arena.clauses c.turn.new.arena.clauses c.search.log c.args.vars c.args.budget c.search.trail c.turn.ensures.clauses c.search.invariant.0

pub returns-in-Spent-clause-kept : goal.returns-in-Spent-clause-kept
returns-in-Spent-clause-kept g c = keeps-turn c.args.arena.now.clauses c.search.arena.clauses c.turn.new.arena.clauses c.search.log c.args.vars c.args.budget c.search.trail c.turn.ensures.clauses c.search.invariant.0

pub search-smaller : goal.search-smaller
search-smaller g c =
    turn-smaller c.args.arena.now.clauses c.search.arena.clauses c.turn.new.arena.clauses c.search.log c.turn.new.log c.args.vars c.args.budget c.search.trail c.turn.new.trail
    (subst (λ (o : Outcome). IsTurn c.search.arena.clauses c.search.log c.search.trail c.turn.new.arena.clauses c.turn.new.log c.turn.new.trail c.args.budget o) c.in-Again.is c.in_ok-turn.ensures.turned) c.search.invariant.0

pub search-init : goal.search-init
search-init g c = (
  searching-begun c.args.arena.now.clauses c.args.vars c.args.budget c.in_ok-trail.trail c.watch_all.new.trail c.new-log.result c.requires.below c.requires.some
      (open-from c.args.arena.now.clauses (λ w. both_ways _ c.if-has_empty_clause.false (c.has_empty_clause.ensures.1 w)))
      c.new-log.ensures c.in_ok-trail.ensures.empty c.in_ok-trail.ensures.vars c.in_ok-conflict.ensures.spread,
  c.in_ok-ready.ensures.0,
  settled-none (IsWatching c.args.arena.now.clauses c.watch_all.new.trail c.watch_all.new.watches) (IsConflict c.args.arena.now.clauses c.watch_all.new.trail.lits.items) c.in_ok-conflict.field-0 c.in-None.is c.in_ok-conflict.ensures.watching,
  λ v e. c.in_ok-ready.ensures.1 v (omega (arith, e.0, c.in_ok-conflict.ensures.spread.vars, c.in_ok-trail.ensures.vars)),
)

pub search-preserved : goal.search-preserved
search-preserved g c = (
  searching-turn c.args.arena.now.clauses c.search.arena.clauses c.turn.new.arena.clauses c.search.log c.turn.new.log c.args.vars c.args.budget c.search.trail c.turn.new.trail
      (subst (λ (o : Outcome). IsTurn c.search.arena.clauses c.search.log c.search.trail c.turn.new.arena.clauses c.turn.new.log c.turn.new.trail c.args.budget o) c.in-Again.is c.in_ok-turn.ensures.turned) c.search.invariant.0,
  c.turn.ensures.ready ∙ c.search.invariant.1,
  subst (OnAgain (IsWatching c.turn.new.arena.clauses c.turn.new.trail c.turn.new.watches)) c.in-Again.is c.in_ok-turn.ensures.watching,
  subst (OnAgain (AreKnown (λ (v : ℕ). (goal.Chooser-dyn g (c.turn.new.chooser.vtable, c.turn.new.chooser.value)).knows c.turn.new.chooser.value v) c.turn.new.trail.values.items)) c.in-Again.is c.in_ok-turn.ensures.known,
)

pub returns-in-Satisfied-clause-answer : goal.returns-in-Satisfied-clause-answer
returns-in-Satisfied-clause-answer g c =
    searching-model c.args.arena.now.clauses c.search.arena.clauses c.search.log c.args.vars c.args.budget c.search.trail c.in-Satisfied.bits
    (subst (λ (o : Outcome). IsTurn c.search.arena.clauses c.search.log c.search.trail c.turn.new.arena.clauses c.turn.new.log c.turn.new.trail c.args.budget o) c.in-Satisfied.is c.in_ok-turn.ensures.turned).1 c.search.invariant.0

pub returns-in-Refuted-clause-answer : goal.returns-in-Refuted-clause-answer
returns-in-Refuted-clause-answer g c =
    refutation-is c.args.arena.now.clauses c.search.arena.clauses c.turn.new.arena.clauses c.search.log c.turn.new.log c.args.vars c.args.budget c.search.trail
    (subst (λ (o : Outcome). IsTurn c.search.arena.clauses c.search.log c.search.trail c.turn.new.arena.clauses c.turn.new.log c.turn.new.trail c.args.budget o) c.in-Refuted.is c.in_ok-turn.ensures.turned) c.search.invariant.0

pub returns-in-Spent-clause-answer : goal.returns-in-Spent-clause-answer
returns-in-Spent-clause-answer g c =
    spent-turn c.args.arena.now.clauses c.search.arena.clauses c.turn.new.arena.clauses c.search.log c.turn.new.log c.args.vars c.args.budget c.search.trail
    (subst (λ (o : Outcome). IsTurn c.search.arena.clauses c.search.log c.search.trail c.turn.new.arena.clauses c.turn.new.log c.turn.new.trail c.args.budget o) c.in-Spent.is c.in_ok-turn.ensures.turned) c.search.invariant.0

pub returns-in-Spent-clause-earned : goal.returns-in-Spent-clause-earned
returns-in-Spent-clause-earned g c l =
    never-spent-turn c.args.arena.now.clauses c.search.arena.clauses c.turn.new.arena.clauses c.search.log c.turn.new.log c.args.vars c.args.budget c.search.trail
    (subst (λ (o : Outcome). IsTurn c.search.arena.clauses c.search.log c.search.trail c.turn.new.arena.clauses c.turn.new.log c.turn.new.trail c.args.budget o) c.in-Spent.is c.in_ok-turn.ensures.turned) c.requires.below l c.search.invariant.0

pub returns-in_err-watches-clause-kept : goal.returns-in_err-watches-clause-kept
returns-in_err-watches-clause-kept g c = keeps-same c.args.arena.now.clauses c.args.arena.now.clauses refl

pub returns-in_err-conflict-clause-kept : goal.returns-in_err-conflict-clause-kept
returns-in_err-conflict-clause-kept g c = keeps-same c.args.arena.now.clauses c.args.arena.now.clauses refl

pub refute-requires-clause-open : goal.refute-requires-clause-open
refute-requires-clause-open g c = open-from c.args.arena.now.clauses (λ w. both_ways _ c.if-has_empty_clause.false (c.has_empty_clause.ensures.1 w))

pub returns-in-Some-clause-answer : goal.returns-in-Some-clause-answer
returns-in-Some-clause-answer g c =
    refutation-is c.args.arena.now.clauses c.args.arena.now.clauses c.refute.new.arena.clauses c.new-log.result c.refute.new.log c.args.vars c.args.budget c.watch_all.new.trail c.in_ok-refute-in-Some.ensures.refuted
    (searching-begun c.args.arena.now.clauses c.args.vars c.args.budget c.in_ok-trail.trail c.watch_all.new.trail c.new-log.result c.requires.below c.requires.some
    (open-from c.args.arena.now.clauses (λ w. both_ways _ c.if-has_empty_clause.false (c.has_empty_clause.ensures.1 w)))
    c.new-log.ensures c.in_ok-trail.ensures.empty c.in_ok-trail.ensures.vars c.in_ok-conflict.ensures.spread)
