use Rattle.std.proofs.Common.{ℕ, inr, true, refl}
use Rattle.clause_arena.specs.Clause.{lit}
use Rattle.res_log.specs.Partial.{is_quiet}
use Rattle.cdcl.specs.Trail.{AllClauses}
use Rattle.cdcl.specs.Work.{IsConflict}
use Rattle.cdcl.proofs.Keeping.{keeps-same}
use Rattle.cdcl.proofs.Solves.{settled-none, decides-is, model-found}
use Rattle.cdcl.proofs.Watching.{watching-decided}
use Rattle.cdcl.proofs.Knowing.{known-spread, known-push, none-at-end}
use Rattle.cdcl.proofs.turn.turn.Goals as goal

pub returns-in_err-conflict-clause-clauses : goal.returns-in_err-conflict-clause-clauses
returns-in_err-conflict-clause-clauses g c = keeps-same c.args.arena.now.clauses c.args.arena.now.clauses refl

pub returns-in_err-push-in-Some-next_decision-clause-clauses : goal.returns-in_err-push-in-Some-next_decision-clause-clauses
returns-in_err-push-in-Some-next_decision-clause-clauses g c = keeps-same c.args.arena.now.clauses c.args.arena.now.clauses refl

pub returns-in_err-model_of-in-None-next_decision-clause-clauses : goal.returns-in_err-model_of-in-None-next_decision-clause-clauses
returns-in_err-model_of-in-None-next_decision-clause-clauses g c = keeps-same c.args.arena.now.clauses c.args.arena.now.clauses refl

pub returns-in_ok-push-in-Some-next_decision-clause-clauses : goal.returns-in_ok-push-in-Some-next_decision-clause-clauses
returns-in_ok-push-in-Some-next_decision-clause-clauses g c = keeps-same c.args.arena.now.clauses c.args.arena.now.clauses refl

pub returns-in_ok-push-in-Some-next_decision-clause-turned : goal.returns-in_ok-push-in-Some-next_decision-clause-turned
returns-in_ok-push-in-Some-next_decision-clause-turned g c =
    inr
    (decides-is c.args.arena.now.clauses c.args.log.now c.args.trail.now c.propagate_counted.new.trail c.push.new.self (lit true c.in-Some-next_decision.var)
    (settled-none (AllClauses (is_quiet c.propagate_counted.new.trail.lits.items) c.args.arena.now.clauses) (IsConflict c.args.arena.now.clauses c.propagate_counted.new.trail.lits.items) c.in_ok-conflict.field-0 c.in-None.is c.in_ok-conflict.ensures.settled)
    c.in-Some-next_decision.ensures.free.1 c.in-Some-next_decision.ensures.free.0
    c.in_ok-push-in-Some-next_decision.ensures.pushed c.in_ok-push-in-Some-next_decision.ensures.reasoned c.push.ensures.vars c.in_ok-conflict.ensures.spread)

pub returns-in_ok-model_of-in-None-next_decision-clause-clauses : goal.returns-in_ok-model_of-in-None-next_decision-clause-clauses
returns-in_ok-model_of-in-None-next_decision-clause-clauses g c = keeps-same c.args.arena.now.clauses c.args.arena.now.clauses refl

pub returns-in_ok-model_of-in-None-next_decision-clause-turned : goal.returns-in_ok-model_of-in-None-next_decision-clause-turned
returns-in_ok-model_of-in-None-next_decision-clause-turned g c = (
  refl,
  model-found c.args.arena.now.clauses c.args.trail.now c.propagate_counted.new.trail c.in_ok-model_of-in-None-next_decision.field-0 c.requires.below
      (settled-none (AllClauses (is_quiet c.propagate_counted.new.trail.lits.items) c.args.arena.now.clauses) (IsConflict c.args.arena.now.clauses c.propagate_counted.new.trail.lits.items) c.in_ok-conflict.field-0 c.in-None.is c.in_ok-conflict.ensures.settled)
      c.in-None-next_decision.ensures.free c.in_ok-model_of-in-None-next_decision.ensures.size c.in_ok-model_of-in-None-next_decision.ensures.values c.in_ok-conflict.ensures.spread,
)

pub returns-in_ok-push-in-Some-next_decision-clause-watching : goal.returns-in_ok-push-in-Some-next_decision-clause-watching
returns-in_ok-push-in-Some-next_decision-clause-watching g c =
    watching-decided c.args.arena.now.clauses c.propagate_counted.new.trail c.push.new.self c.propagate_counted.new.watches (lit true c.in-Some-next_decision.var) c.in_ok-conflict.ensures.spread.kept
    (c.in_ok-conflict.ensures.seen c.in-None.is) c.in_ok-push-in-Some-next_decision.ensures.pushed c.in_ok-push-in-Some-next_decision.ensures.reasoned c.push.ensures.vars c.in_ok-conflict.ensures.watching

pub end_conflict-requires-clause-known : goal.end_conflict-requires-clause-known
end_conflict-requires-clause-known g c =
    known-spread (λ (v : ℕ). (goal.Chooser-dyn g (c.args.chooser.now.vtable, c.args.chooser.now.value)).knows c.args.chooser.now.value v) c.args.arena.now.clauses c.args.trail.now c.propagate_counted.new.trail
    c.in_ok-conflict.ensures.spread c.requires.known

pub next_decision-requires-clause-known : goal.next_decision-requires-clause-known
next_decision-requires-clause-known g c =
    known-spread (λ (v : ℕ). (goal.Chooser-dyn g (c.args.chooser.now.vtable, c.args.chooser.now.value)).knows c.args.chooser.now.value v) c.args.arena.now.clauses c.args.trail.now c.propagate_counted.new.trail
    c.in_ok-conflict.ensures.spread c.requires.known

pub returns-in_ok-push-in-Some-next_decision-clause-known : goal.returns-in_ok-push-in-Some-next_decision-clause-known
returns-in_ok-push-in-Some-next_decision-clause-known g c =
    known-push (λ (v : ℕ). (goal.Chooser-dyn g (c.next_decision.new.chooser.vtable, c.next_decision.new.chooser.value)).knows c.next_decision.new.chooser.value v) c.propagate_counted.new.trail c.push.new.self (lit true c.in-Some-next_decision.var)
    c.in_ok-push-in-Some-next_decision.ensures.pushed c.push.ensures.vars c.next_decision.ensures.known

pub returns-in_ok-push-in-Some-next_decision-clause-told : goal.returns-in_ok-push-in-Some-next_decision-clause-told
returns-in_ok-push-in-Some-next_decision-clause-told g c = λ x e. absurd (none-at-end c.args.arena.now.clauses x e)
