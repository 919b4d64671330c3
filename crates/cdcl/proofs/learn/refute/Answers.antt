use Rattle.std.proofs.Common.{[], List, refl, subst, sym}
use Rattle.std.specs.List.{IsDistinct}
use Rattle.res_log.specs.declared.ChainStep.{ChainStep}
use Rattle.cdcl.specs.Held.{IsChainOf}
use Rattle.cdcl.proofs.Keeping.{keeps-same, keeps-push}
use Rattle.cdcl.proofs.Learned.{refuted-all}
use Rattle.cdcl.proofs.learn.refute.Goals as goal

pub returns-in_err-resolve_to_empty-clause-clauses : goal.returns-in_err-resolve_to_empty-clause-clauses
returns-in_err-resolve_to_empty-clause-clauses c = keeps-same c.args.arena.now.clauses c.args.arena.now.clauses refl

pub push-requires-clause-distinct : goal.push-requires-clause-distinct
unfolding IsDistinct
push-requires-clause-distinct c = tt

pub returns-in_err-empty-clause-clauses : goal.returns-in_err-empty-clause-clauses
returns-in_err-empty-clause-clauses c = keeps-same c.args.arena.now.clauses c.push.new.self.clauses c.in_err-empty.ensures.unchanged

pub returns-in_err-append-clause-clauses : goal.returns-in_err-append-clause-clauses
returns-in_err-append-clause-clauses c = keeps-push c.args.arena.now.clauses c.push.new.self.clauses [] c.in_ok-empty.ensures.stored

pub returns-clause-clauses : goal.returns-clause-clauses
returns-clause-clauses c = keeps-push c.args.arena.now.clauses c.push.new.self.clauses [] c.in_ok-empty.ensures.stored

pub returns-clause-refuted : goal.returns-clause-refuted
returns-clause-refuted c =
    refuted-all c.args.arena.now.clauses c.args.log.now c.args.trail.now.lits.items c.args.conflict c.in_ok-empty.empty c.deref.result.now c.push.new.self.clauses c.append.new.self
    c.requires.conflict (subst (λ (xs : List ChainStep). IsChainOf c.args.arena.now.clauses c.args.conflict xs []) (sym c.deref.ensures.value) c.in_ok-resolve_to_empty.ensures)
    c.in_ok-empty.ensures.stored c.in_ok-empty.ensures.next c.in_ok-append.ensures.stored
