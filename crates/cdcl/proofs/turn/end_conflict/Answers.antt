use Rattle.std.proofs.Common.{ℕ, ◌∙◌, sym, ap}
use Rattle.clause_arena.specs.Clause.{Clause, clause_at}
use Rattle.cdcl.specs.Held.{vars_of}
use Rattle.cdcl.proofs.Answered.{learned-below}
use Rattle.cdcl.proofs.Parts.{Some-is}
use Rattle.cdcl.proofs.turn.end_conflict.Goals as goal

pub report-requires : goal.report-requires
report-requires g c =
    learned-below c.args.arena.now.clauses c.learn.new.arena.clauses c.args.log.now c.learn.new.log (vars_of c.args.trail.now) _ c.in_ok-id.id c.lits.result.now
    c.in_ok-id.ensures.learned c.in_ok-id.ensures.next c.lits.ensures.list (c.learn.ensures.ready ∙ c.requires.ready)

pub restart-requires-clause-ready : goal.restart-requires-clause-ready
restart-requires-clause-ready g c = c.report.ensures.ready ∙ c.learn.ensures.ready ∙ c.requires.ready ∙ sym c.in_ok-id.ensures.vars

pub restart-requires-clause-known : goal.restart-requires-clause-known
restart-requires-clause-known g c v e = c.report.ensures.known v (c.in_ok-id.ensures.known v e)

pub returns-clause-told : goal.returns-clause-told
returns-clause-told g c q e =
    c.restart.ensures.heard ∙ c.report.ensures.heard ∙ c.learn.ensures.hears c.lits.result.now
    ∙ ap (λ (x : Clause). (goal.Chooser-dyn g (c.args.chooser.now.vtable, c.args.chooser.now.value)).hears c.args.chooser.now.value x)
    (Some-is c.lits.result.now q (sym c.lits.ensures.list ∙ ap (λ (i : ℕ). clause_at c.learn.new.arena.clauses i) c.in_ok-id.ensures.next ∙ e))
