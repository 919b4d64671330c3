use Rattle.std.proofs.Common.{◌≡◌, ℕ, true, length, take, sym, ap, ◌∙◌, subst, arith}
use Rattle.clause_arena.specs.Clause.{Clause, has, opposite, is_below, IsEachOnce}
use Rattle.clause_arena.proofs.Sets.{list_all-at}
use Rattle.res_log.specs.Partial.{is_false, IsAsserting}
use Rattle.cdcl.specs.Held.{vars_of, IsChainOf}
use Rattle.cdcl.specs.Marks.{AreEarly, left}
use Rattle.cdcl.proofs.Once.{once-start}
use Rattle.cdcl.proofs.Reasons.{all-below}
use Rattle.cdcl.proofs.Shortening.{early-begun, collected-false, shortening-start, whole-false, once-left}
use Rattle.cdcl.proofs.shorten.shorten_by.Goals as goal

pub mark-requires-clause-below : goal.mark-requires-clause-below
mark-requires-clause-below c = all-below (vars_of c.args.trail.now) c.args.trail.now.lits.items c.args.derived.now c.args.trail.now.below c.requires.falsified

pub mark-requires-clause-falsified : goal.mark-requires-clause-falsified
mark-requires-clause-falsified c m h n = list_all-at (λ x. has c.args.trail.now.lits.items (opposite x)) c.args.derived.now c.requires.falsified m h

pub mark-requires-clause-early : goal.mark-requires-clause-early
mark-requires-clause-early c = early-begun c.args.trail.now.lits.items c.len-end.result (length c.args.seen.now) c.args.seen.now c.new-lits.result.items c.requires.none_seen c.new-lits.ensures.items

pub mark-requires-clause-once : goal.mark-requires-clause-once
mark-requires-clause-once c = (once-start c.new-lits.result.items c.new-lits.ensures.items).1

pub take_out-requires-clause-begun : goal.take_out-requires-clause-begun
take_out-requires-clause-begun c =
    let whole : length c.args.trail.now.lits.items ≡ c.len-end.result = omega (arith, c.len-end.ensures, c.args.trail.now.lits.ok.0) in
    shortening-start c.args.arena.now.clauses c.args.trail.now c.args.start (length c.args.seen.now) (length c.args.gone.now) c.args.conflict c.args.steps.now.items c.args.derived.now c.mark.new.early.items c.args.seen.now c.mark.new.seen c.args.gone.now
    c.requires.kept.consistent c.requires.none_seen c.requires.none_gone c.requires.chained c.requires.falsified c.requires.asserting c.in_ok-mark.ensures.marked
    (subst (λ (k : ℕ). AreEarly c.args.trail.now.lits.items k c.mark.new.seen c.mark.new.early.items) (sym whole) c.in_ok-mark.ensures.early)
    c.in_ok-mark.ensures.once c.in_ok-mark.ensures.sized c.requires.sized_gone

pub left_of-requires : goal.left_of-requires
left_of-requires c =
    let s = c.in_ok-take_out.ensures in
    subst (λ (n : ℕ). is_below n c.as_slice.result.now ≡ true) (sym s.sized_gone)
    (subst (λ (x : Clause). is_below (vars_of c.args.trail.now) x ≡ true) (sym c.as_slice.ensures)
    (all-below (vars_of c.args.trail.now) c.args.trail.now.lits.items c.take_out.new.lits.items c.args.trail.now.below (collected-false c.args.trail.now.lits.items c.take_out.new.seen c.take_out.new.lits.items s.collected)))

pub returns-clause-chained : goal.returns-clause-chained
returns-clause-chained c =
    subst (IsChainOf c.args.arena.now.clauses c.args.conflict c.take_out.new.steps.items) (sym (c.in_ok-learned.ensures ∙ ap (left c.take_out.new.gone) c.as_slice.ensures)) c.in_ok-take_out.ensures.chained

pub returns-clause-falsified : goal.returns-clause-falsified
returns-clause-falsified c =
    ap (is_false c.args.trail.now.lits.items) (c.in_ok-learned.ensures ∙ ap (left c.take_out.new.gone) c.as_slice.ensures)
    ∙ whole-false c.args.trail.now.lits.items c.take_out.new.seen c.take_out.new.gone c.take_out.new.lits.items c.in_ok-take_out.ensures.collected

pub returns-clause-asserting : goal.returns-clause-asserting
returns-clause-asserting c =
    subst (IsAsserting (take c.args.start c.args.trail.now.lits.items)) (sym (c.in_ok-learned.ensures ∙ ap (left c.take_out.new.gone) c.as_slice.ensures)) c.in_ok-take_out.ensures.asserting

pub returns-clause-once : goal.returns-clause-once
returns-clause-once c =
    subst IsEachOnce (sym (c.in_ok-learned.ensures ∙ ap (left c.take_out.new.gone) c.as_slice.ensures)) (once-left c.take_out.new.gone c.take_out.new.lits.items c.in_ok-take_out.ensures.once)
