use Rattle.std.proofs.Common.{◌≡◌, ℕ, ◌-◌, true, None, Bool, List, [], ◌∷◌, ◌++◌, length, arith, ap, ◌∙◌, sym, subst}
use Rattle.clause_arena.specs.declared.Lit.{Lit}
use Rattle.clause_arena.specs.Clause.{clause_at, opposite, has}
use Rattle.clause_arena.proofs.Sets.{list_all-at}
use Rattle.res_log.specs.Partial.{is_false}
use Rattle.cdcl.specs.Held.{vars_of, reasons_of}
use Rattle.cdcl.specs.Marks.{is_seen, IsMarked}
use Rattle.cdcl.proofs.Looks.{has-at}
use Rattle.cdcl.proofs.Arrays.{below-at}
use Rattle.cdcl.proofs.Back.{zero_lit}
use Rattle.cdcl.proofs.Once.{once-start}
use Rattle.cdcl.proofs.Reasons.{newest-is}
use Rattle.cdcl.proofs.Parts.{holds-of}
use Rattle.cdcl.proofs.Marking.{Resolving, resolving-start, resolving-skip, resolving-next, resolving-done, reason-false, reason-live, unmarked-yes, unmarked-no, written, seen-at, Derives}
use Rattle.cdcl.proofs.analyze.resolve_back.Goals as goal

pub mark-requires-clause-falsified : goal.mark-requires-clause-falsified
mark-requires-clause-falsified c m h n =
    list_all-at (λ x. has c.args.trail.now.lits.items (opposite x)) c.lits.result.now
    (holds-of (clause_at c.args.arena.now.clauses c.args.conflict.0) (λ x. is_false c.args.trail.now.lits.items x ≡ true) c.lits.result.now c.requires.conflict c.lits.ensures.list) m h

pub mark-requires-clause-once : goal.mark-requires-clause-once
mark-requires-clause-once c = (once-start c.new-early.result.items c.new-early.ensures.items).1

pub back-init : goal.back-init
back-init c =
    let e : length c.args.trail.now.lits.items ≡ c.len-i.result = omega (arith, c.len-i.ensures, c.args.trail.now.lits.ok.0) in
    let now = written c.in_ok-seen.seen.len c.mark.new.seen c.in_ok-seen.seen.items (let q : length c.mark.new.seen ≡ c.in_ok-seen.seen.len = omega (arith, c.in_ok-mark.ensures.sized, c.len.ensures, c.args.trail.now.values.ok.0, c.in_ok-seen.ensures.len, c.in_ok-seen.seen.ok.0) in q) in
    subst (λ (s : List Bool). Resolving c.args.arena.now.clauses c.args.trail.now.lits.items (vars_of c.args.trail.now) c.args.start c.args.conflict c.args.steps.now.items s c.mark.new.early.items c.len-i.result) (sym now)
    (subst (λ (n : ℕ). Resolving c.args.arena.now.clauses c.args.trail.now.lits.items (vars_of c.args.trail.now) c.args.start c.args.conflict c.args.steps.now.items c.mark.new.seen c.mark.new.early.items n) e
    (resolving-start c.args.arena.now.clauses c.args.trail.now.lits.items (vars_of c.args.trail.now) c.args.start c.len.result c.args.conflict c.args.steps.now.items c.deref_mut.result.now c.mark.new.seen c.mark.new.early.items c.lits.result.now
    c.requires.kept.consistent c.lits.ensures.list c.requires.fresh c.requires.place
    (holds-of (clause_at c.args.arena.now.clauses c.args.conflict.0) (λ x. is_false c.args.trail.now.lits.items x ≡ true) c.lits.result.now c.requires.conflict c.lits.ensures.list)
    (c.requires.two c.lits.result.now c.lits.ensures.list) (c.deref_mut.ensures.value ∙ c.in_ok-seen.ensures.items_if_clones_equal (λ y e. e)) c.in_ok-mark.ensures.marked c.in_ok-mark.ensures.early c.in_ok-mark.ensures.once c.in_ok-mark.ensures.sized))

pub back-preserved-then-not-index : goal.back-preserved-then-not-index
back-preserved-then-not-index c =
    let e = newest-is c.args.trail.now.lits.items c.back.i c.index-newest.result.now c.index-newest.ensures (omega (arith, c.back-test.true)) c.back.invariant.back.upper in
    let newest-seen : is_seen c.back.seen.items c.index-newest.result.now.var ≡ c.index.result.now =
    seen-at c.back.seen.items c.index-newest.result.now.var c.index.result.now c.index.ensures
    (omega (arith, c.back.invariant.sized, below-at (vars_of c.args.trail.now) c.args.trail.now.lits.items c.index-newest.result.now c.args.trail.now.below (ap (has c.args.trail.now.lits.items) e ∙ has-at c.args.trail.now.lits.items (c.back.i - 1) zero_lit (omega (arith, c.back-test.true, c.back.invariant.back.upper)))))
    in
    resolving-skip c.args.arena.now.clauses c.args.trail.now.lits.items (vars_of c.args.trail.now) c.args.start c.args.conflict c.back.steps.items c.back.seen.items c.back.early.items c.back.i (c.back.i - 1)
    (omega (arith, c.back-test.true)) c.back-test.true (ap (λ (x : Lit). is_seen c.back.seen.items x.var) (sym e) ∙ newest-seen ∙ c.if-not-index.true) c.back.invariant

-- what the clause is when one literal of the last level is left
pub done : (c : goal.After-drop-seen-then-is_unmarked) → Derives c.args.arena.now.clauses c.args.trail.now.lits.items c.args.start c.args.conflict c.back.steps.items c.push.new.self.items
done c =
    let e = newest-is c.args.trail.now.lits.items c.back.i c.index-newest.result.now c.index-newest.ensures (omega (arith, c.back-test.true)) c.back.invariant.back.upper in
    let newest-seen : is_seen c.back.seen.items c.index-newest.result.now.var ≡ c.index.result.now =
    seen-at c.back.seen.items c.index-newest.result.now.var c.index.result.now c.index.ensures
    (omega (arith, c.back.invariant.sized, below-at (vars_of c.args.trail.now) c.args.trail.now.lits.items c.index-newest.result.now c.args.trail.now.below (ap (has c.args.trail.now.lits.items) e ∙ has-at c.args.trail.now.lits.items (c.back.i - 1) zero_lit (omega (arith, c.back-test.true, c.back.invariant.back.upper)))))
    in
    resolving-done c.args.arena.now.clauses c.args.trail.now.lits.items (vars_of c.args.trail.now) c.args.start c.args.conflict c.back.steps.items c.back.seen.items c.back.early.items c.push.new.self.items c.lits.result.now c.back.i (c.back.i - 1)
    c.requires.kept.consistent (omega (arith, c.back-test.true)) c.back-test.true (ap (λ (x : Lit). is_seen c.back.seen.items x.var) (sym e) ∙ newest-seen ∙ c.if-not-index.false)
    (unmarked-yes c.args.trail.now.lits.items c.back.seen.items c.deref.result.now c.args.start (c.back.i - 1) c.is_unmarked.result c.if-is_unmarked.true c.deref.ensures.value c.is_unmarked.ensures)
    c.lits.ensures.list (c.requires.two c.lits.result.now c.lits.ensures.list)
    (c.in_ok-push.ensures.ok ∙ ap (λ (x : Lit). c.back.early.items ++ x ∷ []) (c.negated.ensures ∙ ap opposite e)) c.back.invariant

pub returns-then-is_unmarked-clause-chained : goal.returns-then-is_unmarked-clause-chained
returns-then-is_unmarked-clause-chained c = (done c).chained

pub returns-then-is_unmarked-clause-falsified : goal.returns-then-is_unmarked-clause-falsified
returns-then-is_unmarked-clause-falsified c = (done c).falsified

pub returns-then-is_unmarked-clause-asserting : goal.returns-then-is_unmarked-clause-asserting
returns-then-is_unmarked-clause-asserting c = (done c).asserting

pub returns-then-is_unmarked-clause-once : goal.returns-then-is_unmarked-clause-once
returns-then-is_unmarked-clause-once c = (done c).once

pub lits-requires-in-back : goal.lits-requires-in-back
lits-requires-in-back c =
    reason-live c.args.arena.now.clauses c.args.trail.now.lits.items (reasons_of c.args.trail.now) (c.back.i - 1) c.in-Some.reason c.requires.kept.reasoned (omega (arith, c.back-test.true, c.back.invariant.back.upper)) (c.reason_at.ensures None ∙ c.in-Some.is)

pub mark-requires-in-back-clause-falsified : goal.mark-requires-in-back-clause-falsified
mark-requires-in-back-clause-falsified c m k t =
    let e = newest-is c.args.trail.now.lits.items c.back.i c.index-newest.result.now c.index-newest.ensures (omega (arith, c.back-test.true)) c.back.invariant.back.upper in
    let newest-seen : is_seen c.back.seen.items c.index-newest.result.now.var ≡ c.index.result.now =
    seen-at c.back.seen.items c.index-newest.result.now.var c.index.result.now c.index.ensures
    (omega (arith, c.back.invariant.sized, below-at (vars_of c.args.trail.now) c.args.trail.now.lits.items c.index-newest.result.now c.args.trail.now.below (ap (has c.args.trail.now.lits.items) e ∙ has-at c.args.trail.now.lits.items (c.back.i - 1) zero_lit (omega (arith, c.back-test.true, c.back.invariant.back.upper)))))
    in
    reason-false c.args.arena.now.clauses c.args.trail.now.lits.items (reasons_of c.args.trail.now) c.back.seen.items c.back.invariant.current c.lits-in-back.result.now c.back.i (c.back.i - 1) c.in-Some.reason
    c.requires.kept.consistent c.requires.kept.reasoned (omega (arith, c.back-test.true)) c.back.invariant.back.upper (c.reason_at.ensures None ∙ c.in-Some.is) (ap (λ (x : Lit). is_seen c.back.seen.items x.var) (sym e) ∙ newest-seen ∙ c.if-not-index.false) c.lits-in-back.ensures.list
    c.back.invariant.back.falsified c.back.invariant.marks m k (ap (λ (s : List Bool). is_seen s m.var) (sym c.deref_mut-in-back.ensures.value) ∙ t)

pub back-preserved : goal.back-preserved
back-preserved c =
    let e = newest-is c.args.trail.now.lits.items c.back.i c.index-newest.result.now c.index-newest.ensures (omega (arith, c.back-test.true)) c.back.invariant.back.upper in
    let newest-seen : is_seen c.back.seen.items c.index-newest.result.now.var ≡ c.index.result.now =
    seen-at c.back.seen.items c.index-newest.result.now.var c.index.result.now c.index.ensures
    (omega (arith, c.back.invariant.sized, below-at (vars_of c.args.trail.now) c.args.trail.now.lits.items c.index-newest.result.now c.args.trail.now.below (ap (has c.args.trail.now.lits.items) e ∙ has-at c.args.trail.now.lits.items (c.back.i - 1) zero_lit (omega (arith, c.back-test.true, c.back.invariant.back.upper)))))
    in
    let now = written c.back.seen.len c.mark-in-back.new.seen c.back.seen.items (let q : length c.mark-in-back.new.seen ≡ c.back.seen.len = omega (arith, c.in_ok-mark-2.ensures.sized, c.back.invariant.sized, c.back.seen.ok.0) in q) in
    subst (λ (s : List Bool). Resolving c.args.arena.now.clauses c.args.trail.now.lits.items (vars_of c.args.trail.now) c.args.start c.args.conflict c.push-in-back.new.self.items s c.mark-in-back.new.early.items (c.back.i - 1)) (sym now)
    (resolving-next c.args.arena.now.clauses c.args.trail.now.lits.items (reasons_of c.args.trail.now) (vars_of c.args.trail.now) c.args.start c.args.conflict c.back.steps.items c.push-in-back.new.self.items c.back.seen.items c.mark-in-back.new.seen c.back.early.items c.mark-in-back.new.early.items c.lits-in-back.result.now c.back.i (c.back.i - 1) c.in-Some.reason
    c.requires.kept.consistent c.requires.kept.reasoned (omega (arith, c.back-test.true)) c.back-test.true (c.reason_at.ensures None ∙ c.in-Some.is) (ap (λ (x : Lit). is_seen c.back.seen.items x.var) (sym e) ∙ newest-seen ∙ c.if-not-index.false)
    (unmarked-no c.args.trail.now.lits.items c.back.seen.items c.deref.result.now c.args.start (c.back.i - 1) c.is_unmarked.result c.if-is_unmarked.false c.deref.ensures.value c.is_unmarked.ensures)
    (c.in_ok-push-2.ensures.items ∙ ap (λ (x : Lit). c.back.steps.items ++ record { clause = c.in-Some.reason; pivot = x.var } ∷ []) e) c.lits-in-back.ensures.list
    (subst (λ (s : List Bool). IsMarked s c.mark-in-back.new.seen c.lits-in-back.result.now) c.deref_mut-in-back.ensures.value c.in_ok-mark-2.ensures.marked) c.in_ok-mark-2.ensures.early c.in_ok-mark-2.ensures.once c.in_ok-mark-2.ensures.sized c.back.invariant)
