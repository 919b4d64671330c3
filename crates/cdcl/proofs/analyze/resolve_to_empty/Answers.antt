use Rattle.std.proofs.Common.{◌≡◌, ℕ, ◌-◌, true, None, Bool, List, [], ◌∷◌, ◌++◌, length, arith, ap, ◌∙◌, sym, subst}
use Rattle.clause_arena.specs.declared.Lit.{Lit}
use Rattle.clause_arena.specs.Clause.{Clause, clause_at, opposite, has, is_same}
use Rattle.clause_arena.proofs.Sets.{list_all-at}
use Rattle.res_log.specs.Partial.{is_false}
use Rattle.cdcl.specs.Held.{vars_of, reasons_of}
use Rattle.cdcl.specs.Marks.{is_seen, IsMarked}
use Rattle.cdcl.proofs.Looks.{has-at}
use Rattle.cdcl.proofs.Arrays.{below-at}
use Rattle.cdcl.proofs.Back.{zero_lit}
use Rattle.cdcl.proofs.Once.{once-start}
use Rattle.cdcl.proofs.Reasons.{newest-is, no-decision}
use Rattle.cdcl.proofs.Parts.{holds-of, open-some}
use Rattle.cdcl.proofs.Empty.{empties-end, empties-some}
use Rattle.std.specs.Option.{ForSome, IsSomeAnd}
use Rattle.res_log.specs.Log.{chain}
use Rattle.cdcl.proofs.Marking.{Emptying, emptying-start, emptying-skip, emptying-next, reason-false, reason-live, written, seen-at}
use Rattle.cdcl.proofs.analyze.resolve_to_empty.Goals as goal

pub mark-requires-clause-falsified : goal.mark-requires-clause-falsified
mark-requires-clause-falsified c m h n =
    list_all-at (λ x. has c.args.trail.now.lits.items (opposite x)) c.lits.result.now
    (holds-of (clause_at c.args.arena.now.clauses c.args.conflict.0) (λ x. is_false c.args.trail.now.lits.items x ≡ true) c.lits.result.now c.requires.conflict c.lits.ensures.list) m h

pub mark-requires-clause-once : goal.mark-requires-clause-once
mark-requires-clause-once c = (once-start c.new-early.result.items c.new-early.ensures.items).1

pub back-init : goal.back-init
back-init c =
    let e : length c.args.trail.now.lits.items ≡ c.len-i.result = omega (arith, c.len-i.ensures, c.args.trail.now.lits.ok.0) in
    let now = written c.in_ok-seen.seen.len c.mark.new.seen c.in_ok-seen.seen.items (let q : length c.mark.new.seen ≡ c.in_ok-seen.seen.len = omega (arith, c.in_ok-mark.ensures.sized, c.len.ensures, c.args.trail.now.values.ok.0, c.in_ok-seen.ensures.len, c.in_ok-seen.seen.ok.0) in q) in
    subst (λ (s : List Bool). Emptying c.args.arena.now.clauses c.args.trail.now.lits.items (vars_of c.args.trail.now) c.args.conflict c.args.steps.now.items s c.mark.new.early.items c.len-i.result) (sym now)
    (subst (λ (n : ℕ). Emptying c.args.arena.now.clauses c.args.trail.now.lits.items (vars_of c.args.trail.now) c.args.conflict c.args.steps.now.items c.mark.new.seen c.mark.new.early.items n) e
    (emptying-start c.args.arena.now.clauses c.args.trail.now.lits.items (vars_of c.args.trail.now) c.len.result c.args.conflict c.args.steps.now.items c.deref_mut.result.now c.mark.new.seen c.mark.new.early.items c.lits.result.now
    c.requires.kept.consistent c.lits.ensures.list c.requires.fresh
    (holds-of (clause_at c.args.arena.now.clauses c.args.conflict.0) (λ x. is_false c.args.trail.now.lits.items x ≡ true) c.lits.result.now c.requires.conflict c.lits.ensures.list)
    (open-some c.lits.result.now (c.requires.open c.args.conflict.0 c.lits.result.now c.lits.ensures.list)) (c.deref_mut.ensures.value ∙ c.in_ok-seen.ensures.items_if_clones_equal (λ y e. e)) c.in_ok-mark.ensures.marked c.in_ok-mark.ensures.early c.in_ok-mark.ensures.once c.in_ok-mark.ensures.sized))

pub back-preserved-then-not-index : goal.back-preserved-then-not-index
back-preserved-then-not-index c =
    let e = newest-is c.args.trail.now.lits.items c.back.i c.index-newest.result.now c.index-newest.ensures (omega (arith, c.back-test.true)) c.back.invariant.back.upper in
    let newest-seen : is_seen c.back.seen.items c.index-newest.result.now.var ≡ c.index.result.now =
    seen-at c.back.seen.items c.index-newest.result.now.var c.index.result.now c.index.ensures
    (omega (arith, c.back.invariant.sized, below-at (vars_of c.args.trail.now) c.args.trail.now.lits.items c.index-newest.result.now c.args.trail.now.below (ap (has c.args.trail.now.lits.items) e ∙ has-at c.args.trail.now.lits.items (c.back.i - 1) zero_lit (omega (arith, c.back-test.true, c.back.invariant.back.upper)))))
    in
    emptying-skip c.args.arena.now.clauses c.args.trail.now.lits.items (vars_of c.args.trail.now) c.args.conflict c.back.steps.items c.back.seen.items c.back.early.items c.back.i (c.back.i - 1)
    (omega (arith, c.back-test.true)) (ap (λ (x : Lit). is_seen c.back.seen.items x.var) (sym e) ∙ newest-seen ∙ c.if-not-index.true) c.back.invariant

pub lits-requires-in-back : goal.lits-requires-in-back
lits-requires-in-back c =
    reason-live c.args.arena.now.clauses c.args.trail.now.lits.items (reasons_of c.args.trail.now) (c.back.i - 1) c.in-Some.reason c.requires.kept.reasoned (omega (arith, c.back-test.true, c.back.invariant.back.upper)) (c.reason_at.ensures None ∙ c.in-Some.is)

pub mark-requires-in-back-clause-falsified : goal.mark-requires-in-back-clause-falsified
mark-requires-in-back-clause-falsified c m k t =
    let e = newest-is c.args.trail.now.lits.items c.back.i c.index-newest.result.now c.index-newest.ensures (omega (arith, c.back-test.true)) c.back.invariant.back.upper in
    let newest-seen : is_seen c.back.seen.items c.index-newest.result.now.var ≡ c.index.result.now =
    seen-at c.back.seen.items c.index-newest.result.now.var c.index.result.now c.index.ensures
    (omega (arith, c.back.invariant.sized, below-at (vars_of c.args.trail.now) c.args.trail.now.lits.items c.index-newest.result.now c.args.trail.now.below (ap (has c.args.trail.now.lits.items) e ∙ has-at c.args.trail.now.lits.items (c.back.i - 1) zero_lit (omega (arith, c.back-test.true, c.back.invariant.back.upper)))))
    in
    reason-false c.args.arena.now.clauses c.args.trail.now.lits.items (reasons_of c.args.trail.now) c.back.seen.items c.back.invariant.current c.lits-in-back.result.now c.back.i (c.back.i - 1) c.in-Some.reason
    c.requires.kept.consistent c.requires.kept.reasoned (omega (arith, c.back-test.true)) c.back.invariant.back.upper (c.reason_at.ensures None ∙ c.in-Some.is) (ap (λ (x : Lit). is_seen c.back.seen.items x.var) (sym e) ∙ newest-seen ∙ c.if-not-index.false) c.lits-in-back.ensures.list
    c.back.invariant.back.falsified c.back.invariant.marks m k (ap (λ (s : List Bool). is_seen s m.var) (sym c.deref_mut-in-back.ensures.value) ∙ t)

pub back-preserved : goal.back-preserved
back-preserved c =
    let e = newest-is c.args.trail.now.lits.items c.back.i c.index-newest.result.now c.index-newest.ensures (omega (arith, c.back-test.true)) c.back.invariant.back.upper in
    let newest-seen : is_seen c.back.seen.items c.index-newest.result.now.var ≡ c.index.result.now =
    seen-at c.back.seen.items c.index-newest.result.now.var c.index.result.now c.index.ensures
    (omega (arith, c.back.invariant.sized, below-at (vars_of c.args.trail.now) c.args.trail.now.lits.items c.index-newest.result.now c.args.trail.now.below (ap (has c.args.trail.now.lits.items) e ∙ has-at c.args.trail.now.lits.items (c.back.i - 1) zero_lit (omega (arith, c.back-test.true, c.back.invariant.back.upper)))))
    in
    let now = written c.back.seen.len c.mark-in-back.new.seen c.back.seen.items (let q : length c.mark-in-back.new.seen ≡ c.back.seen.len = omega (arith, c.in_ok-mark-2.ensures.sized, c.back.invariant.sized, c.back.seen.ok.0) in q) in
    subst (λ (s : List Bool). Emptying c.args.arena.now.clauses c.args.trail.now.lits.items (vars_of c.args.trail.now) c.args.conflict c.push.new.self.items s c.mark-in-back.new.early.items (c.back.i - 1)) (sym now)
    (emptying-next c.args.arena.now.clauses c.args.trail.now.lits.items (reasons_of c.args.trail.now) (vars_of c.args.trail.now) c.args.conflict c.back.steps.items c.push.new.self.items c.back.seen.items c.mark-in-back.new.seen c.back.early.items c.mark-in-back.new.early.items c.lits-in-back.result.now c.back.i (c.back.i - 1) c.in-Some.reason
    c.requires.kept.consistent c.requires.kept.reasoned (omega (arith, c.back-test.true)) (c.reason_at.ensures None ∙ c.in-Some.is) (ap (λ (x : Lit). is_seen c.back.seen.items x.var) (sym e) ∙ newest-seen ∙ c.if-not-index.false)
    (c.in_ok-push.ensures.items ∙ ap (λ (x : Lit). c.back.steps.items ++ record { clause = c.in-Some.reason; pivot = x.var } ∷ []) e) c.lits-in-back.ensures.list
    (subst (λ (s : List Bool). IsMarked s c.mark-in-back.new.seen c.lits-in-back.result.now) c.deref_mut-in-back.ensures.value c.in_ok-mark-2.ensures.marked) c.in_ok-mark-2.ensures.early c.in_ok-mark-2.ensures.once c.in_ok-mark-2.ensures.sized c.back.invariant)

pub unreachable-requires : goal.unreachable-requires
unreachable-requires c =
    no-decision (reasons_of c.args.trail.now) (c.back.i - 1) (omega (arith, c.requires.kept.lengths, c.back.invariant.back.upper, c.back-test.true)) (c.reason_at.ensures None ∙ c.in-None.is) c.requires.forced

pub returns : goal.returns
returns c = (
  empties-some c.args.arena.now.clauses c.args.trail.now.lits.items c.args.conflict c.back.steps.items c.back.invariant.current c.back.i c.back-test.false c.back.invariant.back,
  subst (λ (d : Clause). ForSome (clause_at c.args.arena.now.clauses c.args.conflict.0) (λ x. IsSomeAnd (chain (clause_at c.args.arena.now.clauses) c.back.steps.items x) (λ r. is_same r d ≡ true)))
      (empties-end c.args.arena.now.clauses c.args.trail.now.lits.items c.args.conflict c.back.steps.items c.back.invariant.current c.back.i c.back-test.false c.back.invariant.back) c.back.invariant.back.exact,
)
