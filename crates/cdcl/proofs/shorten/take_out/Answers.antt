use Rattle.std.proofs.Common.{◌≡◌, ◌<◌, ◌-◌, ◌∷◌, ◌++◌, [], ℕ, true, None, length, get_or, set, sym, ap, ◌∙◌, subst, arith}
use Rattle.clause_arena.specs.declared.Lit.{Lit}
use Rattle.clause_arena.specs.Clause.{Clause, has}
use Rattle.cdcl.specs.Held.{reasons_of}
use Rattle.cdcl.specs.Marks.{is_seen, AreEarly}
use Rattle.cdcl.proofs.Parts.{Some-is}
use Rattle.cdcl.proofs.Back.{zero_lit, get_or-any}
use Rattle.cdcl.proofs.Marking.{reason-live}
use Rattle.cdcl.proofs.Shortening.{reason-out, shortening-next}
use Rattle.cdcl.proofs.shorten.take_out.Goals as goal

pub lits-requires : goal.lits-requires
lits-requires c =
    let n : ℕ = get_or c.args.places.now (length c.args.places.now - 1 - c.loop-i.i) 0 in
    let lt : n < length c.args.trail.now.lits.items = omega (arith, c.if-start-place.false, c.requires.place) in
    reason-live c.args.arena.now.clauses c.args.trail.now.lits.items (reasons_of c.args.trail.now) n c.in-Some.reason c.requires.kept.reasoned lt (c.reason_at.ensures None ∙ c.in-Some.is)

pub mark-requires-clause-falsified : goal.mark-requires-clause-falsified
mark-requires-clause-falsified c m h t =
    let n : ℕ = get_or c.args.places.now (length c.args.places.now - 1 - c.loop-i.i) 0 in
    let lt : n < length c.args.trail.now.lits.items = omega (arith, c.if-start-place.false, c.requires.place) in
    let e : c.index-l.result.now ≡ get_or c.args.trail.now.lits.items n zero_lit = c.index-l.ensures ∙ get_or-any c.args.trail.now.lits.items n c.index-l.result.now zero_lit lt in
    reason-out c.args.arena.now.clauses c.args.trail.now.lits.items (reasons_of c.args.trail.now) c.loop-i.seen n c.in-Some.reason c.lits-in-loop-i.result.now c.requires.kept.reasoned lt (c.reason_at.ensures None ∙ c.in-Some.is)
    c.lits-in-loop-i.ensures.list (ap (λ (y : Lit). is_seen c.loop-i.seen y.var) (sym e) ∙ c.if-not-seen-at.false) m h t

pub loop-i-preserved : goal.loop-i-preserved
loop-i-preserved c =
    let p = c.args.trail.now.lits.items in
    let n : ℕ = get_or c.args.places.now (length c.args.places.now - 1 - c.loop-i.i) 0 in
    let lt : n < length c.args.trail.now.lits.items = omega (arith, c.if-start-place.false, c.requires.place) in
    let e : c.index-l.result.now ≡ get_or c.args.trail.now.lits.items n zero_lit = c.index-l.ensures ∙ get_or-any c.args.trail.now.lits.items n c.index-l.result.now zero_lit lt in
    let whole : length c.args.trail.now.lits.items ≡ c.len-end.result = omega (arith, c.len-end.ensures, c.args.trail.now.lits.ok.0) in
    let same : c.lits.result.now ≡ c.lits-in-loop-i.result.now = Some-is _ _ (sym c.lits.ensures.list ∙ c.lits-in-loop-i.ensures.list) in
    shortening-next c.args.arena.now.clauses c.args.trail.now c.args.start n c.in-Some.reason c.args.conflict c.loop-i.steps.items c.push.new.self.items c.loop-i.seen c.mark.new.seen c.loop-i.gone (set c.loop-i.gone c.index-l.result.now.var true)
    c.loop-i.lits.items c.mark.new.early.items c.lits-in-loop-i.result.now
    c.requires.kept c.if-start-place.false c.requires.place (c.reason_at.ensures None ∙ c.in-Some.is) c.lits-in-loop-i.ensures.list
    (ap (λ (y : Lit). is_seen c.loop-i.seen y.var) (sym e) ∙ c.if-not-seen-at.false)
    (λ m h. c.is_clear.ensures c.if-not-is_clear.false m (ap (λ (x : Clause). has x m) same ∙ h))
    (c.in_ok-push.ensures.items ∙ ap (λ (y : Lit). c.loop-i.steps.items ++ record { clause = c.in-Some.reason; pivot = y.var } ∷ []) e)
    (ap (λ (y : Lit). set c.loop-i.gone y.var true) e)
    c.in_ok-mark.ensures.marked
    (subst (λ (k : ℕ). AreEarly c.args.trail.now.lits.items k c.mark.new.seen c.mark.new.early.items) (sym whole) c.in_ok-mark.ensures.early)
    c.in_ok-mark.ensures.once c.in_ok-mark.ensures.sized c.loop-i.invariant
