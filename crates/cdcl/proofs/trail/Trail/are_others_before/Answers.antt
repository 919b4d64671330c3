use Rattle.std.proofs.Common.{◌≡◌, ◌≤◌, ℕ, true, take, get_or, length, arith, ap, ◌∙◌, sym}
use Rattle.std.proofs.Math.Seq.{take-length}
use Rattle.clause_arena.specs.Clause.{Clause, has, opposite}
use Rattle.cdcl.proofs.Back.{zero_lit}
use Rattle.cdcl.proofs.Looks.{has-at}
use Rattle.cdcl.proofs.Arrays.{late-false, early-false, one-more, others-true}
use Rattle.cdcl.proofs.trail.Trail.are_others_before.Goals as goal

pub returns-then-start-index : goal.returns-then-start-index
returns-then-start-index c =
    late-false c.args.self.now.lits.items c.args.self.now.places.items c.args.start c.index.result.now (length c.args.self.now.values.items) c.args.clause.now
    (get_or c.args.clause.now c.loop-l.l-index zero_lit) c.args.var c.index.ensures c.if-start-index.true c.args.self.now.one_place_each c.requires.below c.args.self.now.placed c.requires.place
    (has-at c.args.clause.now c.loop-l.l-index zero_lit c.loop-l-test.true) c.if-l-var.false

pub loop-l-preserved-then-l-var : goal.loop-l-preserved-then-l-var
loop-l-preserved-then-l-var c =
    one-more (λ m. (m.var ≡ c.args.var → ⊥) → has (take c.args.start c.args.self.now.lits.items) (opposite m) ≡ true) c.args.clause.now c.loop-l.l-index c.loop-l-test.true c.loop-l.invariant
    (λ n. absurd (n c.if-l-var.true))

pub loop-l-preserved : goal.loop-l-preserved
loop-l-preserved c =
    one-more (λ m. (m.var ≡ c.args.var → ⊥) → has (take c.args.start c.args.self.now.lits.items) (opposite m) ≡ true) c.args.clause.now c.loop-l.l-index c.loop-l-test.true c.loop-l.invariant
    (λ n.
    early-false c.args.self.now.lits.items c.args.self.now.places.items c.args.start c.index.result.now (length c.args.self.now.values.items) c.args.clause.now
    (get_or c.args.clause.now c.loop-l.l-index zero_lit) c.index.ensures (omega (arith, c.if-start-index.false)) c.args.self.now.one_place_each c.requires.below c.args.self.now.placed c.requires.place
    c.requires.falsified (has-at c.args.clause.now c.loop-l.l-index zero_lit c.loop-l-test.true))

whole : (c : Clause) (i : ℕ) → i ≤ length c → length c ≤ i → take i c ≡ c
whole c i a b = ap (λ (k : ℕ). take k c) (let e : i ≡ length c = omega arith in e) ∙ take-length c

pub returns : goal.returns
returns c =
    let e = whole c.args.clause.now c.loop-l.l-index c.loop-l.auto.l-index-end c.loop-l-test.false in
    sym (others-true (take c.args.start c.args.self.now.lits.items) c.args.var c.args.clause.now
    (λ m h. c.loop-l.invariant m (ap (λ (d : Clause). has d m) e ∙ h)))
