use Rattle.std.proofs.Common.{ℕ, sym, true, length, ◌≡◌, List, ap, ◌∙◌, arith, subst}
use Rattle.std.proofs.lemmas.List.{length-set}
use Rattle.clause_arena.specs.declared.Lit.{Lit}
use Rattle.clause_arena.specs.Clause.{is_below}
use Rattle.cdcl.specs.Trail.{IsConsistent}
use Rattle.cdcl.specs.Arrays.{AreValues, ArePlaces}
use Rattle.cdcl.proofs.Arrays.{valued-pop, placed-pop, consistent-pop, below-pop, popped}
use Rattle.cdcl.proofs.trail.Trail.pop.Goals as goal

pub invariant_of-self-in-Some-clause-consistent : goal.invariant_of-self-in-Some-clause-consistent
invariant_of-self-in-Some-clause-consistent c =
    let e = popped c.args.self.now.lits.items c.pop.new.self.items c.pop.result c.in-Some.l c.pop.ensures.items c.in-Some.is in
    consistent-pop c.pop.new.self.items c.in-Some.l (subst IsConsistent e c.args.self.now.consistent)

pub invariant_of-self-in-Some-clause-placed : goal.invariant_of-self-in-Some-clause-placed
invariant_of-self-in-Some-clause-placed c =
    let e = popped c.args.self.now.lits.items c.pop.new.self.items c.pop.result c.in-Some.l c.pop.ensures.items c.in-Some.is in
    placed-pop c.pop.new.self.items c.args.self.now.places.items c.in-Some.l (subst (λ (p : List Lit). ArePlaces p c.args.self.now.places.items) e c.args.self.now.placed)

pub invariant_of-self-in-Some-clause-valued : goal.invariant_of-self-in-Some-clause-valued
invariant_of-self-in-Some-clause-valued c =
    let e = popped c.args.self.now.lits.items c.pop.new.self.items c.pop.result c.in-Some.l c.pop.ensures.items c.in-Some.is in
    valued-pop c.pop.new.self.items c.args.self.now.values.items c.in-Some.l (subst IsConsistent e c.args.self.now.consistent)
    (subst (λ (p : List Lit). AreValues p c.args.self.now.values.items) e c.args.self.now.valued)
    (omega (arith, (below-pop (length c.args.self.now.values.items) c.pop.new.self.items c.in-Some.l (subst (λ (p : List Lit). is_below (length c.args.self.now.values.items) p ≡ true) e c.args.self.now.below)).1))

pub invariant_of-self-in-Some-clause-one_reason_each : goal.invariant_of-self-in-Some-clause-one_reason_each
invariant_of-self-in-Some-clause-one_reason_each c = c.args.self.now.one_reason_each ∙ sym (length-set c.args.self.now.values.items c.in-Some.l.var 0)

pub invariant_of-self-in-Some-clause-below : goal.invariant_of-self-in-Some-clause-below
invariant_of-self-in-Some-clause-below c =
    let e = popped c.args.self.now.lits.items c.pop.new.self.items c.pop.result c.in-Some.l c.pop.ensures.items c.in-Some.is in
    ap (λ (n : ℕ). is_below n c.pop.new.self.items) (length-set c.args.self.now.values.items c.in-Some.l.var 0)
    ∙ (below-pop (length c.args.self.now.values.items) c.pop.new.self.items c.in-Some.l (subst (λ (p : List Lit). is_below (length c.args.self.now.values.items) p ≡ true) e c.args.self.now.below)).0
