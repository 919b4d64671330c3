use Rattle.std.proofs.Common.{List, ℕ, [], sym, subst}
use Rattle.clause_arena.specs.declared.Lit.{Lit}
use Rattle.cdcl.specs.Arrays.{AreValues}
use Rattle.cdcl.proofs.Arrays.{values-none}
use Rattle.cdcl.proofs.trail.Trail.new.Goals as goal

pub invariant_of-result-clause-valued : goal.invariant_of-result-clause-valued
invariant_of-result-clause-valued c =
    subst (λ (p : List Lit). AreValues p c.in_ok-values.values.items) (sym c.new.ensures.items)
    (subst (λ (xs : List ℕ). AreValues [] xs) (sym (c.in_ok-values.ensures.items_if_clones_equal (λ y e. e))) (values-none c.args.vars))
