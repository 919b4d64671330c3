-- What propagation keeps.
use Rattle.std.proofs.Common.{◌≡◌, ℕ, ◌-◌, ◌<◌, ◌≤◌, true, List, [], ◌∷◌, ◌++◌, length, Some, refl, sym, ap, ◌∙◌, subst, arith, length-append}
use Rattle.std.specs.Option.{IsSomeAnd}
use Rattle.std.proofs.lemmas.Bool.{and_parts, or_left}
use Rattle.clause_arena.specs.declared.Lit.{Lit}
use Rattle.clause_arena.specs.declared.ClauseId.{ClauseId}
use Rattle.clause_arena.specs.Clause.{Clause, Clauses, clause_at, has, is_below}
use Rattle.res_log.specs.Partial.{is_free, is_forced}
use Rattle.cdcl.specs.declared.trail.Trail.{Trail}
use Rattle.cdcl.specs.Trail.{State, Reasons, AllClauses}
use Rattle.cdcl.specs.Held.{vars_of, reasons_of, IsKept, Spreads}
use Rattle.cdcl.proofs.Parts.{some-and}
use Rattle.cdcl.proofs.Spread.{state-push, length-vars}
use Rattle.cdcl.proofs.Arrays.{below-at, has-push}

pub forced-below : (arena : Clauses) (n : ℕ) (id : ClauseId) (c : Clause) (p : List Lit) (l : Lit) → AllClauses (is_below n) arena → clause_at arena id.0 ≡ Some c → is_forced p l c ≡ true → l.var < n
forced-below arena n id c p l b e f = below-at n c l (b id.0 c e) (and_parts _ _ f).0

pub spreads-refl : (arena : Clauses) (t : Trail) → IsKept arena t → Spreads arena t t
spreads-refl arena t k = record { kept = k; vars = refl; longer = omega arith; grown = λ l h. h }

-- what stands for the state where the lists are equal
pub state-at : (arena : Clauses) (n m : ℕ) (p q : List Lit) (rs ss : Reasons) → n ≡ m → p ≡ q → rs ≡ ss → State arena m q ss → State arena n p rs
state-at arena n m p q rs ss e f g s =
    subst (λ (x : ℕ). State arena x p rs) (sym e) (subst (λ (x : List Lit). State arena m x rs) (sym f) (subst (λ (x : Reasons). State arena m q x) (sym g) s))

pub spreads-push : (arena : Clauses) (old now new : Trail) (id : ClauseId) (l : Lit) (c : Clause) → AllClauses (is_below (vars_of old)) arena → clause_at arena id.0 ≡ Some c → is_free now.lits.items l ≡ true → is_forced now.lits.items l c ≡ true → new.lits.items ≡ now.lits.items ++ l ∷ [] → reasons_of new ≡ reasons_of now ++ Some id ∷ [] → vars_of new ≡ vars_of now → Spreads arena old now → Spreads arena old new
spreads-push arena old now new id l c b e f g h r v s =
    let small : AllClauses (is_below (vars_of now)) arena = subst (λ (n : ℕ). AllClauses (is_below n) arena) (sym s.vars) b in
    let w : IsSomeAnd (clause_at arena id.0) (λ d. (is_free now.lits.items l ≡ true) × (is_forced now.lits.items l d ≡ true)) =
    some-and (clause_at arena id.0) (λ d. (is_free now.lits.items l ≡ true) × (is_forced now.lits.items l d ≡ true)) c e (f, g)
    in record {
      kept = state-at arena (vars_of new) (vars_of now) new.lits.items (now.lits.items ++ l ∷ []) (reasons_of new) (reasons_of now ++ Some id ∷ []) v h r
          (state-push arena (vars_of now) now.lits.items (reasons_of now) id l small w s.kept);
      vars = v ∙ s.vars;
      longer = omega (arith, s.longer, ap length h, length-append now.lits.items (l ∷ []));
      grown = λ m t. ap (λ (p : List Lit). has p m) h ∙ has-push now.lits.items l m ∙ or_left _ _ (s.grown m t);
    }

pub grown-push : (p q r : List Lit) (l : Lit) → length p ≤ length q → r ≡ q ++ l ∷ [] → length p < length r
grown-push p q r l h e = omega (arith, ap length e, length-append q (l ∷ []))

pub kept-size : (arena : Clauses) (t : Trail) → IsKept arena t → length t.lits.items ≤ vars_of t
kept-size arena t k = length-vars (vars_of t) t.lits.items k.consistent k.below

pub spreads-then : (arena : Clauses) (a b c : Trail) → Spreads arena a b → Spreads arena b c → Spreads arena a c
spreads-then arena a b c s t = record { kept = t.kept; vars = t.vars ∙ s.vars; longer = omega (arith, s.longer, t.longer); grown = λ l h. t.grown l (s.grown l h) }

pub fewer-left : (arena : Clauses) (old new : Trail) → Spreads arena old new → length old.lits.items < length new.lits.items → vars_of new - length new.lits.items < vars_of old - length old.lits.items
fewer-left arena old new s l = omega (arith, l, s.vars, kept-size arena new s.kept)
