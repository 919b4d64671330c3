-- A clause that was resolved back, stored and logged.
use Rattle.std.proofs.Common.{◌≡◌, ℕ, ◌<◌, ◌≤◌, eqb, ltb, true, false, ◌||◌, List, [], ◌∷◌, ◌++◌, length, take, get_or, Option, Some, None, refl, sym, ap, ◌∙◌, subst, arith}
use Rattle.std.specs.Option.{option_and_then, ForSome}
use Rattle.std.proofs.lemmas.Bool.{and_parts, and_from, false≢true, not_from_false, cond-false, ne_eqb}
use Rattle.std.proofs.lemmas.List.{take-take, length-take-le, get_or-take, take-map}
use Rattle.clause_arena.specs.declared.Lit.{Lit}
use Rattle.clause_arena.specs.declared.ClauseId.{ClauseId}
use Rattle.clause_arena.specs.Clause.{Clause, Clauses, clause_at, opposite, has, lit_eq, is_same, without, is_below}
use Rattle.clause_arena.proofs.Sets.{list_all-at, list_all-from_has, is_same-at, is_same-from}
use Rattle.res_log.specs.declared.ChainStep.{ChainStep}
use Rattle.res_log.specs.Step.{Step}
use Rattle.res_log.specs.Log.{chain, result_of}
use Rattle.res_log.proofs.Length.{plain-result}
use Rattle.res_log.specs.Partial.{is_false, is_quiet, IsAsserting, is_open}
use Rattle.cdcl.specs.Trail.{IsConsistent, Reasons, State, AllClauses, IsLastDecision}
use Rattle.cdcl.specs.declared.trail.Trail.{Trail}
use Rattle.cdcl.specs.Arrays.{reasons_along}
use Rattle.cdcl.specs.Held.{vars_of, reasons_of, IsKept, IsChainOf}
use Rattle.cdcl.specs.Work.{IsConflict}
use Rattle.cdcl.specs.Grown.{IsGained, Derives, IsLearned, IsRefuted}
use Rattle.cdcl.proofs.Parts.{some-parts, some-and, Some-is}
use Rattle.cdcl.proofs.Gains.{two-free, state-take, state-learn, consistent-take, consistent-partial}
use Rattle.cdcl.proofs.Sweeps.{state-at}

quiet-at : (arena : Clauses) (vars : ℕ) (p : List Lit) (rs : Reasons) (start : ℕ) → State arena vars p rs → IsLastDecision rs start → AllClauses (is_quiet (take start p)) arena
quiet-at arena vars p rs start s l = s.complete start None (omega (arith, l.0, s.lengths)) (l.1 None)

-- without any one variable, the conflict's clause was not false before the last decision
pub two-at : (arena : Clauses) (vars : ℕ) (p : List Lit) (rs : Reasons) (start : ℕ) (conflict : ClauseId) → State arena vars p rs → IsLastDecision rs start → IsConflict arena p conflict → ForSome (clause_at arena conflict.0) (λ c. (v : ℕ) → is_false (take start p) (without v c) ≡ false)
two-at arena vars p rs start conflict s l f c h v =
    let w = some-parts (clause_at arena conflict.0) (λ x. is_false p x ≡ true) f in
    let u : w.0 ≡ c = Some-is _ _ (sym w.1 ∙ h) in
    two-free p start c s.consistent (subst (λ (x : Clause). is_false p x ≡ true) u w.2) (quiet-at arena vars p rs start s l conflict.0 c h) v

-- the same set in another list
pub asserting-same : (p : List Lit) (r c : Clause) → ((l : Lit) → has c l ≡ has r l) → IsAsserting p r → IsAsserting p c
asserting-same p r c e a =
    let w = and_parts _ _ a.2 in (
      a.0,
      a.1,
      and_from _ _ (e a.0 ∙ w.0)
          (list_all-from_has (λ m. lit_eq m a.0 || has p (opposite m)) c (λ m h. list_all-at (λ m. lit_eq m a.0 || has p (opposite m)) r w.1 m (sym (e m) ∙ h))),
    )

gained : (arena : Clauses) (p : List Lit) (c : Clause) → IsConsistent p → IsAsserting p c → AllClauses (is_quiet p) arena → IsGained arena c × (is_open c ≡ true)
gained arena p [] h a q = absurd (false≢true a.2)
gained arena p (x ∷ xs) h a q = ((p, consistent-partial p h, a, q), not_from_false _ (ne_eqb (length (x ∷ xs)) 0 (λ e. omega (arith, e))))

result-is : (arena : Clauses) (s : Step) (x r : Clause) → 0 < length s.rest → clause_at arena s.first.0 ≡ Some x → chain (clause_at arena) s.rest x ≡ Some r → result_of (clause_at arena) s ≡ Some r
result-is arena s x r l e h =
    ap (option_and_then (chain (clause_at arena) s.rest)) (cond-false (eqb (length s.rest) 0) None (clause_at arena s.first.0) (ne_eqb _ _ (λ z. omega arith)) ∙ e) ∙ h

-- the step of a chain that leads from the conflict to a clause
pub step-derives : (arena : Clauses) (p : List Lit) (conflict : ClauseId) (steps : List ChainStep) (q c : Clause) (id : ClauseId) → IsConflict arena p conflict → IsChainOf arena conflict steps q → ((l : Lit) → has c l ≡ has q l) → id.0 ≡ length arena → Derives arena (record { derived = id; first = conflict; rest = steps }) c
step-derives arena p conflict steps q c id f g same i =
    let w = some-parts (clause_at arena conflict.0) (λ x. is_false p x ≡ true) f in
    let u = some-parts (chain (clause_at arena) steps w.0) (λ r. is_same r q ≡ true) (g.1 w.0 w.1) in
    let step : Step = record { derived = id; first = conflict; rest = steps } in (
      i,
      some-and (result_of (clause_at arena) step) (λ r. is_same r c ≡ true) u.0 (result-is arena step w.0 u.0 g.0 w.1 u.1)
          (is_same-from u.0 c (λ y. is_same-at u.0 q u.2 y ∙ sym (same y))),
    )

derived-below : (arena : Clauses) (n : ℕ) (s : Step) (c : Clause) → AllClauses (is_below n) arena → Derives arena s c → is_below n c ≡ true
derived-below arena n s c b d =
    let u = some-parts (result_of (clause_at arena) s) (λ r. is_same r c ≡ true) d.1 in
    let small = (and_parts _ _ (plain-result n (clause_at arena) b s u.0 u.1)).0 in
    list_all-from_has (λ y. ltb y.var n) c (λ y h. list_all-at (λ y. ltb y.var n) u.0 small y (is_same-at u.0 c u.2 y ∙ h))

pub learned-all : (arena : Clauses) (log : List Step) (vars : ℕ) (p : List Lit) (rs : Reasons) (start : ℕ) (conflict id : ClauseId) (steps : List ChainStep) (q c : Clause) (more : Clauses) (longer : List Step)
    → AllClauses (is_below vars) arena → State arena vars p rs → IsLastDecision rs start → IsConflict arena p conflict
    → IsChainOf arena conflict steps q → IsAsserting (take start p) q → ((l : Lit) → has c l ≡ has q l)
    → more ≡ arena ++ Some c ∷ [] → id.0 ≡ length arena → longer ≡ log ++ record { derived = id; first = conflict; rest = steps } ∷ []
    → IsLearned vars arena log more longer
learned-all arena log vars p rs start conflict id steps q c more longer b s l f g a same m i k =
    let step : Step = record { derived = id; first = conflict; rest = steps } in
    let d : Derives arena step c = step-derives arena p conflict steps q c id f g same i in
    let n : start ≤ length p = omega (arith, l.0, s.lengths) in
    let z = gained arena (take start p) c (consistent-take p start n s.consistent) (asserting-same (take start p) q c same a) (quiet-at arena vars p rs start s l) in
    (c, step, m, k, d, z.0, z.1, derived-below arena vars step c b d)

pub refuted-all : (arena : Clauses) (log : List Step) (p : List Lit) (conflict id : ClauseId) (steps : List ChainStep) (more : Clauses) (longer : List Step) → IsConflict arena p conflict → IsChainOf arena conflict steps [] → more ≡ arena ++ Some [] ∷ [] → id.0 ≡ length arena → longer ≡ log ++ record { derived = id; first = conflict; rest = steps } ∷ [] → IsRefuted arena log more longer
refuted-all arena log p conflict id steps more longer f g m i k =
    (record { derived = id; first = conflict; rest = steps }, m, k, step-derives arena p conflict steps [] [] id f g (λ l. refl) i)

-- the reasons after going back
pub reasons-back : (by : Reasons) (p q : List Lit) (end : ℕ) → q ≡ take end p → reasons_along by q ≡ take end (reasons_along by p)
reasons-back by p q end e = ap (reasons_along by) e ∙ sym (take-map (λ (l : Lit). get_or by l.var None) end p)

pub state-back : (arena : Clauses) (vars : ℕ) (p : List Lit) (rs : Reasons) (end : ℕ) (c : Clause) → State arena vars p rs → end ≤ length p → ((k : ℕ) (o : Option ClauseId) → k < end → get_or rs k o ≡ None → is_quiet (take k p) c ≡ true) → State (arena ++ Some c ∷ []) vars (take end p) (take end rs)
state-back arena vars p rs end c s l h =
    let n : length (take end p) ≡ end = length-take-le end p l in
    let quiet : (k : ℕ) (o : Option ClauseId) → k < length (take end p) → get_or (take end rs) k o ≡ None → is_quiet (take k (take end p)) c ≡ true = λ k o a b.
    let i : k < end = omega (arith, n) in
    ap (λ (y : List Lit). is_quiet y c) (take-take k end p (omega arith)) ∙ h k o i (sym (get_or-take end rs k o i) ∙ b)
    in state-learn arena vars (take end p) (take end rs) c quiet (state-take arena vars p rs end l s)

-- what stands after going back and storing the clause
pub kept-back : (arena more : Clauses) (old new : Trail) (end : ℕ) (c : Clause) → IsKept arena old → end ≤ length old.lits.items → ((k : ℕ) (o : Option ClauseId) → k < end → get_or (reasons_of old) k o ≡ None → is_quiet (take k old.lits.items) c ≡ true) → more ≡ arena ++ Some c ∷ [] → new.lits.items ≡ take end old.lits.items → new.reasons.items ≡ old.reasons.items → vars_of new ≡ vars_of old → IsKept more new
kept-back arena more old new end c s l h m e f v =
    let r : reasons_of new ≡ take end (reasons_of old) = ap (λ (by : Reasons). reasons_along by new.lits.items) f ∙ reasons-back old.reasons.items old.lits.items new.lits.items end e in
    subst (λ (x : Clauses). State x (vars_of new) new.lits.items (reasons_of new)) (sym m)
    (state-at (arena ++ Some c ∷ []) (vars_of new) (vars_of old) new.lits.items (take end old.lits.items) (reasons_of new) (take end (reasons_of old)) v e r
    (state-back arena (vars_of old) old.lits.items (reasons_of old) end c s l h))
