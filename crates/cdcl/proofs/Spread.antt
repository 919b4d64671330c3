-- What propagation keeps.
use Rattle.std.proofs.Common.{◌≡◌, ℕ, suc, zero, ◌+◌, ◌<◌, ◌≤◌, eqb, ltb, true, inl, inr, List, [], ◌∷◌, ◌++◌, length, take, map, get_or, Some, refl, sym, ap, ◌∙◌, subst, arith, length-append}
use Rattle.std.specs.List.{list_any, IsDistinct}
use Rattle.std.specs.Option.{IsSomeAnd}
use Rattle.std.proofs.lemmas.Bool.{and_parts, and_from, or_cases, false≢true, both_ways, not-true, ltb-true, eqb-true, ne_eqb, cases_lt}
use Rattle.std.proofs.lemmas.List.{length-map}
use Rattle.std.proofs.Math.Seq.{take-length}
use Rattle.std.proofs.lemmas.List.Folds.{list_all-append}
use Rattle.std.proofs.lemmas.Map.Keys.{IsDistinct-from_apart}
use Rattle.std.proofs.lemmas.Map.Steps.{length-le_from_distinct_below}
use Rattle.clause_arena.specs.declared.Lit.{Lit}
use Rattle.clause_arena.specs.declared.ClauseId.{ClauseId}
use Rattle.clause_arena.specs.Clause.{Clauses, clause_at, has, is_below}
use Rattle.clause_arena.proofs.Sets.{list_all-at}
use Rattle.res_log.specs.Partial.{is_free, is_forced, is_quiet}
use Rattle.cdcl.specs.Trail.{IsConsistent, IsReasoned, IsComplete, Reasons, State, AllClauses}
use Rattle.cdcl.proofs.Parts.{some-parts, some-and, Some-is, Some-None}
use Rattle.cdcl.proofs.Back.{var-cases, zero_lit}
use Rattle.cdcl.proofs.Looks.{has-at}

-- an element of a list with one more at its end
pub get_or-old : {X : Type 0} (xs : List X) (x : X) (i : ℕ) (d : X) → i < length xs → get_or (xs ++ x ∷ []) i d ≡ get_or xs i d
get_or-old [] x i d h = absurd (omega arith)
get_or-old (y ∷ ys) x zero d h = refl
get_or-old (y ∷ ys) x (suc i) d h = get_or-old ys x i d (omega arith)

pub get_or-new : {X : Type 0} (xs : List X) (x d : X) → get_or (xs ++ x ∷ []) (length xs) d ≡ x
get_or-new [] x d = refl
get_or-new (y ∷ ys) x d = get_or-new ys x d

pub take-old : {X : Type 0} (xs : List X) (x : X) (i : ℕ) → i ≤ length xs → take i (xs ++ x ∷ []) ≡ take i xs
take-old [] x zero h = refl
take-old [] x (suc i) h = absurd (omega arith)
take-old (y ∷ ys) x zero h = refl
take-old (y ∷ ys) x (suc i) h = ap (λ (zs : List _). y ∷ zs) (take-old ys x i (omega arith))

-- a free literal's variable is new
pub free-new : (p : List Lit) (l : Lit) → is_free p l ≡ true → (i : ℕ) (d : Lit) → i < length p → (get_or p i d).var ≡ l.var → ⊥
free-new p l f i d h q =
    let w = and_parts _ _ f in
    elim (var-cases (get_or p i d) l q) [
      | inl e ↦ both_ways _ (not-true _ w.0) (ap (has p) (sym e) ∙ has-at p i d h)
      | inr e ↦ both_ways _ (not-true _ w.1) (ap (has p) (sym e) ∙ has-at p i d h)
    ]

pub consistent-push : (p : List Lit) (l : Lit) → IsConsistent p → is_free p l ≡ true → IsConsistent (p ++ l ∷ [])
consistent-push p l h f i j d a b e =
    let n : length (p ++ l ∷ []) ≡ length p + 1 = length-append p (l ∷ []) in
    elim (cases_lt j (length p)) [
      | inl m ↦
          h i j d a m (ap (λ (y : Lit). y.var) (sym (get_or-old p l i d (omega arith))) ∙ e ∙ ap (λ (y : Lit). y.var) (get_or-old p l j d m))
      | inr m ↦
          let k : j ≡ length p = omega arith in
          let u : i < length p = omega arith in
          free-new p l f i d u
          (ap (λ (y : Lit). y.var) (sym (get_or-old p l i d u)) ∙ e ∙ ap (λ (n : ℕ). (get_or (p ++ l ∷ []) n d).var) k ∙ ap (λ (y : Lit). y.var) (get_or-new p l d))
    ]

abbrev pub Because : Clauses → List Lit → Lit → ClauseId → Type 0
Because arena q x i = IsSomeAnd (clause_at arena i.0) (λ c. is_forced q x c ≡ true)

reasoned-push : (arena : Clauses) (p : List Lit) (rs : Reasons) (id : ClauseId) (l : Lit) → length rs ≡ length p → Because arena p l id → IsReasoned arena p rs → IsReasoned arena (p ++ l ∷ []) (rs ++ Some id ∷ [])
reasoned-push arena p rs id l n w s k o x h i e =
    let m : length (p ++ l ∷ []) ≡ length p + 1 = length-append p (l ∷ []) in
    elim (cases_lt k (length p)) [
      | inl a ↦
          let b : k < length rs = omega arith in
          subst (λ (q : List Lit). Because arena q (get_or (p ++ l ∷ []) k x) i) (sym (take-old p l k (omega arith)))
          (subst (λ (y : Lit). Because arena (take k p) y i) (sym (get_or-old p l k x a)) (s k o x a i (sym (get_or-old rs (Some id) k o b) ∙ e)))
      | inr a ↦
          let u : k ≡ length p = omega arith in
          let v : k ≡ length rs = omega arith in
          let g : id ≡ i = Some-is _ _ (sym (get_or-new rs (Some id) o) ∙ ap (λ (z : ℕ). get_or (rs ++ Some id ∷ []) z o) (sym v) ∙ e) in
          let t : take k (p ++ l ∷ []) ≡ p = take-old p l k (omega arith) ∙ ap (λ (z : ℕ). take z p) u ∙ take-length p in
          let y : get_or (p ++ l ∷ []) k x ≡ l = ap (λ (z : ℕ). get_or (p ++ l ∷ []) z x) u ∙ get_or-new p l x in
          subst (λ (q : List Lit). Because arena q (get_or (p ++ l ∷ []) k x) i) (sym t)
          (subst (λ (z : Lit). Because arena p z i) (sym y) (subst (λ (z : ClauseId). Because arena p l z) g w))
    ]

complete-push : (arena : Clauses) (p : List Lit) (rs : Reasons) (id : ClauseId) (l : Lit) → length rs ≡ length p → IsComplete arena p rs → IsComplete arena (p ++ l ∷ []) (rs ++ Some id ∷ [])
complete-push arena p rs id l n s k o h e =
    let m : length (p ++ l ∷ []) ≡ length p + 1 = length-append p (l ∷ []) in
    elim (cases_lt k (length p)) [
      | inl a ↦
          let b : k < length rs = omega arith in
          subst (λ (q : List Lit). AllClauses (is_quiet q) arena) (sym (take-old p l k (omega arith))) (s k o a (sym (get_or-old rs (Some id) k o b) ∙ e))
      | inr a ↦
          let v : k ≡ length rs = omega arith in
          absurd (Some-None id (sym (get_or-new rs (Some id) o) ∙ ap (λ (z : ℕ). get_or (rs ++ Some id ∷ []) z o) (sym v) ∙ e))
    ]

pub state-push : (arena : Clauses) (vars : ℕ) (p : List Lit) (rs : Reasons) (id : ClauseId) (l : Lit) → AllClauses (is_below vars) arena → IsSomeAnd (clause_at arena id.0) (λ c. (is_free p l ≡ true) × (is_forced p l c ≡ true)) → State arena vars p rs → State arena vars (p ++ l ∷ []) (rs ++ Some id ∷ [])
state-push arena vars p rs id l b w s =
    let c = some-parts (clause_at arena id.0) (λ c. (is_free p l ≡ true) × (is_forced p l c ≡ true)) w in
    let has-l : has c.0 l ≡ true = (and_parts _ _ c.2.1).0 in
    let small : ltb l.var vars ≡ true = list_all-at (λ x. ltb x.var vars) c.0 (b id.0 c.0 c.1) l has-l in
    record {
      lengths = omega (arith, length-append p (l ∷ []), length-append rs (Some id ∷ []), s.lengths);
      below = list_all-append (λ x. ltb x.var vars) p (l ∷ []) ∙ and_from _ _ s.below (and_from _ _ small refl);
      consistent = consistent-push p l s.consistent c.2.0;
      reasoned = reasoned-push arena p rs id l s.lengths (some-and (clause_at arena id.0) (λ x. is_forced p l x ≡ true) c.0 c.1 c.2.1) s.reasoned;
      complete = complete-push arena p rs id l s.lengths s.complete;
    }

-- a trail is no longer than there are variables
get_or-var : (p : List Lit) (i d : ℕ) (z : Lit) → i < length p → get_or (map (λ l. l.var) p) i d ≡ (get_or p i z).var
get_or-var [] i d z h = absurd (omega arith)
get_or-var (x ∷ xs) zero d z h = refl
get_or-var (x ∷ xs) (suc i) d z h = get_or-var xs i d z (omega arith)

vars-below : (vars : ℕ) (p : List Lit) → is_below vars p ≡ true → (q : ℕ) → list_any (eqb q) (map (λ l. l.var) p) ≡ true → q < vars
vars-below vars [] b q h = absurd (false≢true h)
vars-below vars (x ∷ xs) b q h =
    let w = and_parts (ltb x.var vars) (is_below vars xs) b in
    let l : x.var < vars = ltb-true _ _ w.0 in
    elim (or_cases (eqb q x.var) (list_any (eqb q) (map (λ l. l.var) xs)) h) [
      | inl e ↦ let u : q ≡ x.var = eqb-true _ _ e in omega arith
      | inr e ↦ vars-below vars xs w.1 q e
    ]

pub length-vars : (vars : ℕ) (p : List Lit) → IsConsistent p → is_below vars p ≡ true → length p ≤ vars
length-vars vars p h b =
    let n : length (map (λ l. l.var) p) ≡ length p = length-map p (λ l. l.var) in
    let d : IsDistinct eqb (map (λ l. l.var) p) =
    IsDistinct-from_apart eqb (map (λ l. l.var) p) (λ i j z a k.
    ne_eqb _ _ (λ e. h i j zero_lit a (omega arith)
    (sym (get_or-var p i z zero_lit (omega arith)) ∙ e ∙ get_or-var p j z zero_lit (omega arith))))
    in omega (arith, length-le_from_distinct_below (map (λ l. l.var) p) vars d (vars-below vars p b))
