-- A valid log over n variables has at most 3 ^ n steps.
use Rattle.std.proofs.Common.{◌≡◌, ℕ, suc, ◌<◌, ◌≤◌, ◌-◌, ◌^◌, Bool, true, false, not, ◌&&◌, inl, inr, List, [], ◌∷◌, ◌++◌, length, take, filter, Option, Some, None, cond, refl, sym, ◌∙◌, ap, subst, arith, eqb, ltb, get_or}
use Rattle.std.specs.List.{list_all, IsDistinct, AllByRecursion}
use Rattle.std.specs.Option.{option_and_then, option_to_list, ForSome, IsSomeAnd, is_some}
use Rattle.std.proofs.lemmas.Bool.{and_parts, and_from, cases_Bool, cond-true, cond-false, false≢true}
use Rattle.std.proofs.lemmas.List.Folds.{list_all-append}
use Rattle.clause_arena.specs.Clause.{Clause, clause_at, resolve, clash, is_tautology, without, is_below, is_plain, is_same, AreDifferent}
use Rattle.clause_arena.proofs.Count.{count_law}
use Rattle.res_log.specs.declared.ChainStep.{ChainStep}
use Rattle.res_log.specs.Step.{Step}
use Rattle.res_log.specs.Log.{Book, chain, result_of, input, enter, enter_all, book_before, results_from, results, LengthLaw}
use Rattle.res_log.proofs.Refutes.{and_then-Some, when_Some, unless_Some, Some-same}

abbrev pub IsBelow : ℕ → Book → Type 0
IsBelow n book = (id : ℕ) → ForSome (book id) (λ c. is_below n c ≡ true)

list_all-filter : {X : Type 0} (p q : X → Bool) (xs : List X) → list_all p xs ≡ true → list_all p (filter q xs) ≡ true
list_all-filter p q [] h = refl
list_all-filter p q (x ∷ xs) h =
    let w = and_parts (p x) (list_all p xs) h in
    elim (cases_Bool (q x)) [
      | inl t ↦ rw t (and_from _ _ w.0 (list_all-filter p q xs w.1))
      | inr t ↦ rw t (list_all-filter p q xs w.1)
    ]

plain-resolve : (n : ℕ) (c d : Clause) (v : ℕ) (r : Clause) → resolve c d v ≡ Some r → is_below n c ≡ true → is_below n d ≡ true → is_plain n r ≡ true
plain-resolve n c d v r e h g =
    let p = when_Some (clash c d v && not (is_tautology (without v c ++ without v d))) (Some (without v c ++ without v d)) r e in
    let q = and_parts _ _ p.0 in
    let b : is_below n (without v c ++ without v d) ≡ true =
    list_all-append (λ l. ltb l.var n) (without v c) (without v d)
    ∙ and_from _ _ (list_all-filter (λ l. ltb l.var n) (λ l. not (eqb l.var v)) c h) (list_all-filter (λ l. ltb l.var n) (λ l. not (eqb l.var v)) d g)
    in subst (λ (x : Clause). is_plain n x ≡ true) (Some-same _ _ p.1) (and_from _ _ b q.1)

plain-chain : (n : ℕ) (book : Book) → IsBelow n book → (xs : List ChainStep) (c r : Clause) → is_plain n c ≡ true → chain book xs c ≡ Some r → is_plain n r ≡ true
plain-chain n book f [] c r h e = subst (λ (x : Clause). is_plain n x ≡ true) (Some-same _ _ e) h
plain-chain n book f (x ∷ xs) c r h e =
    let p = and_then-Some (λ d. option_and_then (chain book xs) (resolve c d x.pivot)) (book x.clause.0) r e in
    let q = and_then-Some (chain book xs) (resolve c p.0 x.pivot) r p.2 in
    plain-chain n book f xs q.0 r (plain-resolve n c p.0 x.pivot q.0 q.1 (and_parts _ _ h).0 (f x.clause.0 p.0 p.1)) q.2

-- from a first clause that may hold a literal with its negation
plain-first : (n : ℕ) (book : Book) → IsBelow n book → (xs : List ChainStep) (c r : Clause) → eqb (length xs) 0 ≡ false → is_below n c ≡ true → chain book xs c ≡ Some r → is_plain n r ≡ true
plain-first n book f [] c r l h e = cc
plain-first n book f (x ∷ xs) c r l h e =
    let p = and_then-Some (λ d. option_and_then (chain book xs) (resolve c d x.pivot)) (book x.clause.0) r e in
    let q = and_then-Some (chain book xs) (resolve c p.0 x.pivot) r p.2 in
    plain-chain n book f xs q.0 r (plain-resolve n c p.0 x.pivot q.0 q.1 h (f x.clause.0 p.0 p.1)) q.2

pub plain-result : (n : ℕ) (book : Book) → IsBelow n book → (s : Step) (r : Clause) → result_of book s ≡ Some r → is_plain n r ≡ true
plain-result n book f s r e =
    let p = and_then-Some (chain book s.rest) (cond (eqb (length s.rest) 0) None (book s.first.0)) r e in
    let q = unless_Some (eqb (length s.rest) 0) (book s.first.0) p.0 p.1 in
    plain-first n book f s.rest p.0 r q.0 (f s.first.0 p.0 q.1) p.2

below-enter : (n : ℕ) (book : Book) → IsBelow n book → (s : Step) → IsBelow n (enter book s)
below-enter n book f s id c e =
    elim (cases_Bool (eqb s.derived.0 id)) [
      | inl t ↦ (and_parts _ _ (plain-result n book f s c (sym (cond-true _ _ _ t) ∙ e))).0
      | inr t ↦ f id c (sym (cond-false _ _ _ t) ∙ e)
    ]

plain-option : (n : ℕ) (o : Option Clause) (cs : List Clause) → ((r : Clause) → o ≡ Some r → is_plain n r ≡ true) → list_all (is_plain n) cs ≡ true → list_all (is_plain n) (option_to_list o ++ cs) ≡ true
plain-option n None cs f h = h
plain-option n (Some r) cs f h = and_from _ _ (f r refl) h

pub plain-results : (n : ℕ) (ss : List Step) (book : Book) → IsBelow n book → list_all (is_plain n) (results_from book ss) ≡ true
plain-results n [] book f = refl
plain-results n (s ∷ ss) book f =
    plain-option n (result_of book s) (results_from (enter book s) ss) (plain-result n book f s) (plain-results n ss (enter book s) (below-enter n book f s))

length-option : (o : Option Clause) (cs : List Clause) → is_some o ≡ true → length (option_to_list o ++ cs) ≡ suc (length cs)
length-option None cs h = cc
length-option (Some r) cs h = refl

pub length-results : (ss : List Step) (book : Book) → ((k : ℕ) (d : Step) → k < length ss → is_some (result_of (enter_all book (take k ss)) (get_or ss k d)) ≡ true) → length (results_from book ss) ≡ length ss
length-results [] book f = refl
length-results (s ∷ ss) book f =
    length-option (result_of book s) (results_from (enter book s) ss) (f 0 s (omega arith))
    ∙ ap suc (length-results ss (enter book s) (λ k d l. f (suc k) d (omega arith)))

pub some_from : (o : Option Clause) (P : Clause → Type 0) → IsSomeAnd o P → is_some o ≡ true
some_from None P h = absurd h
some_from (Some c) P h = refl

-- the clauses that aren't empty
abbrev pub is_full : Clause → Bool
is_full c = not (eqb (length c) 0)

plain-filter : (n : ℕ) (cs : List Clause) → list_all (is_plain n) cs ≡ true → list_all (is_plain n) (filter is_full cs) ≡ true
plain-filter n cs h = list_all-filter (is_plain n) is_full cs h

-- no clause that isn't empty is the empty set
full-differs : (c : Clause) → is_full c ≡ true → is_same [] c ≡ false
full-differs [] h = absurd (false≢true h)
full-differs (x ∷ xs) h = refl

empty-differs : (cs : List Clause) → AllByRecursion (λ d. is_same [] d ≡ false) (filter is_full cs)
empty-differs [] = tt
empty-differs (c ∷ cs) =
    elim (cases_Bool (is_full c)) [
      | inl t ↦ rw t (full-differs c t, empty-differs cs)
      | inr t ↦ rw t (empty-differs cs)
    ]

all-filter : (x : Clause) (cs : List Clause) → AllByRecursion (λ d. is_same x d ≡ false) cs → AllByRecursion (λ d. is_same x d ≡ false) (filter is_full cs)
all-filter x [] h = tt
all-filter x (c ∷ cs) h =
    elim (cases_Bool (is_full c)) [
      | inl t ↦ rw t (h.0, all-filter x cs h.1)
      | inr t ↦ rw t (all-filter x cs h.1)
    ]

distinct-filter : (cs : List Clause) → AreDifferent cs → AreDifferent (filter is_full cs)
unfolding IsDistinct
distinct-filter [] h = tt
distinct-filter (c ∷ cs) h =
    elim (cases_Bool (is_full c)) [
      | inl t ↦ rw t (all-filter c cs h.0, distinct-filter cs h.1)
      | inr t ↦ rw t (distinct-filter cs h.1)
    ]

with-empty : (cs : List Clause) → AreDifferent cs → AreDifferent ([] ∷ filter is_full cs)
unfolding IsDistinct
with-empty cs h = (empty-differs cs, distinct-filter cs h)

full-law : (n : ℕ) (cs : List Clause) → list_all (is_plain n) cs ≡ true → AreDifferent cs → length (filter is_full cs) ≤ 3 ^ n - 1
full-law n cs p d =
    let h : length ([] ∷ filter is_full cs) ≤ 3 ^ n = count_law n ([] ∷ filter is_full cs) (plain-filter n cs p) (with-empty cs d) in omega arith

pub length_law : LengthLaw
length_law arena log n v f =
    let e : length (results arena log) ≡ length log =
    length-results log (input arena log)
    (λ k d l. some_from (result_of (book_before arena log k) (get_or log k d)) (λ r. ForSome (clause_at arena (get_or log k d).derived.0) (λ c. is_same r c ≡ true)) (v.0 k d l).2)
    in (
      omega (arith, count_law n (results arena log) (plain-results n log (input arena log) f) v.1),
      full-law n (results arena log) (plain-results n log (input arena log) f) v.1,
    )
