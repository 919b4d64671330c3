-- A valid log over some variables has at most 3 ^ length vs steps, n being their number.
use Rattle.std.proofs.Common.{◌≡◌, ℕ, zero, suc, ◌<◌, ◌≤◌, ◌-◌, ◌*◌, ◌^◌, Bool, true, false, not, ◌&&◌, inl, inr, List, [], ◌∷◌, ◌++◌, length, take, filter, Option, Some, None, cond, refl, sym, ◌∙◌, ap, subst, arith, eqb, get_or}
use Rattle.std.specs.List.{list_all, IsDistinct, AllByRecursion}
use Rattle.std.specs.Option.{option_and_then, option_to_list, ForSome, IsSomeAnd, is_some}
use Rattle.std.proofs.lemmas.Bool.{and_parts, and_from, cases_Bool, cond-true, cond-false, false≢true}
use Rattle.std.proofs.lemmas.List.Folds.{list_all-append}
use Rattle.clause_arena.specs.Clause.{Clause, clause_at, resolve, clash, is_tautology, without, is_same, AreDifferent}
use Rattle.log_laws.specs.Variables.{is_among, is_over, is_plain_over, LengthByVariables, LengthOfOpenLog}
use Rattle.std.proofs.Math.Nat.{pow-succ'}
use Rattle.log_laws.proofs.Count.{count_law}
use Rattle.res_log.specs.declared.ChainStep.{ChainStep}
use Rattle.res_log.specs.Step.{Step}
use Rattle.res_log.specs.Log.{Book, chain, result_of, input, enter, enter_all, book_before, results_from, results}
use Rattle.res_log.proofs.Refutes.{and_then-Some, when_Some, unless_Some, Some-same}

abbrev pub IsBelow : List ℕ → Book → Type 0
IsBelow vs book = (id : ℕ) → ForSome (book id) (λ c. is_over vs c ≡ true)

list_all-filter : {X : Type 0} (p q : X → Bool) (xs : List X) → list_all p xs ≡ true → list_all p (filter q xs) ≡ true
list_all-filter p q [] h = refl
list_all-filter p q (x ∷ xs) h =
    let w = and_parts (p x) (list_all p xs) h in
    elim (cases_Bool (q x)) [
      | inl t ↦ rw t (and_from _ _ w.0 (list_all-filter p q xs w.1))
      | inr t ↦ rw t (list_all-filter p q xs w.1)
    ]

plain-resolve : (vs : List ℕ) (c d : Clause) (v : ℕ) (r : Clause) → resolve c d v ≡ Some r → is_over vs c ≡ true → is_over vs d ≡ true → is_plain_over vs r ≡ true
plain-resolve vs c d v r e h g =
    let p = when_Some (clash c d v && not (is_tautology (without v c ++ without v d))) (Some (without v c ++ without v d)) r e in
    let q = and_parts _ _ p.0 in
    let b : is_over vs (without v c ++ without v d) ≡ true =
    list_all-append (λ l. is_among vs l.var) (without v c) (without v d)
    ∙ and_from _ _ (list_all-filter (λ l. is_among vs l.var) (λ l. not (eqb l.var v)) c h) (list_all-filter (λ l. is_among vs l.var) (λ l. not (eqb l.var v)) d g)
    in subst (λ (x : Clause). is_plain_over vs x ≡ true) (Some-same _ _ p.1) (and_from _ _ b q.1)

plain-chain : (vs : List ℕ) (book : Book) → IsBelow vs book → (xs : List ChainStep) (c r : Clause) → is_plain_over vs c ≡ true → chain book xs c ≡ Some r → is_plain_over vs r ≡ true
plain-chain vs book f [] c r h e = subst (λ (x : Clause). is_plain_over vs x ≡ true) (Some-same _ _ e) h
plain-chain vs book f (x ∷ xs) c r h e =
    let p = and_then-Some (λ d. option_and_then (chain book xs) (resolve c d x.pivot)) (book x.clause.0) r e in
    let q = and_then-Some (chain book xs) (resolve c p.0 x.pivot) r p.2 in
    plain-chain vs book f xs q.0 r (plain-resolve vs c p.0 x.pivot q.0 q.1 (and_parts _ _ h).0 (f x.clause.0 p.0 p.1)) q.2

-- from a first clause that may hold a literal with its negation
plain-first : (vs : List ℕ) (book : Book) → IsBelow vs book → (xs : List ChainStep) (c r : Clause) → eqb (length xs) 0 ≡ false → is_over vs c ≡ true → chain book xs c ≡ Some r → is_plain_over vs r ≡ true
plain-first vs book f [] c r l h e = cc
plain-first vs book f (x ∷ xs) c r l h e =
    let p = and_then-Some (λ d. option_and_then (chain book xs) (resolve c d x.pivot)) (book x.clause.0) r e in
    let q = and_then-Some (chain book xs) (resolve c p.0 x.pivot) r p.2 in
    plain-chain vs book f xs q.0 r (plain-resolve vs c p.0 x.pivot q.0 q.1 h (f x.clause.0 p.0 p.1)) q.2

pub plain-result : (vs : List ℕ) (book : Book) → IsBelow vs book → (s : Step) (r : Clause) → result_of book s ≡ Some r → is_plain_over vs r ≡ true
plain-result vs book f s r e =
    let p = and_then-Some (chain book s.rest) (cond (eqb (length s.rest) 0) None (book s.first.0)) r e in
    let q = unless_Some (eqb (length s.rest) 0) (book s.first.0) p.0 p.1 in
    plain-first vs book f s.rest p.0 r q.0 (f s.first.0 p.0 q.1) p.2

below-enter : (vs : List ℕ) (book : Book) → IsBelow vs book → (s : Step) → IsBelow vs (enter book s)
below-enter vs book f s id c e =
    elim (cases_Bool (eqb s.derived.0 id)) [
      | inl t ↦ (and_parts _ _ (plain-result vs book f s c (sym (cond-true _ _ _ t) ∙ e))).0
      | inr t ↦ f id c (sym (cond-false _ _ _ t) ∙ e)
    ]

plain-option : (vs : List ℕ) (o : Option Clause) (cs : List Clause) → ((r : Clause) → o ≡ Some r → is_plain_over vs r ≡ true) → list_all (is_plain_over vs) cs ≡ true → list_all (is_plain_over vs) (option_to_list o ++ cs) ≡ true
plain-option vs None cs f h = h
plain-option vs (Some r) cs f h = and_from _ _ (f r refl) h

pub plain-results : (vs : List ℕ) (ss : List Step) (book : Book) → IsBelow vs book → list_all (is_plain_over vs) (results_from book ss) ≡ true
plain-results vs [] book f = refl
plain-results vs (s ∷ ss) book f =
    plain-option vs (result_of book s) (results_from (enter book s) ss) (plain-result vs book f s) (plain-results vs ss (enter book s) (below-enter vs book f s))

length-option : (o : Option Clause) (cs : List Clause) → is_some o ≡ true → length (option_to_list o ++ cs) ≡ suc (length cs)
length-option None cs h = cc
length-option (Some r) cs h = refl

pub length-results : (ss : List Step) (book : Book) → ((k : ℕ) (d : Step) → k < length ss → is_some (result_of (enter_all book (take k ss)) (get_or ss k d)) ≡ true) → length (results_from book ss) ≡ length ss
length-results [] book f = refl
length-results (s ∷ ss) book f =
    length-option (result_of book s) (results_from (enter book s) ss) (f 0 s (omega arith))
    ∙ ap suc (length-results ss (enter book s) (λ k d l. f (suc k) d (omega arith)))

pub some_from : (o : Option Clause) (P : Clause → Type 0) → IsSomeAnd o P → is_some o ≡ true
some_from None P h = absurd h
some_from (Some c) P h = refl

-- the clauses that aren't empty
abbrev pub is_full : Clause → Bool
is_full c = not (eqb (length c) 0)

plain-filter : (vs : List ℕ) (cs : List Clause) → list_all (is_plain_over vs) cs ≡ true → list_all (is_plain_over vs) (filter is_full cs) ≡ true
plain-filter vs cs h = list_all-filter (is_plain_over vs) is_full cs h

-- no clause that isn't empty is the empty set
full-differs : (c : Clause) → is_full c ≡ true → is_same [] c ≡ false
full-differs [] h = absurd (false≢true h)
full-differs (x ∷ xs) h = refl

empty-differs : (cs : List Clause) → AllByRecursion (λ d. is_same [] d ≡ false) (filter is_full cs)
empty-differs [] = tt
empty-differs (c ∷ cs) =
    elim (cases_Bool (is_full c)) [
      | inl t ↦ rw t (full-differs c t, empty-differs cs)
      | inr t ↦ rw t (empty-differs cs)
    ]

all-filter : (x : Clause) (cs : List Clause) → AllByRecursion (λ d. is_same x d ≡ false) cs → AllByRecursion (λ d. is_same x d ≡ false) (filter is_full cs)
all-filter x [] h = tt
all-filter x (c ∷ cs) h =
    elim (cases_Bool (is_full c)) [
      | inl t ↦ rw t (h.0, all-filter x cs h.1)
      | inr t ↦ rw t (all-filter x cs h.1)
    ]

distinct-filter : (cs : List Clause) → AreDifferent cs → AreDifferent (filter is_full cs)
unfolding IsDistinct
distinct-filter [] h = tt
distinct-filter (c ∷ cs) h =
    elim (cases_Bool (is_full c)) [
      | inl t ↦ rw t (all-filter c cs h.0, distinct-filter cs h.1)
      | inr t ↦ rw t (distinct-filter cs h.1)
    ]

with-empty : (cs : List Clause) → AreDifferent cs → AreDifferent ([] ∷ filter is_full cs)
unfolding IsDistinct
with-empty cs h = (empty-differs cs, distinct-filter cs h)

full-law : (vs : List ℕ) (cs : List Clause) → list_all (is_plain_over vs) cs ≡ true → AreDifferent cs → length (filter is_full cs) ≤ 3 ^ length vs - 1
full-law vs cs p d =
    let h : length ([] ∷ filter is_full cs) ≤ 3 ^ length vs = count_law vs ([] ∷ filter is_full cs) (plain-filter vs cs p) (with-empty cs d) in omega arith

pub length_law : LengthByVariables
length_law arena log vs v f =
    let e : length (results arena log) ≡ length log =
    length-results log (input arena log)
    (λ k d l. some_from (result_of (book_before arena log k) (get_or log k d)) (λ r. ForSome (clause_at arena (get_or log k d).derived.0) (λ c. is_same r c ≡ true)) (v.0 k d l).2)
    in (
      omega (arith, count_law vs (results arena log) (plain-results vs log (input arena log) f) v.1),
      full-law vs (results arena log) (plain-results vs log (input arena log) f) v.1,
    )

filter_all : (p : Clause → Bool) (cs : List Clause) → list_all p cs ≡ true → filter p cs ≡ cs
filter_all p [] h = refl
filter_all p (c ∷ cs) h =
    let w = and_parts (p c) (list_all p cs) h in
    rw w.0 (ap (λ l. c ∷ l) (filter_all p cs w.1))

positive : (n : ℕ) → 1 ≤ 3 ^ n
positive zero = omega arith
positive (suc n) = let h = positive n in let p : 3 ^ suc n ≡ 3 * 3 ^ n = pow-succ' 3 n in omega arith

-- a log none of whose results is empty is shorter still
pub open_law : LengthOfOpenLog
open_law arena log vs v full f =
    let e : length (results arena log) ≡ length log =
    length-results log (input arena log)
    (λ k d l. some_from (result_of (book_before arena log k) (get_or log k d)) (λ r. ForSome (clause_at arena (get_or log k d).derived.0) (λ c. is_same r c ≡ true)) (v.0 k d l).2)
    in
    let h : length (filter is_full (results arena log)) ≤ 3 ^ length vs - 1 = full-law vs (results arena log) (plain-results vs log (input arena log) f) v.1 in
    let all : length (filter is_full (results arena log)) ≡ length (results arena log) = ap length (filter_all is_full (results arena log) full) in
    let p = positive (length vs) in
    omega arith
