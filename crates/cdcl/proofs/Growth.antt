-- What grows by a log, step by step.
use Rattle.std.proofs.Common.{◌≡◌, ℕ, suc, zero, ◌+◌, ◌<◌, ◌≤◌, eqb, Bool, true, false, not, ◌&&◌, inl, inr, List, [], ◌∷◌, ◌++◌, length, take, get_or, Option, Some, None, refl, sym, ap, ◌∙◌, subst, arith, length-append}
use Rattle.std.specs.List.{list_any}
use Rattle.std.specs.Option.{ForSome}
use Rattle.std.proofs.lemmas.Bool.{cases_Bool, cases_lt, and_parts, and_from, or_cases, or_left, or_right, or_from, false≢true, eq-eqb, ne_eqb, cond-true, cond-false, both_ways}
use Rattle.std.proofs.lemmas.List.{get_or_past}
use Rattle.clause_arena.specs.declared.Lit.{Lit}
use Rattle.clause_arena.specs.Clause.{Clause, Clauses, clause_at, has, lit_eq, is_same}
use Rattle.clause_arena.proofs.Sets.{passing, list_any-from_has, is_same-at}
use Rattle.res_log.specs.Step.{Step}
use Rattle.res_log.specs.Log.{Book, derives, input}
use Rattle.res_log.proofs.Same.{SameOption, SameBook}
use Rattle.res_log.specs.Gaining.{IsGainedOver}
use Rattle.res_log.specs.Partial.{is_quiet, is_true, is_free, has_two_free, is_open}
use Rattle.cdcl.specs.Grown.{Grows, IsGained}
use Rattle.cdcl.proofs.Parts.{Some-is}
use Rattle.cdcl.proofs.Spread.{get_or-old}
use Rattle.cdcl.proofs.Learned.{asserting-same}

pub grows-size : (ss : List Step) (now end : Clauses) → Grows now ss end → length end ≡ length now + length ss
grows-size [] now end g = let e : length now ≡ length end = ap length g in omega arith
grows-size (s ∷ ss) now end g =
    omega (arith, grows-size ss (now ++ Some g.0 ∷ []) end g.3, length-append now (Some g.0 ∷ []))

pub grows-id : (ss : List Step) (now end : Clauses) → Grows now ss end → (k : ℕ) (d : Step) → k < length ss → (get_or ss k d).derived.0 ≡ length now + k
grows-id [] now end g k d l = absurd (omega arith)
grows-id (s ∷ ss) now end g zero d l = let e = g.1.0 in omega arith
grows-id (s ∷ ss) now end g (suc k) d l =
    omega (arith, grows-id ss (now ++ Some g.0 ∷ []) end g.3 k d (let m : k < length ss = omega arith in m), length-append now (Some g.0 ∷ []))

pub grows-fresh : (ss : List Step) (now end : Clauses) → Grows now ss end → (id : ℕ) → id < length now → derives ss id ≡ false
grows-fresh [] now end g id l = refl
grows-fresh (s ∷ ss) now end g id l =
    let e : s.derived.0 ≡ length now = g.1.0 in
    or_from _ _ (ne_eqb s.derived.0 id (λ q. omega arith)) (grows-fresh ss (now ++ Some g.0 ∷ []) end g.3 id (omega (arith, length-append now (Some g.0 ∷ []))))

pub grows-above : (ss : List Step) (now end : Clauses) → Grows now ss end → (k : ℕ) → k ≤ length ss → (id : ℕ) → length now + k ≤ id → derives (take k ss) id ≡ false
grows-above ss now end g zero h id l = refl
grows-above [] now end g (suc k) h id l = refl
grows-above (s ∷ ss) now end g (suc k) h id l =
    let e : s.derived.0 ≡ length now = g.1.0 in
    or_from _ _ (ne_eqb s.derived.0 id (λ q. omega arith))
    (grows-above ss (now ++ Some g.0 ∷ []) end g.3 k (omega arith) id (omega (arith, length-append now (Some g.0 ∷ []))))

grows-among : (ss : List Step) (now end : Clauses) → Grows now ss end → (id : ℕ) → length now ≤ id → id < length now + length ss → derives ss id ≡ true
grows-among [] now end g id a b = absurd (omega arith)
grows-among (s ∷ ss) now end g id a b =
    let e : s.derived.0 ≡ length now = g.1.0 in
    elim (cases_Bool (eqb s.derived.0 id)) [
      | inl t ↦ or_left _ _ t
      | inr f ↦
          let n : s.derived.0 ≡ id → ⊥ = λ q. both_ways _ f (eq-eqb _ _ q) in
          or_right _ _ (grows-among ss (now ++ Some g.0 ∷ []) end g.3 id (omega (arith, length-append now (Some g.0 ∷ []))) (omega (arith, length-append now (Some g.0 ∷ []))))
    ]

same-below : (ss : List Step) (now end : Clauses) → Grows now ss end → (id : ℕ) → id < length now → clause_at end id ≡ clause_at now id
same-below [] now end g id l = ap (λ (x : Clauses). clause_at x id) (sym g)
same-below (s ∷ ss) now end g id l =
    same-below ss (now ++ Some g.0 ∷ []) end g.3 id (omega (arith, length-append now (Some g.0 ∷ []))) ∙ get_or-old now (Some g.0) id None l

-- the inputs of the log are the clauses before
pub input-is : (old new : Clauses) (log : List Step) → Grows old log new → (id : ℕ) → input new log id ≡ clause_at old id
input-is old new log g id =
    elim (cases_lt id (length old)) [
      | inl l ↦ cond-false _ _ _ (grows-fresh log old new g id l) ∙ same-below log old new g id l
      | inr l ↦
          elim (cases_lt id (length old + length log)) [
            | inl m ↦ cond-true _ _ _ (grows-among log old new g id l m) ∙ sym (get_or_past old id None l)
            | inr m ↦
                elim (cases_Bool (derives log id)) [
                  | inl t ↦ cond-true _ _ _ t ∙ sym (get_or_past old id None l)
                  | inr f ↦ cond-false _ _ _ f ∙ get_or_past new id None (omega (arith, grows-size log old new g)) ∙ sym (get_or_past old id None l)
                ]
          ]
    ]

quiet-same : (p : List Lit) (c d : Clause) → is_same c d ≡ true → is_quiet p c ≡ true → is_quiet p d ≡ true
quiet-same p c d s q =
    elim (or_cases (is_true p c) (has_two_free p c) q) [
      | inl t ↦ let w = passing (has p) c t in or_left _ _ (list_any-from_has (has p) d w.0 (sym (is_same-at c d s w.0) ∙ w.1) w.2)
      | inr t ↦
          let w = passing (λ l. is_free p l && list_any (λ m. is_free p m && not (lit_eq m l)) c) c t in
          let a = and_parts _ _ w.2 in
          let u = passing (λ m. is_free p m && not (lit_eq m w.0)) c a.1 in
          or_right _ _ (list_any-from_has (λ l. is_free p l && list_any (λ m. is_free p m && not (lit_eq m l)) d) d w.0 (sym (is_same-at c d s w.0) ∙ w.1)
          (and_from _ _ a.0 (list_any-from_has (λ m. is_free p m && not (lit_eq m w.0)) d u.0 (sym (is_same-at c d s u.0) ∙ u.1) u.2)))
    ]

open-cons : (y : Lit) (ys : Clause) → is_open (y ∷ ys) ≡ true
open-cons y ys = ap not (ne_eqb (length (y ∷ ys)) 0 (λ e. omega (arith, e)))

pub nil-same : (c d : Clause) → is_same c d ≡ true → is_open c ≡ true → is_open d ≡ true
nil-same [] d s h = absurd (false≢true h)
nil-same (x ∷ xs) [] s h = absurd (false≢true s)
nil-same (x ∷ xs) (y ∷ ys) s h = open-cons y ys

-- all clauses of a book, by those of a book of the same sets
along-option : (t : Clause → Bool) → ((c d : Clause) → is_same c d ≡ true → t c ≡ true → t d ≡ true) → (o q : Option Clause) (d : Clause) → SameOption o q → ForSome o (λ c. t c ≡ true) → q ≡ Some d → t d ≡ true
along-option t s None None d f h e = cc
along-option t s None (Some y) d f h e = absurd f
along-option t s (Some x) None d f h e = absurd f
along-option t s (Some x) (Some y) d f h e = subst (λ (z : Clause). t z ≡ true) (Some-is y d e) (s x y f (h x refl))

along : (t : Clause → Bool) (a b : Book) → ((c d : Clause) → is_same c d ≡ true → t c ≡ true → t d ≡ true) → SameBook a b → ((id : ℕ) → ForSome (a id) (λ c. t c ≡ true)) → (id : ℕ) → ForSome (b id) (λ c. t c ≡ true)
along t a b s f h id d e = along-option t s (a id) (b id) d (f id) (h id) e

pub gained-over : (now : Clauses) (b : Book) (c r : Clause) → SameBook (clause_at now) b → is_same c r ≡ true → IsGained now c → IsGainedOver b r
gained-over now b [] [] f s g = along is_open (clause_at now) b nil-same f g
gained-over now b [] (y ∷ ys) f s g = absurd (false≢true s)
gained-over now b (x ∷ xs) [] f s g = absurd (false≢true s)
gained-over now b (x ∷ xs) (y ∷ ys) f s g =
    (g.0, g.1, asserting-same g.0 (x ∷ xs) (y ∷ ys) (λ l. sym (is_same-at (x ∷ xs) (y ∷ ys) s l)) g.2, along (is_quiet g.0) (clause_at now) b (quiet-same g.0) f g.3)
