-- Where a learned clause leads back to.
use Rattle.std.proofs.Common.{◌≡◌, ℕ, ◌+◌, ◌-◌, ◌<◌, ◌≤◌, true, false, not, ◌||◌, inl, inr, List, [], length, take, get_or, Option, Some, None, MatchOption, refl, sym, ap, ◌∙◌, subst, arith}
use Rattle.std.specs.List.{list_all}
use Rattle.std.specs.Option.{is_some}
use Rattle.std.proofs.lemmas.Bool.{and_parts, and_from, or_cases, or_left, or_right, both_ways, not-true, cases_lt, false_from_ne_true, false≢true}
use Rattle.clause_arena.specs.declared.Lit.{Lit}
use Rattle.clause_arena.specs.declared.ClauseId.{ClauseId}
use Rattle.clause_arena.specs.Clause.{Clause, lit, opposite, lit_eq, has, without, is_below}
use Rattle.clause_arena.proofs.Sets.{list_all-at, list_all-from_has, lit_eq-true}
use Rattle.res_log.specs.Partial.{is_free, is_false, is_forced, is_quiet, IsAsserting}
use Rattle.cdcl.specs.Trail.{IsConsistent, Reasons}
use Rattle.cdcl.specs.Arrays.{ArePlaces}
use Rattle.cdcl.specs.Watching.{IsBefore, HasNewest}
use Rattle.cdcl.proofs.Arrays.{placed-has, has-placed, others-false, one-more, at-any}
use Rattle.cdcl.proofs.Joins.{whole}
use Rattle.cdcl.proofs.Forced.{opposite-opposite}
use Rattle.cdcl.proofs.Reasons.{false-below}
use Rattle.std.proofs.lemmas.List.{length-take-le, get_or-take}
use Rattle.cdcl.proofs.Back.{zero_lit, place-of, free-at, var-cases}
use Rattle.cdcl.proofs.Looks.{has-at}
use Rattle.cdcl.proofs.Gains.{free-not-false, learned-quiet, free-take, take-less, consistent-take}

-- the literals so far that became false before start did so before end, and one of them at the place before it
pub record Others (p : List Lit) (places : List ℕ) (start : ℕ) (whole c : Clause) (end : ℕ) : Type 0 where
  pub within : end ≤ start
  pub early : (m : Lit) → has c m ≡ true → get_or places m.var 0 < start → get_or places m.var 0 < end
  pub last : 0 < end → (m : Lit) × (has whole m ≡ true) × (get_or places m.var 0 + 1 ≡ end)

-- the free literal's place is not before start
late : (p : List Lit) (places : List ℕ) (start : ℕ) (c : Clause) (l : Lit) → ArePlaces p places → start ≤ length p → is_false p c ≡ true → has c l ≡ true → is_free (take start p) l ≡ true → start ≤ get_or places l.var 0
late p places start c l f b w h e =
    elim (cases_lt (get_or places l.var 0) start) [
      | inr q ↦ q
      | inl q ↦
          absurd (both_ways _ (not-true _ (and_parts _ _ e).1)
          (placed-has p places start (opposite l) f b (list_all-at (λ m. has p (opposite m)) c w l h) q))
    ]

pub others-asserting : (p : List Lit) (places : List ℕ) (start : ℕ) (c : Clause) (end k : ℕ) → ArePlaces p places → start ≤ length p → is_false p c ≡ true → IsAsserting (take start p) c → Others p places start c c end → end ≤ k → k ≤ start → IsAsserting (take k p) c
others-asserting p places start c end k f b w a o lo hi =
    let l = a.0 in
    let z : (has c l ≡ true) × (list_all (λ m. lit_eq m l || has (take start p) (opposite m)) c ≡ true) = and_parts _ _ a.2 in
    let t : take k (take start p) ≡ take k p = take-less p k start hi in (
      l,
      ap (λ (q : List Lit). is_free q l) (sym t) ∙ free-take (take start p) k l a.1,
      and_from _ _ z.0
          (list_all-from_has (λ m. lit_eq m l || has (take k p) (opposite m)) c (λ m h.
          elim (or_cases (lit_eq m l) (has (take start p) (opposite m)) (list_all-at (λ m. lit_eq m l || has (take start p) (opposite m)) c z.1 m h)) [
            | inl e ↦ or_left _ _ e
            | inr e ↦
                let q : get_or places m.var 0 < end = o.early m h (has-placed p places start (opposite m) f b e) in
                let n : k ≤ length p = omega arith in
                let r : get_or places m.var 0 < k = omega arith in
                or_right (lit_eq m l) (has (take k p) (opposite m)) (placed-has p places k (opposite m) f n (list_all-at (λ m. has p (opposite m)) c w m h) r)
          ])),
    )

pub others-quiet : (p : List Lit) (places : List ℕ) (start : ℕ) (c : Clause) (end k : ℕ) → IsConsistent p → ArePlaces p places → start ≤ length p → is_false p c ≡ true → IsAsserting (take start p) c → Others p places start c c end → k < end → is_quiet (take k p) c ≡ true
others-quiet p places start c end k i f b w a o lt =
    let l = a.0 in
    let z : (has c l ≡ true) × (list_all (λ m. lit_eq m l || has (take start p) (opposite m)) c ≡ true) = and_parts _ _ a.2 in
    let m = o.last (omega arith) in
    let t : take k (take start p) ≡ take k p = take-less p k start (omega (arith, o.within)) in
    let apart : m.0.var ≡ l.var → ⊥ = λ q.
    let s = late p places start c l f b w z.0 a.1 in
    let e : get_or places m.0.var 0 ≡ get_or places l.var 0 = ap (λ (v : ℕ). get_or places v 0) q in
    absurd (omega (arith, s, e, m.2, o.within))
    in
    let open_m : has (take k p) (opposite m.0) ≡ false =
    false_from_ne_true _ (λ h. absurd (omega (arith, has-placed p places k (opposite m.0) f (omega (arith, o.within)) h, m.2, lt)))
    in
    ap (λ (q : List Lit). is_quiet q c) (sym t)
    ∙ learned-quiet (take start p) k c l (consistent-take p start b i) a.1 a.2
    (ap (λ (q : List Lit). is_false q (without l.var c)) t ∙ others-false (take k p) l.var c m.0 m.1 apart open_m)

pub others-none : (p : List Lit) (places : List ℕ) (start : ℕ) (c : Clause) → Others p places start c [] 0
others-none p places start c = record { within = omega arith; early = λ m h. absurd (false≢true h); last = λ h. absurd (omega arith) }

pub quiet-below : (p : List Lit) (c : Clause) (rs : Reasons) (from k : ℕ) → ((j : ℕ) → j < from → is_quiet (take j p) c ≡ true) → ((j : ℕ) (o : Option ClauseId) → from ≤ j → j < k → is_some (get_or rs j o) ≡ true) → (j : ℕ) (o : Option ClauseId) → j < k → get_or rs j o ≡ None → is_quiet (take j p) c ≡ true
quiet-below p c rs from k f g j o l e =
    elim (cases_lt j from) [
      | inl a ↦ f j a
      | inr a ↦ absurd (false≢true (sym (ap is_some e) ∙ g j o a l))
    ]

-- one literal more
pub others-skip : (p : List Lit) (places : List ℕ) (start : ℕ) (c : Clause) (i end : ℕ) → i < length c → (get_or places (get_or c i zero_lit).var 0 < start → get_or places (get_or c i zero_lit).var 0 < end) → Others p places start c (take i c) end → Others p places start c (take (i + 1) c) end
others-skip p places start c i end l f o = record {
  within = o.within;
  early = one-more (λ m. get_or places m.var 0 < start → get_or places m.var 0 < end) c i l o.early f;
  last = o.last;
}

pub others-next : (p : List Lit) (places : List ℕ) (start : ℕ) (c : Clause) (i end r : ℕ) → i < length c → get_or places (get_or c i zero_lit).var 0 ≡ r → r < start → end ≤ r → Others p places start c (take i c) end → Others p places start c (take (i + 1) c) (r + 1)
others-next p places start c i end r l e a b o = record {
  within = omega arith;
  early = one-more (λ m. get_or places m.var 0 < start → get_or places m.var 0 < r + 1) c i l (λ m h q. let z : get_or places m.var 0 < end = o.early m h q in omega arith) (λ q. omega arith);
  last = λ h. (get_or c i zero_lit, has-at c i zero_lit l, omega arith);
}

pub others-whole : (p : List Lit) (places : List ℕ) (start : ℕ) (c : Clause) (i end : ℕ) → i ≤ length c → length c ≤ i → Others p places start c (take i c) end → Others p places start c c end
others-whole p places start c i end a b o = subst (λ (d : Clause). Others p places start c d end) (whole c i a b) o

-- the place of a literal of a false clause
pub place-at : (n : ℕ) (p : List Lit) (places : List ℕ) (c : Clause) (i r : ℕ) → is_below n p ≡ true → length places ≡ n → is_false p c ≡ true → i < length c → r ≡ get_or places (get_or c i zero_lit).var r → get_or places (get_or c i zero_lit).var 0 ≡ r
place-at n p places c i r b e f l q =
    let k : (get_or c i zero_lit).var < n = false-below n p c b f (get_or c i zero_lit) (has-at c i zero_lit l) in
    sym (at-any places (get_or c i zero_lit).var r q (omega arith))

-- the literal before the end is the last one that made a literal of the clause false
pub others-last : (p : List Lit) (places : List ℕ) (start : ℕ) (c : Clause) (end : ℕ) (m : Lit) → ArePlaces p places → is_false p c ≡ true → Others p places start c c end → IsBefore p end m → has c m ≡ true
others-last p places start c end m f w o b =
    let x = o.last b.0 in
    let k = place-of p (opposite x.0) (list_all-at (λ y. has p (opposite y)) c w x.0 x.1) in
    let e : get_or places x.0.var 0 ≡ k.0 = ap (λ (y : Lit). get_or places y.var 0) (sym (k.2 zero_lit)) ∙ f k.0 zero_lit k.1 in
    let n : end - 1 ≡ k.0 = omega (arith, x.2, e) in
    let q : opposite m ≡ opposite x.0 = sym (b.1 zero_lit) ∙ ap (λ (j : ℕ). get_or p j zero_lit) n ∙ k.2 zero_lit in
    ap (has c) (sym (opposite-opposite m) ∙ ap opposite q ∙ opposite-opposite x.0) ∙ x.1

-- the newest literal that is false where the clause becomes asserting
pub level-newest : (p : List Lit) (rs : Reasons) (c : Clause) (from end : ℕ) (o : Option Lit) → IsConsistent p → end ≤ length p → from ≤ end → MatchOption o (from ≡ 0) (IsBefore p from) → ((m : Lit) → IsBefore p from m → has c m ≡ true) → ((j : ℕ) (q : Option ClauseId) → from ≤ j → j < end → is_some (get_or rs j q) ≡ true) → HasNewest p rs c end o
level-newest p rs c from end None h le lo b g f = λ j q lt. f j q (omega (arith, b)) lt
level-newest p rs c from end (Some m) h le lo b g f =
    let n : length (take end p) ≡ end = length-take-le end p le in
    let k : from - 1 < end = omega (arith, b.0, lo) in
    let e : get_or (take end p) (from - 1) zero_lit ≡ opposite m = get_or-take end p (from - 1) zero_lit k ∙ b.1 zero_lit in record {
      in_clause = g m b;
      falsified = ap (has (take end p)) (sym e) ∙ has-at (take end p) (from - 1) zero_lit (omega (arith, k, n));
      late = λ j q lt z.
          elim (cases_lt j from) [
            | inl a ↦ free-at p j (from - 1) h (omega arith) (omega (arith, k, le)) (opposite m) (ap (λ (y : Lit). y.var) (sym (b.1 zero_lit)))
            | inr a ↦ absurd (false≢true (sym (ap is_some z) ∙ f j q a lt))
          ];
    }

-- the free literal of an asserting clause
pub asserted-forced : (p : List Lit) (c : Clause) (l : Lit) → IsAsserting p c → has c l ≡ true → is_free p l ≡ true → is_forced p l c ≡ true
asserted-forced p c l a h f =
    let w = and_parts _ _ a.2 in
    elim (or_cases (lit_eq l a.0) (has p (opposite l)) (list_all-at (λ m. lit_eq m a.0 || has p (opposite m)) c w.1 l h)) [
      | inl e ↦ subst (λ (y : Lit). is_forced p y c ≡ true) (sym (lit_eq-true l a.0 e)) a.2
      | inr q ↦ absurd (free-not-false p l f q)
    ]

pub free-back : (p : List Lit) (l : Lit) → is_free p (lit true l.var) ≡ true → is_free p l ≡ true
free-back p l f =
    let w = and_parts _ _ f in
    elim (var-cases l (lit true l.var) refl) [
      | inl e ↦ ap (is_free p) e ∙ f
      | inr e ↦ ap (is_free p) e ∙ and_from _ _ w.1 (ap (λ (x : Lit). not (has p x)) (opposite-opposite (lit true l.var)) ∙ w.0)
    ]

free-forth : (p : List Lit) (l : Lit) → is_free p l ≡ true → is_free p (lit true l.var) ≡ true
free-forth p l f =
    let w = and_parts _ _ f in
    elim (var-cases (lit true l.var) l refl) [
      | inl e ↦ ap (is_free p) e ∙ f
      | inr e ↦ ap (is_free p) e ∙ and_from _ _ w.1 (ap (λ (x : Lit). not (has p x)) (opposite-opposite l) ∙ w.0)
    ]

pub none-free : (p : List Lit) (c : Clause) (i : ℕ) → i ≤ length c → length c ≤ i → IsAsserting p c → ((m : Lit) → has (take i c) m ≡ true → is_free p (lit true m.var) ≡ false) → ⊥
none-free p c i a b s f =
    let w = and_parts _ _ s.2 in
    both_ways _ (f s.0 (ap (λ (d : Clause). has d s.0) (whole c i a b) ∙ w.0)) (free-forth p s.0 s.1)
