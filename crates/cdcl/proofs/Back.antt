-- What resolving a conflict back along the trail keeps.
use Rattle.std.proofs.Common.{◌≡◌, ℕ, suc, zero, ◌+◌, ◌<◌, ◌≤◌, eqb, Bool, true, false, not, ◌||◌, ◌⊎◌, inl, inr, List, [], ◌∷◌, ◌++◌, length, take, get_or, Some, refl, sym, ap, ◌∙◌, subst, arith, length-append}
use Rattle.std.specs.Option.{option_and_then, ForSome, IsSomeAnd}
use Rattle.std.proofs.lemmas.Bool.{cases_Bool, and_parts, and_from, or_cases, both_ways, not-true, not_from_false, false_from_ne_true, eq-eqb, eqb-true, or_left, or_right, cases_order}
use Rattle.std.proofs.lemmas.List.{take_more, get_or-take, length-take-le}
use Rattle.std.proofs.Math.Seq.{take-length}
use Rattle.clause_arena.specs.declared.Lit.{Lit}
use Rattle.clause_arena.specs.declared.ClauseId.{ClauseId}
use Rattle.clause_arena.specs.Clause.{Clause, Clauses, clause_at, lit, opposite, has, lit_eq, is_same, without, resolve}
use Rattle.clause_arena.proofs.Sets.{lit_eq-true, lit_eq-refl, list_all-at, list_all-from_has, has-without, is_same-at, is_same-from}
use Rattle.res_log.specs.declared.ChainStep.{ChainStep}
use Rattle.res_log.specs.Log.{Book, chain}
use Rattle.res_log.specs.Partial.{is_false, IsAsserting}
use Rattle.res_log.proofs.Same.{SameOption, resolve-same, is_same-sym, is_same-refl}
use Rattle.cdcl.specs.Trail.{Fits, IsConsistent}
use Rattle.res_log.proofs.Refutes.{Some-same, and_then-Some}
use Rattle.cdcl.proofs.Parts.{some-parts, some-and, same-some}
use Rattle.cdcl.proofs.Forced.{false-at, opposite-opposite, opposite-other, absent}

pub record GoesBack (arena : Clauses) (trail : List Lit) (start : ℕ) (conflict : ClauseId) (steps : List ChainStep) (current : Clause) (i : ℕ) : Type 0 where
  pub lower : start ≤ i
  pub upper : i ≤ length trail
  pub exact : ForSome (clause_at arena conflict.0) (λ c. IsSomeAnd (chain (clause_at arena) steps c) (λ r. is_same r current ≡ true))
  pub falsified : is_false (take i trail) current ≡ true
  pub above : is_false (take start trail) current ≡ false
  pub begun : length steps ≡ 0 → ForSome (clause_at arena conflict.0) (λ c. c ≡ current)

pub chain-push : (book : Book) (xs : List ChainStep) (x : ChainStep) (c d e r : Clause) → chain book xs c ≡ Some d → book x.clause.0 ≡ Some e → resolve d e x.pivot ≡ Some r → chain book (xs ++ x ∷ []) c ≡ Some r
chain-push book [] x c d e r h f g =
    let u : c ≡ d = Some-same c d h in
    ap (option_and_then (λ z. option_and_then (λ w. Some w) (resolve c z x.pivot))) f
    ∙ ap (option_and_then (λ w. Some w)) (ap (λ (w : Clause). resolve w e x.pivot) u ∙ g)
chain-push book (y ∷ ys) x c d e r h f g =
    let p = and_then-Some (λ z. option_and_then (chain book ys) (resolve c z y.pivot)) (book y.clause.0) d h in
    let q = and_then-Some (chain book ys) (resolve c p.0 y.pivot) d p.2 in
    ap (option_and_then (λ z. option_and_then (chain book (ys ++ x ∷ [])) (resolve c z y.pivot))) p.1
    ∙ ap (option_and_then (chain book (ys ++ x ∷ []))) q.1
    ∙ chain-push book ys x q.0 d e r q.2 f g

-- the same, where the clause so far and the new one are lists of the same sets
pub chain-next : (book : Book) (xs : List ChainStep) (x : ChainStep) (c d e w next : Clause) → IsSomeAnd (chain book xs c) (λ r. is_same r d ≡ true) → book x.clause.0 ≡ Some e → resolve d e x.pivot ≡ Some w → ((m : Lit) → has next m ≡ has w m) → IsSomeAnd (chain book (xs ++ x ∷ []) c) (λ r. is_same r next ≡ true)
chain-next book xs x c d e w next h f g s =
    let r = some-parts (chain book xs c) (λ r. is_same r d ≡ true) h in
    let o : SameOption (resolve d e x.pivot) (resolve r.0 e x.pivot) = resolve-same d r.0 e e x.pivot (is_same-sym r.0 d r.2) (is_same-refl e) in
    let v = same-some (resolve d e x.pivot) (resolve r.0 e x.pivot) w o g in
    some-and (chain book (xs ++ x ∷ []) c) (λ r. is_same r next ≡ true) v.0 (chain-push book xs x c r.0 e v.0 r.1 f v.1)
    (is_same-from v.0 next (λ m. sym (is_same-at w v.0 v.2 m) ∙ sym (s m)))

-- a subset of a false clause is false
pub false-subset : (p : List Lit) (c d : Clause) → ((m : Lit) → has d m ≡ true → has c m ≡ true) → is_false p c ≡ true → is_false p d ≡ true
false-subset p c d s f = list_all-from_has (λ m. has p (opposite m)) d (λ m h. list_all-at (λ m. has p (opposite m)) c f m (s m h))

without-subset : (v : ℕ) (c : Clause) (m : Lit) → has (without v c) m ≡ true → has c m ≡ true
without-subset v c m h = (and_parts _ _ (sym (has-without v c m) ∙ h)).0

pub above-init : (p : List Lit) (c : Clause) → ((v : ℕ) → is_false p (without v c) ≡ false) → is_false p c ≡ false
above-init p c f = false_from_ne_true _ (λ h. both_ways _ (f 0) (false-subset p c (without 0 c) (without-subset 0 c) h))

pub above-next : (p : List Lit) (v : ℕ) (c d : Clause) → ((m : Lit) → has (without v c) m ≡ true → has d m ≡ true) → is_false p (without v c) ≡ false → is_false p d ≡ false
above-next p v c d s f = false_from_ne_true _ (λ h. both_ways _ f (false-subset p d (without v c) s h))

-- a literal that is not in the clause was not needed
pub false-skip : (p : List Lit) (l : Lit) (c : Clause) → is_false (p ++ l ∷ []) c ≡ true → has c (opposite l) ≡ false → is_false p c ≡ true
false-skip p l c f n =
    list_all-from_has (λ m. has p (opposite m)) c (λ m h.
    elim (false-at p l c f m h) [
      | inl a ↦ a
      | inr a ↦ absurd (both_ways _ n (subst (λ (x : Lit). has c x ≡ true) (sym (opposite-opposite m) ∙ ap opposite a) h))
    ])

-- without the newest literal's variable, the clause was false before
pub false-others : (p : List Lit) (l : Lit) (c : Clause) → is_false (p ++ l ∷ []) c ≡ true → is_false p (without l.var c) ≡ true
false-others p l c f =
    list_all-from_has (λ m. has p (opposite m)) _ (λ m h.
    let w = and_parts _ _ (sym (has-without l.var c m) ∙ h) in
    elim (false-at p l c f m w.0) [
      | inl a ↦ a
      | inr a ↦ absurd (both_ways _ (not-true _ w.1) (eq-eqb _ _ (ap (λ (x : Lit). x.var) a)))
    ])

-- by places
pub place-of : (p : List Lit) (l : Lit) → has p l ≡ true → (k : ℕ) × (k < length p) × ((d : Lit) → get_or p k d ≡ l)
place-of [] l h = cc
place-of (x ∷ xs) l h =
    elim (or_cases (lit_eq l x) (has xs l) h) [
      | inl e ↦ (0, omega arith, λ d. sym (lit_eq-true l x e))
      | inr e ↦ let w = place-of xs l e in (suc w.0, omega arith, λ d. w.2 d)
    ]

pub place-in : (trail : List Lit) (i : ℕ) (m : Lit) → i ≤ length trail → has (take i trail) m ≡ true → (k : ℕ) × (k < i) × ((d : Lit) → get_or trail k d ≡ m)
place-in trail i m b h =
    let w = place-of (take i trail) m h in
    let n : length (take i trail) ≡ i = length-take-le i trail b in
    let l : w.0 < i = omega arith in
    (w.0, l, λ d. sym (get_or-take i trail w.0 d l) ∙ w.2 d)

pub one-var : (trail : List Lit) → IsConsistent trail → (i j : ℕ) → i < length trail → j < length trail → (l m : Lit) → ((d : Lit) → get_or trail i d ≡ l) → ((d : Lit) → get_or trail j d ≡ m) → l.var ≡ m.var → l ≡ m
one-var trail h i j a b l m e f q =
    elim (cases_order i j) [
      | inl o ↦ sym (e l) ∙ ap (λ (n : ℕ). get_or trail n l) o ∙ f l
      | inr o ↦
          elim o [
            | inl x ↦ absurd (h i j l x b (ap (λ (y : Lit). y.var) (e l) ∙ q ∙ sym (ap (λ (y : Lit). y.var) (f l))))
            | inr x ↦ absurd (h j i l x a (ap (λ (y : Lit). y.var) (f l) ∙ sym q ∙ sym (ap (λ (y : Lit). y.var) (e l))))
          ]
    ]

pub fits-at : (trail : List Lit) (i : ℕ) → IsConsistent trail → i < length trail → (l : Lit) → ((d : Lit) → get_or trail i d ≡ l) → Fits (take i trail) l
fits-at trail i h b l e = record {
  fresh = λ m a q.
      let w = place-in trail i m (omega arith) a in
      h w.0 i l w.1 b (ap (λ (y : Lit). y.var) (w.2 l) ∙ q ∙ sym (ap (λ (y : Lit). y.var) (e l)));
  apart = λ m a o.
      let w = place-in trail i m (omega arith) a in
      let v = place-in trail i (opposite m) (omega arith) o in
      let k : w.0 < length trail = omega (arith, w.1) in
      let n : v.0 < length trail = omega (arith, v.1) in
      opposite-other m (sym (one-var trail h w.0 v.0 k n m (opposite m) w.2 v.2 refl));
}

abbrev pub zero_lit : Lit
zero_lit = record { var = 0; negative = false }

pub take-back : (trail : List Lit) (i n : ℕ) → i ≡ n + 1 → i ≤ length trail → take n trail ++ get_or trail n zero_lit ∷ [] ≡ take i trail
take-back trail i n e h =
    let l : n < length trail = omega arith in
    sym (take_more trail n zero_lit l) ∙ ap (λ (k : ℕ). take k trail) (sym e)

pub get_or-any : {X : Type 0} (xs : List X) (i : ℕ) (d e : X) → i < length xs → get_or xs i d ≡ get_or xs i e
get_or-any [] i d e h = absurd (omega arith)
get_or-any (x ∷ xs) zero d e h = refl
get_or-any (x ∷ xs) (suc i) d e h = get_or-any xs i d e (omega arith)

pub start-back : (arena : Clauses) (trail : List Lit) (start : ℕ) (conflict : ClauseId) (steps : List ChainStep) (lits current : Clause) → clause_at arena conflict.0 ≡ Some lits → current ≡ lits → steps ≡ [] → start < length trail → is_false trail lits ≡ true → ((v : ℕ) → is_false (take start trail) (without v lits) ≡ false) → GoesBack arena trail start conflict steps current (length trail)
start-back arena trail start conflict steps lits current e f g l h t = record {
  lower = omega arith;
  upper = omega arith;
  exact = λ c q.
      some-and (chain (clause_at arena) steps c) (λ r. is_same r current ≡ true) c (ap (λ (xs : List ChainStep). chain (clause_at arena) xs c) g)
      (ap (λ (x : Clause). is_same x current) (Some-same _ _ (sym q ∙ e) ∙ sym f) ∙ is_same-refl current);
  falsified = ap (λ (p : List Lit). is_false p current) (take-length trail) ∙ ap (is_false trail) f ∙ h;
  above = ap (is_false (take start trail)) f ∙ above-init (take start trail) lits t;
  begun = λ n c q. Some-same _ _ (sym q ∙ e) ∙ sym f;
}

pub skip-back : (arena : Clauses) (trail : List Lit) (start : ℕ) (conflict : ClauseId) (steps : List ChainStep) (current : Clause) (i n : ℕ) → i ≡ n + 1 → start < i → has current (opposite (get_or trail n zero_lit)) ≡ false → GoesBack arena trail start conflict steps current i → GoesBack arena trail start conflict steps current n
skip-back arena trail start conflict steps current i n e l h g = record {
  lower = omega arith;
  upper = omega (arith, g.upper);
  exact = g.exact;
  falsified = false-skip (take n trail) (get_or trail n zero_lit) current (ap (λ (p : List Lit). is_false p current) (take-back trail i n e g.upper) ∙ g.falsified) h;
  above = g.above;
  begun = g.begun;
}

pub next-back : (arena : Clauses) (trail : List Lit) (start : ℕ) (conflict : ClauseId) (steps : List ChainStep) (current next : Clause) (i n : ℕ) (step : ChainStep) (e w : Clause) → i ≡ n + 1 → start < i → clause_at arena step.clause.0 ≡ Some e → resolve current e step.pivot ≡ Some w → ((m : Lit) → has next m ≡ has w m) → is_false (take n trail) w ≡ true → ((m : Lit) → has (without step.pivot current) m ≡ true → has w m ≡ true) → is_false (take start trail) (without step.pivot current) ≡ false → GoesBack arena trail start conflict steps current i → GoesBack arena trail start conflict (steps ++ step ∷ []) next n
next-back arena trail start conflict steps current next i n step e w k l a b s f t o g = record {
  lower = omega arith;
  upper = omega (arith, g.upper);
  exact = λ c q. chain-next (clause_at arena) steps step c current e w next (g.exact c q) a b s;
  falsified = false-subset (take n trail) w next (λ m h. sym (s m) ∙ h) f;
  above = above-next (take start trail) step.pivot current next (λ m h. s m ∙ t m h) o;
  begun = λ z. absurd (omega (arith, length-append steps (step ∷ []), z));
}

pub free-at : (trail : List Lit) (start n : ℕ) → IsConsistent trail → start ≤ n → n < length trail → (m : Lit) → m.var ≡ (get_or trail n zero_lit).var → has (take start trail) m ≡ false
free-at trail start n h l b m q =
    false_from_ne_true _ (λ a.
    let w = place-in trail start m (omega arith) a in
    let k : w.0 < n = omega (arith, w.1) in
    h w.0 n zero_lit k b (ap (λ (y : Lit). y.var) (w.2 zero_lit) ∙ q))

pub sign-cases : (a b : Bool) → (a ≡ b) ⊎ (a ≡ not b)
sign-cases true true = inl refl
sign-cases true false = inr refl
sign-cases false true = inr refl
sign-cases false false = inl refl

pub var-cases : (m l : Lit) → m.var ≡ l.var → (m ≡ l) ⊎ (m ≡ opposite l)
var-cases m l q =
    elim (sign-cases m.negative l.negative) [
      | inl s ↦ inl (ap (λ (n : ℕ). lit m.negative n) q ∙ ap (λ (b : Bool). lit b l.var) s)
      | inr s ↦ inr (ap (λ (n : ℕ). lit m.negative n) q ∙ ap (λ (b : Bool). lit b l.var) s)
    ]

others : (p : List Lit) (newest : Lit) (current : Clause) → has current newest ≡ false → is_false p (without newest.var current) ≡ true → (m : Lit) → has current m ≡ true → (lit_eq m (opposite newest) || has p (opposite m)) ≡ true
others p newest current gone f m k =
    elim (cases_Bool (eqb m.var newest.var)) [
      | inl e ↦
          elim (var-cases m newest (eqb-true _ _ e)) [
            | inl q ↦ absurd (both_ways _ gone (ap (has current) (sym q) ∙ k))
            | inr q ↦ or_left _ _ (ap (λ (y : Lit). lit_eq y (opposite newest)) q ∙ lit_eq-refl (opposite newest))
          ]
      | inr e ↦ or_right _ _ (list_all-at (λ y. has p (opposite y)) _ f m (has-without newest.var current m ∙ and_from _ _ k (not_from_false _ e)))
    ]

pub asserting : (trail : List Lit) (start n : ℕ) (current : Clause) → IsConsistent trail → start ≤ n → n < length trail → has current (opposite (get_or trail n zero_lit)) ≡ true → is_false (take (n + 1) trail) current ≡ true → is_false (take start trail) (without (get_or trail n zero_lit).var current) ≡ true → IsAsserting (take start trail) current
asserting trail start n current h l b a whole f =
    let newest = get_or trail n zero_lit in
    let x = opposite newest in
    let fit = fits-at trail n h b newest (λ d. get_or-any trail n d zero_lit b) in
    let gone : has current newest ≡ false =
    absent (take n trail) newest current fit (ap (λ (p : List Lit). is_false p current) (take-back trail (n + 1) n refl (omega arith)) ∙ whole)
    in (
      x,
      and_from _ _ (not_from_false _ (free-at trail start n h l b x refl)) (not_from_false _ (free-at trail start n h l b (opposite x) refl)),
      and_from _ _ a (list_all-from_has (λ m. lit_eq m x || has (take start trail) (opposite m)) current (λ m k. others (take start trail) newest current gone f m k)),
    )

-- the newest literal of the last level's first place leaves the others false
pub first-others : (trail : List Lit) (i n : ℕ) (current : Clause) → i ≡ n + 1 → i ≤ length trail → is_false (take i trail) current ≡ true → is_false (take n trail) (without (get_or trail n zero_lit).var current) ≡ true
first-others trail i n current e h f =
    false-others (take n trail) (get_or trail n zero_lit) current (ap (λ (p : List Lit). is_false p current) (take-back trail i n e h) ∙ f)

pub fits-newest : (trail : List Lit) (n : ℕ) → IsConsistent trail → n < length trail → Fits (take n trail) (get_or trail n zero_lit)
fits-newest trail n h l = fits-at trail n h l (get_or trail n zero_lit) (λ d. get_or-any trail n d zero_lit l)
