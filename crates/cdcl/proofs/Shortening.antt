-- A derived clause that is made smaller: a literal is resolved away with the reason of its negation.
use Rattle.std.proofs.Common.{◌≡◌, ℕ, ◌+◌, ◌<◌, ◌≤◌, eqb, Bool, true, false, not, cond, ◌&&◌, ◌||◌, inl, inr, List, [], ◌∷◌, ◌++◌, length, take, get_or, set, replicate, Some, None, refl, sym, ap, ◌∙◌, subst, arith, length-append}
use Rattle.std.specs.List.{list_all, IsDistinct, AllByRecursion}
use Rattle.std.proofs.lemmas.Bool.{and_parts, and_from, or_cases, or_left, or_right, both_ways, false_from_ne_true, ne_eqb, eq-eqb, not-true, not_from_false, cond-true}
use Rattle.std.proofs.lemmas.List.Elements.{filter_more}
use Rattle.std.proofs.lemmas.List.{append-nil, length-replicate, length-set, length-take-le, get_or-take}
use Rattle.std.proofs.Math.Seq.{take-length}
use Rattle.clause_arena.specs.declared.Lit.{Lit}
use Rattle.clause_arena.specs.declared.ClauseId.{ClauseId}
use Rattle.clause_arena.specs.Clause.{Clause, Clauses, clause_at, lit, opposite, has, lit_eq, without, resolve, is_tautology, IsEachOnce}
use Rattle.clause_arena.proofs.Sets.{has-filter, has-append, has-without, bool_iff, passing, list_all-at, list_all-from_has}
use Rattle.res_log.specs.declared.ChainStep.{ChainStep}
use Rattle.res_log.specs.Partial.{is_false, is_forced, IsAsserting}
use Rattle.cdcl.specs.declared.trail.Trail.{Trail}
use Rattle.cdcl.specs.Trail.{IsConsistent, IsReasoned, Reasons}
use Rattle.cdcl.specs.Held.{vars_of, reasons_of, IsKept, IsChainOf}
use Rattle.cdcl.specs.Marks.{is_seen, IsMarked, AreEarly, left, IsShortening}
use Rattle.cdcl.proofs.Parts.{some-parts, Some-is}
use Rattle.cdcl.proofs.Forced.{opposite-opposite, not-not, absent-forced, forced-at, clash-from}
use Rattle.cdcl.proofs.Looks.{has-at}
use Rattle.cdcl.proofs.Gains.{apart, has-take, take-less}
use Rattle.cdcl.proofs.Back.{zero_lit, var-cases, chain-next, fits-newest}
use Rattle.cdcl.proofs.Arrays.{below-at}
use Rattle.cdcl.proofs.Learned.{asserting-same}
use Rattle.cdcl.proofs.Marking.{chain-same, same-var, seen-same, seen-other, seen-none, early-none, start-marks}

and-true : (b : Bool) → (b && true) ≡ b
and-true true = refl
and-true false = refl

pub has-left : (gone : List Bool) (c : Clause) (m : Lit) → has (left gone c) m ≡ (has c m && not (is_seen gone m.var))
has-left gone c m = has-filter (λ x. not (is_seen gone x.var)) c m

-- what stands in the list that marks collect from the whole trail
pub in-whole : (p : List Lit) (seen : List Bool) (lits : Clause) (m : Lit) → AreEarly p (length p) seen lits → has lits m ≡ (is_seen seen m.var && has p (opposite m))
in-whole p seen lits m f = f m ∙ ap (λ (q : List Lit). is_seen seen m.var && has q (opposite m)) (take-length p)

pub whole-false : (p : List Lit) (seen gone : List Bool) (lits : Clause) → AreEarly p (length p) seen lits → is_false p (left gone lits) ≡ true
whole-false p seen gone lits f =
    list_all-from_has (λ m. has p (opposite m)) (left gone lits) (λ m h.
    (and_parts _ _ (sym (in-whole p seen lits m f) ∙ (and_parts _ _ (sym (has-left gone lits m) ∙ h)).0)).1)

-- a false clause holds no literal with its negation
plain : (p : List Lit) (c : Clause) → IsConsistent p → is_false p c ≡ true → is_tautology c ≡ false
plain p c h f =
    false_from_ne_true _ (λ t.
    let x = passing (λ m. has c (opposite m)) c t in
    let a = list_all-at (λ m. has p (opposite m)) c f x.0 x.1 in
    let b = list_all-at (λ m. has p (opposite m)) c f (opposite x.0) x.2 in
    apart p h (opposite x.0) a b)

-- a false clause has not the literal that is true
not-true-lit : (p : List Lit) (c : Clause) (x : Lit) → IsConsistent p → is_false p c ≡ true → has p x ≡ true → has c x ≡ false
not-true-lit p c x h f t = false_from_ne_true _ (λ q. apart p h x t (list_all-at (λ m. has p (opposite m)) c f x q))

-- what a literal with a reason before the start gives: its reason
pub record Ousted (arena : Clauses) (p : List Lit) (n : ℕ) (id : ClauseId) (current : Clause) : Type 0 where
  pub reason : Clause
  pub is : clause_at arena id.0 ≡ Some reason
  pub forced : is_forced (take n p) (get_or p n zero_lit) reason ≡ true
  pub falsified : is_false p (without (get_or p n zero_lit).var current ++ without (get_or p n zero_lit).var reason) ≡ true
  pub result : resolve current reason (get_or p n zero_lit).var ≡ Some (without (get_or p n zero_lit).var current ++ without (get_or p n zero_lit).var reason)

-- the other literals of a reason became false before
pub others-false : (p : List Lit) (n : ℕ) (r : Clause) (m : Lit) → is_forced (take n p) (get_or p n zero_lit) r ≡ true → has (without (get_or p n zero_lit).var r) m ≡ true → has (take n p) (opposite m) ≡ true
others-false p n r m f h =
    let x = get_or p n zero_lit in
    let w = and_parts (has r m) (not (eqb m.var x.var)) (sym (has-without x.var r m) ∙ h) in
    elim (forced-at (take n p) x r f m w.0) [
      | inl a ↦ absurd (both_ways _ (not-true _ w.1) (eq-eqb _ _ (ap (λ (y : Lit). y.var) a)))
      | inr a ↦ a
    ]

pub ousted : (arena : Clauses) (p : List Lit) (rs : Reasons) (n : ℕ) (id : ClauseId) (current : Clause) → IsConsistent p → IsReasoned arena p rs → n < length p → get_or rs n None ≡ Some id → is_false p current ≡ true → has current (opposite (get_or p n zero_lit)) ≡ true → Ousted arena p n id current
ousted arena p rs n id current h s b e f a =
    let x = get_or p n zero_lit in
    let w = some-parts (clause_at arena id.0) (λ c. is_forced (take n p) x c ≡ true) (s n None zero_lit b id e) in
    let fit = fits-newest p n h b in
    let t : has p x ≡ true = has-at p n zero_lit b in
    let next : Clause = without x.var current ++ without x.var w.0 in
    let g : is_false p next ≡ true =
    list_all-from_has (λ m. has p (opposite m)) next (λ m q.
    elim (or_cases (has (without x.var current) m) (has (without x.var w.0) m) (sym (has-append (without x.var current) (without x.var w.0) m) ∙ q)) [
      | inl k ↦ list_all-at (λ y. has p (opposite y)) current f m (and_parts _ _ (sym (has-without x.var current m) ∙ k)).0
      | inr k ↦ has-take p n (opposite m) (others-false p n w.0 m w.2 k)
    ])
    in record {
      reason = w.0;
      is = w.1;
      forced = w.2;
      falsified = g;
      result =
          cond-true _ _ _
          (and_from _ _
          (clash-from x.negative current w.0 x.var
          (and_from _ _ a (not_from_false _ (ap (λ (b : Bool). has current (lit b x.var)) (not-not x.negative) ∙ not-true-lit p current x h f t)))
          (and_from _ _ (and_parts _ _ w.2).0 (not_from_false _ (absent-forced (take n p) x w.0 fit w.2))))
          (not_from_false _ (plain p next h g)));
    }

-- what is marked of a reason is false
pub reason-out : (arena : Clauses) (p : List Lit) (rs : Reasons) (seen : List Bool) (n : ℕ) (id : ClauseId) (r : Clause) → IsReasoned arena p rs → n < length p → get_or rs n None ≡ Some id → clause_at arena id.0 ≡ Some r → is_seen seen (get_or p n zero_lit).var ≡ true → (m : Lit) → has r m ≡ true → is_seen seen m.var ≡ false → has p (opposite m) ≡ true
reason-out arena p rs seen n id r s b e o sx m k t =
    let x = get_or p n zero_lit in
    let w = some-parts (clause_at arena id.0) (λ c. is_forced (take n p) x c ≡ true) (s n None zero_lit b id e) in
    let same : r ≡ w.0 = Some-is _ _ (sym o ∙ w.1) in
    elim (forced-at (take n p) x w.0 w.2 m (ap (λ (c : Clause). has c m) (sym same) ∙ k)) [
      | inl a ↦ absurd (both_ways _ t (ap (λ (y : Lit). is_seen seen y.var) a ∙ sx))
      | inr a ↦ has-take p n (opposite m) a
    ]

-- the asserting literal stays
pub asserting-left : (p : List Lit) (start n : ℕ) (current r next : Clause) → IsConsistent p → n < start → start ≤ length p → is_forced (take n p) (get_or p n zero_lit) r ≡ true
    → is_false p current ≡ true
    → ((m : Lit) → has next m ≡ has (without (get_or p n zero_lit).var current ++ without (get_or p n zero_lit).var r) m)
    → IsAsserting (take start p) current → IsAsserting (take start p) next
asserting-left p start n current r next h l b f g s a =
    let x = get_or p n zero_lit in
    let y = a.0 in
    let q : List Lit = take start p in
    let w : (has current y ≡ true) × (list_all (λ m. lit_eq m y || has q (opposite m)) current ≡ true) = and_parts _ _ a.2 in
    let free : (not (has q y) ≡ true) × (not (has q (opposite y)) ≡ true) = and_parts _ _ a.1 in
    let len : length q ≡ start = length-take-le start p b in
    let inside : has q x ≡ true = ap (has q) (sym (get_or-take start p n zero_lit l)) ∙ has-at q n zero_lit (omega (arith, l, len)) in
    let far : y.var ≡ x.var → ⊥ = λ e.
    elim (var-cases y x e) [
      | inl u ↦ both_ways _ (not-true _ free.0) (ap (has q) u ∙ inside)
      | inr u ↦ both_ways _ (not-true _ free.1) (ap (has q) (ap opposite u ∙ opposite-opposite x) ∙ inside)
    ]
    in (
      y,
      a.1,
      and_from _ _
          (s y ∙ has-append (without x.var current) (without x.var r) y ∙ or_left _ _ (has-without x.var current y ∙ and_from _ _ w.0 (not_from_false _ (ne_eqb _ _ far))))
          (list_all-from_has (λ m. lit_eq m y || has q (opposite m)) next (λ m k.
          elim (or_cases (has (without x.var current) m) (has (without x.var r) m) (sym (s m ∙ has-append (without x.var current) (without x.var r) m) ∙ k)) [
            | inl c ↦ list_all-at (λ z. lit_eq z y || has q (opposite z)) current w.1 m (and_parts _ _ (sym (has-without x.var current m) ∙ c)).0
            | inr c ↦ or_right _ _ (has-take q n (opposite m) (ap (λ (z : List Lit). has z (opposite m)) (take-less p n start (omega (arith, l))) ∙ others-false p n r m f c))
          ])),
    )

-- the literals that are left after one more was taken out
pub left-next : (p : List Lit) (n : ℕ) (seen new gone : List Bool) (lits later r : Clause) → IsConsistent p → n < length p → (get_or p n zero_lit).var < length gone
    → is_seen seen (get_or p n zero_lit).var ≡ true
    → is_forced (take n p) (get_or p n zero_lit) r ≡ true → ((m : Lit) → has r m ≡ true → is_seen gone m.var ≡ false)
    → IsMarked seen new r → AreEarly p (length p) seen lits → AreEarly p (length p) new later
    → (m : Lit) → has (left (set gone (get_or p n zero_lit).var true) later) m ≡ has (without (get_or p n zero_lit).var (left gone lits) ++ without (get_or p n zero_lit).var r) m
left-next p n seen new gone lits later r h b sz sx f clear g before after m =
    let x = get_or p n zero_lit in
    let cur : Clause = left gone lits in
    let goes : List Bool = set gone x.var true in
    bool_iff _ _
    (λ q.
    let w = and_parts (has later m) (not (is_seen goes m.var)) (sym (has-left goes later m) ∙ q) in
    let v = and_parts (is_seen new m.var) (has p (opposite m)) (sym (in-whole p new later m after) ∙ w.0) in
    let far : m.var ≡ x.var → ⊥ = λ e. both_ways _ (not-true _ w.1) (ap (is_seen goes) e ∙ seen-same gone x.var sz) in
    let apart_x : not (eqb m.var x.var) ≡ true = not_from_false _ (ne_eqb _ _ far) in
    let here : is_seen gone m.var ≡ false = sym (seen-other gone x.var m.var far) ∙ not-true _ w.1 in
    has-append (without x.var cur) (without x.var r) m
    ∙ elim (g.only m.var v.0) [
      | inl k ↦
          or_left _ _ (has-without x.var cur m ∙ and_from _ _ (has-left gone lits m ∙ and_from _ _ (in-whole p seen lits m before ∙ and_from _ _ k v.1) (not_from_false _ here)) apart_x)
      | inr k ↦
          let y = k.0 in
          let hy : has (without x.var r) y ≡ true = has-without x.var r y ∙ and_from _ _ k.1 (ap (λ (i : ℕ). not (eqb i x.var)) k.2 ∙ apart_x) in
          let t : has p (opposite y) ≡ true = has-take p n (opposite y) (others-false p n r y f hy) in
          or_right _ _ (same-var p (without x.var r) m y h t v.1 hy k.2)
    ])
    (λ q.
    elim (or_cases (has (without x.var cur) m) (has (without x.var r) m) (sym (has-append (without x.var cur) (without x.var r) m) ∙ q)) [
      | inl k ↦
          let w = and_parts (has cur m) (not (eqb m.var x.var)) (sym (has-without x.var cur m) ∙ k) in
          let v = and_parts (has lits m) (not (is_seen gone m.var)) (sym (has-left gone lits m) ∙ w.0) in
          let u = and_parts (is_seen seen m.var) (has p (opposite m)) (sym (in-whole p seen lits m before) ∙ v.0) in
          let far : m.var ≡ x.var → ⊥ = λ e. both_ways _ (not-true _ w.1) (eq-eqb _ _ e) in
          has-left goes later m
          ∙ and_from _ _ (in-whole p new later m after ∙ and_from _ _ (g.more m.var u.0) u.1) (not_from_false _ (seen-other gone x.var m.var far ∙ not-true _ v.1))
      | inr k ↦
          let w = and_parts (has r m) (not (eqb m.var x.var)) (sym (has-without x.var r m) ∙ k) in
          let far : m.var ≡ x.var → ⊥ = λ e. both_ways _ (not-true _ w.1) (eq-eqb _ _ e) in
          has-left goes later m
          ∙ and_from _ _ (in-whole p new later m after ∙ and_from _ _ (g.all m w.0) (has-take p n (opposite m) (others-false p n r m f k)))
          (not_from_false _ (seen-other gone x.var m.var far ∙ clear m w.0))
    ])

-- what the list of marks is at first
pub early-begun : (p : List Lit) (start n : ℕ) (seen : List Bool) (early : Clause) → seen ≡ replicate n false → early ≡ [] → AreEarly p start seen early
early-begun p start n seen early e f = subst (AreEarly p start seen) (sym f) (early-none p start n seen e)

pub all-false : (s : List Bool) (k : ℕ) → s ≡ replicate k false → s ≡ replicate (length s) false
all-false s k e = e ∙ ap (λ (n : ℕ). replicate n false) (sym (ap length e ∙ length-replicate k false))

pub collected-false : (p : List Lit) (seen : List Bool) (lits : Clause) → AreEarly p (length p) seen lits → is_false p lits ≡ true
collected-false p seen lits f = list_all-from_has (λ m. has p (opposite m)) lits (λ m h. (and_parts _ _ (sym (in-whole p seen lits m f) ∙ h)).1)

-- at the start nothing was taken out
pub shortening-start : (arena : Clauses) (t : Trail) (start n k : ℕ) (conflict : ClauseId) (steps : List ChainStep) (derived lits : Clause) (old seen gone : List Bool)
    → IsConsistent t.lits.items → old ≡ replicate n false → gone ≡ replicate k false
    → IsChainOf arena conflict steps derived → is_false t.lits.items derived ≡ true → IsAsserting (take start t.lits.items) derived
    → IsMarked old seen derived → AreEarly t.lits.items (length t.lits.items) seen lits → IsEachOnce lits → length seen ≡ vars_of t → length gone ≡ vars_of t
    → IsShortening arena t start conflict steps seen gone lits
shortening-start arena t start n k conflict steps derived lits old seen gone h e d c f a g early once sized same =
    let p = t.lits.items in
    let is : (m : Lit) → has (left gone lits) m ≡ has derived m = λ m.
    has-left gone lits m
    ∙ ap (λ (b : Bool). has lits m && not b) (ap (λ (s : List Bool). is_seen s m.var) d ∙ seen-none k m.var)
    ∙ and-true (has lits m)
    ∙ in-whole p seen lits m early
    ∙ sym (start-marks p n old seen derived h e g f m)
    in record {
      collected = early;
      once = once;
      sized_seen = sized;
      sized_gone = same;
      chained = (c.0, chain-same arena conflict steps derived (left gone lits) is c.1);
      asserting = asserting-same (take start p) derived (left gone lits) is a;
    }

-- one literal more was taken out
pub shortening-next : (arena : Clauses) (t : Trail) (start n : ℕ) (id conflict : ClauseId) (steps more : List ChainStep) (seen new gone goes : List Bool) (lits later r : Clause)
    → IsKept arena t → n < start → start ≤ length t.lits.items → get_or (reasons_of t) n None ≡ Some id → clause_at arena id.0 ≡ Some r
    → is_seen seen (get_or t.lits.items n zero_lit).var ≡ true → ((m : Lit) → has r m ≡ true → is_seen gone m.var ≡ false)
    → more ≡ steps ++ record { clause = id; pivot = (get_or t.lits.items n zero_lit).var } ∷ [] → goes ≡ set gone (get_or t.lits.items n zero_lit).var true
    → IsMarked seen new r → AreEarly t.lits.items (length t.lits.items) new later → IsEachOnce later → length new ≡ vars_of t
    → IsShortening arena t start conflict steps seen gone lits → IsShortening arena t start conflict more new goes later
shortening-next arena t start n id conflict steps more seen new gone goes lits later r s l b e o sx clear m d g after once sized v =
    let p = t.lits.items in
    let x = get_or p n zero_lit in
    let lt : n < length p = omega (arith, l, b) in
    let small : x.var < vars_of t = below-at (vars_of t) p x s.below (has-at p n zero_lit lt) in
    let w = some-parts (clause_at arena id.0) (λ c. is_forced (take n p) x c ≡ true) (s.reasoned n None zero_lit lt id e) in
    let same : r ≡ w.0 = Some-is _ _ (sym o ∙ w.1) in
    let forced : is_forced (take n p) x r ≡ true = subst (λ (c : Clause). is_forced (take n p) x c ≡ true) (sym same) w.2 in
    let f = whole-false p seen gone lits v.collected in
    let hx : has (left gone lits) (opposite x) ≡ true =
    has-left gone lits (opposite x)
    ∙ and_from _ _ (in-whole p seen lits (opposite x) v.collected ∙ and_from _ _ sx (ap (has p) (opposite-opposite x) ∙ has-at p n zero_lit lt)) (not_from_false _ (clear x (and_parts _ _ forced).0))
    in
    let z = ousted arena p (reasons_of t) n id (left gone lits) s.consistent s.reasoned lt e f hx in
    let q : r ≡ z.reason = Some-is _ _ (sym o ∙ z.is) in
    let is : (y : Lit) → has (left (set gone x.var true) later) y ≡ has (without x.var (left gone lits) ++ without x.var r) y =
    left-next p n seen new gone lits later r s.consistent lt (omega (arith, small, v.sized_gone)) sx forced clear g v.collected after
    in
    let step : ChainStep = record { clause = id; pivot = x.var } in
    subst (λ (gs : List Bool). IsShortening arena t start conflict more new gs later) (sym d)
    (subst (λ (xs : List ChainStep). IsShortening arena t start conflict xs new (set gone x.var true) later) (sym m)
    (record {
      collected = after;
      once = once;
      sized_seen = sized;
      sized_gone = length-set gone x.var true ∙ v.sized_gone;
      chained = (
        omega (arith, length-append steps (step ∷ []), v.chained.0),
        λ c k.
            chain-next (clause_at arena) steps step c (left gone lits) z.reason (without x.var (left gone lits) ++ without x.var z.reason) (left (set gone x.var true) later) (v.chained.1 c k) z.is z.result
            (λ y. is y ∙ ap (λ (u : Clause). has (without x.var (left gone lits) ++ without x.var u) y) q),
      );
      asserting = asserting-left p start n (left gone lits) r (left (set gone x.var true) later) s.consistent l b forced f is v.asserting;
    }))

-- one literal more is looked at
pub left-skip : (gone : List Bool) (c : Clause) (i : ℕ) → i < length c → is_seen gone (get_or c i zero_lit).var ≡ true → left gone (take (i + 1) c) ≡ left gone (take i c)
left-skip gone c i l h =
    filter_more (λ m. not (is_seen gone m.var)) c i zero_lit l
    ∙ ap (λ (b : Bool). left gone (take i c) ++ cond (not b) (get_or c i zero_lit ∷ []) []) h
    ∙ append-nil (left gone (take i c))

pub left-keep : (gone : List Bool) (c : Clause) (i : ℕ) → i < length c → is_seen gone (get_or c i zero_lit).var ≡ false → left gone (take (i + 1) c) ≡ left gone (take i c) ++ get_or c i zero_lit ∷ []
left-keep gone c i l h =
    filter_more (λ m. not (is_seen gone m.var)) c i zero_lit l
    ∙ ap (λ (b : Bool). left gone (take i c) ++ cond (not b) (get_or c i zero_lit ∷ []) []) h

absent-left : (gone : List Bool) (c : Clause) (y : Lit) → AllByRecursion (λ z. lit_eq y z ≡ false) c → AllByRecursion (λ z. lit_eq y z ≡ false) (left gone c)
absent-left gone [] y h = tt
absent-left gone (z ∷ zs) y h =
    let q = absent-left gone zs y h.1 in
    elim (is_seen gone z.var) as (λ (b : Bool). AllByRecursion (λ u. lit_eq y u ≡ false) (cond (not b) (z ∷ left gone zs) (left gone zs))) [
      | true ↦ q
      | false ↦ (h.0, q)
    ]

-- a part of a list with no literal twice
pub once-left : (gone : List Bool) (c : Clause) → IsEachOnce c → IsEachOnce (left gone c)
unfolding IsDistinct
once-left gone [] o = tt
once-left gone (y ∷ ys) o =
    let q = once-left gone ys o.1 in
    elim (is_seen gone y.var) as (λ (b : Bool). IsEachOnce (cond (not b) (y ∷ left gone ys) (left gone ys))) [
      | true ↦ q
      | false ↦ (absent-left gone ys y o.0, q)
    ]
