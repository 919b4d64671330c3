-- The clause that is derived from a conflict, as marks on its variables.
use Rattle.std.proofs.Common.{◌≡◌, ℕ, ◌+◌, ◌<◌, ◌≤◌, eqb, Bool, true, false, not, ◌&&◌, ◌||◌, inl, inr, List, [], ◌∷◌, ◌++◌, length, take, drop, get_or, set, replicate, Some, None, refl, sym, ap, ◌∙◌, subst, arith}
use Rattle.std.specs.Option.{ForSome, IsSomeAnd, is_some}
use Rattle.std.proofs.lemmas.Bool.{cases_eq, cases_lt, and_parts, and_from, or_cases, or_left, or_right, false≢true, both_ways, false_from_ne_true, not_from_false, ne_eqb, eq-eqb, not-true}
use Rattle.std.proofs.lemmas.List.{get_or-set_same, get_or-set_other, length-take-le, get_or-take, get_or-replicate, get_or_past, length-replicate}
use Rattle.std.proofs.Math.Seq.{take-length, take-append_seam}
use Rattle.std.proofs.lemmas.Map.Keys.{IsDistinct-push}
use Rattle.std.proofs.Math.Bool.{or-false}
use Rattle.std.specs.Bool.{MatchBool}
use Rattle.clause_arena.specs.declared.Lit.{Lit}
use Rattle.clause_arena.specs.declared.ClauseId.{ClauseId}
use Rattle.clause_arena.specs.Clause.{Clause, Clauses, clause_at, opposite, has, lit_eq, is_same, without, IsEachOnce}
use Rattle.clause_arena.proofs.Sets.{lit_eq-true, lit_eq-refl, list_all-at, list_all-from_has, has-append, has-without, bool_iff, is_same-at, is_same-from}
use Rattle.res_log.specs.declared.ChainStep.{ChainStep}
use Rattle.res_log.specs.Log.{chain}
use Rattle.res_log.specs.Partial.{is_false, IsAsserting}
use Rattle.cdcl.specs.Trail.{IsConsistent, IsReasoned, Reasons, AreForcedFrom}
use Rattle.cdcl.specs.Arrays.{ArePlaces}
use Rattle.cdcl.specs.Held.{IsChainOf}
use Rattle.cdcl.specs.Marks.{is_seen, IsMarked, AreEarly, IsUnmarked, HasMarked}
use Rattle.cdcl.proofs.Parts.{some-parts, some-and, Some-is}
use Rattle.cdcl.proofs.Forced.{opposite-opposite}
use Rattle.cdcl.proofs.Looks.{has-at}
use Rattle.cdcl.proofs.Gains.{apart, has-take, take-less, consistent-take}
use Rattle.cdcl.proofs.Arrays.{has-push, placed-has, has-placed}
use Rattle.cdcl.proofs.Joins.{has-more}
use Rattle.cdcl.proofs.Once.{lit_eq-equiv}
use Rattle.cdcl.proofs.Back.{GoesBack, zero_lit, get_or-any, take-back, place-in, free-at, var-cases, skip-back, next-back, false-subset, asserting, start-back}
use Rattle.cdcl.proofs.Empty.{Empties, empties-skip, empties-next, empties-start}
use Rattle.cdcl.proofs.Reasons.{Resolved, reason-step, keeps-others, back-some, false-take}
use Rattle.cdcl.proofs.Learned.{asserting-same}

and-false : (b : Bool) → (b && false) ≡ false
and-false true = refl
and-false false = refl

-- one literal more is looked at
pub marked-none : (seen : List Bool) → IsMarked seen seen []
marked-none seen = record { more = λ v h. h; all = λ m h. absurd (false≢true h); only = λ v h. inl h }

pub marked-skip : (old seen : List Bool) (c : Clause) (i : ℕ) → i < length c → is_seen seen (get_or c i zero_lit).var ≡ true → IsMarked old seen (take i c) → IsMarked old seen (take (i + 1) c)
marked-skip old seen c i l h g = record {
  more = g.more;
  all = λ m q.
      elim (or_cases (has (take i c) m) (lit_eq m (get_or c i zero_lit)) (sym (has-more c i m l) ∙ q)) [
        | inl a ↦ g.all m a
        | inr a ↦ ap (λ (x : Lit). is_seen seen x.var) (lit_eq-true m (get_or c i zero_lit) a) ∙ h
      ];
  only = λ v q. elim (g.only v q) [ inl a ↦ inl a | inr a ↦ inr (a.0, has-more c i a.0 l ∙ or_left _ _ a.1, a.2) ];
}

pub seen-same : (seen : List Bool) (v : ℕ) → v < length seen → is_seen (set seen v true) v ≡ true
seen-same seen v l = get_or-set_same seen v true false l

pub seen-other : (seen : List Bool) (v w : ℕ) → (w ≡ v → ⊥) → is_seen (set seen v true) w ≡ is_seen seen w
seen-other seen v w n = get_or-set_other seen v w true false n

pub marked-more : (old seen : List Bool) (c : Clause) (i : ℕ) → i < length c → (get_or c i zero_lit).var < length seen → IsMarked old seen (take i c) → IsMarked old (set seen (get_or c i zero_lit).var true) (take (i + 1) c)
marked-more old seen c i l b g =
    let x = get_or c i zero_lit in
    let keep : (v : ℕ) → is_seen seen v ≡ true → is_seen (set seen x.var true) v ≡ true = λ v h.
    elim (cases_eq v x.var) [
      | inl e ↦ ap (is_seen (set seen x.var true)) e ∙ seen-same seen x.var b
      | inr n ↦ seen-other seen x.var v n ∙ h
    ]
    in record {
      more = λ v h. keep v (g.more v h);
      all = λ m q.
          elim (or_cases (has (take i c) m) (lit_eq m x) (sym (has-more c i m l) ∙ q)) [
            | inl a ↦ keep m.var (g.all m a)
            | inr a ↦ ap (λ (y : Lit). is_seen (set seen x.var true) y.var) (lit_eq-true m x a) ∙ seen-same seen x.var b
          ];
      only = λ v q.
          elim (cases_eq v x.var) [
            | inl e ↦ inr (x, has-more c i x l ∙ or_right _ _ (lit_eq-refl x), sym e)
            | inr n ↦ elim (g.only v (sym (seen-other seen x.var v n) ∙ q)) [ inl a ↦ inl a | inr a ↦ inr (a.0, has-more c i a.0 l ∙ or_left _ _ a.1, a.2) ]
          ];
    }

-- a literal of the last level
pub early-late : (p : List Lit) (places : List ℕ) (start : ℕ) (seen : List Bool) (early : Clause) (l : Lit) → IsConsistent p → ArePlaces p places → start ≤ length p → l.var < length seen → is_seen seen l.var ≡ false → has p (opposite l) ≡ true → start ≤ get_or places l.var 0 → AreEarly p start seen early → AreEarly p start (set seen l.var true) early
early-late p places start seen early l h f b s n t late g m =
    elim (cases_eq m.var l.var) [
      | inr d ↦ g m ∙ ap (λ (x : Bool). x && has (take start p) (opposite m)) (sym (seen-other seen l.var m.var d))
      | inl e ↦
          let gone : has (take start p) (opposite m) ≡ false =
          false_from_ne_true _ (λ q.
          let k = has-placed p places start (opposite m) f b q in
          absurd (omega (arith, k, late, ap (λ (v : ℕ). get_or places v 0) e)))
          in
          g m
          ∙ ap (λ (x : Bool). x && has (take start p) (opposite m)) (ap (is_seen seen) e ∙ n)
          ∙ sym (ap (λ (x : Bool). is_seen (set seen l.var true) m.var && x) gone ∙ and-false (is_seen (set seen l.var true) m.var))
    ]

-- a literal of an earlier level
pub early-push : (p : List Lit) (places : List ℕ) (start : ℕ) (seen : List Bool) (early : Clause) (l : Lit) → IsConsistent p → ArePlaces p places → start ≤ length p → l.var < length seen → is_seen seen l.var ≡ false → has p (opposite l) ≡ true → get_or places l.var 0 < start → AreEarly p start seen early → AreEarly p start (set seen l.var true) (early ++ l ∷ [])
early-push p places start seen early l h f b s n t soon g m =
    elim (cases_eq m.var l.var) [
      | inr d ↦
          has-push early l m
          ∙ ap (λ (x : Bool). has early m || x) (false_from_ne_true _ (λ q. d (ap (λ (y : Lit). y.var) (lit_eq-true m l q))))
          ∙ or-false (has early m) ∙ g m ∙ ap (λ (x : Bool). x && has (take start p) (opposite m)) (sym (seen-other seen l.var m.var d))
      | inl e ↦
          let unseen : has early m ≡ false = g m ∙ ap (λ (x : Bool). x && has (take start p) (opposite m)) (ap (is_seen seen) e ∙ n) in
          let marked : is_seen (set seen l.var true) m.var ≡ true = ap (is_seen (set seen l.var true)) e ∙ seen-same seen l.var s in
          has-push early l m
          ∙ ap (λ (x : Bool). x || lit_eq m l) unseen
          ∙ bool_iff (lit_eq m l) (is_seen (set seen l.var true) m.var && has (take start p) (opposite m))
          (λ q. and_from _ _ marked (ap (λ (y : Lit). has (take start p) (opposite y)) (lit_eq-true m l q) ∙ placed-has p places start (opposite l) f b t soon))
          (λ q.
          elim (var-cases m l e) [
            | inl u ↦ ap (λ (y : Lit). lit_eq y l) u ∙ lit_eq-refl l
            | inr u ↦
                let k : has p l ≡ true = has-take p start l (ap (has (take start p)) (sym (ap opposite u ∙ opposite-opposite l)) ∙ (and_parts _ _ q).1) in
                absurd (apart p h l k t)
          ])
    ]

-- no literal twice
pub once-more : (p : List Lit) (start : ℕ) (seen : List Bool) (early : Clause) (l : Lit) → is_seen seen l.var ≡ false → AreEarly p start seen early → IsEachOnce early → IsEachOnce (early ++ l ∷ [])
once-more p start seen early l n g o = IsDistinct-push lit_eq-equiv early l o (g l ∙ ap (λ (x : Bool). x && has (take start p) (opposite l)) n)

-- the literal that is looked at is false, if its variable was not marked
pub open-false : (p : List Lit) (old seen : List Bool) (c d : Clause) (l : Lit) → ((m : Lit) → has c m ≡ true → is_seen old m.var ≡ false → has p (opposite m) ≡ true) → IsMarked old seen d → has c l ≡ true → is_seen seen l.var ≡ false → has p (opposite l) ≡ true
open-false p old seen c d l f g h n = f l h (false_from_ne_true _ (λ q. both_ways _ n (g.more l.var q)))

-- RESOLVING BACK: the clause so far is that of the literals of marked variables that were false before place i
pub record Resolving (arena : Clauses) (p : List Lit) (vars start : ℕ) (conflict : ClauseId) (steps : List ChainStep) (seen : List Bool) (early : Clause) (i : ℕ) : Type 0 where
  pub current : Clause
  pub back : GoesBack arena p start conflict steps current i
  pub marks : (m : Lit) → has current m ≡ (is_seen seen m.var && has (take i p) (opposite m))
  pub collected : AreEarly p start seen early
  pub once : IsEachOnce early
  pub sized : length seen ≡ vars

pub seen-none : (n v : ℕ) → is_seen (replicate n false) v ≡ false
seen-none n v = elim (cases_lt v n) [ inl a ↦ get_or-replicate n v false false a | inr a ↦ get_or_past (replicate n false) v false (omega (arith, a, length-replicate n false)) ]

pub early-none : (p : List Lit) (start n : ℕ) (seen : List Bool) → seen ≡ replicate n false → AreEarly p start seen []
early-none p start n seen e m = sym (ap (λ (b : Bool). b && has (take start p) (opposite m)) (ap (λ (s : List Bool). is_seen s m.var) e ∙ seen-none n m.var))

-- two false literals of one variable are one
pub same-var : (p : List Lit) (c : Clause) (m x : Lit) → IsConsistent p → has p (opposite x) ≡ true → has p (opposite m) ≡ true → has c x ≡ true → x.var ≡ m.var → has c m ≡ true
same-var p c m x h a b k e =
    elim (var-cases m x (sym e)) [
      | inl u ↦ ap (has c) u ∙ k
      | inr u ↦ absurd (apart p h x (ap (has p) (sym (ap opposite u ∙ opposite-opposite x)) ∙ b) a)
    ]

-- marks on the variables of a false clause
pub start-marks : (p : List Lit) (n : ℕ) (old seen : List Bool) (c : Clause) → IsConsistent p → old ≡ replicate n false → IsMarked old seen c → is_false p c ≡ true → (m : Lit) → has c m ≡ (is_seen seen m.var && has p (opposite m))
start-marks p n old seen c h e g f m =
    bool_iff _ _ (λ q. and_from _ _ (g.all m q) (list_all-at (λ x. has p (opposite x)) c f m q))
    (λ q.
    let w = and_parts _ _ q in
    elim (g.only m.var w.0) [
      | inl a ↦ absurd (both_ways _ (ap (λ (s : List Bool). is_seen s m.var) e ∙ seen-none n m.var) a)
      | inr a ↦ same-var p c m a.0 h (list_all-at (λ x. has p (opposite x)) c f a.0 a.1) w.1 a.1 a.2
    ])

pub resolving-start : (arena : Clauses) (p : List Lit) (vars start n : ℕ) (conflict : ClauseId) (steps : List ChainStep) (old seen : List Bool) (early lits : Clause)
    → IsConsistent p → clause_at arena conflict.0 ≡ Some lits → steps ≡ [] → start < length p → is_false p lits ≡ true → ((v : ℕ) → is_false (take start p) (without v lits) ≡ false)
    → old ≡ replicate n false → IsMarked old seen lits → AreEarly p start seen early → IsEachOnce early → length seen ≡ vars → Resolving arena p vars start conflict steps seen early (length p)
resolving-start arena p vars start n conflict steps old seen early lits h e f l a t b g u o s = record {
  current = lits;
  back = start-back arena p start conflict steps lits lits e refl f l a t;
  marks = λ m. start-marks p n old seen lits h b g a m ∙ ap (λ (q : List Lit). is_seen seen m.var && has q (opposite m)) (sym (take-length p));
  collected = u;
  once = o;
  sized = s;
}

-- one literal fewer, which is of no marked variable
less-marks : (s a e : Bool) → (e ≡ true → s ≡ false) → (s && (a || e)) ≡ (s && a)
less-marks true true e f = refl
less-marks true false true f = absurd (false≢true (sym (f refl)))
less-marks true false false f = refl
less-marks false a e f = refl

shorter : (p : List Lit) (i n : ℕ) (x : Lit) → i ≡ n + 1 → i ≤ length p → has (take i p) x ≡ (has (take n p) x || lit_eq x (get_or p n zero_lit))
shorter p i n x e l = ap (λ (q : List Lit). has q x) (sym (take-back p i n e l)) ∙ has-push (take n p) (get_or p n zero_lit) x

skip-marks : (p : List Lit) (seen : List Bool) (i n : ℕ) (m : Lit) → i ≡ n + 1 → i ≤ length p → is_seen seen (get_or p n zero_lit).var ≡ false → (is_seen seen m.var && has (take i p) (opposite m)) ≡ (is_seen seen m.var && has (take n p) (opposite m))
skip-marks p seen i n m e l s =
    ap (λ (b : Bool). is_seen seen m.var && b) (shorter p i n (opposite m) e l)
    ∙ less-marks (is_seen seen m.var) (has (take n p) (opposite m)) (lit_eq (opposite m) (get_or p n zero_lit)) (λ q. ap (λ (y : Lit). is_seen seen y.var) (lit_eq-true (opposite m) (get_or p n zero_lit) q) ∙ s)

pub resolving-skip : (arena : Clauses) (p : List Lit) (vars start : ℕ) (conflict : ClauseId) (steps : List ChainStep) (seen : List Bool) (early : Clause) (i n : ℕ) → i ≡ n + 1 → start < i → is_seen seen (get_or p n zero_lit).var ≡ false → Resolving arena p vars start conflict steps seen early i → Resolving arena p vars start conflict steps seen early n
resolving-skip arena p vars start conflict steps seen early i n e l s g = record {
  current = g.current;
  back =
      skip-back arena p start conflict steps g.current i n e l
      (g.marks (opposite (get_or p n zero_lit)) ∙ ap (λ (b : Bool). b && has (take i p) (opposite (opposite (get_or p n zero_lit)))) s) g.back;
  marks = λ m. g.marks m ∙ skip-marks p seen i n m e g.back.upper s;
  collected = g.collected;
  once = g.once;
  sized = g.sized;
}

-- the newest literal's negation is in the clause
pub current-newest : (p : List Lit) (seen : List Bool) (current : Clause) (i n : ℕ) → i ≡ n + 1 → i ≤ length p → is_seen seen (get_or p n zero_lit).var ≡ true → ((m : Lit) → has current m ≡ (is_seen seen m.var && has (take i p) (opposite m))) → has current (opposite (get_or p n zero_lit)) ≡ true
current-newest p seen current i n e l s f =
    f (opposite (get_or p n zero_lit))
    ∙ and_from _ _ s (shorter p i n (opposite (opposite (get_or p n zero_lit))) e l ∙ or_right _ _ (ap (λ (y : Lit). lit_eq y (get_or p n zero_lit)) (opposite-opposite (get_or p n zero_lit)) ∙ lit_eq-refl (get_or p n zero_lit)))

-- the marks of a resolvent
pub next-marks : (arena : Clauses) (p : List Lit) (seen new : List Bool) (current lits : Clause) (i n : ℕ) (id : ClauseId) (r : Resolved arena p n id current (get_or p n zero_lit))
    → IsConsistent p → i ≡ n + 1 → i ≤ length p → lits ≡ r.reason → is_seen seen (get_or p n zero_lit).var ≡ true → IsMarked seen new lits
    → ((m : Lit) → has current m ≡ (is_seen seen m.var && has (take i p) (opposite m)))
    → (m : Lit) → has (without (get_or p n zero_lit).var current ++ without (get_or p n zero_lit).var r.reason) m ≡ (is_seen new m.var && has (take n p) (opposite m))
next-marks arena p seen new current lits i n id r h e l q s g f m =
    let x = get_or p n zero_lit in
    let next = without x.var current ++ without x.var r.reason in
    let lt : n < length p = omega arith in
    let other : has (take n p) (opposite m) ≡ true → m.var ≡ x.var → ⊥ = λ a b. both_ways _ (free-at p n n h (omega arith) lt (opposite m) b) a in
    let hc = consistent-take p n (omega arith) h in
    bool_iff _ _
    (λ a.
    let b : has (take n p) (opposite m) ≡ true = list_all-at (λ y. has (take n p) (opposite y)) next r.falsified m a in
    and_from _ _
    (elim (or_cases (has (without x.var current) m) (has (without x.var r.reason) m) (sym (has-append (without x.var current) (without x.var r.reason) m) ∙ a)) [
      | inl k ↦ g.more m.var (and_parts _ _ (sym (f m) ∙ (and_parts _ _ (sym (has-without x.var current m) ∙ k)).0)).0
      | inr k ↦ g.all m (ap (λ (d : Clause). has d m) q ∙ (and_parts _ _ (sym (has-without x.var r.reason m) ∙ k)).0)
    ])
    b)
    (λ a.
    let w = and_parts _ _ a in
    let apart_x : not (eqb m.var x.var) ≡ true = not_from_false _ (ne_eqb _ _ (other w.1)) in
    elim (g.only m.var w.0) [
      | inl k ↦
          keeps-others x.var current r.reason m
          (has-without x.var current m ∙ and_from _ _ (f m ∙ and_from _ _ k (shorter p i n (opposite m) e l ∙ or_left _ _ w.1)) apart_x)
      | inr k ↦
          let y = k.0 in
          let hy : has next y ≡ true =
          has-append (without x.var current) (without x.var r.reason) y
          ∙ or_right _ _ (has-without x.var r.reason y ∙ and_from _ _ (ap (λ (d : Clause). has d y) (sym q) ∙ k.1) (ap (λ (v : ℕ). not (eqb v x.var)) k.2 ∙ apart_x))
          in
          same-var (take n p) next m y hc (list_all-at (λ z. has (take n p) (opposite z)) next r.falsified y hy) w.1 hy k.2
    ])

-- a marked literal before the newest one
others-left : (p : List Lit) (seen : List Bool) (current : Clause) (start i n : ℕ) → IsConsistent p → i ≡ n + 1 → i ≤ length p → HasMarked p seen start n → ((m : Lit) → has current m ≡ (is_seen seen m.var && has (take i p) (opposite m))) → is_false (take start p) (without (get_or p n zero_lit).var current) ≡ false
others-left p seen current start i n h e l k f =
    let x = get_or p n zero_lit in
    let y = get_or p k.0 zero_lit in
    let lt : k.0 < length p = omega (arith, k.2) in
    let m : length (take i p) ≡ i = length-take-le i p l in
    let z : k.0 < i = omega (arith, k.2) in
    let inside : has (take i p) y ≡ true = ap (has (take i p)) (sym (get_or-take i p k.0 zero_lit z)) ∙ has-at (take i p) k.0 zero_lit (omega (arith, z, m)) in
    let hy : has current (opposite y) ≡ true = f (opposite y) ∙ and_from _ _ (k.3 zero_lit) (ap (has (take i p)) (opposite-opposite y) ∙ inside) in
    let w : has (without x.var current) (opposite y) ≡ true =
    has-without x.var current (opposite y) ∙ and_from _ _ hy (not_from_false _ (ne_eqb _ _ (λ q. h k.0 n zero_lit k.2 (omega arith) q)))
    in
    false_from_ne_true _ (λ q.
    both_ways _ (free-at p start k.0 h k.1 lt y refl)
    (ap (has (take start p)) (sym (opposite-opposite y)) ∙ list_all-at (λ v. has (take start p) (opposite v)) (without x.var current) q (opposite y) w))

pub resolving-next : (arena : Clauses) (p : List Lit) (rs : Reasons) (vars start : ℕ) (conflict : ClauseId) (steps more : List ChainStep) (seen new : List Bool) (early later lits : Clause) (i n : ℕ) (id : ClauseId)
    → IsConsistent p → IsReasoned arena p rs → i ≡ n + 1 → start < i → get_or rs n None ≡ Some id → is_seen seen (get_or p n zero_lit).var ≡ true → HasMarked p seen start n
    → more ≡ steps ++ record { clause = id; pivot = (get_or p n zero_lit).var } ∷ [] → clause_at arena id.0 ≡ Some lits
    → IsMarked seen new lits → AreEarly p start new later → IsEachOnce later → length new ≡ vars
    → Resolving arena p vars start conflict steps seen early i → Resolving arena p vars start conflict more new later n
resolving-next arena p rs vars start conflict steps more seen new early later lits i n id h q e l o s k f a g u w z c =
    let x = get_or p n zero_lit in
    let r = reason-step arena p rs i n id c.current x h q e c.back.upper refl o c.back.falsified (current-newest p seen c.current i n e c.back.upper s c.marks) in
    let next = without x.var c.current ++ without x.var r.reason in
    let step : ChainStep = record { clause = id; pivot = x.var } in record {
      current = next;
      back =
          subst (λ (xs : List ChainStep). GoesBack arena p start conflict xs next n) (sym f)
          (next-back arena p start conflict steps c.current next i n step r.reason next e l r.is r.result (λ m. refl) r.falsified (keeps-others x.var c.current r.reason)
          (others-left p seen c.current start i n h e c.back.upper k c.marks) c.back);
      marks = next-marks arena p seen new c.current lits i n id r h e c.back.upper (Some-is _ _ (sym a ∙ r.is)) s g c.marks;
      collected = u;
      once = w;
      sized = z;
    }

-- what is marked of the reason
pub reason-false : (arena : Clauses) (p : List Lit) (rs : Reasons) (seen : List Bool) (current lits : Clause) (i n : ℕ) (id : ClauseId)
    → IsConsistent p → IsReasoned arena p rs → i ≡ n + 1 → i ≤ length p → get_or rs n None ≡ Some id → is_seen seen (get_or p n zero_lit).var ≡ true → clause_at arena id.0 ≡ Some lits
    → is_false (take i p) current ≡ true → ((m : Lit) → has current m ≡ (is_seen seen m.var && has (take i p) (opposite m)))
    → (m : Lit) → has lits m ≡ true → is_seen seen m.var ≡ false → has p (opposite m) ≡ true
reason-false arena p rs seen current lits i n id h q e l o s a b f m k t =
    let x = get_or p n zero_lit in
    let r = reason-step arena p rs i n id current x h q e l refl o b (current-newest p seen current i n e l s f) in
    let d : lits ≡ r.reason = Some-is _ _ (sym a ∙ r.is) in
    let z : has (without x.var current ++ without x.var r.reason) m ≡ true =
    has-append (without x.var current) (without x.var r.reason) m
    ∙ or_right _ _ (has-without x.var r.reason m ∙ and_from _ _ (ap (λ (y : Clause). has y m) (sym d) ∙ k) (not_from_false _ (ne_eqb _ _ (λ y. both_ways _ t (ap (is_seen seen) y ∙ s)))))
    in has-take p n (opposite m) (list_all-at (λ y. has (take n p) (opposite y)) (without x.var current ++ without x.var r.reason) r.falsified m z)

pub reason-live : (arena : Clauses) (p : List Lit) (rs : Reasons) (n : ℕ) (id : ClauseId) → IsReasoned arena p rs → n < length p → get_or rs n None ≡ Some id → is_some (clause_at arena id.0) ≡ true
reason-live arena p rs n id q l o = let w = some-parts _ _ (q n None zero_lit l id o) in ap is_some w.1

-- no literal of the last level is left but the newest one
pub others-early : (p : List Lit) (seen : List Bool) (current : Clause) (start i n : ℕ) → i ≡ n + 1 → i ≤ length p → start ≤ n → IsUnmarked p seen start n → ((m : Lit) → has current m ≡ (is_seen seen m.var && has (take i p) (opposite m))) → is_false (take start p) (without (get_or p n zero_lit).var current) ≡ true
others-early p seen current start i n e l b u f =
    let x = get_or p n zero_lit in
    list_all-from_has (λ m. has (take start p) (opposite m)) (without x.var current) (λ m h.
    let w : (has current m ≡ true) × (not (eqb m.var x.var) ≡ true) = and_parts (has current m) (not (eqb m.var x.var)) (sym (has-without x.var current m) ∙ h) in
    let y : (is_seen seen m.var ≡ true) × (has (take i p) (opposite m) ≡ true) = and_parts (is_seen seen m.var) (has (take i p) (opposite m)) (sym (f m) ∙ w.0) in
    let k = place-in p i (opposite m) l y.1 in
    let far : k.0 ≡ n → ⊥ = λ q. both_ways _ (not-true _ w.1) (eq-eqb m.var x.var (ap (λ (v : Lit). v.var) (sym (k.2 zero_lit) ∙ ap (λ (j : ℕ). get_or p j zero_lit) q))) in
    elim (cases_lt k.0 start) [
      | inl a ↦
          let len : length (take start p) ≡ start = length-take-le start p (omega arith) in
          ap (has (take start p)) (sym (get_or-take start p k.0 zero_lit a ∙ k.2 zero_lit)) ∙ has-at (take start p) k.0 zero_lit (omega (arith, a, len))
      | inr a ↦
          let lt : k.0 < n = elim (cases_lt k.0 n) [ inl c ↦ c | inr c ↦ absurd (far (omega (arith, c, k.1, e))) ] in
          absurd (both_ways _ (u k.0 zero_lit a lt) (ap (λ (v : Lit). is_seen seen v.var) (k.2 zero_lit) ∙ y.0))
    ])

-- the early literals and the newest one's negation
pub learned-same : (p : List Lit) (seen : List Bool) (early current : Clause) (start i n : ℕ) → IsConsistent p → i ≡ n + 1 → i ≤ length p → start ≤ n → is_seen seen (get_or p n zero_lit).var ≡ true → AreEarly p start seen early → ((m : Lit) → has current m ≡ (is_seen seen m.var && has (take i p) (opposite m))) → is_false (take start p) (without (get_or p n zero_lit).var current) ≡ true → (m : Lit) → has (early ++ opposite (get_or p n zero_lit) ∷ []) m ≡ has current m
learned-same p seen early current start i n h e l b s g f o m =
    let x = get_or p n zero_lit in
    bool_iff _ _
    (λ q.
    elim (or_cases (has early m) (lit_eq m (opposite x)) (sym (has-push early (opposite x) m) ∙ q)) [
      | inl a ↦
          let w : (is_seen seen m.var ≡ true) × (has (take start p) (opposite m) ≡ true) = and_parts (is_seen seen m.var) (has (take start p) (opposite m)) (sym (g m) ∙ a) in
          f m ∙ and_from _ _ w.0 (has-take (take i p) start (opposite m) (ap (λ (y : List Lit). has y (opposite m)) (take-less p start i (omega arith)) ∙ w.1))
      | inr a ↦ ap (has current) (lit_eq-true m (opposite x) a) ∙ current-newest p seen current i n e l s f
    ])
    (λ q.
    has-push early (opposite x) m
    ∙ elim (cases_eq m.var x.var) [
      | inl a ↦
          elim (var-cases m x a) [
            | inl u ↦
                let w : has (take i p) (opposite m) ≡ true = (and_parts (is_seen seen m.var) (has (take i p) (opposite m)) (sym (f m) ∙ q)).1 in
                let y : has p x ≡ true = has-at p n zero_lit (omega arith) in
                absurd (apart p h x y (has-take p i (opposite x) (ap (λ (z : Lit). has (take i p) (opposite z)) (sym u) ∙ w)))
            | inr u ↦ or_right _ _ (ap (λ (z : Lit). lit_eq z (opposite x)) u ∙ lit_eq-refl (opposite x))
          ]
      | inr a ↦
          let w : (is_seen seen m.var ≡ true) × (has (take i p) (opposite m) ≡ true) = and_parts (is_seen seen m.var) (has (take i p) (opposite m)) (sym (f m) ∙ q) in
          or_left _ _ (g m ∙ and_from _ _ w.0 (list_all-at (λ y. has (take start p) (opposite y)) (without x.var current) o m (has-without x.var current m ∙ and_from _ _ q (not_from_false _ (ne_eqb _ _ a)))))
    ])

pub chain-same : (arena : Clauses) (conflict : ClauseId) (steps : List ChainStep) (c d : Clause) → ((m : Lit) → has d m ≡ has c m) → ForSome (clause_at arena conflict.0) (λ x. IsSomeAnd (chain (clause_at arena) steps x) (λ r. is_same r c ≡ true)) → ForSome (clause_at arena conflict.0) (λ x. IsSomeAnd (chain (clause_at arena) steps x) (λ r. is_same r d ≡ true))
chain-same arena conflict steps c d s g x e =
    let w = some-parts (chain (clause_at arena) steps x) (λ r. is_same r c ≡ true) (g x e) in
    some-and (chain (clause_at arena) steps x) (λ r. is_same r d ≡ true) w.0 w.1 (is_same-from w.0 d (λ y. is_same-at w.0 c w.2 y ∙ sym (s y)))

pub record Derives (arena : Clauses) (p : List Lit) (start : ℕ) (conflict : ClauseId) (steps : List ChainStep) (learned : Clause) : Type 0 where
  pub chained : IsChainOf arena conflict steps learned
  pub falsified : is_false p learned ≡ true
  pub asserting : IsAsserting (take start p) learned
  pub once : IsEachOnce learned

pub resolving-done : (arena : Clauses) (p : List Lit) (vars start : ℕ) (conflict : ClauseId) (steps : List ChainStep) (seen : List Bool) (early learned lits : Clause) (i n : ℕ)
    → IsConsistent p → i ≡ n + 1 → start < i → is_seen seen (get_or p n zero_lit).var ≡ true → IsUnmarked p seen start n → clause_at arena conflict.0 ≡ Some lits → ((v : ℕ) → is_false (take start p) (without v lits) ≡ false)
    → learned ≡ early ++ opposite (get_or p n zero_lit) ∷ [] → Resolving arena p vars start conflict steps seen early i → Derives arena p start conflict steps learned
resolving-done arena p vars start conflict steps seen early learned lits i n h e l s u a two k g =
    let x = get_or p n zero_lit in
    let others = others-early p seen g.current start i n e g.back.upper (omega arith) u g.marks in
    let same : (m : Lit) → has learned m ≡ has g.current m = λ m. ap (λ (c : Clause). has c m) k ∙ learned-same p seen early g.current start i n h e g.back.upper (omega arith) s g.collected g.marks others m in
    let whole : is_false (take (n + 1) p) g.current ≡ true = ap (λ (j : ℕ). is_false (take j p) g.current) (sym e) ∙ g.back.falsified in
    let fresh : has early (opposite x) ≡ false =
    g.collected (opposite x) ∙ false_from_ne_true _ (λ q. both_ways _ (free-at p start n h (omega arith) (omega (arith, g.back.upper)) (opposite (opposite x)) refl) (and_parts _ _ q).1)
    in record {
      chained = (back-some arena p start conflict steps lits g.current i x.var a two others g.back, chain-same arena conflict steps g.current learned same g.back.exact);
      falsified = false-subset p g.current learned (λ m q. sym (same m) ∙ q) (false-take p i g.current g.back.falsified);
      asserting = asserting-same (take start p) g.current learned same (asserting p start n g.current h (omega arith) (omega (arith, g.back.upper)) (current-newest p seen g.current i n e g.back.upper s g.marks) whole others);
      once = subst IsEachOnce (sym k) (IsDistinct-push lit_eq-equiv early (opposite x) g.once fresh);
    }

-- the search back ends before the last level's begin
pub resolving-never : (arena : Clauses) (p : List Lit) (vars start : ℕ) (conflict : ClauseId) (steps : List ChainStep) (seen : List Bool) (early : Clause) (i : ℕ) → i ≤ start → Resolving arena p vars start conflict steps seen early i → ⊥
resolving-never arena p vars start conflict steps seen early i l g =
    both_ways _ g.back.above (ap (λ (k : ℕ). is_false (take k p) g.current) (let e : start ≡ i = omega (arith, g.back.lower) in e) ∙ g.back.falsified)

-- only the decision has no reason, and before it nothing of its level is left
pub resolving-decided : (p : List Lit) (rs : Reasons) (seen : List Bool) (start n : ℕ) → n < length rs → get_or rs n None ≡ None → AreForcedFrom rs (start + 1) → start ≤ n → HasMarked p seen start n → ⊥
resolving-decided p rs seen start n l e f b k = false≢true (sym (ap is_some e) ∙ f n None (omega (arith, k.1, k.2)) l)

pub unmarked-yes : (p : List Lit) (seen other : List Bool) (start n : ℕ) (b : Bool) → b ≡ true → other ≡ seen → MatchBool b (IsUnmarked p other start n) (HasMarked p other start n) → IsUnmarked p seen start n
unmarked-yes p seen other start n true e q h = subst (λ (s : List Bool). IsUnmarked p s start n) q h
unmarked-yes p seen other start n false e q h = absurd (false≢true e)

pub unmarked-no : (p : List Lit) (seen other : List Bool) (start n : ℕ) (b : Bool) → b ≡ false → other ≡ seen → MatchBool b (IsUnmarked p other start n) (HasMarked p other start n) → HasMarked p seen start n
unmarked-no p seen other start n true e q h = absurd (false≢true (sym e))
unmarked-no p seen other start n false e q h = subst (λ (s : List Bool). HasMarked p s start n) q h

-- what is written through a slice of a whole vector
pub written : (n : ℕ) (new old : List Bool) → length new ≡ n → take n (new ++ drop (length new) old) ≡ new
written n new old e = ap (λ (k : ℕ). take k (new ++ drop (length new) old)) (sym e) ∙ take-append_seam new (drop (length new) old)

pub seen-at : (seen : List Bool) (v : ℕ) (r : Bool) → r ≡ get_or seen v r → v < length seen → is_seen seen v ≡ r
seen-at seen v r e l = sym (e ∙ get_or-any seen v r false l)

-- RESOLVING TO THE EMPTY CLAUSE: the same where each literal was forced
pub record Emptying (arena : Clauses) (p : List Lit) (vars : ℕ) (conflict : ClauseId) (steps : List ChainStep) (seen : List Bool) (early : Clause) (i : ℕ) : Type 0 where
  pub current : Clause
  pub back : Empties arena p conflict steps current i
  pub marks : (m : Lit) → has current m ≡ (is_seen seen m.var && has (take i p) (opposite m))
  pub collected : AreEarly p 0 seen early
  pub once : IsEachOnce early
  pub sized : length seen ≡ vars

pub emptying-start : (arena : Clauses) (p : List Lit) (vars n : ℕ) (conflict : ClauseId) (steps : List ChainStep) (old seen : List Bool) (early lits : Clause)
    → IsConsistent p → clause_at arena conflict.0 ≡ Some lits → steps ≡ [] → is_false p lits ≡ true → 0 < length lits
    → old ≡ replicate n false → IsMarked old seen lits → AreEarly p 0 seen early → IsEachOnce early → length seen ≡ vars → Emptying arena p vars conflict steps seen early (length p)
emptying-start arena p vars n conflict steps old seen early lits h e f a t b g u o s = record {
  current = lits;
  back = empties-start arena p conflict steps lits lits e refl f a t;
  marks = λ m. start-marks p n old seen lits h b g a m ∙ ap (λ (q : List Lit). is_seen seen m.var && has q (opposite m)) (sym (take-length p));
  collected = u;
  once = o;
  sized = s;
}

pub emptying-skip : (arena : Clauses) (p : List Lit) (vars : ℕ) (conflict : ClauseId) (steps : List ChainStep) (seen : List Bool) (early : Clause) (i n : ℕ) → i ≡ n + 1 → is_seen seen (get_or p n zero_lit).var ≡ false → Emptying arena p vars conflict steps seen early i → Emptying arena p vars conflict steps seen early n
emptying-skip arena p vars conflict steps seen early i n e s g = record {
  current = g.current;
  back =
      empties-skip arena p conflict steps g.current i n e
      (g.marks (opposite (get_or p n zero_lit)) ∙ ap (λ (b : Bool). b && has (take i p) (opposite (opposite (get_or p n zero_lit)))) s) g.back;
  marks = λ m. g.marks m ∙ skip-marks p seen i n m e g.back.upper s;
  collected = g.collected;
  once = g.once;
  sized = g.sized;
}

pub emptying-next : (arena : Clauses) (p : List Lit) (rs : Reasons) (vars : ℕ) (conflict : ClauseId) (steps more : List ChainStep) (seen new : List Bool) (early later lits : Clause) (i n : ℕ) (id : ClauseId)
    → IsConsistent p → IsReasoned arena p rs → i ≡ n + 1 → get_or rs n None ≡ Some id → is_seen seen (get_or p n zero_lit).var ≡ true
    → more ≡ steps ++ record { clause = id; pivot = (get_or p n zero_lit).var } ∷ [] → clause_at arena id.0 ≡ Some lits
    → IsMarked seen new lits → AreEarly p 0 new later → IsEachOnce later → length new ≡ vars
    → Emptying arena p vars conflict steps seen early i → Emptying arena p vars conflict more new later n
emptying-next arena p rs vars conflict steps more seen new early later lits i n id h q e o s f a g u w z c =
    let x = get_or p n zero_lit in
    let r = reason-step arena p rs i n id c.current x h q e c.back.upper refl o c.back.falsified (current-newest p seen c.current i n e c.back.upper s c.marks) in
    let next = without x.var c.current ++ without x.var r.reason in
    let step : ChainStep = record { clause = id; pivot = x.var } in record {
      current = next;
      back =
          subst (λ (xs : List ChainStep). Empties arena p conflict xs next n) (sym f)
          (empties-next arena p conflict steps c.current next i n step r.reason next e r.is r.result (λ m. refl) r.falsified c.back);
      marks = next-marks arena p seen new c.current lits i n id r h e c.back.upper (Some-is _ _ (sym a ∙ r.is)) s g c.marks;
      collected = u;
      once = w;
      sized = z;
    }
