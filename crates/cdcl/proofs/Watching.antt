-- Clauses that are watched one by one.
use Rattle.std.proofs.Common.{◌≡◌, ℕ, ◌+◌, ◌<◌, ◌≤◌, true, false, ◌⊎◌, inl, inr, List, [], ◌∷◌, ◌++◌, length, take, get_or, set, Option, Some, None, refl, sym, ap, ◌∙◌, subst, arith, length-append}
use Rattle.std.specs.List.{Contains}
use Rattle.std.specs.Option.{ForSome, is_some, unwrap_or}
use Rattle.std.proofs.lemmas.Bool.{cases_Bool, both_ways, false≢true, false_from_ne_true, cases_lt, or_left, and_parts, and_from, not-true}
use Rattle.std.proofs.lemmas.List.{length-set, length-take-le, get_or-take, take-take, take_more}
use Rattle.std.proofs.lemmas.Map.Keys.{apart_from_distinct}
use Rattle.std.proofs.Math.Seq.{take-length}
use Rattle.std.proofs.lemmas.List.Elements.{Contains-append_left, Contains-push}
use Rattle.clause_arena.specs.declared.Lit.{Lit}
use Rattle.clause_arena.specs.declared.ClauseId.{ClauseId}
use Rattle.clause_arena.specs.Clause.{Clause, Clauses, clause_at, opposite, has, lit_eq, is_below, IsEachOnce}
use Rattle.clause_arena.proofs.Sets.{lit_eq-true, lit_eq-refl, list_any-from_has}
use Rattle.res_log.specs.Partial.{is_free, is_forced, is_open}
use Rattle.cdcl.specs.declared.watch.Pair.{Pair}
use Rattle.cdcl.specs.Trail.{Reasons, AllClauses, AreForcedFrom, IsLastDecision}
use Rattle.cdcl.specs.Watched.{IsGuarded, IsHeld, IsWatched, IsWatchedClause, IsSized, listed, slot_of, no_pair}
use Rattle.cdcl.specs.declared.trail.Trail.{Trail}
use Rattle.cdcl.specs.Table.{Table}
use Rattle.cdcl.specs.Held.{vars_of, reasons_of, IsKept}
use Rattle.cdcl.specs.Watching.{AreForcedBelow, HasNewest, IsAdded, IsBegun, IsWatching}
use Rattle.cdcl.proofs.Parts.{Some-is, open-some}
use Rattle.cdcl.proofs.Arrays.{below-at}
use Rattle.cdcl.proofs.Learned.{reasons-back}
use Rattle.cdcl.specs.Arrays.{reasons_along}
use Rattle.cdcl.proofs.Looks.{has-at}
use Rattle.cdcl.proofs.Sweeps.{spreads-push, spreads-refl}
use Rattle.cdcl.proofs.Gains.{all-more}
use Rattle.cdcl.proofs.Back.{zero_lit}
use Rattle.cdcl.proofs.Spread.{get_or-old, get_or-new}
use Rattle.cdcl.proofs.Watches.{guarded-zero, learned-first, learned-second, learned-held}
use Rattle.cdcl.proofs.Passing.{id_of, id-below, listed-other, listed-same, watched-push, watched-back, watched-decide}

lit-cases : (u v : Lit) → (u ≡ v) ⊎ (u ≡ v → ⊥)
lit-cases u v = elim (cases_Bool (lit_eq u v)) [ inl a ↦ inl (lit_eq-true u v a) | inr a ↦ inr (λ e. both_ways _ a (ap (λ (y : Lit). lit_eq u y) (sym e) ∙ lit_eq-refl u)) ]

-- an id is put under a literal
pub added-kept : (lists : List (List ClauseId)) (z v : Lit) (x y : ClauseId) → slot_of z < length lists → Contains (listed lists v) y → Contains (listed (set lists (slot_of z) (listed lists z ++ x ∷ [])) v) y
added-kept lists z v x y lt k =
    let xs = listed lists z ++ x ∷ [] in
    elim (lit-cases v z) [
      | inl a ↦
          subst (λ (u : Lit). Contains (listed (set lists (slot_of z) xs) u) y) (sym a)
          (subst (λ (ys : List ClauseId). Contains ys y) (sym (listed-same lists z xs lt)) (Contains-append_left (listed lists z) (x ∷ []) y (subst (λ (u : Lit). Contains (listed lists u) y) a k)))
      | inr a ↦ subst (λ (ys : List ClauseId). Contains ys y) (sym (listed-other lists v z xs a)) k
    ]

pub added-new : (lists : List (List ClauseId)) (z : Lit) (x : ClauseId) → slot_of z < length lists → Contains (listed (set lists (slot_of z) (listed lists z ++ x ∷ [])) z) x
added-new lists z x lt = subst (λ (ys : List ClauseId). Contains ys x) (sym (listed-same lists z (listed lists z ++ x ∷ []) lt)) (Contains-push (listed lists z) x)

-- one more id
pub watched-more : (arena : Clauses) (p : List Lit) (rs : Reasons) (h : ℕ) (lists more : List (List ClauseId)) (pairs : List Pair) (o : Option Clause) (two : Pair)
    → length pairs ≡ length arena
    → ((l : Lit) (x : ClauseId) → Contains (listed lists l) x → Contains (listed more l) x)
    → ForSome o (λ c. IsWatchedClause p rs h more (id_of (length arena)) c two)
    → IsWatched arena p rs h lists pairs → IsWatched (arena ++ o ∷ []) p rs h more (pairs ++ two ∷ [])
watched-more arena p rs h lists more pairs o two n k f g id c e =
    elim (cases_lt id.0 (length arena)) [
      | inl a ↦
          let t = g id c (sym (get_or-old arena o id.0 None a) ∙ e) in
          subst (λ (q : Pair). IsWatchedClause p rs h more id c q) (sym (get_or-old pairs two id.0 no_pair (let b : id.0 < length pairs = omega (arith, a, n) in b))) (
            t.0,
            t.1,
            elim t.2 [
              | inl x ↦ inl x
              | inr x ↦
                  inr (record {
                    has_first = x.has_first;
                    has_second = x.has_second;
                    differ = x.differ;
                    first = x.first;
                    second = x.second;
                    lists_first = k _ id x.lists_first;
                    lists_second = k _ id x.lists_second;
                  })
            ],
          )
      | inr a ↦
          let b : id.0 < length (arena ++ o ∷ []) = id-below (arena ++ o ∷ []) id.0 c e in
          let m : length (arena ++ o ∷ []) ≡ length arena + 1 = length-append arena (o ∷ []) in
          let q : id.0 ≡ length arena = omega (arith, a, b, m) in
          let u : id ≡ id_of (length arena) = ap id_of q in
          let v : get_or (pairs ++ two ∷ []) id.0 no_pair ≡ two = ap (λ (z : ℕ). get_or (pairs ++ two ∷ []) z no_pair) (q ∙ sym n) ∙ get_or-new pairs two no_pair in
          let w : o ≡ Some c = sym (get_or-new arena o None) ∙ ap (λ (z : ℕ). clause_at (arena ++ o ∷ []) z) (sym q) ∙ e in
          subst (λ (x : ClauseId). IsWatchedClause p rs h more x c (get_or (pairs ++ two ∷ []) id.0 no_pair)) (sym u)
          (subst (λ (x : Pair). IsWatchedClause p rs h more (id_of (length arena)) c x) (sym v) (f c w))
    ]

-- where nothing was decided, a true literal holds a clause
pub held-bottom : (p : List Lit) (rs : Reasons) (c : Clause) (l : Lit) → length rs ≡ length p → has c l ≡ true → has p l ≡ true → AreForcedFrom rs 0 → IsHeld p rs c
held-bottom p rs c l n h t f = record {
  now = list_any-from_has (has p) c l h t;
  ends = λ k o lt e. absurd (false≢true (sym (ap is_some e) ∙ f k o (omega arith) (omega (arith, lt, n))));
}

forced-taken : (rs : Reasons) (end : ℕ) → end ≤ length rs → AreForcedBelow rs end → AreForcedFrom (take end rs) 0
forced-taken rs end le f k o a b =
    let m : length (take end rs) ≡ end = length-take-le end rs le in
    let lt : k < end = omega (arith, b, m) in
    ap is_some (get_or-take end rs k o lt) ∙ f k o lt

apart : (p : List Lit) (l m : Lit) → is_free p l ≡ true → has p (opposite m) ≡ true → lit_eq m l ≡ false
apart p l m f h = false_from_ne_true _ (λ e. both_ways _ (not-true _ (and_parts _ _ f).1) (ap (λ (y : Lit). has p (opposite y)) (sym (lit_eq-true m l e)) ∙ h))

-- the new clause after going back, where its free literal was made true
abbrev pub second_of : Lit → Option Lit → Lit
second_of l newest = unwrap_or newest l

pub learned-pair : (arena : Clauses) (p : List Lit) (rs : Reasons) (end : ℕ) (more : List (List ClauseId)) (c : Clause) (l : Lit) (newest : Option Lit) (id : ClauseId)
    → length rs ≡ length p → end < length p → is_free (take end p) l ≡ true → has c l ≡ true
    → HasNewest p rs c end newest
    → Contains (listed more l) id → Contains (listed more (second_of l newest)) id
    → IsWatchedClause (take end p ++ l ∷ []) (take end rs ++ Some id ∷ []) end more id c (record { first = l; second = second_of l newest })
learned-pair arena p rs end more c l None id n lt f h z a b =
    let x : length (take end p) ≡ end = length-take-le end p (omega arith) in
    let y : length (take end rs) ≡ end = length-take-le end rs (omega arith) in (
      h,
      h,
      inl (learned-held (take end p) (take end rs) c l id (y ∙ sym x) h (forced-taken rs end (omega arith) z)),
    )
learned-pair arena p rs end more c l (Some m) id n lt f h z a b =
    let x : length (take end p) ≡ end = length-take-le end p (omega arith) in
    let y : length (take end rs) ≡ end = length-take-le end rs (omega arith) in
    let w = z in (
      h,
      w.in_clause,
      inr (record {
        has_first = h;
        has_second = w.in_clause;
        differ = apart (take end p) l m f w.falsified;
        first = subst (λ (z : ℕ). IsGuarded (take end p ++ l ∷ []) (take end rs ++ Some id ∷ []) z c l) x (learned-first (take end p) (take end rs) c l id f);
        second =
            subst (λ (z : ℕ). IsGuarded (take end p ++ l ∷ []) (take end rs ++ Some id ∷ []) z c m) x
            (learned-second (take end p) (take end rs) c l m id (y ∙ sym x) h (λ k o q e.
            let j : k < end = omega (arith, q, x) in
            ap (λ (ps : List Lit). has ps (opposite m)) (take-take k end p (omega arith)) ∙ w.late k o j (sym (get_or-take end rs k o j) ∙ e)));
        lists_first = a;
        lists_second = b;
      }),
    )

pub learned-watched : (arena : Clauses) (p : List Lit) (rs : Reasons) (h end : ℕ) (lists more : List (List ClauseId)) (pairs : List Pair) (c : Clause) (l : Lit) (newest : Option Lit) (id : ClauseId)
    → length rs ≡ length p → end < length p → end ≤ h → ((o : Option ClauseId) → get_or rs end o ≡ None) → length pairs ≡ length arena → id.0 ≡ length arena → is_free (take end p) l ≡ true → has c l ≡ true
    → HasNewest p rs c end newest
    → ((v : Lit) (x : ClauseId) → Contains (listed lists v) x → Contains (listed more v) x) → Contains (listed more l) id → Contains (listed more (second_of l newest)) id
    → IsWatched arena p rs h lists pairs
    → IsWatched (arena ++ Some c ∷ []) (take end p ++ l ∷ []) (take end rs ++ Some id ∷ []) end more (pairs ++ record { first = l; second = second_of l newest } ∷ [])
learned-watched arena p rs h end lists more pairs c l newest id n lt le d m i f hl z kept a b g =
    let x : length (take end p) ≡ end = length-take-le end p (omega arith) in
    let y : length (take end rs) ≡ end = length-take-le end rs (omega arith) in
    let j : id ≡ id_of (length arena) = ap id_of i in
    watched-more arena (take end p ++ l ∷ []) (take end rs ++ Some id ∷ []) end lists more pairs (Some c) (record { first = l; second = second_of l newest }) m kept
    (λ e q.
    subst (λ (z : Clause). IsWatchedClause (take end p ++ l ∷ []) (take end rs ++ Some id ∷ []) end more (id_of (length arena)) z (record { first = l; second = second_of l newest })) (Some-is c e q)
    (subst (λ (z : ClauseId). IsWatchedClause (take end p ++ l ∷ []) (take end rs ++ Some id ∷ []) end more z c (record { first = l; second = second_of l newest })) j
    (learned-pair arena p rs end more c l newest id n lt f hl z a b)))
    (watched-push arena (take end p) (take end rs) end lists pairs l id (y ∙ sym x) (omega (arith, x)) (watched-back arena p rs h end lists pairs lt le d g))

pub added-two : (lists a b : List (List ClauseId)) (u v : Lit) (x : ClauseId) → slot_of u < length lists → slot_of v < length lists → a ≡ set lists (slot_of u) (listed lists u ++ x ∷ []) → b ≡ set a (slot_of v) (listed a v ++ x ∷ []) → ((l : Lit) (y : ClauseId) → Contains (listed lists l) y → Contains (listed b l) y) × Contains (listed b u) x × Contains (listed b v) x × (length b ≡ length lists)
added-two lists a b u v x su sv e f =
    let n : length a ≡ length lists = ap length e ∙ length-set lists (slot_of u) (listed lists u ++ x ∷ []) in
    let sa : slot_of v < length a = omega (arith, n, sv) in
    let step1 : (l : Lit) (y : ClauseId) → Contains (listed lists l) y → Contains (listed a l) y = λ l y k. subst (λ (ls : List (List ClauseId)). Contains (listed ls l) y) (sym e) (added-kept lists u l x y su k) in
    let step2 : (l : Lit) (y : ClauseId) → Contains (listed a l) y → Contains (listed b l) y = λ l y k. subst (λ (ls : List (List ClauseId)). Contains (listed ls l) y) (sym f) (added-kept a v l x y sa k) in (
      λ l y k. step2 l y (step1 l y k),
      step2 u x (subst (λ (ls : List (List ClauseId)). Contains (listed ls u) x) (sym e) (added-new lists u x su)),
      subst (λ (ls : List (List ClauseId)). Contains (listed ls v) x) (sym f) (added-new a v x sa),
      ap length f ∙ length-set a (slot_of v) (listed a v ++ x ∷ []) ∙ n,
    )

-- THE START: one more id of the arena is watched
pub begun-more : (arena : Clauses) (n : ℕ) (t u : Trail) (w v : Table) (two : Pair)
    → n < length arena → v.pairs ≡ w.pairs ++ two ∷ [] → ((l : Lit) (x : ClauseId) → Contains (listed w.lists l) x → Contains (listed v.lists l) x) → length v.lists ≡ length w.lists → v.head ≡ w.head
    → vars_of u ≡ vars_of t → AreForcedFrom (reasons_of u) 0 → IsWatched (take n arena) u.lits.items (reasons_of u) 0 w.lists w.pairs
    → ForSome (clause_at arena n) (λ c. IsWatchedClause u.lits.items (reasons_of u) 0 v.lists (id_of n) c two)
    → IsBegun arena n t w → IsBegun arena (n + 1) u v
begun-more arena n t u w v two lt ep kept el eh ev f g h b =
    let x : length (take n arena) ≡ n = length-take-le n arena (omega arith) in
    let y : length (take (n + 1) arena) ≡ n + 1 = length-take-le (n + 1) arena (omega arith) in
    let e : take (n + 1) arena ≡ take n arena ++ clause_at arena n ∷ [] = take_more arena n None lt in
    let z : length (w.pairs ++ two ∷ []) ≡ length w.pairs + 1 = length-append w.pairs (two ∷ []) in record {
      sized = record {
        one_pair_each = omega (arith, ap length ep, z, b.sized.one_pair_each, x, y);
        one_list_each = omega (arith, el, b.sized.one_list_each, ev);
      };
      watched =
          subst (λ (x : Clauses). IsWatched x u.lits.items (reasons_of u) 0 v.lists v.pairs) (sym e)
          (subst (λ (ps : List Pair). IsWatched (take n arena ++ clause_at arena n ∷ []) u.lits.items (reasons_of u) 0 v.lists ps) (sym ep)
          (watched-more (take n arena) u.lits.items (reasons_of u) 0 w.lists v.lists w.pairs (clause_at arena n) two b.sized.one_pair_each kept
          (subst (λ (k : ℕ). ForSome (clause_at arena n) (λ c. IsWatchedClause u.lits.items (reasons_of u) 0 v.lists (id_of k) c two)) (sym x) h) g));
      head = eh ∙ b.head;
      forced = f;
    }

-- a clause of two literals or more
pub begun-two : (p : List Lit) (rs : Reasons) (lists : List (List ClauseId)) (id : ClauseId) (c : Clause) → IsEachOnce c → 1 < length c → Contains (listed lists (get_or c 0 zero_lit)) id → Contains (listed lists (get_or c 1 zero_lit)) id → IsWatchedClause p rs 0 lists id c (record { first = get_or c 0 zero_lit; second = get_or c 1 zero_lit })
begun-two p rs lists id c d l a b =
    let x = get_or c 0 zero_lit in
    let y = get_or c 1 zero_lit in
    let hx = has-at c 0 zero_lit (omega arith) in
    let hy = has-at c 1 zero_lit l in (
      hx,
      hy,
      inr (record {
        has_first = hx;
        has_second = hy;
        differ = false_from_ne_true _ (λ e. both_ways _ (apart_from_distinct lit_eq c 0 1 zero_lit d (omega arith) l) (ap (lit_eq x) (lit_eq-true y x e) ∙ lit_eq-refl x));
        first = guarded-zero p rs c x;
        second = guarded-zero p rs c y;
        lists_first = a;
        lists_second = b;
      }),
    )

-- a clause of one literal, which is true
pub begun-one : (p : List Lit) (rs : Reasons) (lists : List (List ClauseId)) (id : ClauseId) (c : Clause) (l : Lit) → length rs ≡ length p → has c l ≡ true → has p l ≡ true → AreForcedFrom rs 0 → IsWatchedClause p rs 0 lists id c (record { first = l; second = l })
begun-one p rs lists id c l n h t f = (h, h, inl (held-bottom p rs c l n h t f))

pub forced-single : (p : List Lit) (c : Clause) → 0 < length c → length c ≤ 1 → is_forced p (get_or c 0 zero_lit) c ≡ true
forced-single p [] a b = absurd (omega arith)
forced-single p (x ∷ []) a b = and_from _ _ (or_left _ _ (lit_eq-refl x)) (and_from _ _ (or_left _ _ (lit_eq-refl x)) refl)
forced-single p (x ∷ y ∷ ys) a b = absurd (omega arith)

pub begun-all : (arena : Clauses) (n : ℕ) (t : Trail) (w : Table) → n ≡ length arena → IsBegun arena n t w → IsWatching arena t w
begun-all arena n t w e b =
    let u : take n arena ≡ arena = ap (λ (k : ℕ). take k arena) e ∙ take-length arena in record {
      sized = subst (λ (x : Clauses). IsSized x (vars_of t) w.lists w.pairs) u b.sized;
      watched =
          subst (λ (k : ℕ). IsWatched arena t.lits.items (reasons_of t) k w.lists w.pairs) (sym b.head)
          (subst (λ (x : Clauses). IsWatched x t.lits.items (reasons_of t) 0 w.lists w.pairs) u b.watched);
      within = omega (arith, b.head);
      forced = λ k o l h. b.forced k o (omega arith) h;
    }

pub first-below : (arena : Clauses) (n id : ℕ) (c : Clause) → AllClauses (is_below n) arena → AllClauses is_open arena → clause_at arena id ≡ Some c → (get_or c 0 zero_lit).var < n
first-below arena n id c b o e = below-at n c (get_or c 0 zero_lit) (b id c e) (has-at c 0 zero_lit (open-some c (o id c e)))

-- all decisions were looked at but those from the head on
pub looked-before : (rs : Reasons) (start head : ℕ) → start < length rs → ((o : Option ClauseId) → get_or rs start o ≡ None) → AreForcedFrom rs (head + 1) → start ≤ head
looked-before rs start head l d f =
    elim (cases_lt head start) [
      | inl a ↦ absurd (false≢true (sym (ap is_some (d None)) ∙ f start None (omega arith) l))
      | inr a ↦ a
    ]

looked-at : (rs : Reasons) (start head : ℕ) → IsLastDecision rs start → AreForcedFrom rs (head + 1) → start ≤ head
looked-at rs start head l f = looked-before rs start head l.0 l.1 f

pub learned-in : (arena more : Clauses) (n h : ℕ) (p q : List Lit) (rs ss : Reasons) (ls : List (List ClauseId)) (ps qs : List Pair) → more ≡ arena → q ≡ p → ss ≡ rs → n ≡ h → qs ≡ ps → IsWatched arena p rs h ls ps → IsWatched more q ss n ls qs
learned-in arena more n h p q rs ss ls ps qs a b c d e g =
    subst (λ (x : Clauses). IsWatched x q ss n ls qs) (sym a) (subst (λ (x : List Lit). IsWatched arena x ss n ls qs) (sym b) (subst (λ (x : Reasons). IsWatched arena p x n ls qs) (sym c)
    (subst (λ (x : ℕ). IsWatched arena p rs x ls qs) (sym d) (subst (λ (x : List Pair). IsWatched arena p rs h ls x) (sym e) g))))

-- A CLAUSE IS LEARNED: the trail t goes back to u, on which the free literal is made true
pub watching-learned : (arena more : Clauses) (t u v : Trail) (w x y : Table) (start end : ℕ) (c : Clause) (l : Lit) (newest : Option Lit) (id : ClauseId)
    → IsKept arena t → IsLastDecision (reasons_of t) start → end ≤ start → ((o : Option ClauseId) → get_or (reasons_of t) end o ≡ None)
    → u.lits.items ≡ take end t.lits.items → u.reasons.items ≡ t.reasons.items → vars_of u ≡ vars_of t
    → more ≡ arena ++ Some c ∷ [] → id.0 ≡ length arena
    → is_free u.lits.items l ≡ true → has c l ≡ true → HasNewest t.lits.items (reasons_of t) c end newest
    → v.lits.items ≡ u.lits.items ++ l ∷ [] → reasons_of v ≡ reasons_of u ++ Some id ∷ [] → vars_of v ≡ vars_of u
    → x.head ≡ end → x.lists ≡ w.lists → x.pairs ≡ w.pairs → IsAdded x y id (record { first = l; second = second_of l newest })
    → IsWatching arena t w → IsWatching more v y
watching-learned arena more t u v w x y start end c l newest id s last le d eu er ev m i f h z pv rv vv xh xl xp a g =
    let two : Pair = record { first = l; second = second_of l newest } in
    let p = t.lits.items in
    let rs = reasons_of t in
    let lt : end < length p = omega (arith, le, last.0, s.lengths) in
    let n : length (take end p) ≡ end = length-take-le end p (omega arith) in
    let k : length (take end rs) ≡ end = length-take-le end rs (omega (arith, lt, s.lengths)) in
    let ru : reasons_of u ≡ take end rs = ap (λ (by : Reasons). reasons_along by u.lits.items) er ∙ reasons-back t.reasons.items p u.lits.items end eu in
    let fp : is_free (take end p) l ≡ true = ap (λ (q : List Lit). is_free q l) (sym eu) ∙ f in
    let kept : (b : Lit) (j : ClauseId) → Contains (listed w.lists b) j → Contains (listed y.lists b) j = λ b j q. a.kept b j (subst (λ (ls : List (List ClauseId)). Contains (listed ls b) j) (sym xl) q) in
    let hy : y.head ≡ end = a.head ∙ xh in
    let lv : length v.lits.items ≡ end + 1 = omega (arith, ap length pv, length-append u.lits.items (l ∷ []), ap length eu, n) in
    let lr : length (reasons_of v) ≡ end + 1 = omega (arith, ap length rv, length-append (reasons_of u) (Some id ∷ []), ap length ru, k) in record {
      sized = record {
        one_pair_each = omega (arith, ap length a.pairs, length-append x.pairs (two ∷ []), ap length xp, g.sized.one_pair_each, ap length m, length-append arena (Some c ∷ []));
        one_list_each = omega (arith, a.lists, ap length xl, g.sized.one_list_each, ev, vv);
      };
      watched =
          learned-in (arena ++ Some c ∷ []) more y.head end (take end p ++ l ∷ []) v.lits.items (take end rs ++ Some id ∷ []) (reasons_of v) y.lists (w.pairs ++ two ∷ []) y.pairs
          m (pv ∙ ap (λ (q : List Lit). q ++ l ∷ []) eu) (rv ∙ ap (λ (q : Reasons). q ++ Some id ∷ []) ru) hy (a.pairs ∙ ap (λ (q : List Pair). q ++ two ∷ []) xp)
          (learned-watched arena p rs w.head end w.lists y.lists w.pairs c l newest id s.lengths lt (omega (arith, le, looked-at rs start w.head last g.forced)) d g.sized.one_pair_each i fp h z kept a.first a.second g.watched);
      within = omega (arith, hy, lv);
      forced = λ j o b e. absurd (omega (arith, b, e, hy, lr));
    }

-- a decision, where all was looked at
pub watching-decided : (arena : Clauses) (t u : Trail) (w : Table) (l : Lit) → IsKept arena t → w.head ≡ length t.lits.items → u.lits.items ≡ t.lits.items ++ l ∷ [] → reasons_of u ≡ reasons_of t ++ None ∷ [] → vars_of u ≡ vars_of t → IsWatching arena t w → IsWatching arena u w
watching-decided arena t u w l s e pu ru vu g =
    let n : length u.lits.items ≡ length t.lits.items + 1 = ap length pu ∙ length-append t.lits.items (l ∷ []) in
    let m : length (reasons_of u) ≡ length (reasons_of t) + 1 = ap length ru ∙ length-append (reasons_of t) (None ∷ []) in record {
      sized = record { one_pair_each = g.sized.one_pair_each; one_list_each = omega (arith, g.sized.one_list_each, vu) };
      watched =
          learned-in arena arena w.head w.head (t.lits.items ++ l ∷ []) u.lits.items (reasons_of t ++ None ∷ []) (reasons_of u) w.lists w.pairs w.pairs refl pu ru refl refl
          (watched-decide arena t.lits.items (reasons_of t) w.head w.lists w.pairs l s.lengths g.within g.watched);
      within = omega (arith, g.within, n);
      forced = λ k o b q. absurd (omega (arith, b, q, m, e, s.lengths));
    }

pub second-in : (p : List Lit) (rs : Reasons) (c : Clause) (end : ℕ) (newest : Option Lit) (l : Lit) → HasNewest p rs c end newest → has c l ≡ true → has c (second_of l newest) ≡ true
second-in p rs c end None l z h = h
second-in p rs c end (Some m) l z h = z.in_clause

-- the free literal of the new clause is made true
pub pushed-kept : (arena more : Clauses) (t u v : Trail) (c : Clause) (l : Lit) (id : ClauseId)
    → AllClauses (is_below (vars_of t)) arena → is_below (vars_of t) c ≡ true → vars_of u ≡ vars_of t → more ≡ arena ++ Some c ∷ [] → id.0 ≡ length arena → IsKept more u
    → is_free u.lits.items l ≡ true → is_forced u.lits.items l c ≡ true → v.lits.items ≡ u.lits.items ++ l ∷ [] → reasons_of v ≡ reasons_of u ++ Some id ∷ [] → vars_of v ≡ vars_of u → IsKept more v
pushed-kept arena more t u v c l id b bc e m i k f g ev er vv =
    let small : AllClauses (is_below (vars_of u)) more =
    subst (λ (n : ℕ). AllClauses (is_below n) more) (sym e) (subst (AllClauses (is_below (vars_of t))) (sym m) (all-more (is_below (vars_of t)) arena c b bc))
    in
    let at : clause_at more id.0 ≡ Some c = ap (clause_at more) i ∙ ap (λ (x : Clauses). clause_at x (length arena)) m ∙ get_or-new arena (Some c) None in
    (spreads-push more u u v id l c small at f g ev er vv (spreads-refl more u k)).kept
