-- What going through the clauses under a literal keeps.
use Rattle.std.proofs.Common.{◌≡◌, ℕ, suc, zero, ◌+◌, ◌-◌, ◌*◌, ◌<◌, ◌≤◌, Bool, true, false, ◌⊎◌, inl, inr, List, [], ◌∷◌, ◌++◌, length, take, get_or, set, Option, Some, None, refl, sym, ap, ◌∙◌, subst, arith, length-append, cond}
use Rattle.std.specs.List.{Contains, swap_remove}
use Rattle.std.specs.Option.{is_some}
use Rattle.std.proofs.lemmas.Bool.{cases_Bool, or_left, or_right, both_ways, false_from_ne_true, cases_lt, cases_eq}
use Rattle.std.proofs.lemmas.List.{length-set, get_or-set_same, get_or-set_other, get_or-take, length-take-le, get_or_past}
use Rattle.std.proofs.lemmas.List.Elements.{Contains-append_left, Contains-push}
use Rattle.std.proofs.lemmas.List.Sorted.{IsPermutation-swap_remove, Contains-permutation, length_permutation}
use Rattle.clause_arena.specs.declared.Lit.{Lit}
use Rattle.clause_arena.specs.declared.ClauseId.{ClauseId}
use Rattle.clause_arena.specs.Clause.{Clause, Clauses, clause_at, lit, opposite, has, lit_eq}
use Rattle.clause_arena.proofs.Sets.{list_any-from_has, lit_eq-true, lit_eq-refl}
use Rattle.res_log.specs.Partial.{is_true}
use Rattle.cdcl.specs.declared.watch.Pair.{Pair}
use Rattle.cdcl.specs.Trail.{Reasons, AreForcedFrom, State}
use Rattle.cdcl.proofs.Forced.{opposite-opposite}
use Rattle.cdcl.proofs.Parts.{Some-is, Some-None}
use Rattle.cdcl.specs.Watched.{IsGuarded, IsPaired, IsWatched, IsWatchedClause, Waits, AreVisited, IsSized, IsOther, listed, slot_of, no_pair}
use Rattle.cdcl.proofs.Back.{get_or-any}
use Rattle.cdcl.proofs.Looks.{has-at}
use Rattle.cdcl.proofs.Spread.{get_or-old, get_or-new}
use Rattle.cdcl.proofs.Arrays.{has-push}
use Rattle.cdcl.proofs.Watches.{guarded-push, guarded-open, true-push, held-push, guarded-next, guarded-decide, guarded-back, held-decide, held-back}

parity : (a b : ℕ) (s t : Bool) → 2 * a + cond s 1 0 ≡ 2 * b + cond t 1 0 → (a ≡ b) × (s ≡ t)
parity a b true true e = (omega (arith, e), refl)
parity a b false false e = (omega (arith, e), refl)
parity a b true false e = absurd (omega (arith, e))
parity a b false true e = absurd (omega (arith, e))

same-lit : (x y : Lit) → x.var ≡ y.var → x.negative ≡ y.negative → x ≡ y
same-lit x y a b = ap (λ (n : ℕ). lit x.negative n) a ∙ ap (λ (g : Bool). lit g y.var) b

-- a literal is told by its place
pub slot-one : (x y : Lit) → slot_of x ≡ slot_of y → x ≡ y
slot-one x y e = let w = parity x.var y.var x.negative y.negative e in same-lit x y w.0 w.1

-- who waits from place i on is at place i or waits from the next one on
pub waits-next : (xs : List ClauseId) (i : ℕ) (x y : ClauseId) → ((d : ClauseId) → get_or xs i d ≡ x) → Waits xs i y → (y ≡ x) ⊎ Waits xs (i + 1) y
waits-next xs i x y e w =
    elim (cases_eq w.0 i) [
      | inl a ↦ inl (sym w.3 ∙ ap (λ (j : ℕ). get_or xs j y) a ∙ e y)
      | inr a ↦ inr (w.0, omega (arith, w.1, a), w.2, w.3)
    ]

waits-none : (xs : List ClauseId) (n i : ℕ) (y : ClauseId) → n ≤ i → Waits xs i y → Waits xs n y
waits-none xs n i y le w = (w.0, omega (arith, w.1), w.2, w.3)

listed-waits : (lists : List (List ClauseId)) (v w : Lit) (id : ClauseId) → v ≡ w → Contains (listed lists v) id → Waits (listed lists w) 0 id
listed-waits lists v w id e k = subst (λ (x : Lit). Waits (listed lists x) 0 id) e (k.0, omega arith, k.1, k.2)

-- at first each clause that watches the literal waits
pub visited-start : (arena : Clauses) (p : List Lit) (rs : Reasons) (h : ℕ) (lists : List (List ClauseId)) (pairs : List Pair) (w : Lit) → IsWatched arena p rs h lists pairs → AreVisited arena p lists pairs w 0
visited-start arena p rs h lists pairs w g id c e q =
    elim (g id c e).2 [
      | inl a ↦ inl a.now
      | inr a ↦
          elim q [
            | inl u ↦ inr (listed-waits lists (get_or pairs id.0 no_pair).first w id u a.lists_first)
            | inr u ↦ inr (listed-waits lists (get_or pairs id.0 no_pair).second w id u a.lists_second)
          ]
    ]

pub visited-end : (arena : Clauses) (p : List Lit) (lists : List (List ClauseId)) (pairs : List Pair) (w : Lit) (n i : ℕ) → n ≤ i → AreVisited arena p lists pairs w i → AreVisited arena p lists pairs w n
visited-end arena p lists pairs w n i le g id c e q =
    elim (g id c e q) [ inl t ↦ inl t | inr t ↦ inr (waits-none (listed lists w) n i id le t) ]

-- the clause at a place of the list is true, or does not watch the literal
pub visited-skip : (arena : Clauses) (p : List Lit) (lists : List (List ClauseId)) (pairs : List Pair) (w : Lit) (i : ℕ) (x : ClauseId) → ((d : ClauseId) → get_or (listed lists w) i d ≡ x) → ((c : Clause) → clause_at arena x.0 ≡ Some c → ((get_or pairs x.0 no_pair).first ≡ w) ⊎ ((get_or pairs x.0 no_pair).second ≡ w) → is_true p c ≡ true) → AreVisited arena p lists pairs w i → AreVisited arena p lists pairs w (i + 1)
visited-skip arena p lists pairs w i x at f g id c e q =
    elim (g id c e q) [
      | inl t ↦ inl t
      | inr t ↦
          elim (waits-next (listed lists w) i x id at t) [
            | inl s ↦ inl (f c (ap (λ (y : ClauseId). clause_at arena y.0) (sym s) ∙ e) (subst (λ (y : ClauseId). ((get_or pairs y.0 no_pair).first ≡ w) ⊎ ((get_or pairs y.0 no_pair).second ≡ w)) s q))
            | inr s ↦ inr s
          ]
    ]

-- a forced literal
pub visited-push : (arena : Clauses) (p : List Lit) (l : Lit) (lists : List (List ClauseId)) (pairs : List Pair) (w : Lit) (i : ℕ) → AreVisited arena p lists pairs w i → AreVisited arena (p ++ l ∷ []) lists pairs w i
visited-push arena p l lists pairs w i g id c e q = elim (g id c e q) [ inl t ↦ inl (true-push p l c t) | inr t ↦ inr t ]

pub watched-push : (arena : Clauses) (p : List Lit) (rs : Reasons) (h : ℕ) (lists : List (List ClauseId)) (pairs : List Pair) (l : Lit) (x : ClauseId) → length rs ≡ length p → h ≤ length p → IsWatched arena p rs h lists pairs → IsWatched arena (p ++ l ∷ []) (rs ++ Some x ∷ []) h lists pairs
watched-push arena p rs h lists pairs l x n le g id c e =
    let t = g id c e in (
      t.0,
      t.1,
      elim t.2 [
        | inl a ↦ inl (held-push p rs c l x n a)
        | inr a ↦
            inr (record {
              has_first = a.has_first;
              has_second = a.has_second;
              differ = a.differ;
              first = guarded-push p rs h c (get_or pairs id.0 no_pair).first l x n le a.first;
              second = guarded-push p rs h c (get_or pairs id.0 no_pair).second l x n le a.second;
              lists_first = a.lists_first;
              lists_second = a.lists_second;
            })
      ],
    )

-- what the lists have after an id moved from one literal to another
abbrev pub moved_lists : List (List ClauseId) → Lit → Lit → ClauseId → ℕ → List (List ClauseId)
moved_lists lists z w x i =
    let more = set lists (slot_of z) (listed lists z ++ x ∷ []) in
    set more (slot_of w) (swap_remove (listed more w) i x)

pub listed-other : (lists : List (List ClauseId)) (v w : Lit) (xs : List ClauseId) → (v ≡ w → ⊥) → listed (set lists (slot_of w) xs) v ≡ listed lists v
listed-other lists v w xs n = get_or-set_other lists (slot_of w) (slot_of v) xs [] (λ e. n (slot-one v w e))

pub listed-same : (lists : List (List ClauseId)) (w : Lit) (xs : List ClauseId) → slot_of w < length lists → listed (set lists (slot_of w) xs) w ≡ xs
listed-same lists w xs lt = get_or-set_same lists (slot_of w) xs [] lt

ne-lt : (i j : ℕ) → i ≤ j → (j ≡ i → ⊥) → i < j
ne-lt i j le n = elim (cases_lt i j) [ inl a ↦ a | inr a ↦ absurd (n (omega arith)) ]

lt-last : (j n : ℕ) → j < n → (j ≡ n - 1 → ⊥) → j < n - 1
lt-last j n lt f = elim (cases_lt j (n - 1)) [ inl a ↦ a | inr a ↦ absurd (f (omega arith)) ]

abbrev pub id_of : ℕ → ClauseId
id_of n = record { 0 = n }

pub id-cases : (x y : ClauseId) → (x ≡ y) ⊎ (x ≡ y → ⊥)
id-cases x y = elim (cases_eq x.0 y.0) [ inl a ↦ inl (ap (λ (n : ℕ). id_of n) a) | inr a ↦ inr (λ e. a (ap (λ (z : ClauseId). z.0) e)) ]

-- what an id that moved from w to z leaves under each literal
module _ (lists : List (List ClauseId)) (z w : Lit) (x : ClauseId) (i : ℕ) (zw : z ≡ w → ⊥) (sz : slot_of z < length lists) (sw : slot_of w < length lists) (lt : i < length (listed lists w)) (at : (d : ClauseId) → get_or (listed lists w) i d ≡ x) where
  abbrev more : List (List ClauseId)
  more = set lists (slot_of z) (listed lists z ++ x ∷ [])

  more-w : listed more w ≡ listed lists w
  more-w = listed-other lists w z (listed lists z ++ x ∷ []) (λ e. zw (sym e))

  long : slot_of w < length more
  long = omega (arith, length-set lists (slot_of z) (listed lists z ++ x ∷ []), sw)

  at-w : listed (moved_lists lists z w x i) w ≡ swap_remove (listed lists w) i x
  at-w = listed-same more w (swap_remove (listed more w) i x) long ∙ ap (λ (xs : List ClauseId). swap_remove xs i x) more-w

  at-z : listed (moved_lists lists z w x i) z ≡ listed lists z ++ x ∷ []
  at-z = listed-other more z w (swap_remove (listed more w) i x) zw ∙ listed-same lists z (listed lists z ++ x ∷ []) sz

  at-v : (v : Lit) → (v ≡ z → ⊥) → (v ≡ w → ⊥) → listed (moved_lists lists z w x i) v ≡ listed lists v
  at-v v a b = listed-other more v w (swap_remove (listed more w) i x) b ∙ listed-other lists v z (listed lists z ++ x ∷ []) a

  -- the id is under z
  pub moved-new : Contains (listed (moved_lists lists z w x i) z) x
  moved-new = subst (λ (xs : List ClauseId). Contains xs x) (sym at-z) (Contains-push (listed lists z) x)

  lit-cases : (u v : Lit) → (u ≡ v) ⊎ (u ≡ v → ⊥)
  lit-cases u v = elim (cases_Bool (lit_eq u v)) [ inl a ↦ inl (lit_eq-true u v a) | inr a ↦ inr (λ e. both_ways _ a (ap (λ (y : Lit). lit_eq u y) (sym e) ∙ lit_eq-refl u)) ]

  -- what is under another literal stays
  pub moved-other : (v : Lit) (y : ClauseId) → (v ≡ w → ⊥) → Contains (listed lists v) y → Contains (listed (moved_lists lists z w x i) v) y
  moved-other v y n k =
      elim (lit-cases v z) [
        | inl a ↦
            subst (λ (u : Lit). Contains (listed (moved_lists lists z w x i) u) y) (sym a)
            (subst (λ (xs : List ClauseId). Contains xs y) (sym at-z) (Contains-append_left (listed lists z) (x ∷ []) y (subst (λ (u : Lit). Contains (listed lists u) y) a k)))
        | inr a ↦ subst (λ (xs : List ClauseId). Contains xs y) (sym (at-v v a n)) k
      ]

  gone-from : (y : ClauseId) → (y ≡ x → ⊥) → Contains (x ∷ swap_remove (listed lists w) i x) y → Contains (swap_remove (listed lists w) i x) y
  gone-from y n (zero, l, e) = absurd (n (sym e))
  gone-from y n (suc k, l, e) = (k, omega (arith, l), e)

  -- of another clause nothing is taken away
  pub moved-kept : (v : Lit) (y : ClauseId) → (y ≡ x → ⊥) → Contains (listed lists v) y → Contains (listed (moved_lists lists z w x i) v) y
  moved-kept v y n k =
      elim (lit-cases v w) [
        | inl a ↦
            subst (λ (u : Lit). Contains (listed (moved_lists lists z w x i) u) y) (sym a)
            (subst (λ (xs : List ClauseId). Contains xs y) (sym at-w)
            (gone-from y n (Contains-permutation (listed lists w) (x ∷ swap_remove (listed lists w) i x) y (IsPermutation-swap_remove (listed lists w) i x lt (sym (at x))) (subst (λ (u : Lit). Contains (listed lists u) y) a k))))
        | inr a ↦ moved-other v y a k
      ]

  waits-removed : (xs : List ClauseId) (y : ClauseId) → ((d : ClauseId) → get_or xs i d ≡ x) → (y ≡ x → ⊥) → i < length xs → Waits xs i y → Waits (swap_remove xs i x) i y
  waits-removed xs y a n l q =
      let j = q.0 in
      let far : j ≡ i → ⊥ = λ e. n (sym q.3 ∙ ap (λ (k : ℕ). get_or xs k y) e ∙ a y) in
      let last = get_or xs (length xs - 1) x in
      let m : length (set xs i last) ≡ length xs = length-set xs i last in
      let r : length (swap_remove xs i x) ≡ length xs - 1 = length-take-le (length xs - 1) (set xs i last) (omega (arith, m)) in
      elim (cases_eq j (length xs - 1)) [
        | inl e ↦
            let b : i < length xs - 1 = omega (arith, q.1, q.2, e, ne-lt i j q.1 far) in
            (i, omega arith, omega (arith, r, b), get_or-take (length xs - 1) (set xs i last) i y b ∙ get_or-set_same xs i last y l ∙ get_or-any xs (length xs - 1) x y (omega (arith, l)) ∙ ap (λ (k : ℕ). get_or xs k y) (sym e) ∙ q.3)
        | inr e ↦
            let b : j < length xs - 1 = lt-last j (length xs) q.2 e in
            (j, q.1, omega (arith, r, b), get_or-take (length xs - 1) (set xs i last) j y b ∙ get_or-set_other xs i j last y far ∙ q.3)
      ]

  -- another clause that waits still does
  pub moved-waits : (y : ClauseId) → (y ≡ x → ⊥) → Waits (listed lists w) i y → Waits (listed (moved_lists lists z w x i) w) i y
  moved-waits y n q = subst (λ (xs : List ClauseId). Waits xs i y) (sym at-w) (waits-removed (listed lists w) y at n lt q)

-- what is known of the other literal of a pair
other-kept : (p : List Lit) (rs : Reasons) (h : ℕ) (lists : List (List ClauseId)) (x : ClauseId) (c : Clause) (two : Pair) (w other : Lit) → IsOther two w other → IsPaired p rs h lists x c two → (has c other ≡ true) × (other ≡ w → ⊥) × IsGuarded p rs h c other × Contains (listed lists other) x
other-kept p rs h lists x c two w other o a =
    elim o [
      | inl q ↦
          subst (λ (y : Lit). (has c y ≡ true) × (y ≡ w → ⊥) × IsGuarded p rs h c y × Contains (listed lists y) x) (sym q.1)
          (a.has_second, (λ e. both_ways _ a.differ (ap (λ (y : Lit). lit_eq two.second y) (q.0 ∙ sym e) ∙ lit_eq-refl two.second)), a.second, a.lists_second)
      | inr q ↦
          subst (λ (y : Lit). (has c y ≡ true) × (y ≡ w → ⊥) × IsGuarded p rs h c y × Contains (listed lists y) x) (sym q.1)
          (a.has_first, (λ e. both_ways _ a.differ (ap (λ (y : Lit). lit_eq y two.first) (q.0 ∙ sym e) ∙ lit_eq-refl two.first)), a.first, a.lists_first)
    ]

other-has : (c : Clause) (two : Pair) (w other : Lit) → IsOther two w other → has c two.first ≡ true → has c two.second ≡ true → has c other ≡ true
other-has c two w other o f s = elim o [ inl q ↦ ap (has c) q.1 ∙ s | inr q ↦ ap (has c) q.1 ∙ f ]

watched-here : (p : List Lit) (rs : Reasons) (h : ℕ) (lists : List (List ClauseId)) (pairs : List Pair) (z w other : Lit) (x : ClauseId) (i : ℕ) (c : Clause)
    → (z ≡ w → ⊥) → slot_of z < length lists → slot_of w < length lists → i < length (listed lists w) → ((d : ClauseId) → get_or (listed lists w) i d ≡ x)
    → has c z ≡ true → has p (opposite z) ≡ false → lit_eq z other ≡ false → IsOther (get_or pairs x.0 no_pair) w other
    → IsWatchedClause p rs h lists x c (get_or pairs x.0 no_pair) → IsWatchedClause p rs h (moved_lists lists z w x i) x c (record { first = z; second = other })
watched-here p rs h lists pairs z w other x i c zw sz sw lt at hz fz ne o t = (
  hz,
  other-has c (get_or pairs x.0 no_pair) w other o t.0 t.1,
  elim t.2 [
    | inl a ↦ inl a
    | inr a ↦
        let k = other-kept p rs h lists x c (get_or pairs x.0 no_pair) w other o a in
        inr (record {
          has_first = hz;
          has_second = k.0;
          differ = false_from_ne_true _ (λ e. both_ways _ ne (ap (λ (y : Lit). lit_eq y other) (sym (lit_eq-true _ _ e)) ∙ lit_eq-refl other));
          first = guarded-open p rs h c z fz;
          second = k.2;
          lists_first = moved-new lists z w x i zw sz sw lt at;
          lists_second = moved-other lists z w x i zw sz sw lt at other x k.1 k.3;
        })
  ],
)

-- the clause x is watched by z in place of w, which became false
pub watched-moved : (arena : Clauses) (p : List Lit) (rs : Reasons) (h : ℕ) (lists : List (List ClauseId)) (pairs : List Pair) (z w other : Lit) (x : ClauseId) (i : ℕ) (c : Clause)
    → (z ≡ w → ⊥) → slot_of z < length lists → slot_of w < length lists → i < length (listed lists w) → ((d : ClauseId) → get_or (listed lists w) i d ≡ x)
    → x.0 < length pairs → clause_at arena x.0 ≡ Some c → has c z ≡ true → has p (opposite z) ≡ false → lit_eq z other ≡ false → IsOther (get_or pairs x.0 no_pair) w other
    → IsWatched arena p rs h lists pairs → IsWatched arena p rs h (moved_lists lists z w x i) (set pairs x.0 (record { first = z; second = other }))
watched-moved arena p rs h lists pairs z w other x i c zw sz sw lt at small ec hz fz ne o g id d e =
    let two : Pair = record { first = z; second = other } in
    elim (id-cases id x) [
      | inl s ↦
          let same : d ≡ c = Some-is d c (sym e ∙ ap (λ (y : ClauseId). clause_at arena y.0) s ∙ ec) in
          let q : get_or (set pairs x.0 two) id.0 no_pair ≡ two = ap (λ (y : ClauseId). get_or (set pairs x.0 two) y.0 no_pair) s ∙ get_or-set_same pairs x.0 two no_pair small in
          subst (λ (t : Pair). IsWatchedClause p rs h (moved_lists lists z w x i) id d t) (sym q)
          (subst (λ (y : ClauseId). IsWatchedClause p rs h (moved_lists lists z w x i) y d two) (sym s)
          (subst (λ (b : Clause). IsWatchedClause p rs h (moved_lists lists z w x i) x b two) (sym same)
          (watched-here p rs h lists pairs z w other x i c zw sz sw lt at hz fz ne o (g x c ec))))
      | inr s ↦
          let q : get_or (set pairs x.0 two) id.0 no_pair ≡ get_or pairs id.0 no_pair = get_or-set_other pairs x.0 id.0 two no_pair (λ b. s (ap (λ (n : ℕ). id_of n) b)) in
          let t = g id d e in
          subst (λ (u : Pair). IsWatchedClause p rs h (moved_lists lists z w x i) id d u) (sym q) (
            t.0,
            t.1,
            elim t.2 [
              | inl a ↦ inl a
              | inr a ↦ inr (record {
                has_first = a.has_first;
                has_second = a.has_second;
                differ = a.differ;
                first = a.first;
                second = a.second;
                lists_first = moved-kept lists z w x i zw sz sw lt at (get_or pairs id.0 no_pair).first id s a.lists_first;
                lists_second = moved-kept lists z w x i zw sz sw lt at (get_or pairs id.0 no_pair).second id s a.lists_second;
              })
            ],
          )
    ]

pub visited-moved : (arena : Clauses) (p : List Lit) (lists : List (List ClauseId)) (pairs : List Pair) (z w other : Lit) (x : ClauseId) (i : ℕ) (c : Clause)
    → (z ≡ w → ⊥) → (other ≡ w → is_true p c ≡ true) → slot_of z < length lists → slot_of w < length lists → i < length (listed lists w) → ((d : ClauseId) → get_or (listed lists w) i d ≡ x)
    → x.0 < length pairs → clause_at arena x.0 ≡ Some c → AreVisited arena p lists pairs w i → AreVisited arena p (moved_lists lists z w x i) (set pairs x.0 (record { first = z; second = other })) w i
visited-moved arena p lists pairs z w other x i c zw ow sz sw lt at small ec g id d e q =
    let two : Pair = record { first = z; second = other } in
    elim (id-cases id x) [
      | inl s ↦
          let u : get_or (set pairs x.0 two) id.0 no_pair ≡ two = ap (λ (y : ClauseId). get_or (set pairs x.0 two) y.0 no_pair) s ∙ get_or-set_same pairs x.0 two no_pair small in
          let same : c ≡ d = Some-is c d (sym ec ∙ ap (λ (y : ClauseId). clause_at arena y.0) (sym s) ∙ e) in
          elim q [
            | inl a ↦ absurd (zw (ap (λ (t : Pair). t.first) (sym u) ∙ a))
            | inr a ↦ inl (subst (λ (y : Clause). is_true p y ≡ true) same (ow (ap (λ (t : Pair). t.second) (sym u) ∙ a)))
          ]
      | inr s ↦
          let u : get_or (set pairs x.0 two) id.0 no_pair ≡ get_or pairs id.0 no_pair = get_or-set_other pairs x.0 id.0 two no_pair (λ b. s (ap (λ (n : ℕ). id_of n) b)) in
          elim (g id d e (subst (λ (t : Pair). (t.first ≡ w) ⊎ (t.second ≡ w)) u q)) [
            | inl a ↦ inl a
            | inr a ↦ inr (moved-waits lists z w x i zw sz sw lt at id s a)
          ]
    ]

-- THE NEXT LITERAL: once all clauses under its opposite were visited, the literal at place h was looked at
pub watched-next : (arena : Clauses) (p : List Lit) (rs : Reasons) (h : ℕ) (lists : List (List ClauseId)) (pairs : List Pair) (w : Lit) → length rs ≡ length p → h < length p → opposite (get_or p h w) ≡ w → AreForcedFrom rs (h + 1) → AreVisited arena p lists pairs w (length (listed lists w)) → IsWatched arena p rs h lists pairs → IsWatched arena p rs (h + 1) lists pairs
watched-next arena p rs h lists pairs w n lt q f v g id c e =
    let t = g id c e in (
      t.0,
      t.1,
      elim t.2 [
        | inl a ↦ inl a
        | inr a ↦
            let two = get_or pairs id.0 no_pair in
            let over : (two.first ≡ w) ⊎ (two.second ≡ w) → is_true p c ≡ true = λ u. elim (v id c e u) [ inl b ↦ b | inr b ↦ absurd (omega (arith, b.1, b.2)) ] in
            inr (record {
              has_first = a.has_first;
              has_second = a.has_second;
              differ = a.differ;
              first = guarded-next p rs h c two.first w n lt q f (λ u. over (inl u)) a.first;
              second = guarded-next p rs h c two.second w n lt q f (λ u. over (inr u)) a.second;
              lists_first = a.lists_first;
              lists_second = a.lists_second;
            })
      ],
    )

pub slot-below : (z : Lit) (vars : ℕ) (lists : List (List ClauseId)) → z.var < vars → length lists ≡ 2 * vars → slot_of z < length lists
slot-below z vars lists lt e = elim (cases_Bool z.negative) [
  | inl a ↦ let u : slot_of z ≡ 2 * z.var + 1 = ap (λ (n : Bool). 2 * z.var + cond n 1 0) a in omega (arith, u, e)
  | inr a ↦ let u : slot_of z ≡ 2 * z.var + 0 = ap (λ (n : Bool). 2 * z.var + cond n 1 0) a in omega (arith, u, e)
]

-- what is kept while the clauses under w are gone through
pub record Passing (arena : Clauses) (vars : ℕ) (p : List Lit) (rs : Reasons) (h : ℕ) (w : Lit) (lists : List (List ClauseId)) (pairs : List Pair) (i : ℕ) : Type 0 where
  pub gone : has p (opposite w) ≡ true
  pub head : h ≤ length p
  pub sized : IsSized arena vars lists pairs
  pub watched : IsWatched arena p rs h lists pairs
  pub visited : AreVisited arena p lists pairs w i

-- the other literal is in the clause
pub passing-other : (arena : Clauses) (vars : ℕ) (p : List Lit) (rs : Reasons) (h : ℕ) (w other : Lit) (lists : List (List ClauseId)) (pairs : List Pair) (i : ℕ) (x : ClauseId) (c : Clause) → Passing arena vars p rs h w lists pairs i → clause_at arena x.0 ≡ Some c → IsOther (get_or pairs x.0 no_pair) w other → has c other ≡ true
passing-other arena vars p rs h w other lists pairs i x c s e o = let t = s.watched x c e in other-has c (get_or pairs x.0 no_pair) w other o t.0 t.1

-- a clause forced a literal
pub passing-force : (arena : Clauses) (vars : ℕ) (p : List Lit) (rs : Reasons) (h : ℕ) (w l : Lit) (lists : List (List ClauseId)) (pairs : List Pair) (i : ℕ) (x : ClauseId) (c : Clause) → length rs ≡ length p → ((d : ClauseId) → get_or (listed lists w) i d ≡ x) → clause_at arena x.0 ≡ Some c → has c l ≡ true → Passing arena vars p rs h w lists pairs i → Passing arena vars (p ++ l ∷ []) (rs ++ Some x ∷ []) h w lists pairs (i + 1)
passing-force arena vars p rs h w l lists pairs i x c n at e hl s = record {
  gone = has-push p l (opposite w) ∙ or_left _ _ s.gone;
  head = omega (arith, s.head, length-append p (l ∷ []));
  sized = s.sized;
  watched = watched-push arena p rs h lists pairs l x n s.head s.watched;
  visited = visited-skip arena (p ++ l ∷ []) lists pairs w i x at
      (λ d f q. subst (λ (y : Clause). is_true (p ++ l ∷ []) y ≡ true) (Some-is c d (sym e ∙ f)) (list_any-from_has (has (p ++ l ∷ [])) c l hl (has-push p l l ∙ or_right _ _ (lit_eq-refl l))))
      (visited-push arena p l lists pairs w i s.visited);
}

-- where the other literal is the same, the clause is held
other-over : (arena : Clauses) (p : List Lit) (rs : Reasons) (h : ℕ) (w other : Lit) (lists : List (List ClauseId)) (pairs : List Pair) (x : ClauseId) (c : Clause) → clause_at arena x.0 ≡ Some c → IsOther (get_or pairs x.0 no_pair) w other → IsWatched arena p rs h lists pairs → other ≡ w → is_true p c ≡ true
other-over arena p rs h w other lists pairs x c e o s q =
    elim (s x c e).2 [
      | inl a ↦ a.now
      | inr a ↦ absurd ((other-kept p rs h lists x c (get_or pairs x.0 no_pair) w other o a).1 q)
    ]

pub id-below : (arena : Clauses) (n : ℕ) (c : Clause) → clause_at arena n ≡ Some c → n < length arena
id-below arena n c e = elim (cases_lt n (length arena)) [ inl a ↦ a | inr a ↦ absurd (Some-None c (sym e ∙ get_or_past arena n None a)) ]

-- a watch moved
pub passing-move : (arena : Clauses) (vars : ℕ) (p : List Lit) (rs : Reasons) (h : ℕ) (w z other : Lit) (lists : List (List ClauseId)) (pairs : List Pair) (i : ℕ) (x : ClauseId) (c : Clause)
    → i < length (listed lists w) → ((d : ClauseId) → get_or (listed lists w) i d ≡ x) → clause_at arena x.0 ≡ Some c → has c z ≡ true → has p (opposite z) ≡ false → lit_eq z other ≡ false → IsOther (get_or pairs x.0 no_pair) w other → z.var < vars → w.var < vars
    → Passing arena vars p rs h w lists pairs i → Passing arena vars p rs h w (moved_lists lists z w x i) (set pairs x.0 (record { first = z; second = other })) i
passing-move arena vars p rs h w z other lists pairs i x c lt at e hz fz ne o bz bw s =
    let zw : z ≡ w → ⊥ = λ q. both_ways _ fz (ap (λ (y : Lit). has p (opposite y)) q ∙ s.gone) in
    let sz = slot-below z vars lists bz s.sized.one_list_each in
    let sw = slot-below w vars lists bw s.sized.one_list_each in
    let two : Pair = record { first = z; second = other } in
    let small : x.0 < length pairs = omega (arith, id-below arena x.0 c e, s.sized.one_pair_each) in
    let grown = set lists (slot_of z) (listed lists z ++ x ∷ []) in record {
      gone = s.gone;
      head = s.head;
      sized = record {
        one_pair_each = length-set pairs x.0 two ∙ s.sized.one_pair_each;
        one_list_each = length-set grown (slot_of w) (swap_remove (listed grown w) i x) ∙ length-set lists (slot_of z) (listed lists z ++ x ∷ []) ∙ s.sized.one_list_each;
      };
      watched = watched-moved arena p rs h lists pairs z w other x i c zw sz sw lt at small e hz fz ne o s.watched;
      visited = visited-moved arena p lists pairs z w other x i c zw (other-over arena p rs h w other lists pairs x c e o s.watched) sz sw lt at small e s.visited;
    }

-- fewer wait
pub passing-smaller : (arena : Clauses) (vars : ℕ) (p : List Lit) (rs : Reasons) (h : ℕ) (w z : Lit) (lists : List (List ClauseId)) (pairs : List Pair) (i : ℕ) (x : ClauseId)
    → i < length (listed lists w) → ((d : ClauseId) → get_or (listed lists w) i d ≡ x) → has p (opposite z) ≡ false → z.var < vars → w.var < vars → Passing arena vars p rs h w lists pairs i → length (listed (moved_lists lists z w x i) w) - i < length (listed lists w) - i
passing-smaller arena vars p rs h w z lists pairs i x lt at fz bz bw s =
    let zw : z ≡ w → ⊥ = λ q. both_ways _ fz (ap (λ (y : Lit). has p (opposite y)) q ∙ s.gone) in
    let sz = slot-below z vars lists bz s.sized.one_list_each in
    let sw = slot-below w vars lists bw s.sized.one_list_each in
    let e = ap length (at-w lists z w x i zw sz sw lt at) in
    let f = length_permutation (listed lists w) (x ∷ swap_remove (listed lists w) i x) (IsPermutation-swap_remove (listed lists w) i x lt (sym (at x))) in
    omega (arith, e, f, lt)

pub passing-at : (arena : Clauses) (n m : ℕ) (p q : List Lit) (rs ss : Reasons) (h : ℕ) (w : Lit) (lists : List (List ClauseId)) (pairs : List Pair) (i : ℕ) → n ≡ m → p ≡ q → rs ≡ ss → Passing arena m q ss h w lists pairs i → Passing arena n p rs h w lists pairs i
passing-at arena n m p q rs ss h w lists pairs i e f g s =
    subst (λ (x : ℕ). Passing arena x p rs h w lists pairs i) (sym e) (subst (λ (x : List Lit). Passing arena m x rs h w lists pairs i) (sym f) (subst (λ (x : Reasons). Passing arena m q x h w lists pairs i) (sym g) s))

pub passing-in : (arena : Clauses) (vars : ℕ) (p : List Lit) (rs : Reasons) (h : ℕ) (w : Lit) (lists mlists : List (List ClauseId)) (pairs mpairs : List Pair) (i : ℕ) → lists ≡ mlists → pairs ≡ mpairs → Passing arena vars p rs h w mlists mpairs i → Passing arena vars p rs h w lists pairs i
passing-in arena vars p rs h w lists mlists pairs mpairs i e f s =
    subst (λ (x : List (List ClauseId)). Passing arena vars p rs h w x pairs i) (sym e) (subst (λ (x : List Pair). Passing arena vars p rs h w mlists x i) (sym f) s)

pub moved-is : (lists a b : List (List ClauseId)) (z w : Lit) (x : ClauseId) (i : ℕ) (p : List Lit) → a ≡ set lists (slot_of z) (listed lists z ++ x ∷ []) → ((d : ClauseId) → get_or (listed a w) i d ≡ d → b ≡ set a (slot_of w) (swap_remove (listed a w) i d)) → has p (opposite z) ≡ false → has p (opposite w) ≡ true → ((d : ClauseId) → get_or (listed lists w) i d ≡ x) → b ≡ moved_lists lists z w x i
moved-is lists a b z w x i p e f fz tw at =
    let wz : w ≡ z → ⊥ = λ q. both_ways _ fz (ap (λ (y : Lit). has p (opposite y)) (sym q) ∙ tw) in
    let same : listed a w ≡ listed lists w = ap (λ (ls : List (List ClauseId)). listed ls w) e ∙ listed-other lists w z (listed lists z ++ x ∷ []) wz in
    f x (ap (λ (xs : List ClauseId). get_or xs i x) same ∙ at x) ∙ ap (λ (ls : List (List ClauseId)). set ls (slot_of w) (swap_remove (listed ls w) i x)) e

-- the literal at the place is the opposite of w, so w is false
pub gone-here : (p : List Lit) (h : ℕ) (w : Lit) → h < length p → ((d : Lit) → get_or p h d ≡ opposite w) → has p (opposite w) ≡ true
gone-here p h w lt e = ap (has p) (sym (e w)) ∙ has-at p h w lt

pub here-push : (p : List Lit) (h : ℕ) (w l : Lit) → h < length p → ((d : Lit) → get_or p h d ≡ opposite w) → (d : Lit) → get_or (p ++ l ∷ []) h d ≡ opposite w
here-push p h w l lt e d = get_or-old p l h d lt ∙ e d

pub forced-push : (rs : Reasons) (n : ℕ) (x : ClauseId) → AreForcedFrom rs n → AreForcedFrom (rs ++ Some x ∷ []) n
forced-push rs n x f k o le lt =
    let m : length (rs ++ Some x ∷ []) ≡ length rs + 1 = length-append rs (Some x ∷ []) in
    elim (cases_lt k (length rs)) [
      | inl a ↦ ap is_some (get_or-old rs (Some x) k o a) ∙ f k o le a
      | inr a ↦
          let v : k ≡ length rs = omega arith in
          ap is_some (ap (λ (z : ℕ). get_or (rs ++ Some x ∷ []) z o) v ∙ get_or-new rs (Some x) o)
    ]

-- the next literal was looked at, from what `pass` answers
pub forced-later : (rs : Reasons) (n : ℕ) → AreForcedFrom rs n → AreForcedFrom rs (n + 1)
forced-later rs n f k o le lt = f k o (omega arith) lt

pub looked-next : (arena : Clauses) (vars : ℕ) (p : List Lit) (rs : Reasons) (h : ℕ) (lists : List (List ClauseId)) (pairs : List Pair) (w : Lit) → State arena vars p rs → h < length p → ((d : Lit) → get_or p h d ≡ opposite w) → AreForcedFrom rs (h + 1) → AreVisited arena p lists pairs w (length (listed lists w)) → IsWatched arena p rs h lists pairs → IsWatched arena p rs (h + 1) lists pairs
looked-next arena vars p rs h lists pairs w s lt e f v g =
    watched-next arena p rs h lists pairs w s.lengths lt (ap opposite (e w) ∙ opposite-opposite w) f v g

-- a decision, where all was looked at or not
pub watched-decide : (arena : Clauses) (p : List Lit) (rs : Reasons) (h : ℕ) (lists : List (List ClauseId)) (pairs : List Pair) (l : Lit) → length rs ≡ length p → h ≤ length p → IsWatched arena p rs h lists pairs → IsWatched arena (p ++ l ∷ []) (rs ++ None ∷ []) h lists pairs
watched-decide arena p rs h lists pairs l n le g id c e =
    let t = g id c e in (
      t.0,
      t.1,
      elim t.2 [
        | inl a ↦ inl (held-decide p rs c l n a)
        | inr a ↦
            inr (record {
              has_first = a.has_first;
              has_second = a.has_second;
              differ = a.differ;
              first = guarded-decide p rs h c (get_or pairs id.0 no_pair).first l n le a.first;
              second = guarded-decide p rs h c (get_or pairs id.0 no_pair).second l n le a.second;
              lists_first = a.lists_first;
              lists_second = a.lists_second;
            })
      ],
    )

-- back to the end of a level: neither lists nor pairs change
pub watched-back : (arena : Clauses) (p : List Lit) (rs : Reasons) (h e : ℕ) (lists : List (List ClauseId)) (pairs : List Pair) → e < length p → e ≤ h → ((o : Option ClauseId) → get_or rs e o ≡ None) → IsWatched arena p rs h lists pairs → IsWatched arena (take e p) (take e rs) e lists pairs
watched-back arena p rs h e lists pairs lt le d g id c q =
    let s : (k : ℕ) (o : Option ClauseId) → k < e → get_or (take e rs) k o ≡ get_or rs k o = λ k o b. get_or-take e rs k o b in
    let t = g id c q in (
      t.0,
      t.1,
      elim t.2 [
        | inl a ↦ inl (held-back p rs e c lt d s a)
        | inr a ↦
            inr (record {
              has_first = a.has_first;
              has_second = a.has_second;
              differ = a.differ;
              first = guarded-back p rs h e c (get_or pairs id.0 no_pair).first lt le d s a.first;
              second = guarded-back p rs h e c (get_or pairs id.0 no_pair).second lt le d s a.second;
              lists_first = a.lists_first;
              lists_second = a.lists_second;
            })
      ],
    )
