-- A design without offences has one settled view, and one outcome of an edge.
use Rattle.std.proofs.Common.{◌≡◌, ℕ, ◌<◌, List, [], ◌∷◌, length, get_or, true, false, ◌⊎◌, inl, inr, refl, sym, ap, ◌∙◌, subst, arith}
use Rattle.std.specs.Prelude.{Contains, All}
use Rattle.std.specs.List.{AllPairs, AllByRecursion as Each}
use Rattle.std.proofs.lemmas.List.Sorted.{IsPermutation-sym, Contains-permutation}
use Rattle.std.proofs.lemmas.List.Elements.{recursion_from_All, All-from_recursion, Contains-get_or}
use Rattle.std.proofs.lemmas.Bool.{cases_order}
use Rattle.std.proofs.lemmas.List.{get_or_default}
use Rattle.v_tree.specs.declared.stmt.AssignmentKind.TheVariants.{Blocking, Nonblocking}
use Rattle.v_views.specs.declared.Sort.{Sort}
use Rattle.v_views.specs.declared.Sort.TheVariants.{Input, Net, Reg}
use Rattle.v_views.specs.Spots.{Spot, View, is_bit_of}
use Rattle.v_views.specs.Language.{Language}
use Rattle.v_views.specs.Names.{assigns, names}
use Rattle.v_views.specs.Frames.{Process, at_rest, updated, does_all, reads_outside, sets, sets_certain, writes_bit, Settled, ClockEdge, Apart}
use Rattle.v_views.specs.Refusals.{OtherProcess, ClockedSorts, Design, IsBit, IsView, IsFree, names_by_any, HaveSorts, OneDriver, OneProcess, AllDriven, NoLatch, InOrder, Itself, NoRace}
use Rattle.v_views.proofs.Bools.{or_left, or_right, or_cases, true_or_false, not_both, not_true}
use Rattle.v_views.proofs.Local.{With}
use Rattle.v_views.proofs.Settles.{Ordered, Whole, Reached, views_after, settled_once, stays, settles}
use Rattle.v_views.proofs.Edges.{each_less, idle_runs, AllOthers, each_at, each_get, at_contains, pairs_others, one_edge}
use Rattle.v_views.proofs.Assigned.{named, certain_assigns}

abbrev SomeOf : {X : Type 0} → (X → Type 0) → List X → Type 0
SomeOf P [] = ⊥
SomeOf P (p ∷ ps) = P p ⊎ SomeOf P ps

module _ {E : Type 0} (l : Language E) where
  -- of two drivers none writes what the other writes; the first reads nothing from outside that the second writes
  abbrev Disjoint : Process E → Process E → Type 0
  Disjoint c d = (x : Spot) → sets l c x ≡ true → sets l d x ≡ true → ⊥

  abbrev Later : Process E → Process E → Type 0
  Later c d = (x : Spot) → reads_outside l c x ≡ true → sets l d x ≡ true → ⊥

  abbrev Selfless : Process E → Type 0
  Selfless d = (x : Spot) → reads_outside l d x ≡ true → sets l d x ≡ true → ⊥

  abbrev pub Unset : List (Process E) → Spot → Type 0
  Unset ds x = Each (λ d. sets l d x ≡ false) ds

  unset_or : (ds : List (Process E)) (x : Spot) → Unset ds x ⊎ SomeOf (λ d. sets l d x ≡ true) ds
  unset_or [] x = inl tt
  unset_or (d ∷ ds) x = elim (true_or_false (sets l d x)) [
    | inl t ↦ inr (inl t)
    | inr f ↦ elim (unset_or ds x) [ inl n ↦ inl (f, n) | inr s ↦ inr (inr s) ]
  ]

  none_later : (d : Process E) (ds : List (Process E)) (x : Spot) → Each (Later d) ds → reads_outside l d x ≡ true → SomeOf (λ c. sets l c x ≡ true) ds → ⊥
  none_later d [] x L r s = s
  none_later d (c ∷ ds) x L r s = elim s [ inl t ↦ L.0 x r t | inr t ↦ none_later d ds x L.1 r t ]

  none_other : (d : Process E) (ds : List (Process E)) (x : Spot) → Each (Disjoint d) ds → sets l d x ≡ true → Unset ds x
  none_other d [] x L s = tt
  none_other d (c ∷ ds) x L s = (not_true _ (λ t. L.0 x s t), none_other d ds x L.1 s)

  ordered : (D : Spot → Type 0) (ds : List (Process E)) → AllOthers Disjoint ds → AllOthers Later ds → Each Selfless ds → ((x : Spot) → D x ⊎ SomeOf (λ d. sets l d x ≡ true) ds) → ((x : Spot) → D x → Unset ds x) → Ordered l D ds
  ordered D [] P L S c n = tt
  ordered D (d ∷ ds) P L S c n = (
    λ x r. elim (c x) [
      | inl k ↦ k
      | inr s ↦ elim s [ inl t ↦ absurd (S.0 x r t) | inr t ↦ absurd (none_later d ds x L.0 r t) ]
    ],
    λ x k. (n x k).0,
    ordered (With D (sets l d)) ds P.1 L.1 S.1
        (λ x. elim (c x) [ inl k ↦ inl (inl k) | inr s ↦ elim s [ inl t ↦ inl (inr t) | inr t ↦ inr t ] ])
        (λ x k. elim k [ inl t ↦ (n x t).1 | inr t ↦ none_other d ds x P.0 t ]),
  )

  reached : (D : Spot → Type 0) (ds : List (Process E)) (x : Spot) → D x ⊎ SomeOf (λ d. sets l d x ≡ true) ds → Reached l D ds x
  reached D [] x h = elim h [ inl k ↦ k | inr s ↦ absurd s ]
  reached D (d ∷ ds) x h = reached (With D (sets l d)) ds x (elim h [ inl k ↦ inl (inl k) | inr s ↦ elim s [ inl t ↦ inl (inr t) | inr t ↦ inr t ] ])

  unset_at : (ds : List (Process E)) (x : Spot) (d : Process E) → Unset ds x → Contains ds d → sets l d x ≡ true → ⊥
  unset_at ds x d n c s = not_both _ s (each_at (λ d. sets l d x ≡ false) d ds n (at_contains d ds c))

sorts : Reg ≡ Net → ⊥
sorts e = cc

module _ {E : Type 0} (m : Design E) where
  abbrev lang : Language E
  lang = m.language

  bit_set : (d : Process E) (x : Spot) → sets lang d x ≡ true → IsBit m x
  bit_set d x h = (named lang Blocking d.body x h).1

  pub name_set : (d : Process E) (x : Spot) → sets lang d x ≡ true → names lang Blocking d.body x.signal ≡ true
  name_set d x h = (named lang Blocking d.body x h).0

  -- two drivers write no common bit
  disjoint : HaveSorts m → OneDriver m → OneProcess m m.drivers → AllPairs (Disjoint lang) m.drivers
  disjoint H O P i j e lt hj x s t =
      let c = get_or m.drivers i e in
      let d = get_or m.drivers j e in
      elim (H i e (omega arith) x.signal (name_set c x s)) [
        | inl a ↦ elim (H j e hj x.signal (name_set d x t)) [
          | inl b ↦ P i j e lt hj a.0 b.0 x.signal
              (or_left (names lang Blocking c.body x.signal) (names lang Nonblocking c.body x.signal) (name_set c x s))
              (or_left (names lang Blocking d.body x.signal) (names lang Nonblocking d.body x.signal) (name_set d x t))
          | inr b ↦ sorts (sym a.1 ∙ b.1)
        ]
        | inr a ↦ O i j e lt hj x a.1 s t
      ]

  -- a driver writes for certain what it writes
  whole : HaveSorts m → OneDriver m → AllDriven m → NoLatch m → Each (Whole lang) m.drivers
  whole H O A L = each_get (Whole lang) m.drivers (λ i e lt x s.
      elim (H i e lt x.signal (name_set (get_or m.drivers i e) x s)) [
        | inl a ↦ L i e lt a.0 x (bit_set (get_or m.drivers i e) x s) (name_set (get_or m.drivers i e) x s)
        | inr a ↦ by_net i e lt x s a.1 (A x (bit_set (get_or m.drivers i e) x s) a.1)
      ])
    where
      by_net : (i : ℕ) (e : Process E) → i < length m.drivers → (x : Spot) → sets lang (get_or m.drivers i e) x ≡ true → m.sort x.signal ≡ Net → ((d : Process E) × Contains m.drivers d × (sets_certain lang d x ≡ true)) → sets_certain lang (get_or m.drivers i e) x ≡ true
      by_net i e lt x s n a = elim (cases_order i a.1.0) [
        | inl same ↦ subst (λ d. sets_certain lang d x ≡ true) (sym (there a.0 a.1 i e lt same)) a.2
        | inr o ↦ elim o [
          | inl before ↦ absurd (O i a.1.0 a.0 before a.1.1 x n (subst (λ d. sets lang d x ≡ true) (free i e a.0 lt) s) (subst (λ d. sets lang d x ≡ true) (sym a.1.2) (certain_assigns lang a.0.body x a.2)))
          | inr after ↦ absurd (O a.1.0 i a.0 after lt x n (subst (λ d. sets lang d x ≡ true) (sym a.1.2) (certain_assigns lang a.0.body x a.2)) (subst (λ d. sets lang d x ≡ true) (free i e a.0 lt) s))
        ]
      ]
        where
          free : (i : ℕ) (e d : Process E) → i < length m.drivers → get_or m.drivers i e ≡ get_or m.drivers i d
          free i e d lt = get_or_default m.drivers i e d lt

          there : (d : Process E) (c : Contains m.drivers d) (i : ℕ) (e : Process E) → i < length m.drivers → i ≡ c.0 → get_or m.drivers i e ≡ d
          there d c i e lt same = free i e d lt ∙ ap (λ j. get_or m.drivers j d) same ∙ c.2

  -- a bit that no driver writes is one of an input or a register
  free_bit : HaveSorts m → AllDriven m → NoLatch m → (x : Spot) → IsBit m x → Unset lang m.drivers x → IsFree m x
  free_bit H A L x b n = by_sort (m.sort x.signal) refl
    where
      unnamed : m.sort x.signal ≡ Reg → (i : ℕ) (e : Process E) → i < length m.drivers → names lang Blocking (get_or m.drivers i e).body x.signal ≡ false
      unnamed r i e lt =
          let d = get_or m.drivers i e in
          not_true _ (λ t. elim (H i e lt x.signal t) [
            | inl a ↦ unset_at lang m.drivers x d n (Contains-get_or m.drivers i e lt) (certain_assigns lang d.body x (L i e lt a.0 x b t))
            | inr a ↦ sorts (sym r ∙ a.1)
          ])

      by_sort : (t : Sort) → m.sort x.signal ≡ t → IsFree m x
      by_sort Input e = inl e
      by_sort Net e =
          let a = A x b e in
          absurd (unset_at lang m.drivers x a.0 n a.1 (certain_assigns lang a.0.body x a.2))
      by_sort Reg e = inr (e, unnamed e)

  pairs_itself : InOrder m → Each (Selfless lang) m.drivers
  pairs_itself R = recursion_from_All (Selfless lang) m.drivers R.itself

  -- the views that the drivers, in their order, make of any view
  abbrev pub settled_from : (ℕ → ℕ) → View → View
  settled_from u w = views_after lang u m.drivers w

  in_order : HaveSorts m → OneDriver m → OneProcess m m.drivers → InOrder m → Ordered lang (Unset lang m.drivers) m.drivers
  in_order H O P R =
      ordered lang (Unset lang m.drivers) m.drivers
      (pairs_others (Disjoint lang) m.drivers (disjoint H O P))
      (pairs_others (Later lang) m.drivers R.later)
      (pairs_itself R)
      (unset_or lang m.drivers)
      (λ x n. n)

  module _ (u : ℕ → ℕ) (H : HaveSorts m) (O : OneDriver m) (P : OneProcess m m.drivers) (A : AllDriven m) (L : NoLatch m) (R : InOrder m) where
    -- for all values of registers, inputs and unknown words there is a settled view
    pub is_settled : (w : View) → Settled lang u m.drivers (settled_from u w)
    is_settled w =
        All-from_recursion _ m.drivers (settles lang u m.drivers (Unset lang m.drivers) w (in_order H O P R) (whole H O A L))

    -- it has those values of what no driver writes
    pub keeps : (w : View) (x : Spot) → Unset lang m.drivers x → settled_from u w x ≡ w x
    keeps w x n = stays lang u m.drivers (Unset lang m.drivers) w x (in_order H O P R) n

    -- it has no bits but those of its signals
    pub is_view : (w : View) → IsView m w → IsView m (settled_from u w)
    is_view w W x b = keeps w x (none_set m.drivers) ∙ W x b
      where
        none_set : (ds : List (Process E)) → Unset lang ds x
        none_set [] = tt
        none_set (d ∷ ds) = (not_true _ (λ t. b (bit_set d x t)), none_set ds)

    -- and it is the only one: a settled view with the same registers and inputs is the same
    pub is_only : (w v : View) → IsView m w → IsView m v → Settled lang u m.drivers v → ((x : Spot) → IsBit m x → IsFree m x → w x ≡ v x) → (x : Spot) → settled_from u w x ≡ v x
    is_only w v W V S e x =
        settled_once lang u m.drivers (Unset lang m.drivers) w v (in_order H O P R) (whole H O A L) (recursion_from_All _ m.drivers S)
        (λ x n. elim (bit_or x) [
          | inl b ↦ e x b (free_bit H A L x b n)
          | inr b ↦ W x b ∙ sym (V x b)
        ]) x (reached lang (Unset lang m.drivers) m.drivers x (unset_or lang m.drivers x))
      where
        bit_or : (x : Spot) → IsBit m x ⊎ (IsBit m x → ⊥)
        bit_or x = elim (true_or_false (is_bit_of (m.language.shape x.signal) x.signal x)) [ inl t ↦ inl t | inr f ↦ inr (λ t. not_both _ t f) ]

  -- processes are apart; of what depends on a register only its own bits are needed
  apart : OneProcess m m.clocked → All (λ p. p.procedural ≡ true) m.clocked → NoRace m → AllPairs (Apart lang) m.clocked
  apart P Q N i j e lt hj =
      let p = get_or m.clocked i e in
      let q = get_or m.clocked j e in
      let hi : i < length m.clocked = omega arith in
      record {
        owns = λ x s t. P i j e lt hj (Q i e hi) (Q j e hj) x.signal (any_name p x s) (any_name q x t);
        first = λ x r s. let same = (N i j e x x hi hj r Itself (name_set q x s)).1 in omega arith;
        second = λ x r s. let same = (N j i e x x hj hi r Itself (name_set p x s)).1 in omega arith;
      }
    where
      any_name : (p : Process E) (x : Spot) → writes_bit lang p x ≡ true → names_by_any m p x.signal ≡ true
      any_name p x h = elim (or_cases (assigns lang Blocking p.body x) (assigns lang Nonblocking p.body x) h) [
        | inl t ↦ or_left (names lang Blocking p.body x.signal) (names lang Nonblocking p.body x.signal) (named lang Blocking p.body x t).0
        | inr t ↦ or_right (names lang Blocking p.body x.signal) (names lang Nonblocking p.body x.signal) (named lang Nonblocking p.body x t.1).0
      ]

  -- every order of the clocked processes gives what the order of the text gives
  pub one_outcome : (u : ℕ → ℕ) → OneProcess m m.clocked → All (λ p. p.procedural ≡ true) m.clocked → NoRace m → (v after : View) → ClockEdge lang u m.clocked v after → (x : Spot) → after x ≡ updated (does_all lang u m.clocked (at_rest v)) x
  one_outcome u P Q N v after c = one_edge lang u m.clocked v after (apart P Q N) c

  -- an edge leaves each bit that a driver writes
  pub wire_stays : (u : ℕ → ℕ) → HaveSorts m → OtherProcess m → ClockedSorts m → (v after : View) → ClockEdge lang u m.clocked v after → (i : ℕ) (e : Process E) → i < length m.drivers → (x : Spot) → sets lang (get_or m.drivers i e) x ≡ true → after x ≡ v x
  wire_stays u H O S v after c i e lt x s = c.gives x ∙ idle_runs lang u c.order (at_rest v) x (each_less (λ p. (g : ℕ) → names_by_any m p g ≡ true → g ≡ x.signal → ⊥) (λ p. writes_bit lang p x ≡ false) c.order (λ p h. not_true _ (λ t. h x.signal (any_name p x t) refl)) unnamed)
    where
      any_name : (p : Process E) (x : Spot) → writes_bit lang p x ≡ true → names_by_any m p x.signal ≡ true
      any_name p x h = elim (or_cases (assigns lang Blocking p.body x) (assigns lang Nonblocking p.body x) h) [
        | inl t ↦ or_left (names lang Blocking p.body x.signal) (names lang Nonblocking p.body x.signal) (named lang Blocking p.body x t).0
        | inr t ↦ or_right (names lang Blocking p.body x.signal) (names lang Nonblocking p.body x.signal) (named lang Nonblocking p.body x t.1).0
      ]

      one : (p : Process E) → Contains m.clocked p → names_by_any m p x.signal ≡ true → ⊥
      one p k t =
          let t' : names_by_any m (get_or m.clocked k.0 p) x.signal ≡ true = subst (λ q. names_by_any m q x.signal ≡ true) (sym k.2) t in
          let n = name_set (get_or m.drivers i e) x s in
          elim (H i e lt x.signal n) [
            | inl a ↦ O i e lt a.0 k.0 p k.1 x.signal (or_left _ (names lang Nonblocking (get_or m.drivers i e).body x.signal) n) t'
            | inr a ↦ sorts (sym (S k.0 p k.1 x.signal t') ∙ a.1)
          ]

      unnamed : Each (λ p. (g : ℕ) → names_by_any m p g ≡ true → g ≡ x.signal → ⊥) c.order
      unnamed = each_get _ c.order (λ k e lt g t same.
          let p = get_or c.order k e in
          one p (Contains-permutation c.order m.clocked p (IsPermutation-sym m.clocked c.order c.is_order) (Contains-get_or c.order k e lt)) (subst (λ g. names_by_any m p g ≡ true) same t))
