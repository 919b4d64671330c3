-- The pass from the right finds the first node that stands too deep.
use Rattle.std.proofs.Common.{◌≡◌, ℕ, suc, zero, ◌+◌, ◌-◌, ◌<◌, ◌≤◌, min, ◌⊎◌, inl, inr, List, [], ◌∷◌, ◌++◌, length, reverse, Ok, Err, Result, IfOk, refl, sym, ◌∙◌, ap, subst, append_assoc, append-nil, arith}
use Rattle.std.proofs.lemmas.List.{reverse-append}
use Rattle.std.proofs.lemmas.Bool.Decides.{eqb_tells, leb_tells}
use Rattle.std.specs.declared.option.Option.{Option}
use Rattle.std.specs.declared.option.Option.TheVariants.{None, Some}
use Rattle.node_depth.specs.declared.depth.Node.{Node}
use Rattle.node_depth.specs.Nodes.{Trees, none, node, count, height, post, Stands, here, inside, after, Deep}
use Rattle.node_depth.specs.Scan.{copies, least_of, keep, scan}

-- the pass over the trees themselves, from the right
abbrev lowest : ℕ → Trees → Option ℕ → Option ℕ
lowest v none best = best
lowest v (node p a b) best = lowest (v - 1) a (keep v p (lowest v b best))

copies_turn : (n v : ℕ) (st : List ℕ) → v ∷ copies n v st ≡ copies n v (v ∷ st)
copies_turn zero v st = refl
copies_turn (suc n) v st = ap (λ x. v ∷ x) (copies_turn n v st)

from_right : (n : Node) (xs ys ns : List Node) → reverse (xs ++ n ∷ ys) ++ ns ≡ reverse ys ++ (n ∷ (reverse xs ++ ns))
from_right n xs ys ns =
    ap (λ x. x ++ ns) (reverse-append xs (n ∷ ys) ∙ ap (λ x. x ++ reverse xs) (reverse-append (n ∷ []) ys))
    ∙ append_assoc (reverse ys ++ n ∷ []) (reverse xs) ns ∙ append_assoc (reverse ys) (n ∷ []) (reverse xs ++ ns)

scan_post : (f : Trees) (v : ℕ) (st : List ℕ) (best : Option ℕ) (ns : List Node) → scan (copies (count f) v st) best (reverse (post f) ++ ns) ≡ scan st (lowest v f best) ns
scan_post none v st best ns = refl
scan_post (node p a b) v st best ns =
    let n : Node = record { inside = count a; place = p } in
    ap (scan (copies (suc (count b)) v st) best) (from_right n (post a) (post b) ns)
    ∙ ap (λ x. scan x best (reverse (post b) ++ (n ∷ (reverse (post a) ++ ns)))) (copies_turn (count b) v st)
    ∙ scan_post b v (v ∷ st) best (n ∷ (reverse (post a) ++ ns))
    ∙ scan_post a (v - 1) st (keep v p (lowest v b best)) ns

scan_whole : (f : Trees) (v : ℕ) → count f ≡ 1 → scan (v ∷ []) None (reverse (post f)) ≡ lowest v f None
scan_whole f v one =
    ap (scan (v ∷ []) None) (sym (append-nil (reverse (post f))))
    ∙ ap (λ n. scan (copies n v []) None (reverse (post f) ++ [])) (sym one)
    ∙ scan_post f v [] None []

-- the least number of which P holds, if there is one
abbrev Least : (ℕ → Type 0) → Option ℕ → Type 0
Least P None = (j : ℕ) → P j → ⊥
Least P (Some i) = P i × ((j : ℕ) → P j → i ≤ j)

least_same : (P Q : ℕ → Type 0) (r : Option ℕ) → ((j : ℕ) → P j → Q j) → ((j : ℕ) → Q j → P j) → Least P r → Least Q r
least_same P Q None to from h = λ j q. h j (from j q)
least_same P Q (Some i) to from h = (to i h.0, λ j q. h.1 j (from j q))

least_one : (P : ℕ → Type 0) (p : ℕ) (r : Option ℕ) → Least P r → Least (λ j. P j ⊎ (j ≡ p)) (least_of r p)
least_one P p None h = (inr refl, λ j q. elim q [ inl x ↦ absurd (h j x) | inr e ↦ omega arith ])
least_one P p (Some i) h = elim (leb_tells i p) [
  | inl l ↦ (let l1 = l.1 in let e : min i p ≡ i = omega arith in
      (inl (subst P (sym e) h.0), λ j q. elim q [ inl x ↦ (let m = h.1 j x in omega arith) | inr z ↦ omega arith ]))
  | inr l ↦ (let l1 = l.1 in let e : min i p ≡ p = omega arith in
      (inr e, λ j q. elim q [ inl x ↦ (let m = h.1 j x in omega arith) | inr z ↦ omega arith ]))
]

least_keep : (P : ℕ → Type 0) (v p : ℕ) (r : Option ℕ) → Least P r → Least (λ j. P j ⊎ ((v ≡ 1) × (j ≡ p))) (keep v p r)
least_keep P zero p r h = least_same P (λ j. P j ⊎ ((0 ≡ 1) × (j ≡ p))) r (λ j x. inl x) (λ j x. elim x [ inl y ↦ y | inr y ↦ (let z = y.0 in absurd (omega arith)) ]) h
least_keep P (suc zero) p r h = least_same (λ j. P j ⊎ (j ≡ p)) (λ j. P j ⊎ ((1 ≡ 1) × (j ≡ p))) (least_of r p)
    (λ j x. elim x [ inl y ↦ inl y | inr y ↦ inr (refl, y) ]) (λ j x. elim x [ inl y ↦ inl y | inr y ↦ inr y.1 ]) (least_one P p r h)
least_keep P (suc (suc v)) p r h = least_same P (λ j. P j ⊎ ((suc (suc v) ≡ 1) × (j ≡ p))) r (λ j x. inl x) (λ j x. elim x [ inl y ↦ y | inr y ↦ (let z = y.0 in absurd (omega arith)) ]) h

nowhere : {x y j : ℕ} → Stands x none y j → ⊥
nowhere s = elim s [ ]

-- where a node stands, among those of a node and after it
cases_of : {x y p j : ℕ} {a b : Trees} → Stands x (node p a b) y j → ((x ≡ y) × (p ≡ j)) ⊎ (Stands (suc x) a y j ⊎ Stands x b y j)
cases_of here = inl (refl, refl)
cases_of (inside s) = inr (inl s)
cases_of (after s) = inr (inr s)

module _ (d : ℕ) where
  least_lowest : (f : Trees) (x v : ℕ) (P : ℕ → Type 0) (best : Option ℕ) → v ≡ d + 2 - x → Least P best → Least (λ j. P j ⊎ Stands x f (d + 1) j) (lowest v f best)
  least_lowest none x v P best e h = least_same P (λ j. P j ⊎ Stands x none (d + 1) j) best (λ j y. inl y) (λ j y. elim y [ inl z ↦ z | inr s ↦ absurd (nowhere s) ]) h
  least_lowest (node p a b) x v P best e h =
      let one = least_lowest b x v P best e h in
      let two = least_keep (λ j. P j ⊎ Stands x b (d + 1) j) v p (lowest v b best) one in
      let three = least_lowest a (suc x) (v - 1) (λ j. (P j ⊎ Stands x b (d + 1) j) ⊎ ((v ≡ 1) × (j ≡ p))) (keep v p (lowest v b best)) (omega arith) two in
      least_same (λ j. ((P j ⊎ Stands x b (d + 1) j) ⊎ ((v ≡ 1) × (j ≡ p))) ⊎ Stands (suc x) a (d + 1) j) (λ j. P j ⊎ Stands x (node p a b) (d + 1) j)
      (lowest (v - 1) a (keep v p (lowest v b best)))
      (λ j y. elim y [
        | inl z ↦ elim z [
          | inl w ↦ elim w [ inl q ↦ inl q | inr s ↦ inr (after s) ]
          | inr w ↦ inr (let w0 = w.0 in let xe : x ≡ d + 1 = omega arith in subst (λ i. Stands x (node p a b) (d + 1) i) (sym w.1) (subst (λ i. Stands x (node p a b) i p) xe here))
        ]
        | inr s ↦ inr (inside s)
      ])
      (λ j y. elim y [
        | inl q ↦ inl (inl (inl q))
        | inr s ↦ elim (cases_of s) [
          | inl w ↦ inl (inr (let w0 = w.0 in let ve : v ≡ 1 = omega arith in (ve, sym w.1)))
          | inr w ↦ elim w [ inl t ↦ inr t | inr t ↦ inl (inl (inr t)) ]
        ]
      ])
      three

high : {f : Trees} {x y i : ℕ} → Stands x f y i → y < height f + x
high here = omega arith
high (inside s) = let h = high s in omega arith
high (after s) = let h = high s in omega arith

-- in high trees some node stands so deep
tall : (f : Trees) (x y : ℕ) → x ≤ y → y < height f + x → (i : ℕ) × Stands x f y i
tall none x y l h = absurd (omega arith)
tall (node p a b) x y l h = elim (eqb_tells x y) [
  | inl e ↦ (p, subst (λ z. Stands x (node p a b) z p) e.1 here)
  | inr ne ↦ (let ne1 = ne.1 in elim (leb_tells (height a + suc x) y) [
    | inl w ↦ (let w1 = w.1 in let r = tall b x y l (omega arith) in (r.0, after r.1))
    | inr w ↦ (let r = tall a (suc x) y (omega arith) w.1 in (r.0, inside r.1))
  ])
]

deep_of : (d : ℕ) (f : Trees) (r : Option ℕ) → Least (λ j. ⊥ ⊎ Stands 1 f (d + 1) j) r → Deep d f r
deep_of d f None h = elim (leb_tells (height f) d) [
  | inl w ↦ w.1
  | inr w ↦ (let w1 = w.1 in let t = tall f 1 (d + 1) (omega arith) (omega arith) in absurd (h t.0 (inr t.1)))
]
deep_of d f (Some i) h = elim h.0 [
  | inl z ↦ absurd z
  | inr s ↦ (let t = high s in record { high = omega arith; stands = s; least = λ j q. h.1 j (inr q) })
]

found : (d : ℕ) (f : Trees) (ns : List Node) (r : Option ℕ) → ns ≡ post f → count f ≡ 1 → r ≡ scan ((d + 1) ∷ []) None (reverse ns) → Deep d f r
found d f ns r is one e =
    subst (Deep d f) (sym (e ∙ ap (λ x. scan ((d + 1) ∷ []) None (reverse x)) is ∙ scan_whole f (d + 1) one))
    (deep_of d f (lowest (d + 1) f None) (least_lowest d f 1 (d + 1) (λ _. ⊥) None (omega arith) (λ j z. z)))

pub found_result : {E : Type 0} (d : ℕ) (ns : List Node) (r : Result (Option ℕ) E) → IfOk r (λ x. x ≡ scan ((d + 1) ∷ []) None (reverse ns)) →
    IfOk r (λ x. (f : Trees) → ns ≡ post f → count f ≡ 1 → Deep d f x)
found_result d ns (Ok x) h = λ f is one. found d f ns x is one h
found_result d ns (Err e) h = tt

scan_nothing : (best : Option ℕ) (ns : List Node) → scan [] best ns ≡ best
scan_nothing best [] = refl
scan_nothing best (n ∷ ns) = refl

empty : (xs : List ℕ) → length xs ≡ 0 → xs ≡ []
empty [] e = refl
empty (x ∷ xs) e = absurd (omega (arith, e))

-- where no level is left, the rest of the nodes says nothing
pub runs_out : (levels : List ℕ) (best goal : Option ℕ) (ns : List Node) → length levels ≡ 0 → scan (reverse levels) best ns ≡ goal → best ≡ goal
runs_out levels best goal ns e h = sym (scan_nothing best ns) ∙ ap (λ x. scan (reverse x) best ns) (sym (empty levels e)) ∙ h
