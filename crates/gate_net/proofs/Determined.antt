-- Values of the inputs fix those of all nodes: each node has the value that the earlier ones give it.
use Rattle.std.proofs.Common.{◌≡◌, ◌≢◌, ℕ, suc, zero, ◌+◌, ◌<◌, Bool, true, false, not, ◌&&◌, cond, eqb, List, [], ◌∷◌, length, Some, None, refl, sym, ap, ◌∙◌, subst, below_more, arith}
use Rattle.std.specs.List.{slice_get}
use Rattle.std.specs.Option.{ForSome}
use Rattle.std.proofs.lemmas.Bool.{ne_eqb, eq-eqb}
use Rattle.clause_arena.specs.Clause.{bool_eq}
use Rattle.gate_net.specs.declared.net.Edge.{Edge}
use Rattle.gate_net.specs.declared.net.Node.{Node}
use Rattle.gate_net.specs.declared.net.Node.TheVariants.{One, Input, And}
use Rattle.gate_net.specs.Edge.{edge_value}
use Rattle.gate_net.specs.Net.{NodeHolds, IsDetermined, IsPlaced, IsNet}

None-Some : (x : Node) → None ≡ Some x → ⊥
None-Some x e = cc

node-is : (x y : Node) → Some x ≡ Some y → x ≡ y
node-is x y e = cc

-- the value of node i under those of the nodes before
abbrev next_value : (ℕ → Bool) → (ℕ → Bool) → ℕ → Node → Bool
next_value inputs a i One = true
next_value inputs a i Input = inputs i
next_value inputs a i (And g) = edge_value a g.left && edge_value a g.right

abbrev with_value : (ℕ → Bool) → ℕ → Bool → ℕ → Bool
with_value a i b j = cond (eqb j i) b (a j)

abbrev filled : (ℕ → Bool) → ℕ → List Node → (ℕ → Bool) → ℕ → Bool
filled inputs n [] a = a
filled inputs n (x ∷ xs) a = filled inputs (suc n) xs (with_value a n (next_value inputs a n x))

with_value-here : (a : ℕ → Bool) (i : ℕ) (b : Bool) → with_value a i b i ≡ b
with_value-here a i b = ap (λ (t : Bool). cond t b (a i)) (eq-eqb i i refl)

with_value-apart : (a : ℕ → Bool) (i : ℕ) (b : Bool) (j : ℕ) → j ≢ i → with_value a i b j ≡ a j
with_value-apart a i b j d = ap (λ (t : Bool). cond t b (a j)) (ne_eqb j i d)

filled-below : (inputs : ℕ → Bool) (n : ℕ) (xs : List Node) (a : ℕ → Bool) (j : ℕ) → j < n → filled inputs n xs a j ≡ a j
filled-below inputs n [] a j l = refl
filled-below inputs n (x ∷ xs) a j l =
    let apart : j ≢ n = omega arith in
    filled-below inputs (suc n) xs (with_value a n (next_value inputs a n x)) j (omega arith) ∙ with_value-apart a n (next_value inputs a n x) j apart

filled-first : (inputs : ℕ → Bool) (n : ℕ) (x : Node) (xs : List Node) (a : ℕ → Bool) → filled inputs n (x ∷ xs) a n ≡ next_value inputs a n x
filled-first inputs n x xs a =
    filled-below inputs (suc n) xs (with_value a n (next_value inputs a n x)) n (omega arith) ∙ with_value-here a n (next_value inputs a n x)

edge_value-same : (a b : ℕ → Bool) (e : Edge) → a e.node ≡ b e.node → edge_value a e ≡ edge_value b e
edge_value-same a b e h = ap (λ (v : Bool). bool_eq v (not e.negated)) h

-- the first of the nodes has the value that it has to have
first-holds : (inputs : ℕ → Bool) (n : ℕ) (x : Node) (xs : List Node) (a : ℕ → Bool) → IsPlaced n x → NodeHolds (filled inputs n (x ∷ xs) a) n x
first-holds inputs n One xs a p = filled-first inputs n One xs a
first-holds inputs n Input xs a p = tt
first-holds inputs n (And g) xs a p =
    let f : ℕ → Bool = filled inputs n (And g ∷ xs) a in
    let l : edge_value f g.left ≡ edge_value a g.left = edge_value-same f a g.left (filled-below inputs n (And g ∷ xs) a g.left.node p.0) in
    let r : edge_value f g.right ≡ edge_value a g.right = edge_value-same f a g.right (filled-below inputs n (And g ∷ xs) a g.right.node p.1) in
    filled-first inputs n (And g) xs a ∙ ap (λ (v : Bool). v && edge_value a g.right) (sym l) ∙ ap (λ (v : Bool). edge_value f g.left && v) (sym r)

filled-holds : (inputs : ℕ → Bool) (n : ℕ) (xs : List Node) (a : ℕ → Bool) → ((i : ℕ) → ForSome (slice_get xs i) (IsPlaced (n + i))) → (i : ℕ) → ForSome (slice_get xs i) (NodeHolds (filled inputs n xs a) (n + i))
filled-holds inputs n [] a p i x e = absurd (None-Some x e)
filled-holds inputs n (y ∷ ys) a p zero x e =
    let k : n ≡ n + 0 = omega arith in
    let placed : IsPlaced n y = subst (λ (m : ℕ). IsPlaced m y) (sym k) (p zero y refl) in
    subst (λ (m : ℕ). NodeHolds (filled inputs n (y ∷ ys) a) m x) k (subst (NodeHolds (filled inputs n (y ∷ ys) a) n) (node-is y x e) (first-holds inputs n y ys a placed))
filled-holds inputs n (y ∷ ys) a p (suc i) x e =
    let k : suc n + i ≡ n + suc i = omega arith in
    subst (λ (m : ℕ). NodeHolds (filled inputs n (y ∷ ys) a) m x) k
    (filled-holds inputs (suc n) ys (with_value a n (next_value inputs a n y)) (λ j z q. subst (λ (m : ℕ). IsPlaced m z) (let k : n + suc j ≡ suc n + j = omega arith in k) (p (suc j) z q)) i x e)

filled-inputs : (inputs : ℕ → Bool) (n : ℕ) (xs : List Node) (a : ℕ → Bool) (i : ℕ) → slice_get xs i ≡ Some Input → filled inputs n xs a (n + i) ≡ inputs (n + i)
filled-inputs inputs n [] a i e = absurd (None-Some Input e)
filled-inputs inputs n (y ∷ ys) a zero e =
    let k : n ≡ n + 0 = omega arith in
    subst (λ (m : ℕ). filled inputs n (y ∷ ys) a m ≡ inputs m) k (filled-first inputs n y ys a ∙ ap (next_value inputs a n) (node-is y Input e))
filled-inputs inputs n (y ∷ ys) a (suc i) e =
    let k : suc n + i ≡ n + suc i = omega arith in
    subst (λ (m : ℕ). filled inputs n (y ∷ ys) a m ≡ inputs m) k (filled-inputs inputs (suc n) ys (with_value a n (next_value inputs a n y)) i e)

-- other values of the net with these inputs have the same next value
next-same : (inputs a b : ℕ → Bool) (n : ℕ) (x : Node) → IsPlaced n x → NodeHolds b n x → (x ≡ Input → b n ≡ inputs n) → ((j : ℕ) → j < n → b j ≡ a j) → b n ≡ next_value inputs a n x
next-same inputs a b n One p h q s = h
next-same inputs a b n Input p h q s = q refl
next-same inputs a b n (And g) p h q s =
    h
    ∙ ap (λ (v : Bool). v && edge_value b g.right) (edge_value-same b a g.left (s g.left.node p.0))
    ∙ ap (λ (v : Bool). edge_value a g.left && v) (edge_value-same b a g.right (s g.right.node p.1))

filled-same : (inputs a b : ℕ → Bool) (n : ℕ) (xs : List Node) → ((i : ℕ) → ForSome (slice_get xs i) (IsPlaced (n + i))) → ((i : ℕ) → ForSome (slice_get xs i) (NodeHolds b (n + i))) → ((i : ℕ) → slice_get xs i ≡ Some Input → b (n + i) ≡ inputs (n + i)) → ((j : ℕ) → j < n → b j ≡ a j) → (j : ℕ) → j < n + length xs → b j ≡ filled inputs n xs a j
filled-same inputs a b n [] p h q s j l = s j (omega arith)
filled-same inputs a b n (y ∷ ys) p h q s j l =
    let k : n + 0 ≡ n = omega arith in
    let v : Bool = next_value inputs a n y in
    let here : b n ≡ v =
    next-same inputs a b n y (subst (λ (m : ℕ). IsPlaced m y) k (p zero y refl)) (subst (λ (m : ℕ). NodeHolds b m y) k (h zero y refl))
    (λ e. subst (λ (m : ℕ). b m ≡ inputs m) k (q zero (ap (λ (z : Node). Some z) e))) s
    in
    filled-same inputs (with_value a n v) b (suc n) ys
    (λ i x e. let m : n + suc i ≡ suc n + i = omega arith in subst (λ (z : ℕ). IsPlaced z x) m (p (suc i) x e))
    (λ i x e. let m : n + suc i ≡ suc n + i = omega arith in subst (λ (z : ℕ). NodeHolds b z x) m (h (suc i) x e))
    (λ i e. let m : n + suc i ≡ suc n + i = omega arith in subst (λ (z : ℕ). b z ≡ inputs z) m (q (suc i) e))
    (λ i w.
    below_more (λ z. b z ≡ with_value a n v z) n (λ z u. let apart : z ≢ n = omega arith in s z u ∙ sym (with_value-apart a n v z apart)) (here ∙ sym (with_value-here a n v)) i
    (omega arith))
    j (omega arith)

pub determined : (net : List Node) → IsNet net → IsDetermined net
determined net h inputs =
    let a : ℕ → Bool = filled inputs 0 net (λ _. false) in
    let from_zero : (i : ℕ) → 0 + i ≡ i = λ i. omega arith in
    let placed : (i : ℕ) → ForSome (slice_get net i) (IsPlaced (0 + i)) = λ i x e. subst (λ (m : ℕ). IsPlaced m x) (sym (from_zero i)) (h.placed i x e) in (
      a,
      (
        (λ i x e. subst (λ (m : ℕ). NodeHolds a m x) (from_zero i) (filled-holds inputs 0 net (λ _. false) placed i x e)),
        (λ i e. subst (λ (m : ℕ). a m ≡ inputs m) (from_zero i) (filled-inputs inputs 0 net (λ _. false) i e)),
        (λ b v q i l.
            filled-same inputs (λ _. false) b 0 net placed (λ j x e. subst (λ (m : ℕ). NodeHolds b m x) (sym (from_zero j)) (v j x e)) (λ j e. subst (λ (m : ℕ). b m ≡ inputs m) (sym (from_zero j)) (q j e))
            (λ j z. absurd (omega arith)) i (omega arith)),
      ),
    )
