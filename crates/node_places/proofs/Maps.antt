-- Trees over the numbers of tokens, and the same trees over places.
use Rattle.std.proofs.Common.{◌≡◌, ℕ, suc, ◌+◌, max, ◌⊎◌, inl, inr, refl, sym, ◌∙◌, ap, subst}
use Rattle.src_text.specs.declared.refusal.Place.{Place}
use Rattle.node_depth.specs.Nodes as numbers
use Rattle.node_count.specs.Counts as counts
use Rattle.src_text.specs.Trees.{Trees, none, node, height, size, also, one, Stands, here, inside, after}

module _ (f : ℕ → Place) where
  abbrev pub map_trees : numbers.Trees → Trees
  map_trees numbers.none = none
  map_trees (numbers.node i a b) = node (f i) (map_trees a) (map_trees b)

  pub height_map : (t : numbers.Trees) → height (map_trees t) ≡ numbers.height t
  height_map numbers.none = refl
  height_map (numbers.node i a b) =
      ap (λ x. max (1 + x) (height (map_trees b))) (height_map a) ∙ ap (λ x. max (1 + numbers.height a) x) (height_map b)

  pub size_map : (t : numbers.Trees) → size (map_trees t) ≡ counts.size t
  size_map numbers.none = refl
  size_map (numbers.node i a b) = ap (λ x. 1 + x + size (map_trees b)) (size_map a) ∙ ap (λ x. 1 + counts.size a + x) (size_map b)

  pub also_map : (s t : numbers.Trees) → map_trees (numbers.also s t) ≡ also (map_trees s) (map_trees t)
  also_map numbers.none t = refl
  also_map (numbers.node i a b) t = ap (node (f i) (map_trees a)) (also_map b t)

  pub stands_map : {x y i : ℕ} {t : numbers.Trees} → numbers.Stands x t y i → Stands x (map_trees t) y (f i)
  stands_map numbers.here = here
  stands_map (numbers.inside s) = inside (stands_map s)
  stands_map (numbers.after s) = after (stands_map s)

  nowhere : {x y : ℕ} {q : Place} → Stands x none y q → ⊥
  nowhere s = elim s [ ]

  -- where a node stands, among those of a node and after it
  cases_of : {x y : ℕ} {p q : Place} {a b : Trees} → Stands x (node p a b) y q → ((x ≡ y) × (p ≡ q)) ⊎ (Stands (suc x) a y q ⊎ Stands x b y q)
  cases_of here = inl (refl, refl)
  cases_of (inside s) = inr (inl s)
  cases_of (after s) = inr (inr s)

  -- a node over places is that of a number
  pub record Came (x : ℕ) (t : numbers.Trees) (y : ℕ) (q : Place) : Type 0 where
    pub number : ℕ
    pub stands : numbers.Stands x t y number
    pub is : q ≡ f number

  pub stands_from : (t : numbers.Trees) (x y : ℕ) (q : Place) → Stands x (map_trees t) y q → Came x t y q
  stands_from numbers.none x y q s = absurd (nowhere s)
  stands_from (numbers.node i a b) x y q s = elim (cases_of s) [
    | inl w ↦ record { number = i; stands = subst (λ z. numbers.Stands x (numbers.node i a b) z i) w.0 numbers.here; is = sym w.1 }
    | inr w ↦ elim w [
      | inl u ↦ (let r = stands_from a (suc x) y q u in record { number = r.number; stands = numbers.inside r.stands; is = r.is })
      | inr u ↦ (let r = stands_from b x y q u in record { number = r.number; stands = numbers.after r.stands; is = r.is })
    ]
  ]

-- how many trees stand side by side
abbrev roots : Trees → ℕ
roots none = 0
roots (node p a b) = suc (roots b)

roots_map : (f : ℕ → Place) (t : numbers.Trees) → roots (map_trees f t) ≡ numbers.count t
roots_map f numbers.none = refl
roots_map f (numbers.node i a b) = ap suc (roots_map f b)

-- what is mapped to one tree is one tree
pub one_mapped : (f : ℕ → Place) (t : numbers.Trees) (p : Place) (a : Trees) → map_trees f t ≡ one p a → numbers.count t ≡ 1
one_mapped f t p a e = sym (roots_map f t) ∙ ap roots e
