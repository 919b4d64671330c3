-- Nodes with their stages.
use Rattle.std.proofs.Common.{◌≡◌, ℕ, zero, suc, ◌+◌, ◌<◌, List, [], ◌∷◌, ◌++◌, map, length, get_or, refl, sym, ap, ◌∙◌, subst, subst₂, arith}
use Rattle.std.specs.Prelude.{All}
use Rattle.std.specs.List.{range_with_len}
use Rattle.std.specs.List.Sorted.{IsPermutation, IsNonDecreasingBy}
use Rattle.std.proofs.lemmas.List.{map-append, get_or-map, length-map}
use Rattle.std.proofs.lemmas.List.Elements.{All-map}
use Rattle.std.proofs.lemmas.List.Sorted.{All-permutation, IsPermutation-map}
use Rattle.edge_order.specs.declared.orders.Staged.{Staged}
use Rattle.edge_order.specs.Stages.{staged, IsStaged, IsByStage}

range_suc : (a n : ℕ) → range_with_len a (suc n) ≡ range_with_len a n ++ (a + n) ∷ []
range_suc a zero = ap (λ k. k ∷ []) (omega arith)
range_suc a (suc n) = ap (λ l. a ∷ l) (range_suc (a + 1) n ∙ ap (λ k. range_with_len (a + 1) n ++ k ∷ []) (omega arith))

range_more : (a n : ℕ) → range_with_len a (n + 1) ≡ range_with_len a n ++ (a + n) ∷ []
range_more a n = let e : n + 1 ≡ suc n = omega arith in ap (range_with_len a) e ∙ range_suc a n

pub staged_more : (stages : List ℕ) (n : ℕ) → map (staged stages) (range_with_len 0 (n + 1)) ≡ map (staged stages) (range_with_len 0 n) ++ staged stages n ∷ []
staged_more stages n = ap (map (staged stages)) (range_more 0 n) ∙ map-append (staged stages) (range_with_len 0 n) ((0 + n) ∷ []) ∙ ap (λ k. map (staged stages) (range_with_len 0 n) ++ staged stages k ∷ []) (omega arith)

nodes_back : (stages nodes : List ℕ) → map (λ s. s.node) (map (staged stages) nodes) ≡ nodes
nodes_back stages [] = refl
nodes_back stages (a ∷ as') = ap (λ l. a ∷ l) (nodes_back stages as')

-- each has the stage of its node
abbrev IsRight : List ℕ → Staged → Type 0
IsRight stages s = s.stage ≡ get_or stages s.node 0

all_right : (stages nodes : List ℕ) → All (IsRight stages) (map (staged stages) nodes)
all_right stages nodes = All-map (IsRight stages) (staged stages) nodes (λ k d lt. refl)

pub by_stage_is : (stages order : List ℕ) (old new : List Staged) → IsStaged stages old → IsPermutation old new → IsNonDecreasingBy (λ s. s.stage) new → order ≡ map (λ s. s.node) new → IsByStage stages order
by_stage_is stages order old new eo P S en =
    let node : Staged → ℕ = λ s. s.node in
    let d : Staged = staged stages 0 in
    let right : All (IsRight stages) new = All-permutation (IsRight stages) old new P (subst (All (IsRight stages)) (sym eo) (all_right stages (range_with_len 0 (length stages)))) in
    let size : length order ≡ length new = ap length en ∙ length-map new node in
    let at : (p x : ℕ) → p < length new → get_or stages (get_or order p x) 0 ≡ (get_or new p d).stage =
    λ p x lt. ap (λ l. get_or stages (get_or l p x) 0) en ∙ ap (λ k. get_or stages k 0) (get_or-map node new p d x lt) ∙ sym (right p d lt) in
    record {
      all = subst₂ IsPermutation (ap (map node) eo ∙ nodes_back stages (range_with_len 0 (length stages))) (sym en) (IsPermutation-map node old new P);
      rising = λ p q x lt lq.
          let a = at p x (omega arith) in
          let b = at q x (omega arith) in
          let s = S p q d (omega arith) (omega arith) in
          omega arith;
    }
