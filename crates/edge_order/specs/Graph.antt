-- Graphs, and what their nodes lead to.
use Rattle.std.specs.Prelude.{◌≡◌, ◌<◌, ◌↔◌, ℕ, zero, suc, Bool, true, false, List, [], ◌∷◌, length, slice_index_or, All, Contains}
use Rattle.std.specs.Global.{Vec}

-- the nodes that a node's edges lead to
abbrev pub targets : List (Vec ℕ) → ℕ → List ℕ
targets [] a = []
targets (v ∷ vs) zero = v.items
targets (v ∷ vs) (suc a) = targets vs a

-- all edges lead to nodes
abbrev pub IsGraph : List (Vec ℕ) → Type 0
IsGraph graph = All (λ v. All (λ b. b < length graph) v.items) graph

-- an edge leads from a to b
abbrev pub HasEdge : List (Vec ℕ) → ℕ → ℕ → Type 0
HasEdge graph a b = Contains (targets graph a) b

-- a seed, or what an edge leads to from what is reached
pub data Reached (graph : List (Vec ℕ)) (seeds : List ℕ) : ℕ → Type 0 where
  Seed : (k : ℕ) → Contains seeds k → Reached graph seeds k
  Along : (a b : ℕ) → Reached graph seeds a → HasEdge graph a b → Reached graph seeds b

-- one edge or more lead from a to b
abbrev pub Leads : List (Vec ℕ) → ℕ → ℕ → Type 0
Leads graph a b = Reached graph (targets graph a) b

-- node k is marked
abbrev pub IsMarked : List Bool → ℕ → Type 0
IsMarked marks k = slice_index_or marks k false ≡ true

-- marks of what is reached, and of nothing else
pub record IsReach (graph : List (Vec ℕ)) (seeds : List ℕ) (marks : List Bool) : Type 0 where
  pub size : length marks ≡ length graph
  pub marked : (k : ℕ) → IsMarked marks k ↔ Reached graph seeds k
