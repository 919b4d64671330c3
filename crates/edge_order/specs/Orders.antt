-- Orders of nodes.
use Rattle.std.specs.Prelude.{◌≡◌, ◌-◌, ◌<◌, ℕ, Bool, List, length, slice_index, count_by}
use Rattle.std.specs.List.{range_with_len, AllPairs}
use Rattle.std.specs.List.Sorted.{IsPermutation}
use Rattle.std.specs.Global.{Vec}
use Rattle.edge_order.specs.Graph.{targets, HasEdge, Leads, IsReach}
use Rattle.edge_order.specs.declared.orders.Order.{Order}
use Rattle.edge_order.specs.declared.orders.Order.TheVariants.{Sorted, Ring}

-- all nodes, once each, in an order in which no edge goes back
pub record IsForward (graph : List (Vec ℕ)) (order : List ℕ) : Type 0 where
  pub all : IsPermutation (range_with_len 0 (length graph)) order
  pub forward : AllPairs (λ a b. HasEdge graph b a → ⊥) order

-- none of the nodes below n leads to itself
abbrev pub HasNoRing : List (Vec ℕ) → ℕ → Type 0
HasNoRing graph n = (a : ℕ) → a < n → Leads graph a a → ⊥

-- the more nodes one leads to, the earlier its stage
pub record IsSearched (graph : List (Vec ℕ)) (a stage : ℕ) : Type 0 where
  pub marks : List Bool
  pub is : IsReach graph (targets graph a) marks
  pub number : stage ≡ length graph - count_by (λ x. x) marks

-- the first n nodes were searched, and none leads to itself
pub record AreSearched (graph : List (Vec ℕ)) (n : ℕ) (stages : List ℕ) : Type 0 where
  pub size : length stages ≡ n
  pub each : (a : ℕ) → a < n → IsSearched graph a (slice_index stages a)
  pub none : HasNoRing graph n

-- an order of a graph without a ring; or the lowest node that leads to itself
abbrev pub IsOrder : List (Vec ℕ) → Order → Type 0
IsOrder graph (Sorted order) = HasNoRing graph (length graph) × IsForward graph order.items
IsOrder graph (Ring v) = (v < length graph) × Leads graph v v × HasNoRing graph v
