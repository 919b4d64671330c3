-- Marks of nodes, and the nodes whose edges are still to be followed.
use Rattle.std.specs.Prelude.{◌≡◌, ◌<◌, ◌+◌, ◌⊎◌, ℕ, Bool, not, List, length, slice_index, count_by, Contains}
use Rattle.std.specs.Global.{Vec}
use Rattle.edge_order.specs.Graph.{IsMarked, HasEdge, Reached}

-- how many nodes aren't marked
abbrev pub unmarked : List Bool → ℕ
unmarked marks = count_by not marks

-- the first n of some nodes were marked, and those kept that weren't marked before
pub record Marks (nodes : List ℕ) (n : ℕ) (old new : List Bool) (open_old open_new : List ℕ) : Type 0 where
  pub size : length new ≡ length old
  pub kept : (k : ℕ) → IsMarked old k → IsMarked new k
  pub sound : (k : ℕ) → IsMarked new k → IsMarked old k ⊎ Contains nodes k
  pub marked : (i : ℕ) → i < n → IsMarked new (slice_index nodes i)
  pub open_kept : (k : ℕ) → Contains open_old k → Contains open_new k
  pub open_sound : (k : ℕ) → Contains open_new k → Contains open_old k ⊎ IsMarked new k
  pub fresh : (k : ℕ) → IsMarked new k → IsMarked old k ⊎ Contains open_new k
  pub left : unmarked new + length open_new ≡ unmarked old + length open_old

-- what is marked is reached, and so is all that its edges lead to, but for the nodes whose edges are to be followed
pub record IsSpread (graph : List (Vec ℕ)) (seeds : List ℕ) (marks : List Bool) (pending : List ℕ) : Type 0 where
  pub size : length marks ≡ length graph
  pub sound : (k : ℕ) → IsMarked marks k → Reached graph seeds k
  pub seeded : (k : ℕ) → Contains seeds k → IsMarked marks k
  pub waits : (k : ℕ) → Contains pending k → IsMarked marks k
  pub closed : (a b : ℕ) → IsMarked marks a → HasEdge graph a b → Contains pending a ⊎ IsMarked marks b
