-- Stages of nodes.
use Rattle.std.specs.Prelude.{◌≡◌, ◌<◌, ◌≤◌, ℕ, List, length, map, slice_index, All, ⊤, Option, None, Some}
use Rattle.std.specs.List.{range_with_len, AllPairs}
use Rattle.std.specs.List.Sorted.{IsPermutation}
use Rattle.std.specs.Global.{Vec}
use Rattle.edge_order.specs.Graph.{HasEdge}
use Rattle.edge_order.specs.declared.orders.Staged.{Staged}
use Rattle.edge_order.specs.declared.orders.Rise.{Rise}
use Rattle.edge_order.specs.declared.orders.Rise.TheVariants as rise
use Rattle.edge_order.specs.declared.orders.Verdict.{Verdict}
use Rattle.edge_order.specs.declared.orders.Verdict.TheVariants as verdict

-- how edges from a stage to some nodes go
abbrev pub IsRise : List ℕ → List ℕ → ℕ → Rise → Type 0
IsRise targets stages from rise.Up = All (λ b. from < slice_index stages b) targets
IsRise targets stages from rise.Level = All (λ b. from ≤ slice_index stages b) targets
IsRise targets stages from rise.Down = ⊤

-- the same of the first n of them
abbrev pub IsRiseBefore : List ℕ → List ℕ → ℕ → ℕ → Rise → Type 0
IsRiseBefore targets stages from n rise.Up = (i : ℕ) → i < n → from < slice_index stages (slice_index targets i)
IsRiseBefore targets stages from n rise.Level = (i : ℕ) → i < n → from ≤ slice_index stages (slice_index targets i)
IsRiseBefore targets stages from n rise.Down = ⊥

-- the edges of the first n nodes go to later stages
abbrev pub Rises : List (Vec ℕ) → List ℕ → ℕ → Type 0
Rises graph stages n = (a b : ℕ) → a < n → HasEdge graph a b → slice_index stages a < slice_index stages b

-- the edges of the first n nodes go to no earlier stage
abbrev pub Stays : List (Vec ℕ) → List ℕ → ℕ → Type 0
Stays graph stages n = (a b : ℕ) → a < n → HasEdge graph a b → slice_index stages a ≤ slice_index stages b

-- all edges go to later stages; or v is the first node with an edge to its own stage, and no edge goes to an earlier
-- one; or nothing is said
abbrev pub IsVerdict : List (Vec ℕ) → List ℕ → Verdict → Type 0
IsVerdict graph stages verdict.Rising = Rises graph stages (length graph)
IsVerdict graph stages (verdict.Level v) = (v < length graph) × Rises graph stages v × Stays graph stages (length graph)
IsVerdict graph stages verdict.Unknown = ⊤

-- so far as the first n nodes were looked at: the first of them that has an edge to its own stage
abbrev pub RisesBefore : List (Vec ℕ) → List ℕ → ℕ → Option ℕ → Type 0
RisesBefore graph stages n None = Rises graph stages n
RisesBefore graph stages n (Some v) = (v < n) × Rises graph stages v

-- a node with its stage
abbrev pub staged : List ℕ → ℕ → Staged
staged stages node = record { node = node; stage = slice_index stages node }

-- each node with its stage
abbrev pub IsStaged : List ℕ → List Staged → Type 0
IsStaged stages list = list ≡ map (staged stages) (range_with_len 0 (length stages))

-- the nodes by stage
pub record IsByStage (stages order : List ℕ) : Type 0 where
  pub all : IsPermutation (range_with_len 0 (length stages)) order
  pub rising : AllPairs (λ a b. slice_index stages a ≤ slice_index stages b) order
