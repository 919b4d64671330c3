-- Nodes and their edges.
use Rattle.std.proofs.Common.{◌≡◌, ℕ, zero, suc, ◌<◌, List, [], ◌∷◌, length, get_or, sym, ap, arith}
use Rattle.std.specs.Prelude.{All, Contains}
use Rattle.std.specs.Global.{Vec}
use Rattle.std.proofs.lemmas.List.Elements.{All-nil, All-head, All-tail, All-contains}
use Rattle.edge_order.specs.Graph.{targets, IsGraph, HasEdge}

pub targets_here : (graph : List (Vec ℕ)) (a : ℕ) (v : Vec ℕ) → a < length graph → v ≡ get_or graph a v → targets graph a ≡ v.items
targets_here [] a v lt is = absurd (omega arith)
targets_here (w ∷ ws) zero v lt is = ap (λ (x : Vec ℕ). x.items) (sym is)
targets_here (w ∷ ws) (suc a) v lt is = targets_here ws a v (omega arith) is

pub contains_none : (k : ℕ) → Contains {X = ℕ} [] k → ⊥
contains_none k h = let lt = h.1 in absurd (omega arith)

-- an edge begins at a node
pub edge_from : (graph : List (Vec ℕ)) (a b : ℕ) → HasEdge graph a b → a < length graph
edge_from [] a b h = absurd (contains_none b h)
edge_from (w ∷ ws) zero b h = omega arith
edge_from (w ∷ ws) (suc a) b h = let l = edge_from ws a b h in omega arith

within : (n : ℕ) (graph : List (Vec ℕ)) (a : ℕ) → All (λ v. All (λ b. b < n) v.items) graph → All (λ b. b < n) (targets graph a)
within n [] a G = All-nil (λ b. b < n)
within n (w ∷ ws) zero G = All-head (λ (v : Vec ℕ). All (λ b. b < n) v.items) w ws G
within n (w ∷ ws) (suc a) G = within n ws a (All-tail (λ (v : Vec ℕ). All (λ b. b < n) v.items) w ws G)

pub targets_within : (graph : List (Vec ℕ)) (a : ℕ) → IsGraph graph → All (λ b. b < length graph) (targets graph a)
targets_within graph a G = within (length graph) graph a G

-- an edge leads to a node
pub edge_to : (graph : List (Vec ℕ)) (a b : ℕ) → IsGraph graph → HasEdge graph a b → b < length graph
edge_to graph a b G h = All-contains (λ k. k < length graph) (targets graph a) b (targets_within graph a G) h
