-- The values of a net of gates.
--
-- A net is an and-inverter graph (A. Kuehlmann, V. Paruthi, F. Krohm and M. K. Ganai, Robust Boolean
-- reasoning for equivalence checking and functional property verification, IEEE Transactions on
-- Computer-Aided Design 21, 2002), as the list of its nodes.
use Rattle.std.specs.Prelude.{◌≡◌, ◌≢◌, ℕ, ◌<◌, ◌≤◌, Bool, true, false, ◌&&◌, List, ◌++◌, length, slice_get, Some}
use Rattle.std.specs.List.{list_all}
use Rattle.std.specs.Option.{ForSome}
use Rattle.gate_net.specs.declared.net.Edge.{Edge}
use Rattle.gate_net.specs.declared.net.Node.{Node}
use Rattle.gate_net.specs.declared.net.Node.TheVariants.{One, Input, And}
use Rattle.gate_net.specs.Edge.{edge_value}

-- what the value of node i has to be, under values of all nodes
abbrev pub NodeHolds : (ℕ → Bool) → ℕ → Node → Type 0
NodeHolds a i One = a i ≡ true
NodeHolds a i Input = Unit {0}
NodeHolds a i (And g) = a i ≡ (edge_value a g.left && edge_value a g.right)

-- These are values of the net: each constant and each gate has the value that it has to have. The
-- inputs are free.
abbrev pub IsValuation : List Node → (ℕ → Bool) → Type 0
IsValuation net a = (i : ℕ) → ForSome (slice_get net i) (NodeHolds a i)

-- in all values of the net the edge is 1 exactly where the other two are
abbrev pub IsConjunction : List Node → Edge → Edge → Edge → Type 0
IsConjunction net e l r = (a : ℕ → Bool) → IsValuation net a → edge_value a e ≡ (edge_value a l && edge_value a r)

-- a node is a gate of two inputs; the constant and the inputs of the net aren't
abbrev pub is_gate : Node → Bool
is_gate One = false
is_gate Input = false
is_gate (And g) = true

-- The second net has the nodes of the first and after them gates alone. So the inputs are the same,
-- and each fact on the values of the first holds of those of the second.
pub record Extends (old new : List Node) : Type 0 where
  pub more : List Node
  pub all : new ≡ old ++ more
  pub gates : list_all is_gate more ≡ true

-- the values of the inputs are these, by node
abbrev pub HasInputs : List Node → (ℕ → Bool) → (ℕ → Bool) → Type 0
HasInputs net a inputs = (i : ℕ) → slice_get net i ≡ Some Input → a i ≡ inputs i

-- Values of the inputs fix those of all nodes: there are values of the net with these inputs, and no
-- others, on its nodes. So an edge has one value under values of the inputs.
abbrev pub IsDetermined : List Node → Type 0
IsDetermined net =
    (inputs : ℕ → Bool) → (a : ℕ → Bool) × (IsValuation net a × HasInputs net a inputs × ((b : ℕ → Bool) → IsValuation net b → HasInputs net b inputs → (i : ℕ) → i < length net → b i ≡ a i))

-- The node can stand at place i: the constant stands first, and a gate joins two different earlier nodes.
abbrev pub IsPlaced : ℕ → Node → Type 0
IsPlaced i One = i ≡ 0
IsPlaced i Input = 0 < i
IsPlaced i (And g) = (g.left.node < i) × (g.right.node < i) × (g.left.node ≢ g.right.node)

-- so many nodes a net has at most: an edge of 32 bits names each of them with its sign
abbrev pub MOST_NODES : ℕ
MOST_NODES = 2147483648

-- what the nodes of a net keep
pub record IsNet (nodes : List Node) : Type 0 where
  pub few : length nodes ≤ MOST_NODES
  pub starts : slice_get nodes 0 ≡ Some One
  pub placed : (i : ℕ) → ForSome (slice_get nodes i) (IsPlaced i)
