-- What a net stands for: the assignments of a list's variables, and whether the list breaks a property.
use Rattle.std.specs.Prelude.{◌≡◌, ◌↔◌, ℕ, suc, ◌+◌, ◌<◌, ◌≤◌, Bool, true, false, List, [], ◌∷◌, ◌++◌, Some, length, slice_get}
use Rattle.arrayvec.specs.ArrayVec.{ArrayVec}
use Rattle.gate_net.specs.declared.net.Edge.{Edge}
use Rattle.gate_net.specs.declared.net.Node.{Node}
use Rattle.gate_net.specs.declared.net.Node.TheVariants.{One, Input, And}
use Rattle.gate_net.specs.Edge.{edge_value}
use Rattle.gate_net.specs.Net.{IsValuation}
use Rattle.word_eqs.specs.declared.term.VarId.{VarId}
use Rattle.word_eqs.specs.declared.list.Act.{Act}
use Rattle.word_eqs.specs.declared.list.Act.TheVariants.{Free, Set, Cut, Prop}
use Rattle.word_eqs.specs.declared.list.Step.{Step}
use Rattle.word_eqs.specs.Graph.{Graph, width_of_var}
use Rattle.word_eqs.specs.Gates.{gate_count}
use Rattle.word_eqs.specs.Assignments.{IsAssignment}
use Rattle.word_eqs.specs.Guarded.{Breaks}
use Rattle.word_eqs.specs.Meaning.{Values as Valuation}
use Rattle.bitblast.specs.Circuit.{AreBelow, number_of}
use Rattle.bitblast.specs.Wires.{edges_at}

-- the inputs among nodes that stand from place k on, in order
abbrev pub inputs_from : ℕ → List Node → List Edge
inputs_from k [] = []
inputs_from k (One ∷ nodes) = inputs_from (suc k) nodes
inputs_from k (Input ∷ nodes) = record { node = k; negated = false } ∷ inputs_from (suc k) nodes
inputs_from k (And g ∷ nodes) = inputs_from (suc k) nodes

-- the inputs of a net, each once, in order
abbrev pub inputs : List Node → List Edge
inputs net = inputs_from 0 net

-- the edges of the variable that a step leaves free
abbrev pub act_free : List (ArrayVec Edge) → Act → List Edge
act_free wires (Free x) = edges_at wires x.0
act_free wires (Set x t) = []
act_free wires (Cut t) = []
act_free wires (Prop p t) = []

-- the edges of all variables that a list leaves free, in order
abbrev pub free_edges : List (ArrayVec Edge) → List Step → List Edge
free_edges wires [] = []
free_edges wires (s ∷ list) = act_free wires s.act ++ free_edges wires list

-- the edges of each variable are the bits of its word
pub record AreBits (a : ℕ → Bool) (v : Valuation) (g : Graph) (wires : List (ArrayVec Edge)) : Type 0 where
  pub at : (x : ℕ) → x < length g.vars → number_of a (edges_at wires x) ≡ (v.var x).value

-- the same, of the variables that the list leaves free
pub record AreFreeBits (a : ℕ → Bool) (v : Valuation) (wires : List (ArrayVec Edge)) (list : List Step) : Type 0 where
  pub at : (k : ℕ) (s : Step) (x : VarId) → slice_get list k ≡ Some s → s.act ≡ Free x → number_of a (edges_at wires x.0) ≡ (v.var x.0).value

-- A net with the edges of the variables of a graph, and a root, stands for a list.
pub record StandsFor (g : Graph) (list : List Step) (net : List Node) (root : Edge) (wires : List (ArrayVec Edge)) : Type 0 where
  -- the size of the net
  pub count : length net ≤ 1 + gate_count g list
  -- each variable has as many edges as bits, and they are edges of the net
  pub names : length wires ≡ length g.vars
  pub widths : (x : ℕ) → x < length g.vars → length (edges_at wires x) ≡ width_of_var g x
  pub there : (x : ℕ) → AreBelow (length net) (edges_at wires x)
  pub root_there : root.node < length net
  -- the inputs of the net are the bits of the free variables, one to one
  pub one_to_one : inputs net ≡ free_edges wires list
  -- each assignment shows in values of the net, and all values of the net show an assignment
  pub shown : (v : Valuation) → IsAssignment g list v → (a : ℕ → Bool) × (IsValuation net a × AreBits a v g wires)
  pub read : (a : ℕ → Bool) → IsValuation net a → (v : Valuation) × (IsAssignment g list v × AreBits a v g wires)
  -- the free variables fix the others
  pub bits : (a : ℕ → Bool) (v : Valuation) → IsValuation net a → IsAssignment g list v → AreFreeBits a v wires list → AreBits a v g wires
  -- the root is 1 exactly where some property breaks
  pub breaks : (a : ℕ → Bool) (v : Valuation) → IsValuation net a → IsAssignment g list v → AreBits a v g wires → (edge_value a root ≡ true) ↔ ((p : ℕ) × Breaks v list p)
