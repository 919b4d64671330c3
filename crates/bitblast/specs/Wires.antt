-- The edges of terms and variables.
use Rattle.std.specs.Prelude.{◌≡◌, ℕ, ◌+◌, ◌<◌, ◌≤◌, Bool, List, [], length, Contains}
use Rattle.std.specs.List.{slice_index_or}
use Rattle.arrayvec.specs.ArrayVec.{ArrayVec}
use Rattle.gate_net.specs.declared.net.Edge.{Edge}
use Rattle.gate_net.specs.declared.net.Node.{Node}
use Rattle.gate_net.specs.Net.{IsValuation, MOST_NODES}
use Rattle.word_eqs.specs.declared.term.TermNode.{TermNode}
use Rattle.word_eqs.specs.declared.term.TermNode.TheVariants.{Var}
use Rattle.word_eqs.specs.declared.term.VarId.{VarId}
use Rattle.word_eqs.specs.Graph.{FitsNode, Graph, IsGraph, node_width, parts, width_in, width_of_var}
use Rattle.word_eqs.specs.Gates.{node_gates}
use Rattle.word_eqs.specs.Meaning.{Values as Valuation, Respects, node_word}
use Rattle.bitblast.specs.Circuit.{AreBelow, Grows, number_of}

-- the edges at a place; none where there is no word yet
abbrev pub edges_at : List (ArrayVec Edge) → ℕ → List Edge
edges_at wires k = (slice_index_or wires k (record { items = [] })).items

-- the word at a place was made: it has some edge
abbrev pub IsMade : List (ArrayVec Edge) → ℕ → Type 0
IsMade wires k = 0 < length (edges_at wires k)

-- each word that is made has its width, and edges of the net
pub record AreWires (nodes : ℕ) (width : ℕ → ℕ) (wires : List (ArrayVec Edge)) : Type 0 where
  pub bits : (k : ℕ) → IsMade wires k → length (edges_at wires k) ≡ width k
  pub there : (k : ℕ) → AreBelow nodes (edges_at wires k)

-- the words of some terms and variables of a graph, as edges of a net
pub record AreWords (net : List Node) (g : Graph) (vars terms : List (ArrayVec Edge)) : Type 0 where
  pub graph : IsGraph g
  pub places : length terms ≡ length g.terms
  pub names : length vars ≡ length g.vars
  pub widths : AreWires (length net) (width_in g) terms
  pub var_widths : AreWires (length net) (width_of_var g) vars

-- a node whose parts are made can be made
pub record IsReady (net : List Node) (g : Graph) (vars terms : List (ArrayVec Edge)) (node : TermNode) : Type 0 where
  pub words : AreWords net g vars terms
  pub fits : FitsNode g (length g.terms) node
  pub parts : (k : ℕ) → Contains (parts node) k → IsMade terms k
  pub given : (x : VarId) → node ≡ Var x → IsMade vars x.0
  pub room : length net + node_gates g node ≤ MOST_NODES

-- each word that is made has the number that a valuation of variables and terms gives it
pub record Fits (a : ℕ → Bool) (v : Valuation) (vars terms : List (ArrayVec Edge)) : Type 0 where
  pub of_vars : (x : ℕ) → IsMade vars x → number_of a (edges_at vars x) ≡ (v.var x).value
  pub of_terms : (t : ℕ) → IsMade terms t → number_of a (edges_at terms t) ≡ (v.term t).value

-- the edges of a node: under all values of the net they have its number, where its parts have theirs
pub record MakesNode (old new : List Node) (g : Graph) (vars terms : List (ArrayVec Edge)) (node : TermNode) (es : List Edge) : Type 0 where
  pub grows : Grows old new (node_gates g node)
  pub there : AreBelow (length new) es
  pub bits : length es ≡ node_width g node
  pub value : (a : ℕ → Bool) (v : Valuation) → IsValuation new a → Respects v g → Fits a v vars terms → number_of a es ≡ (node_word v node).value
