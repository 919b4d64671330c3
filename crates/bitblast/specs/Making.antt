-- What has been translated so far.
use Rattle.std.specs.Prelude.{◌≡◌, ℕ, ◌+◌, ◌<◌, ◌≤◌, Bool, true, false, ◌&&◌, ◌||◌, not, cond, List, [], ◌∷◌, ◌++◌, Some, length, slice_set, take, drop, replicate, Contains}
use Rattle.gate_net.specs.declared.net.Node.TheVariants.{Input}
use Rattle.arrayvec.specs.ArrayVec.{ArrayVec}
use Rattle.gate_net.specs.declared.net.Edge.{Edge}
use Rattle.gate_net.specs.declared.net.Node.{Node}
use Rattle.gate_net.specs.Edge.{edge_value}
use Rattle.gate_net.specs.Net.{IsValuation, MOST_NODES}
use Rattle.bits_core.specs.Word.{at_zero}
use Rattle.word_eqs.specs.declared.term.Term.{Term}
use Rattle.word_eqs.specs.declared.term.TermNode.{TermNode}
use Rattle.word_eqs.specs.declared.list.Step.{Step}
use Rattle.word_eqs.specs.Graph.{Graph, node_at, parts, width_in}
use Rattle.word_eqs.specs.Gates.{node_gates, step_gates, gate_count}
use Rattle.word_eqs.specs.Guarded.{Uses, Walk, Passes, Stops, Stop, AtCut, AtProp, walk, givers}
use Rattle.word_eqs.specs.Meaning.{Values as Valuation, Respects}
use Rattle.bitblast.specs.Circuit.{Grows}
use Rattle.bitblast.specs.Wires.{AreWords, Fits, IsMade, edges_at}
use Rattle.bitblast.specs.Blasted.{AreFreeBits, free_edges, inputs, inputs_from}
use Rattle.word_eqs.specs.Assignments.{IsAssignment}
use Rattle.bitblast.specs.declared.blasting.Maker.{Maker}

-- there are no edges
abbrev pub has_none : List Edge → Bool
has_none [] = true
has_none (e ∷ es) = false

-- the gates of the terms that aren't made yet
abbrev pub gates_left : Graph → List Term → List (ArrayVec Edge) → ℕ
gates_left g [] words = 0
gates_left g (x ∷ terms) [] = 0
gates_left g (x ∷ terms) (w ∷ words) = cond (has_none w.items) (node_gates g x.node) 0 + gates_left g terms words

-- a term that can be made: its variables have edges, and there is room for all that isn't made, and for more
pub record IsWanted (net : List Node) (g : Graph) (vars words : List (ArrayVec Edge)) (t extra : ℕ) : Type 0 where
  pub proper : AreWords net g vars words
  pub there : t < length g.terms
  pub given : (x : ℕ) → Uses g t x → IsMade vars x
  pub room : length net + gates_left g g.terms words + extra ≤ MOST_NODES

-- a term that isn't made, but whose parts are
pub record IsNext (net : List Node) (g : Graph) (vars words : List (ArrayVec Edge)) (t : ℕ) : Type 0 where
  pub wanted : IsWanted net g vars words t 0
  pub none : edges_at words t ≡ []
  pub parts : (node : TermNode) → node_at g t ≡ Some node → (k : ℕ) → Contains (parts node) k → IsMade words k

-- Terms were made: they have their words' numbers, and the net grew by no more than their gates, and by
-- what more was made of them.
pub record Translates (old new : List Node) (g : Graph) (vars words made : List (ArrayVec Edge)) (extra : ℕ) : Type 0 where
  pub spent : ℕ
  pub grows : Grows old new spent
  pub cost : spent + gates_left g g.terms made ≤ gates_left g g.terms words + extra
  pub proper : AreWords new g vars made
  pub kept : (k : ℕ) → IsMade words k → IsMade made k
  pub fits : (a : ℕ → Bool) (v : Valuation) → IsValuation new a → Respects v g → Fits a v vars words → Fits a v vars made

-- one term was made
pub record MakesOne (old new : List Node) (g : Graph) (vars words made : List (ArrayVec Edge)) (t : ℕ) : Type 0 where
  pub rest : Translates old new g vars words made 0
  pub word : ArrayVec Edge
  pub some : 0 < length word.items
  pub put : made ≡ slice_set words t word

-- a guard and a term that can be made, with room for the edge of their step
pub record IsTest (net : List Node) (g : Graph) (vars words : List (ArrayVec Edge)) (guard t : ℕ) : Type 0 where
  pub wanted : IsWanted net g vars words guard (width_in g t + 8)
  pub bit : width_in g guard ≡ 1
  pub there : t < length g.terms
  pub given : (x : ℕ) → Uses g t x → IsMade vars x

-- whether a step with a guard fails at a term
abbrev pub fails : ℕ → ℕ → Bool
fails guard value = at_zero guard false (at_zero value true false)

-- the edge that is 1 where a step fails
pub record Tests (old new : List Node) (g : Graph) (vars words made : List (ArrayVec Edge)) (guard t : ℕ) (e : Edge) : Type 0 where
  pub rest : Translates old new g vars words made (width_in g t + 1)
  pub there : e.node < length new
  pub value : (a : ℕ → Bool) (v : Valuation) → IsValuation new a → Respects v g → Fits a v vars words → edge_value a e ≡ fails (v.term guard).value (v.term t).value

-- a variable got new inputs
pub record Frees (old new : Maker) (x width : ℕ) : Type 0 where
  pub net : new.net ≡ old.net ++ replicate width Input
  pub wires : new.wires ≡ slice_set old.wires x (record { items = inputs_from (length old.net) (replicate width Input) })
  pub words : new.words ≡ old.words
  pub live : new.live ≡ old.live
  pub root : new.root ≡ old.root

-- a variable got the edges of a term
pub record Gives (g : Graph) (old new : Maker) (x t : ℕ) : Type 0 where
  pub rest : Translates old.net new.net g old.wires old.words new.words 0
  pub made : IsMade new.words t
  pub wires : new.wires ≡ slice_set old.wires x (record { items = edges_at new.words t })
  pub live : new.live ≡ old.live
  pub root : new.root ≡ old.root

-- the list ends where the guard is 1 and the term 0, and is broken there if the step is a property
pub record MayEnd (g : Graph) (old new : Maker) (guard t : ℕ) (breaks : Bool) : Type 0 where
  pub rest : Translates old.net new.net g old.wires old.words new.words (width_in g t + 8)
  pub wires : new.wires ≡ old.wires
  pub live_there : new.live.node < length new.net
  pub root_there : new.root.node < length new.net
  pub live : (a : ℕ → Bool) (v : Valuation) → IsValuation new.net a → Respects v g → Fits a v old.wires old.words → edge_value a new.live ≡ (edge_value a old.live && not (fails (v.term guard).value (v.term t).value))
  pub root : (a : ℕ → Bool) (v : Valuation) → IsValuation new.net a → Respects v g → Fits a v old.wires old.words → edge_value a new.root ≡ (edge_value a old.root || (breaks && (edge_value a old.live && fails (v.term guard).value (v.term t).value)))

-- whether a list has not ended
abbrev pub is_live : Walk → Bool
is_live (Passes r) = true
is_live (Stops r e) = false

-- the walk stopped at a property, not at an assumption that cuts it
abbrev pub is_at_prop : Stop → Bool
is_at_prop AtCut = false
is_at_prop (AtProp p) = true

-- whether it was ended by a property
abbrev pub is_broken : Walk → Bool
is_broken (Passes r) = false
is_broken (Stops r e) = is_at_prop e

-- what the edges say after the first steps, whose walk this is
pub record Shows (a : ℕ → Bool) (v : Valuation) (m : Maker) (w : Walk) : Type 0 where
  pub fits : Fits a v m.wires m.words
  pub live : edge_value a m.live ≡ is_live w
  pub root : edge_value a m.root ≡ is_broken w

-- the first k steps are translated
pub record IsAt (g : Graph) (list : List Step) (k : ℕ) (m : Maker) : Type 0 where
  pub proper : AreWords m.net g m.wires m.words
  pub given : (x : ℕ) → x < length g.vars → givers x (take k list) ≡ 1 → IsMade m.wires x
  pub one_to_one : inputs m.net ≡ free_edges m.wires (take k list)
  pub live_there : m.live.node < length m.net
  pub root_there : m.root.node < length m.net
  pub count : length m.net + gates_left g g.terms m.words + step_gates g (drop k list) ≤ 1 + gate_count g list
  pub shows : (a : ℕ → Bool) (v : Valuation) → IsValuation m.net a → IsAssignment g list v → AreFreeBits a v m.wires (take k list) → Shows a v m (walk v (take k list))
