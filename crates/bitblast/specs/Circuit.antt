-- What circuits add to a net, and the number that edges have.
use Rattle.std.specs.Prelude.{◌≡◌, ℕ, ◌+◌, ◌*◌, ◌^◌, ◌<◌, ◌≤◌, Bool, true, false, not, List, [], ◌∷◌, length, All}
use Rattle.bits_core.specs.Word.{bit}
use Rattle.gate_net.specs.declared.net.Edge.{Edge}
use Rattle.gate_net.specs.declared.net.Node.{Node}
use Rattle.gate_net.specs.Edge.{edge_value}
use Rattle.gate_net.specs.Net.{Extends, IsValuation}

-- a value for each node of a net
abbrev pub Values : Type 0
Values = ℕ → Bool

-- the number that edges have under a valuation, the lowest bit first
abbrev pub number_of : (ℕ → Bool) → List Edge → ℕ
number_of a [] = 0
number_of a (e ∷ es) = bit (edge_value a e) + 2 * number_of a es

-- whether exactly one of two bits is 1
abbrev pub differ : Bool → Bool → Bool
differ true q = not q
differ false q = q

-- each edge leads to one of the nodes
abbrev pub AreBelow : ℕ → List Edge → Type 0
AreBelow nodes es = All (λ e. e.node < nodes) es

-- the net grew by at most so many gates, and its values are values of the old one
pub record Grows (old new : List Node) (most : ℕ) : Type 0 where
  pub extends : Extends old new
  pub longer : length old ≤ length new
  pub cost : length new ≤ length old + most
  pub values : (a : ℕ → Bool) → IsValuation new a → IsValuation old a

-- an edge that has this value under all values of the net
pub record MakesEdge (old new : List Node) (most : ℕ) (f : (ℕ → Bool) → Bool) (e : Edge) : Type 0 where
  pub grows : Grows old new most
  pub there : e.node < length new
  pub value : (a : ℕ → Bool) → IsValuation new a → edge_value a e ≡ f a

-- edges that have this number under all values of the net
pub record MakesWord (old new : List Node) (most width : ℕ) (f : (ℕ → Bool) → ℕ) (es : List Edge) : Type 0 where
  pub grows : Grows old new most
  pub there : AreBelow (length new) es
  pub bits : length es ≡ width
  pub value : (a : ℕ → Bool) → IsValuation new a → number_of a es ≡ f a

-- a sum bit and a carry: together the sum of three bits
pub record AddsBits (old new : List Node) (p q r sum carry : Edge) : Type 0 where
  pub grows : Grows old new 9
  pub sum_there : sum.node < length new
  pub carry_there : carry.node < length new
  pub value : (a : ℕ → Bool) → IsValuation new a → bit (edge_value a sum) + 2 * bit (edge_value a carry) ≡ bit (edge_value a p) + bit (edge_value a q) + bit (edge_value a r)

-- a word and a carry that stands on its left: together this number, under all values of the net
pub record MakesSum (old new : List Node) (most width : ℕ) (f : (ℕ → Bool) → ℕ) (es : List Edge) (carry : Edge) : Type 0 where
  pub grows : Grows old new most
  pub there : AreBelow (length new) es
  pub carry_there : carry.node < length new
  pub bits : length es ≡ width
  pub value : (a : ℕ → Bool) → IsValuation new a → number_of a es + 2 ^ width * bit (edge_value a carry) ≡ f a
