-- Division bit by bit.
use Rattle.std.specs.Prelude.{◌≡◌, ℕ, ◌+◌, ◌*◌, ◌<◌, Bool, List, length}
use Rattle.bits_core.specs.Word.{bit}
use Rattle.gate_net.specs.declared.net.Edge.{Edge}
use Rattle.gate_net.specs.declared.net.Node.{Node}
use Rattle.gate_net.specs.Edge.{edge_value}
use Rattle.gate_net.specs.Net.{IsValuation}
use Rattle.bitblast.specs.Circuit.{AreBelow, Grows, number_of}

-- A step of a division: twice the old rest and the next bit are the new rest, and the divisor where it
-- fits. Nothing is said where the old rest isn't below the divisor.
pub record MakesStep (old new : List Node) (rest : List Edge) (next : Edge) (divisor left : List Edge) (fits : Edge) : Type 0 where
  pub grows : Grows old new (13 * length rest)
  pub there : AreBelow (length new) left
  pub fits_there : fits.node < length new
  pub bits : length left ≡ length rest
  pub value : (a : ℕ → Bool) → IsValuation new a → number_of a rest < number_of a divisor
      → (2 * number_of a rest + bit (edge_value a next) ≡ bit (edge_value a fits) * number_of a divisor + number_of a left) × (number_of a left < number_of a divisor)

-- A quotient and a rest of a word. Nothing is said where the divisor is 0.
pub record MakesDivision (old new : List Node) (most width : ℕ) (dividend : (ℕ → Bool) → ℕ) (divisor quotient left : List Edge) : Type 0 where
  pub grows : Grows old new most
  pub there : AreBelow (length new) quotient
  pub left_there : AreBelow (length new) left
  pub bits : length quotient ≡ width
  pub left_bits : length left ≡ length divisor
  pub value : (a : ℕ → Bool) → IsValuation new a → 0 < number_of a divisor
      → (dividend a ≡ number_of a quotient * number_of a divisor + number_of a left) × (number_of a left < number_of a divisor)
