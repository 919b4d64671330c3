-- Wires with a bit that no driver writes (IEEE 1364-2005, 4.2.1: a net without driver has the value z).
use Rattle.std.specs.Prelude.{◌≡◌, ◌<◌, ◌≤◌, ℕ, Bool, true, false, eqb, nat_lt, ◌&&◌, List, length, Option, Some, None, slice_get}
use Rattle.bit_sets.specs.declared.Bits.{Bits}
use Rattle.v_views.specs.declared.Sort.{Sort}
use Rattle.v_views.specs.declared.Sort.TheVariants.{Input, Net, Reg}
use Rattle.v_views.specs.Spots.{spot}
use Rattle.flat_tree.specs.declared.design.Driver.{Driver}
use Rattle.flat_tree.specs.declared.design.FlatSignal.{FlatSignal}
use Rattle.flat_tree.specs.declared.expr.FlatExpr.{FlatExpr}
use Rattle.flat_language.proofs.Local.{flat_language}
use Rattle.flat_values.specs.Fits.{shapes_of}
use Rattle.flat_writes.specs.declared.masks.Extent.TheVariants.{Certain}
use Rattle.frame_offences.specs.Drivers.{mask_has}
use Rattle.wire_drivers.specs.Wires.{any_writes}

-- what is driven from outside processes
abbrev pub is_net : Sort → Bool
is_net Input = false
is_net Net = true
is_net Reg = false

-- whether a signal is a wire with such a bit
abbrev pub wire_bit : FlatSignal → ℕ → Bool
wire_bit s k = is_net s.sort && nat_lt k s.bits

-- the same of a signal that may not be there
abbrev pub wire_at : Option FlatSignal → ℕ → Bool
wire_at None k = false
wire_at (Some s) k = wire_bit s k

-- at most 64 bits
abbrev pub IsNarrow : FlatSignal → Type 0
IsNarrow s = s.bits ≤ 64

-- masks have all bits of all wires, one for each signal
abbrev pub AreMasks : List FlatSignal → List Bits → Type 0
AreMasks signals masks = (j g k : ℕ) → mask_has masks j g k ≡ (eqb j g && wire_at (slice_get signals j) k)

module _ (signals : List FlatSignal) (drivers : List (Driver FlatExpr)) where
  -- signal g is a wire with a bit that no driver writes for certain
  pub record IsUndriven (g : ℕ) : Type 0 where
    pub bit : ℕ
    pub wire : wire_at (slice_get signals g) bit ≡ true
    pub none : any_writes (flat_language (shapes_of signals)) Certain drivers (spot g 0 bit) ≡ false

  -- none of the first n signals is
  abbrev pub AreDriven : ℕ → Type 0
  AreDriven n = (g : ℕ) → g < n → IsUndriven g → ⊥

  -- the first wire with a bit that no driver writes for certain
  abbrev pub IsFirstUndriven : Option ℕ → Type 0
  IsFirstUndriven None = AreDriven (length signals)
  IsFirstUndriven (Some g) = (g < length signals) × IsUndriven g × AreDriven g
