-- Which words a module may have.
use Rattle.std.specs.Prelude.{◌≡◌, ℕ, ◌<◌, ◌≤◌, ◌^◌, List, [], ◌∷◌, All, Some, slice_get, slice_index_or}
use Rattle.joint_ir.specs.declared.module.FlatModule.{FlatModule}
use Rattle.joint_ir.specs.declared.module.Role.TheVariants.{Input, Register, Wire}
use Rattle.joint_ir.specs.declared.module.Signal.{Signal}
use Rattle.joint_ir.specs.States.{View}
use Rattle.joint_ir.specs.Views.{widths_of}

-- a number of bits of a word of a signal, and of a draw
abbrev pub IsNarrow : ℕ → Type 0
IsNarrow w = (0 < w) × (w ≤ 64)

-- one number for each width, below 2 to that width
abbrev pub AreWords : (widths numbers : List ℕ) → Type 0
AreWords [] [] = Unit {0}
AreWords [] (n ∷ numbers) = ⊥
AreWords (w ∷ widths) [] = ⊥
AreWords (w ∷ widths) (n ∷ numbers) = (n < 2 ^ w) × AreWords widths numbers

-- the words of a view are those of a module
pub record IsView (m : FlatModule) (v : View) : Type 0 where
  pub registers : AreWords (widths_of Register m.signals) v.registers
  pub inputs : AreWords (widths_of Input m.signals) v.inputs
  pub wires : AreWords (widths_of Wire m.signals) v.wires

-- the words of each signal fit it
pub record FitSignals (signals : List Signal) (words : List (List ℕ)) : Type 0 where
  pub at : (g : ℕ) (s : Signal) → slice_get signals g ≡ Some s → All (λ n. n < 2 ^ s.bits) (slice_index_or words g [])
