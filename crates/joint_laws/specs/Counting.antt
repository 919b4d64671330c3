-- A small pair that is well-formed, and two of its runs.
use Rattle.std.specs.Prelude.{◌≡◌, ℕ, [], ◌∷◌}
use Rattle.joint_ir.specs.declared.event.Event.TheVariants.{Broke}
use Rattle.joint_ir.specs.declared.event.Outcome.TheVariants.{Ended, Broken}
use Rattle.joint_ir.specs.declared.expr.BinaryOp.TheVariants.{Eq}
use Rattle.joint_ir.specs.declared.pair.Pair.{Pair}
use Rattle.joint_ir.specs.declared.program.CProgram.{CProgram}
use Rattle.joint_ir.specs.declared.program.PropKind.TheVariants as kind
use Rattle.joint_ir.specs.declared.stmt.SNode.{Assert, NextFrame}
use Rattle.joint_ir.specs.Effects.{Stops}
use Rattle.joint_ir.specs.Runs.{run_of}
use Rattle.joint_ir.specs.WellFormed.{IsWellFormed}
use Rattle.joint_laws.specs.Modules.{counter}
use Rattle.joint_laws.specs.Words.{prop, number, member, compare, main_of, properties, a_member, pair_of, bounds_of, frame, told}

-- `main` makes one clock edge and asserts that the counter is then n
abbrev pub counting : ℕ → Pair
counting n = pair_of (main_of (NextFrame (prop 0) ∷ Assert (compare Eq (member 0) (number n)) (prop 1) ∷ []) ∷ [])
    [] (a_member 0 ∷ []) ((record { member = 0; signal = 1 }) ∷ []) (properties (kind.Frame ∷ kind.Assertion ∷ [])) counter

-- the C program of the pair
abbrev pub counting_program : ℕ → CProgram
counting_program n = (counting n).program

-- the pair is well-formed; with an assertion that holds its run ends, and with another one it breaks that
pub record Examples : Type 0 where
  pub holds : IsWellFormed (counting 1)
  pub ends : run_of (counting 1) (bounds_of 1 2) [] ≡ Stops Ended (told (frame 0 0 ∷ frame 1 1 ∷ []) []) []
  pub fails : IsWellFormed (counting 2)
  pub breaks : run_of (counting 2) (bounds_of 1 2) [] ≡ Stops (Broken (prop 1)) (told (frame 0 0 ∷ frame 1 1 ∷ Broke (prop 1) ∷ []) []) []
