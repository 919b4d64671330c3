-- What becomes of a program beside the modules of a Verilog text.
use Rattle.std.specs.Prelude.{◌≡◌, ℕ, true, false, List, Some, None, IsSome}
use Rattle.command_options.specs.declared.asked.Options.{Options}
use Rattle.joint_ir.specs.declared.program.CProgram.{CProgram}
use Rattle.joint_ir.specs.WellFormed.{IsWellFormed}
use Rattle.v_tree.specs.declared.item.Module.{Module}
use Rattle.bare_pairs.specs.Bare.{pair_of}
use Rattle.verdicts.specs.Told.{IsTold}
use Rattle.bare_sources.specs.declared.joined.Joined.{Joined}
use Rattle.bare_sources.specs.declared.joined.Joined.TheVariants.{OtherModule, NotTaken, Told}
use Rattle.bare_sources.specs.Bare.{name_of_bare}
use Rattle.bare_sources.specs.Taken.{is_taken, bounds_for}

-- The text isn't one bare module that is the top; or it is, and the program isn't one that is judged; or it is told of the pair
-- of both, within the bounds and by the budget that are asked for.
abbrev pub IsJoined : Options → CProgram → List Module → Joined → Type 0
IsJoined options program modules OtherModule = name_of_bare options.top modules ≡ None
IsJoined options program modules NotTaken = IsSome (name_of_bare options.top modules) × (is_taken program ≡ false)
IsJoined options program modules (Told told) =
    (name : List ℕ) × (name_of_bare options.top modules ≡ Some name) × (is_taken program ≡ true)
    × IsWellFormed (pair_of program name) × IsTold (pair_of program name) (bounds_for options program) options.budget told
