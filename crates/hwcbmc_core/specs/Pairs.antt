-- Texts that are a C program beside one bare module.
use Rattle.std.specs.Prelude.{◌≡◌, ℕ, false, true, List, [], Some, None, IsSome}
use Rattle.c_tree.specs.declared.file.CTree.{CTree}
use Rattle.v_tree.specs.declared.item.VTree.{VTree}
use Rattle.c_parse.specs.Ends.{HasTree as HasCTree}
use Rattle.v_parse.specs.Ends.{HasTree as HasVTree}
use Rattle.c_types.specs.Files.{c_offences, program_of}
use Rattle.command_options.specs.declared.asked.Options.{Options}
use Rattle.joint_ir.specs.declared.bounds.Bounds.{Bounds}
use Rattle.joint_ir.specs.declared.pair.Pair.{Pair}
use Rattle.joint_ir.specs.WellFormed.{IsWellFormed}
use Rattle.bare_pairs.specs.Bare.{pair_of}
use Rattle.bare_sources.specs.Bare.{name_of_bare}
use Rattle.bare_sources.specs.Taken.{is_taken, bounds_for}
use Rattle.verdicts.specs.declared.Told.{Told}
use Rattle.verdicts.specs.Told.{IsTold}

-- The Verilog text has a tree, and it isn't one bare module that is the top.
pub record IsOtherModule (options : Options) (v_text : List ℕ) : Type 0 where
  pub v_tree : VTree
  pub v_read : HasVTree v_text v_tree
  pub other : name_of_bare options.top v_tree.modules ≡ None

-- Both texts have trees, that of the C text without offence. The Verilog text is one bare module that is the top, and the program
-- isn't one that is judged beside it.
pub record IsNotTaken (options : Options) (c_text v_text : List ℕ) : Type 0 where
  pub c_tree : CTree
  pub c_read : HasCTree c_text c_tree
  pub clean : c_offences c_tree ≡ []
  pub v_tree : VTree
  pub v_read : HasVTree v_text v_tree
  pub bare : IsSome (name_of_bare options.top v_tree.modules)
  pub not_taken : is_taken (program_of c_tree) ≡ false

-- The texts are this pair, within these bounds: the typed program of the C text, which has no offence, and a module that has
-- nothing, with the name of the only module of the Verilog text, which is bare and the top.
pub record IsBarePair (options : Options) (c_text v_text : List ℕ) (pair : Pair) (bounds : Bounds) : Type 0 where
  pub c_tree : CTree
  pub c_read : HasCTree c_text c_tree
  pub clean : c_offences c_tree ≡ []
  pub v_tree : VTree
  pub v_read : HasVTree v_text v_tree
  pub name : List ℕ
  pub bare : name_of_bare options.top v_tree.modules ≡ Some name
  pub taken : is_taken (program_of c_tree) ≡ true
  pub pair_is : pair ≡ pair_of (program_of c_tree) name
  pub bounds_are : bounds ≡ bounds_for options (program_of c_tree)
  pub well_formed : IsWellFormed pair

-- The texts are a pair of which this is told, within the bounds and by the budget that are asked for.
abbrev pub IsToldOf : Options → List ℕ → List ℕ → Told → Type 0
IsToldOf options c_text v_text told =
    (pair : Pair) × (bounds : Bounds) × IsBarePair options c_text v_text pair bounds × IsTold pair bounds options.budget told
