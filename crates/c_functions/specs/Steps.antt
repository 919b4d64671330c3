-- Partway through parameters.
use Rattle.std.specs.Prelude.{◌≡◌, ℕ, List, drop}
use Rattle.c_tree.specs.declared.declarations.Parameter.{Parameter}
use Rattle.offence_order.specs.Order.{first_of}
use Rattle.c_statements.specs.declared.walk.Typer.{Typer}
use Rattle.c_statements.specs.Moves.{known_of}
use Rattle.c_functions.specs.Declarations.{names_known, names_offences}
use Rattle.c_functions.specs.Definitions.{params_known, params_offences}

-- after some parameters: what is left to do, from what is done
pub record ParamsSoFar (old now : Typer) (ps : List Parameter) (i : ℕ) : Type 0 where
  pub first_so : first_of old.notes.first (params_offences (known_of old) ps) ≡ first_of now.notes.first (params_offences (known_of now) (drop i ps))
  pub known_so : params_known ps (known_of old) ≡ params_known (drop i ps) (known_of now)

-- after i names of parameters: what is done and what is left make the whole
pub record NamesSoFar (old now : Typer) (ps : List Parameter) (i : ℕ) : Type 0 where
  pub first_so : first_of old.notes.first (names_offences (known_of old) ps) ≡ first_of now.notes.first (names_offences (known_of now) (drop i ps))
  pub known_so : names_known ps (known_of old) ≡ names_known (drop i ps) (known_of now)
