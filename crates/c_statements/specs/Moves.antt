-- Steps of the typer.
use Rattle.std.specs.Prelude.{◌≡◌, List}
use Rattle.offence_order.specs.declared.Offence.{Offence}
use Rattle.offence_order.specs.Order.{first_of}
use Rattle.c_statements.specs.declared.walk.Typer.{Typer}
use Rattle.c_statements.specs.Known.{Known}

-- what a typer knows
abbrev pub known_of : Typer → Known
known_of t = record { fns = t.signatures; scopes = t.scopes; locals = t.locals; sites = t.notes.sites }

-- it notes these offences, and then knows this
pub record Goes (old new : Typer) (offences : List Offence) (after : Known) : Type 0 where
  pub first : new.notes.first ≡ first_of old.notes.first offences
  pub known : known_of new ≡ after
