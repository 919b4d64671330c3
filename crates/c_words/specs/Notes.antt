-- What a typer notes on its way.
use Rattle.std.specs.Prelude.{List, [], ◌∷◌, ◌++◌, None}
use Rattle.offence_order.specs.declared.Offence.{Offence}
use Rattle.offence_order.specs.Order.{sooner, first_of}
use Rattle.c_words.specs.declared.notes.Site.{Site}
use Rattle.c_words.specs.declared.notes.Notes.{Notes}

-- nothing noted
abbrev pub no_notes : Notes
no_notes = record { first = None; sites = [] }

-- with an offence, of which only the first one is kept
abbrev pub with_offence : Notes → Offence → Notes
with_offence n o = record { first = sooner n.first o; sites = n.sites }

-- with a property
abbrev pub with_site : Notes → Site → Notes
with_site n s = record { first = n.first; sites = n.sites ++ s ∷ [] }

-- with offences and properties
abbrev pub noted : Notes → List Offence → List Site → Notes
noted n offences sites = record { first = first_of n.first offences; sites = n.sites ++ sites }
