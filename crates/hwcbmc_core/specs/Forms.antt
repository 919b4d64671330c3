-- The options that the written forms fit.
use Rattle.std.specs.Prelude.{ℕ, Bool, true, not, ◌&&◌, List, Option, None, Some, codes, bytes_eq}
use Rattle.command_options.specs.declared.asked.Options.{Options}

-- The top is found, or it is asked for by the name that it has in the written form.
abbrev pub fits_top : Option (List ℕ) → Bool
fits_top None = true
fits_top (Some name) = bytes_eq name (codes "counter")

-- The written forms have a run under these options: the top fits, and a run that goes on past the last clock edge just ends.
abbrev pub fit_forms : Options → Bool
fit_forms options = fits_top options.top && not options.bounds.check_bound
