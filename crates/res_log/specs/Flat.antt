-- The steps of a log, whose chains lie one after another in one list.
use Rattle.std.specs.Prelude.{ℕ, ◌≤◌, List, [], ◌∷◌, map, slice_range}
use Rattle.res_log.specs.declared.ChainStep.{ChainStep}
use Rattle.res_log.specs.declared.Entry.{Entry}
use Rattle.res_log.specs.Step.{Step}

-- the step of an entry, whose chain is a part of the links
abbrev pub step_of : List ChainStep → Entry → Step
step_of links e = record { derived = e.derived; first = e.first; rest = slice_range links e.from e.to }

-- the steps of a log, in order
abbrev pub steps_of : List ChainStep → List Entry → List Step
steps_of links entries = map (step_of links) entries

-- the chain of each entry lies within the first n links
abbrev pub AreWithin : ℕ → List Entry → Type 0
AreWithin n [] = Unit {0}
AreWithin n (e ∷ es) = (e.from ≤ e.to) × (e.to ≤ n) × AreWithin n es
