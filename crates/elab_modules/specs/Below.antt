-- The module that an instance names: it is there, and the instance doesn't stand inside of it (IEEE 1364-2005, 12.1.2).
use Rattle.std.specs.Prelude.{ℕ, List, [], ◌∷◌, Option, Some, None, Bool, true, false, ◌==◌, if◌then◌else◌}
use Rattle.src_text.specs.declared.refusal.Place.{Place}
use Rattle.src_text.specs.declared.kind.Kind.TheVariants.{VUnknownModule, VRecursive, VTooLarge}
use Rattle.offence_order.specs.declared.Offence.{Offence}
use Rattle.offence_order.specs.Order.{at}

-- whether a module is among those in which the text stands
abbrev pub is_above : List ℕ → ℕ → Bool
is_above [] m = false
is_above (a ∷ above) m = if a == m then true else is_above above m

-- what is wrong with the module that an instance names, told at its name
abbrev pub module_offences : List ℕ → Place → Option ℕ → List Offence
module_offences above place None = at place VUnknownModule
module_offences above place (Some m) = if is_above above m then at place VRecursive else []

-- an instance where so many levels of instances may still stand, told at its name
abbrev pub depth_offences : Place → ℕ → List Offence
depth_offences place levels = if levels == 0 then at place VTooLarge else []
