-- The modules of a text by their names (IEEE 1364-2005, 12.1).
use Rattle.std.specs.Prelude.{ℕ, ◌+◌, List, [], ◌∷◌, ◌++◌, Option, Some, None}
use Rattle.src_text.specs.declared.refusal.Place.{Place}
use Rattle.src_text.specs.declared.kind.Kind.TheVariants.{VModuleTwice}
use Rattle.v_tree.specs.declared.item.Module.{Module}
use Rattle.offence_order.specs.declared.Offence.{Offence}
use Rattle.offence_order.specs.Order.{at}
use Rattle.name_table.specs.Tables.{find_in, put}

-- the numbers of modules, by their names
abbrev pub Numbers : Type 0
Numbers = List (List ℕ × ℕ)

-- with a module, unless one before it has its name
abbrev pub if_new : Option ℕ → Numbers → ℕ → Module → Numbers
if_new (Some before) numbers n m = numbers
if_new None numbers n m = put m.name.name n numbers

-- with the next module of a text
abbrev pub with_module : Numbers → ℕ → Module → Numbers
with_module numbers n m = if_new (find_in numbers m.name.name) numbers n m

-- with the modules from a place of the text on
abbrev pub numbered_from : Numbers → ℕ → List Module → Numbers
numbered_from numbers n [] = numbers
numbered_from numbers n (m ∷ modules) = numbered_from (with_module numbers n m) (n + 1) modules

-- the modules of a text by their names, of two that share one the first
abbrev pub numbers_of : List Module → Numbers
numbers_of modules = numbered_from [] 0 modules

-- a module whose name one before it has
abbrev pub twice_at : Place → Option ℕ → List Offence
twice_at place None = []
twice_at place (Some before) = at place VModuleTwice

-- those among the modules from a place of the text on
abbrev pub twice_from : Numbers → ℕ → List Module → List Offence
twice_from numbers n [] = []
twice_from numbers n (m ∷ modules) = twice_at m.name.place (find_in numbers m.name.name) ++ twice_from (with_module numbers n m) (n + 1) modules

-- the modules that are declared twice
abbrev pub twice_offences : List Module → List Offence
twice_offences modules = twice_from [] 0 modules
