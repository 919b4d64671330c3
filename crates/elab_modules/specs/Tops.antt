-- The top module: the one that is named, or the only one that no other module instantiates (IEEE 1364-2005, 12.1.1).
use Rattle.std.specs.Prelude.{ℕ, ◌+◌, List, [], ◌∷◌, Option, Some, None, Bool, true, false, bytes_eq, if◌then◌else◌}
use Rattle.v_tree.specs.declared.item.Item.{Item}
use Rattle.v_tree.specs.declared.item.Item.TheVariants as item
use Rattle.v_tree.specs.declared.item.Module.{Module}
use Rattle.v_tree.specs.declared.item.ModuleInstantiation.{ModuleInstantiation}
use Rattle.name_table.specs.Tables.{find_in, put}
use Rattle.elab_modules.specs.Modules.{numbers_of}

-- the names of the modules that other modules instantiate
abbrev pub Used : Type 0
Used = List (List ℕ × Bool)

-- an instantiation in the module of this name; a module doesn't count among its own
abbrev pub with_instances : List ℕ → ModuleInstantiation → Used → Used
with_instances own d used = if bytes_eq d.module.name own then used else put d.module.name true used

-- an item in the module of this name
abbrev pub with_item : List ℕ → Item → Used → Used
with_item own (item.Instances d) used = with_instances own d used
with_item own (item.Port d) used = used
with_item own (item.Net d) used = used
with_item own (item.Reg d) used = used
with_item own (item.Integer d) used = used
with_item own (item.Parameter d) used = used
with_item own (item.LocalParameter d) used = used
with_item own (item.Assign d) used = used
with_item own (item.Always a) used = used
with_item own (item.Initial place body) used = used

-- items of the module of this name
abbrev pub with_items : List ℕ → List Item → Used → Used
with_items own [] used = used
with_items own (i ∷ items) used = with_items own items (with_item own i used)

-- the items of modules
abbrev pub with_modules : List Module → Used → Used
with_modules [] used = used
with_modules (m ∷ modules) used = with_modules modules (with_items m.name.name m.items used)

-- with a module, unless another one instantiates it
abbrev pub unused_at : Option Bool → ℕ → List ℕ → List ℕ
unused_at (Some used) n rest = rest
unused_at None n rest = n ∷ rest

-- the numbers of the modules that no other one instantiates, from a place of the text on
abbrev pub unused_from : Used → ℕ → List Module → List ℕ
unused_from used n [] = []
unused_from used n (m ∷ modules) = unused_at (find_in used m.name.name) n (unused_from used (n + 1) modules)

-- the modules that no other one instantiates
abbrev pub candidates : List Module → List ℕ
candidates modules = unused_from (with_modules modules []) 0 modules

-- the only one of some
abbrev pub only_one : List ℕ → Option ℕ
only_one [] = None
only_one (n ∷ []) = Some n
only_one (n ∷ m ∷ more) = None

-- the number of the top module, if there is one
abbrev pub top_of : List Module → Option (List ℕ) → Option ℕ
top_of modules (Some name) = find_in (numbers_of modules) name
top_of modules None = only_one (candidates modules)
