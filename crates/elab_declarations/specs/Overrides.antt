-- What an instance gives for the parameters of its module (IEEE 1364-2005, 12.2.2).
use Rattle.std.specs.Prelude.{ℕ, List, [], ◌∷◌, ◌++◌, length, map, flat_map, slice_get, Option, Some, None}
use Rattle.v_tree.specs.declared.expr.Expr.{Expr}
use Rattle.v_tree.specs.declared.item.Connections.{Connections}
use Rattle.v_tree.specs.declared.item.Connections.TheVariants as connections
use Rattle.v_tree.specs.declared.item.Item.{Item}
use Rattle.v_tree.specs.declared.item.Item.TheVariants as item
use Rattle.v_tree.specs.declared.item.Module.{Module}
use Rattle.v_tree.specs.declared.item.NamedConnection.{NamedConnection}
use Rattle.v_tree.specs.declared.item.ParameterAssignment.{ParameterAssignment}
use Rattle.v_tree.specs.declared.item.ParameterDeclaration.{ParameterDeclaration}
use Rattle.name_table.specs.Tables.{find_in, put}
use Rattle.elab_names.specs.declared.constant.Constant.{Constant}
use Rattle.elab_names.specs.Names.{Scope}
use Rattle.elab_declarations.specs.declared.overrides.Given.{Given}
use Rattle.elab_declarations.specs.declared.overrides.Given.TheVariants as given
use Rattle.elab_declarations.specs.declared.overrides.Overrides.{Overrides}
use Rattle.elab_declarations.specs.declared.overrides.Overrides.TheVariants as overrides
use Rattle.elab_declarations.specs.Values.{given_constant}

-- the name of a parameter
abbrev pub name_of : ParameterAssignment → List ℕ
name_of p = p.name.name

-- the names of a declaration, in order
abbrev pub names_in : ParameterDeclaration → List (List ℕ)
names_in d = map name_of d.parameters

-- the parameters that an item declares; an instance gives no value for a `localparam` (IEEE 1364-2005, 4.10.2)
abbrev pub item_names : Item → List (List ℕ)
item_names (item.Parameter d) = names_in d
item_names (item.LocalParameter d) = []
item_names (item.Port d) = []
item_names (item.Net d) = []
item_names (item.Reg d) = []
item_names (item.Integer d) = []
item_names (item.Assign d) = []
item_names (item.Always a) = []
item_names (item.Initial place body) = []
item_names (item.Instances d) = []

-- the parameters of a module for which an instance may give values, in text order
abbrev pub parameter_names : Module → List (List ℕ)
parameter_names m = flat_map names_in m.parameters ++ flat_map item_names m.items

-- a name that is new has the next number
abbrev pub if_new : Option ℕ → List (List ℕ × ℕ) → List ℕ → List (List ℕ × ℕ)
if_new (Some n) numbers name = numbers
if_new None numbers name = put name (length numbers) numbers

-- with a name, unless it is there
abbrev pub with_number : List (List ℕ × ℕ) → List ℕ → List (List ℕ × ℕ)
with_number numbers name = if_new (find_in numbers name) numbers name

-- with names, one after another
abbrev pub numbered : List (List ℕ × ℕ) → List (List ℕ) → List (List ℕ × ℕ)
numbered numbers [] = numbers
numbered numbers (name ∷ names) = numbered (with_number numbers name) names

-- the parameters of a module by their names, numbered in text order
abbrev pub parameter_numbers : Module → List (List ℕ × ℕ)
parameter_numbers m = numbered [] (parameter_names m)

-- a value by name, where one stands there (IEEE 1364-2005, 12.2.2.2)
abbrev pub with_value : Scope → List ℕ → Option Expr → List (List ℕ × Option Constant) → List (List ℕ × Option Constant)
with_value outer name None values = values
with_value outer name (Some e) values = put name (given_constant outer e) values

-- with the value that `.name( value )` gives
abbrev pub with_given : Scope → NamedConnection → List (List ℕ × Option Constant) → List (List ℕ × Option Constant)
with_given outer c values = with_value outer c.name.name c.value values

-- with those of a list
abbrev pub given_by_name : Scope → List NamedConnection → List (List ℕ × Option Constant) → List (List ℕ × Option Constant)
given_by_name outer [] values = values
given_by_name outer (c ∷ cs) values = given_by_name outer cs (with_given outer c values)

-- what a list gives, by the names of the module in which the instance stands
abbrev pub connections_given : Scope → Module → Connections → Overrides
connections_given outer m connections.Absent = overrides.Absent
connections_given outer m (connections.Ordered es) = overrides.Ordered (parameter_numbers m) (map (given_constant outer) es)
connections_given outer m (connections.Named cs) = overrides.Named (given_by_name outer cs [])

-- what an instance of a module gives
abbrev pub overrides_of : Scope → Module → Option Connections → Overrides
overrides_of outer m None = overrides.Absent
overrides_of outer m (Some c) = connections_given outer m c

-- what is given for a parameter, if something is
abbrev pub given_or_own : Option (Option Constant) → Given
given_or_own None = given.Own
given_or_own (Some c) = given.Instead c

-- the value that stands at the parameter's number (IEEE 1364-2005, 12.2.2.1)
abbrev pub at_number : List (Option Constant) → Option ℕ → Given
at_number values None = given.Own
at_number values (Some n) = given_or_own (slice_get values n)

-- what is given for the parameter of a name
abbrev pub given_for : Overrides → List ℕ → Given
given_for overrides.Absent name = given.Own
given_for (overrides.Ordered numbers values) name = at_number values (find_in numbers name)
given_for (overrides.Named values) name = given_or_own (find_in values name)
