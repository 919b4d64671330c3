-- What may be wrong with ports, and with their second declarations (IEEE 1364-2005, 12.3.3).
use Rattle.std.specs.Prelude.{ℕ, List, [], ◌++◌, Option, Some, None, Bool, true, false, eqb, ◌||◌, not}
use Rattle.src_text.specs.declared.refusal.Place.{Place}
use Rattle.src_text.specs.declared.kind.Kind.TheVariants.{VRedeclared, VPort}
use Rattle.v_tree.specs.Starts.{expr_start}
use Rattle.v_tree.specs.declared.expr.Expr.{Expr}
use Rattle.v_tree.specs.declared.item.Direction.{Direction}
use Rattle.v_tree.specs.declared.item.DirectionKind.{DirectionKind}
use Rattle.v_tree.specs.declared.item.DirectionKind.TheVariants as direction
use Rattle.v_tree.specs.declared.item.NetKind.{NetKind}
use Rattle.v_tree.specs.declared.item.NetKind.TheVariants as net
use Rattle.v_tree.specs.declared.name.Identifier.{Identifier}
use Rattle.offence_order.specs.declared.Offence.{Offence}
use Rattle.offence_order.specs.Order.{at}
use Rattle.name_table.specs.Tables.{find_in as find_port}
use Rattle.elab_names.specs.declared.names.Entry.{Entry}
use Rattle.elab_names.specs.declared.names.Entry.TheVariants.{Parameter, Integer, Signal, Instance}
use Rattle.elab_names.specs.declared.names.Shape.{Shape}
use Rattle.elab_names.specs.declared.names.SignalEntry.{SignalEntry}
use Rattle.elab_names.specs.declared.names.Sort.{Sort}
use Rattle.elab_names.specs.declared.names.Sort.TheVariants.{Input, Net, Reg}
use Rattle.elab_names.specs.Names.{find_in}
use Rattle.elab_declarations.specs.declared.signals.Declared.{Declared}
use Rattle.elab_declarations.specs.declared.signals.ListedPort.{ListedPort}
use Rattle.elab_declarations.specs.declared.signals.SignalForm.{SignalForm}
use Rattle.elab_declarations.specs.declared.signals.Stage.{Stage}
use Rattle.elab_declarations.specs.declared.signals.Stage.TheVariants as stage
use Rattle.elab_declarations.specs.Signals.{may_follow}
use Rattle.elab_offences.specs.Rules.{at_if}
use Rattle.elab_declaration_offences.specs.Names.{again_at, again_offences}

-- `input reg`
abbrev pub is_input_reg : DirectionKind → Option NetKind → Bool
is_input_reg direction.Input (Some net.Reg) = true
is_input_reg direction.Input (Some net.Wire) = false
is_input_reg direction.Input None = false
is_input_reg direction.Output kind = false

-- an input is no register
abbrev pub port_offences : Direction → Option NetKind → List Offence
port_offences d kind = at_if (is_input_reg d.kind kind) d.place VPort

-- `output reg`
abbrev pub is_output_reg : DirectionKind → Option NetKind → Bool
is_output_reg direction.Output (Some net.Reg) = true
is_output_reg direction.Output (Some net.Wire) = false
is_output_reg direction.Output None = false
is_output_reg direction.Input kind = false

-- only an output that is a register has a value in the header
abbrev pub port_value_offences : DirectionKind → Option NetKind → Option Expr → List Offence
port_value_offences d kind None = []
port_value_offences d kind (Some e) = at_if (not (is_output_reg d kind)) (expr_start e) VPort

-- a name that the header lists a second time
abbrev pub listed_at : Place → Option ListedPort → List Offence
listed_at place None = []
listed_at place (Some before) = at place VRedeclared

-- a name that the header lists
abbrev pub listed_offences : Declared → Identifier → List Offence
listed_offences d x = listed_at x.place (find_port d.ports x.name)

-- a direction item for a name that the header doesn't list, told at the item
abbrev pub unlisted_at : Place → Option ListedPort → List Offence
unlisted_at place None = at place VPort
unlisted_at place (Some p) = []

-- a name in a direction item
abbrev pub directed_offences : Declared → Place → Identifier → List Offence
directed_offences d place x = unlisted_at place (find_port d.ports x.name) ++ again_offences d.names x

-- two ranges that are known, and aren't the same numbers
abbrev pub shapes_differ : Option Shape → Option Shape → Bool
shapes_differ (Some a) (Some b) = not (eqb a.bits b.bits) || not (eqb a.low b.low)
shapes_differ (Some a) None = false
shapes_differ None b = false

-- a register
abbrev pub is_reg : Sort → Bool
is_reg Reg = true
is_reg Input = false
is_reg Net = false

-- an input that is declared as a register
abbrev pub is_input_as_reg : Sort → Sort → Bool
is_input_as_reg Input second = is_reg second
is_input_as_reg Net second = false
is_input_as_reg Reg second = false

-- one has a sign and the other hasn't
abbrev pub signs_differ : Bool → Bool → Bool
signs_differ true b = not b
signs_differ false b = b

-- a second declaration with another sign or range, or of an input as a register; a memory has another range
abbrev pub forms_differ : SignalEntry → SignalForm → Bool
forms_differ s f = (signs_differ s.signed f.signed || f.memory) || (shapes_differ s.shape f.shape || is_input_as_reg s.sort f.sort)

-- the same, of what the port's name stands for
abbrev pub second_differs : Option Entry → SignalForm → Bool
second_differs (Some (Signal s)) f = forms_differ s f
second_differs (Some (Parameter p)) f = false
second_differs (Some (Integer n)) f = false
second_differs (Some Instance) f = false
second_differs None f = false

-- a name in a `wire` or `reg` item, by whether it completes a port
abbrev pub second_at : Place → Option ℕ → Option Entry → SignalForm → List Offence
second_at place None entry f = again_at place entry
second_at place (Some number) entry f = at_if (second_differs entry f) place VPort

-- a name in a `wire` or `reg` item
abbrev pub item_offences : Declared → SignalForm → Identifier → List Offence
item_offences d f x = second_at x.place (may_follow (find_port d.ports x.name)) (find_in d.names x.name) f

-- a port that a `wire` item completes has no value
abbrev pub item_value_at : Option ℕ → Option Expr → List Offence
item_value_at None value = []
item_value_at (Some number) None = []
item_value_at (Some number) (Some e) = at (expr_start e) VPort

-- the value of a name in a `wire` item
abbrev pub item_value_offences : Declared → Identifier → Option Expr → List Offence
item_value_offences d x value = item_value_at (may_follow (find_port d.ports x.name)) value

-- how far a port is declared after all items: a direction item has to be there
abbrev pub bare_at : Place → Option ListedPort → List Offence
bare_at place None = []
bare_at place (Some p) = at_stage place p.stage
  where
    at_stage : Place → Stage → List Offence
    at_stage place stage.Listed = at place VPort
    at_stage place stage.Directed = []
    at_stage place stage.Whole = []

-- a name of the header, after all items
abbrev pub bare_offences : Declared → Identifier → List Offence
bare_offences d x = bare_at x.place (find_port d.ports x.name)
