-- Ports, wires, registers, memories, loop variables and instances (IEEE 1364-2005, 4.2, 4.8, 4.9, 12.1.2 and 12.3.3).
use Rattle.std.specs.Prelude.{ℕ, ◌+◌, List, length, Option, Some, None, Bool, true, false}
use Rattle.v_tree.specs.declared.item.DirectionKind.{DirectionKind}
use Rattle.v_tree.specs.declared.item.DirectionKind.TheVariants as direction
use Rattle.v_tree.specs.declared.item.NetKind.{NetKind}
use Rattle.v_tree.specs.declared.item.NetKind.TheVariants as net
use Rattle.v_tree.specs.declared.item.Range.{Range}
use Rattle.v_tree.specs.declared.item.RegisterForm.{RegisterForm}
use Rattle.v_tree.specs.declared.item.RegisterForm.TheVariants as form
use Rattle.name_table.specs.Tables.{find_in as find_port, put as put_port}
use Rattle.elab_names.specs.declared.names.Entry.{Entry}
use Rattle.elab_names.specs.declared.names.Entry.TheVariants.{Parameter, Integer, Signal, Instance}
use Rattle.elab_names.specs.declared.names.Shape.{Shape}
use Rattle.elab_names.specs.declared.names.Sort.{Sort}
use Rattle.elab_names.specs.declared.names.Sort.TheVariants.{Input, Net, Reg}
use Rattle.elab_names.specs.Names.{Scope, find_in, put}
use Rattle.elab_declarations.specs.declared.signals.Declared.{Declared}
use Rattle.elab_declarations.specs.declared.signals.ListedPort.{ListedPort}
use Rattle.elab_declarations.specs.declared.signals.SignalForm.{SignalForm}
use Rattle.elab_declarations.specs.declared.signals.Stage.{Stage}
use Rattle.elab_declarations.specs.declared.signals.Stage.TheVariants as stage
use Rattle.elab_declarations.specs.Shapes.{shape_of, memory_shape}

-- a signal of this form, with its number in flat order
abbrev pub entry_of : ℕ → SignalForm → Entry
entry_of number f = Signal (record { number = number; sort = f.sort; signed = f.signed; memory = f.memory; shape = f.shape })

-- what a port is: an output is a wire unless `reg` stands there (IEEE 1364-2005, 12.3.3)
abbrev pub port_sort : DirectionKind → Option NetKind → Sort
port_sort direction.Input kind = Input
port_sort direction.Output None = Net
port_sort direction.Output (Some net.Wire) = Net
port_sort direction.Output (Some net.Reg) = Reg

-- no memory
abbrev pub plain : Sort → Bool → Option Shape → SignalForm
plain sort signed shape = record { sort = sort; signed = signed; memory = false; shape = shape }

-- the ports of a declaration
abbrev pub port_form : Scope → DirectionKind → Option NetKind → Bool → Option Range → SignalForm
port_form names kind on signed range = plain (port_sort kind on) signed (shape_of names range)

-- the wires of a declaration (IEEE 1364-2005, 4.2.1)
abbrev pub net_form : Scope → Bool → Option Range → SignalForm
net_form names signed range = plain Net signed (shape_of names range)

-- a register, or a memory of such registers (IEEE 1364-2005, 4.2.2 and 4.9)
abbrev pub register_form : Scope → Bool → Option Shape → RegisterForm → SignalForm
register_form names signed word form.Plain = plain Reg signed word
register_form names signed word (form.Initialized e) = plain Reg signed word
register_form names signed word (form.Memory r) = record { sort = Reg; signed = signed; memory = true; shape = memory_shape names word r }

-- with other ports, and a next number
abbrev pub declared : Scope → List (List ℕ × ListedPort) → ℕ → Declared
declared names ports next = record { names = names; ports = ports; next = next }

-- a port that the header lists
abbrev pub listed : ℕ → Stage → ListedPort
listed number s = record { number = number; stage = s }

-- a name of the header has the next number, unless it stood there before
abbrev pub listed_if_new : Option ListedPort → List ℕ → Declared → Declared
listed_if_new (Some before) name d = d
listed_if_new None name d = declared d.names (put_port name (listed d.next stage.Listed) d.ports) (d.next + 1)

-- a name that the header lists; a direction item declares it
abbrev pub with_listed : List ℕ → Declared → Declared
with_listed name d = listed_if_new (find_port d.ports name) name d

-- a signal with the next number
abbrev pub with_signal : SignalForm → List ℕ → Declared → Declared
with_signal f name d = declared (put name (entry_of d.next f) d.names) d.ports (d.next + 1)

-- a direction item that says `wire` or `reg` says all
abbrev pub stage_after : Option NetKind → Stage
stage_after None = stage.Directed
stage_after (Some kind) = stage.Whole

-- a port with its number in the header
abbrev pub directed_at : SignalForm → Option NetKind → List ℕ → ℕ → Declared → Declared
directed_at f kind name number d = declared (put name (entry_of number f) d.names) (put_port name (listed number (stage_after kind)) d.ports) d.next

-- by whether the header lists it
abbrev pub directed_if_listed : SignalForm → Option NetKind → List ℕ → Option ListedPort → Declared → Declared
directed_if_listed f kind name None d = with_signal f name d
directed_if_listed f kind name (Some p) d = directed_at f kind name p.number d

-- a name in a direction item (IEEE 1364-2005, 12.3.3)
abbrev pub with_directed : SignalForm → Option NetKind → List ℕ → Declared → Declared
with_directed f kind name d = directed_if_listed f kind name (find_port d.ports name) d

-- the number of a port that one `wire` or `reg` may follow
abbrev pub at_stage : ℕ → Stage → Option ℕ
at_stage number stage.Directed = Some number
at_stage number stage.Listed = None
at_stage number stage.Whole = None

-- the same, if the header lists it
abbrev pub may_follow : Option ListedPort → Option ℕ
may_follow None = None
may_follow (Some p) = at_stage p.number p.stage

-- an output that is declared `reg` too is one
abbrev pub completed_sort : Sort → Sort → Sort
completed_sort Net second = second
completed_sort Input second = Input
completed_sort Reg second = Reg

-- a port keeps its number, its sign and its shape
abbrev pub completed : Option Entry → ℕ → SignalForm → Entry
completed (Some (Signal s)) number f = Signal (record { number = s.number; sort = completed_sort s.sort f.sort; signed = s.signed; memory = s.memory; shape = s.shape })
completed (Some (Parameter p)) number f = entry_of number f
completed (Some (Integer n)) number f = entry_of number f
completed (Some Instance) number f = entry_of number f
completed None number f = entry_of number f

-- the second declaration of a port, after which there is none
abbrev pub with_completed : SignalForm → List ℕ → ℕ → Declared → Declared
with_completed f name number d = declared (put name (completed (find_in d.names name) number f) d.names) (put_port name (listed number stage.Whole) d.ports) d.next

-- by whether it completes a port
abbrev pub item_at : SignalForm → List ℕ → Option ℕ → Declared → Declared
item_at f name None d = with_signal f name d
item_at f name (Some number) d = with_completed f name number d

-- a name in a `wire` or `reg` item (IEEE 1364-2005, 12.3.3)
abbrev pub with_item : SignalForm → List ℕ → Declared → Declared
with_item f name d = item_at f name (may_follow (find_port d.ports name)) d

-- a loop variable, by how many names were declared before it (IEEE 1364-2005, 4.8)
abbrev pub with_integer : List ℕ → Declared → Declared
with_integer name d = declared (put name (Integer (length d.names)) d.names) d.ports d.next

-- the name of an instance (IEEE 1364-2005, 12.1.2)
abbrev pub with_instance : List ℕ → Declared → Declared
with_instance name d = declared (put name Instance d.names) d.ports d.next
