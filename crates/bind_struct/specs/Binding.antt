-- What binds a program's mirror to a module, and what is wrong between them.
use Rattle.std.specs.Prelude.{ℕ, ◌+◌, ◌%◌, List, [], ◌∷◌, ◌++◌, map, Option, Some, None, Bool, true, false, slice_get, eqb, nat_lt, bytes_eq, if◌then◌else◌}
use Rattle.src_text.specs.declared.refusal.Place.{Place}
use Rattle.src_text.specs.declared.kind.Kind.{Kind}
use Rattle.src_text.specs.declared.kind.Kind.TheVariants.{BNotTop, BNoSignal, BShape, BNarrow, BNotInput}
use Rattle.joint_ir.specs.declared.ctype.IntType.{IntType}
use Rattle.joint_ir.specs.declared.expr.Slot.{Slot}
use Rattle.joint_ir.specs.declared.expr.Slot.TheVariants as slot
use Rattle.joint_ir.specs.declared.module.FlatModule.{FlatModule}
use Rattle.joint_ir.specs.declared.module.Role.{Role}
use Rattle.joint_ir.specs.declared.module.Role.TheVariants as role
use Rattle.joint_ir.specs.declared.module.Signal.{Signal as ASignal}
use Rattle.joint_ir.specs.declared.pair.Binding.{Binding}
use Rattle.joint_ir.specs.declared.pair.Link.{Link}
use Rattle.joint_ir.specs.declared.program.CProgram.{CProgram}
use Rattle.joint_ir.specs.declared.program.Function.{Function}
use Rattle.joint_ir.specs.declared.program.Member.{Member}
use Rattle.joint_ir.specs.declared.program.MirrorDecl.{MirrorDecl}
use Rattle.joint_ir.specs.declared.stmt.TStmt.{TStmt}
use Rattle.joint_ir.specs.declared.stmt.TTarget.{TTarget}
use Rattle.offence_order.specs.declared.Offence.{Offence}
use Rattle.std.specs.Option.{option_or}
use Rattle.offence_order.specs.Order.{at, first_of, leading}
use Rattle.bind_struct.specs.declared.paths.Thing.{Thing}
use Rattle.bind_struct.specs.declared.paths.Thing.TheVariants.{Signal, Instance}
use Rattle.bind_struct.specs.Paths.{Naming, paths_of}
use Rattle.bind_struct.specs.Stored.{stored_in}

-- a place in a list, as a number of 32 bits
abbrev pub number_of : ℕ → ℕ
number_of n = n % 4294967296

-- a member of a type against the signal that it names: it is an array exactly where the signal is a memory, and of as many
-- elements; and it has at least as many bits
abbrev pub signal_fault : Member → IntType → Option ASignal → Option Kind
signal_fault x t None = None
signal_fault x t (Some s) = if eqb x.length s.words then (if nat_lt t.bits s.bits then Some BNarrow else None) else Some BShape

-- a member that is no struct names a signal
abbrev pub integer_fault : FlatModule → Member → IntType → Option Thing → Option Kind
integer_fault m x t None = Some BNoSignal
integer_fault m x t (Some Instance) = Some BShape
integer_fault m x t (Some (Signal j)) = signal_fault x t (slice_get m.signals j)

-- a struct names an instance
abbrev pub struct_fault : Option Thing → Option Kind
struct_fault None = Some BNoSignal
struct_fault (Some Instance) = None
struct_fault (Some (Signal j)) = Some BShape

-- a member of an integer type, or a struct, against what its path names
abbrev pub member_fault_of : FlatModule → Member → Option IntType → Option Thing → Option Kind
member_fault_of m x None thing = struct_fault thing
member_fault_of m x (Some t) thing = integer_fault m x t thing

-- what is wrong with a member by itself. The members below a struct that names no instance are looked at too; they come
-- behind it
abbrev pub member_fault : FlatModule → Naming → Member → Option Kind
member_fault m paths x = member_fault_of m x x.ty (paths x.path)

-- a fault as the offences at a place
abbrev pub at_fault : Place → Option Kind → List Offence
at_fault p None = []
at_fault p (Some k) = at p k

-- the offences of a member
abbrev pub member_offences : FlatModule → Naming → Member → List Offence
member_offences m paths x = at_fault x.place (member_fault m paths x)

-- the link of a member that is no struct
abbrev pub thing_link : ℕ → Option Thing → List Link
thing_link i None = []
thing_link i (Some Instance) = []
thing_link i (Some (Signal j)) = (record { member = number_of i; signal = number_of j }) ∷ []

-- the same of a member of a type; a struct has none
abbrev pub link_of : Naming → ℕ → Member → Option IntType → List Link
link_of paths i x None = []
link_of paths i x (Some t) = thing_link i (paths x.path)

-- a link that may be missing, as a list
abbrev pub linked : Option Link → List Link
linked None = []
linked (Some link) = link ∷ []

-- the links of members, of which the first has a place
abbrev pub links_from : Naming → ℕ → List Member → List Link
links_from paths i [] = []
links_from paths i (x ∷ members) = link_of paths i x x.ty ++ links_from paths (i + 1) members

-- an input other than the clock
abbrev pub is_input : Role → Bool
is_input role.Input = true
is_input role.Clock = false
is_input role.Register = false
is_input role.Wire = false

-- an assignment to a signal, which must be an input other than the clock
abbrev pub signal_stored : Place → Option ASignal → List Offence
signal_stored p None = []
signal_stored p (Some s) = if is_input s.role then [] else at p BNotInput

-- an assignment to what a path names; the other offences of such a path are those of its member
abbrev pub thing_stored : FlatModule → Place → Option Thing → List Offence
thing_stored m p None = []
thing_stored m p (Some Instance) = []
thing_stored m p (Some (Signal j)) = signal_stored p (slice_get m.signals j)

-- an assignment to a member
abbrev pub member_stored : FlatModule → Naming → Place → Option Member → List Offence
member_stored m paths p None = []
member_stored m paths p (Some x) = thing_stored m p (paths x.path)

-- an assignment to an object: only a member of the mirror can offend
abbrev pub slot_stored : FlatModule → Naming → List Member → Place → Slot → List Offence
slot_stored m paths members p (slot.Global i) = []
slot_stored m paths members p (slot.Local i) = []
slot_stored m paths members p (slot.Member i) = member_stored m paths p (slice_get members i)
slot_stored m paths members p slot.BoundValue = []

-- an assignment to a target
abbrev pub target_stored : FlatModule → Naming → List Member → TTarget → List Offence
target_stored m paths members t = slot_stored m paths members t.place t.slot

-- what the stores in a body offend against, by what one store does
abbrev pub body_stored : (TTarget → List Offence) → Option TStmt → List Offence
body_stored f None = []
body_stored f (Some body) = stored_in f body.node

-- the same of functions, in order
abbrev pub functions_stored : (TTarget → List Offence) → List Function → List Offence
functions_stored f [] = []
functions_stored f (fn ∷ fns) = body_stored f fn.body ++ functions_stored f fns

-- what is wrong first with the members, or else with what is assigned
abbrev pub first_below : CProgram → FlatModule → Naming → List Member → Option Offence
first_below p m paths members =
    option_or (leading (map (member_offences m paths) members)) (first_of None (functions_stored (target_stored m paths members) p.functions))

-- the mirror is named as the top module
abbrev pub name_offences : MirrorDecl → FlatModule → List Offence
name_offences d m = if bytes_eq d.name m.top then [] else at d.place BNotTop

-- the mirror's name, then each member in depth-first order, then what is assigned, by place
abbrev pub mirror_groups : CProgram → FlatModule → MirrorDecl → List (List Offence)
mirror_groups p m d =
    name_offences d m ∷ (map (member_offences m (paths_of m)) d.members ++ functions_stored (target_stored m (paths_of m) d.members) p.functions ∷ [])

-- the groups of offences of a mirror, if there is one
abbrev pub groups_of : CProgram → FlatModule → Option MirrorDecl → List (List Offence)
groups_of p m None = []
groups_of p m (Some d) = mirror_groups p m d

-- what is wrong between a program and a module, in groups of which the first that is not empty counts
abbrev pub binding_groups : CProgram → FlatModule → List (List Offence)
binding_groups p m = groups_of p m p.mirror

-- the links of a mirror, if there is one
abbrev pub links_of : FlatModule → Option MirrorDecl → List Link
links_of m None = []
links_of m (Some d) = links_from (paths_of m) 0 d.members

-- what binds a program to a module, where nothing is wrong
abbrev pub binding_of : CProgram → FlatModule → Binding
binding_of p m = record { links = links_of m p.mirror }
