-- The rules on names, literals, ranges and constants, each with the place at which it is broken (IEEE 1364-2005, clauses 3 to 5).
use Rattle.std.specs.Prelude.{ℕ, ◌+◌, List, [], ◌++◌, Option, Some, None, Bool, true, false, ◌||◌, not, if◌then◌else◌, pos, int_lt}
use Rattle.src_text.specs.declared.refusal.Place.{Place}
use Rattle.src_text.specs.declared.kind.Kind.{Kind}
use Rattle.src_text.specs.declared.kind.Kind.TheVariants.{VUnknownName, VConstant, VRange, VLiteral, VMemory, VNotNet, VNotRegister, VLoop, VUnsized}
use Rattle.v_tree.specs.Starts.{literal_start}
use Rattle.v_tree.specs.declared.expr.Literal.{Literal}
use Rattle.v_tree.specs.declared.expr.Literal.TheVariants as literal
use Rattle.offence_order.specs.declared.Offence.{Offence}
use Rattle.offence_order.specs.Order.{at}
use Rattle.elab_names.specs.declared.constant.Constant.{Constant}
use Rattle.elab_names.specs.declared.constant.Worth.{Worth}
use Rattle.elab_names.specs.declared.constant.Worth.TheVariants.{Value, Open, NotConstant}
use Rattle.elab_names.specs.declared.names.Entry.{Entry}
use Rattle.elab_names.specs.declared.names.Entry.TheVariants.{Parameter, Integer, Signal, Instance}
use Rattle.elab_names.specs.declared.names.ParameterEntry.{ParameterEntry}
use Rattle.elab_names.specs.declared.names.Shape.{Shape}
use Rattle.elab_names.specs.declared.names.SignalEntry.{SignalEntry}
use Rattle.elab_names.specs.declared.names.Sort.{Sort}
use Rattle.elab_names.specs.declared.names.Sort.TheVariants.{Input, Net, Reg}
use Rattle.elab_names.specs.declared.names.Turn.{Turn}
use Rattle.elab_names.specs.declared.select.Choice.{Choice}
use Rattle.elab_names.specs.declared.select.Choice.TheVariants as choice
use Rattle.elab_names.specs.declared.select.Number.{Number}
use Rattle.elab_names.specs.declared.select.Number.TheVariants as the
use Rattle.elab_names.specs.Constants.{literal_constant}
use Rattle.elab_names.specs.Names.{turn_of}
use Rattle.elab_names.specs.Selects.{is_memory}

-- an offence at a place, if it is one
abbrev pub at_if : Bool → Place → Kind → List Offence
at_if true place kind = at place kind
at_if false place kind = []

-- a literal that writes no number: its size, a digit that its base lacks, its value (3.5.1)
abbrev pub literal_fault : Place → Option Constant → List Offence
literal_fault place None = at place VLiteral
literal_fault place (Some c) = []

-- what a literal offends, told at its start
abbrev pub literal_offences : Literal → List Offence
literal_offences l = literal_fault (literal_start l) (literal_constant l)

-- a loop variable that is read outside the loops over it
abbrev pub turn_fault : Place → Option Turn → List Offence
turn_fault place None = at place VLoop
turn_fault place (Some t) = []

-- a name that is read: it stands for something that has a value
abbrev pub name_offences : List Turn → Place → Option Entry → List Offence
name_offences turns place None = at place VUnknownName
name_offences turns place (Some Instance) = at place VUnknownName
name_offences turns place (Some (Integer n)) = turn_fault place (turn_of turns n)
name_offences turns place (Some (Parameter p)) = []
name_offences turns place (Some (Signal s)) = []

-- a memory is named with exactly one index
abbrev pub is_index : Choice → Bool
is_index (choice.Index i) = true
is_index (choice.Range h l) = false
is_index (choice.Up base w) = false
is_index (choice.Down base w) = false

-- a memory that is named as a whole
abbrev pub memory_offences : Place → Option Entry → List Offence
memory_offences place entry = at_if (is_memory entry) place VMemory

-- a memory that is named with a select other than an index
abbrev pub memory_part_offences : Place → Option Entry → Choice → List Offence
memory_part_offences place entry c = if is_index c then [] else memory_offences place entry

-- the range of a name in a part select: a parameter's own, 31 down to 0 of a loop variable, and a vector's; a memory has none
abbrev pub word_range : SignalEntry → Option Shape
word_range s = if s.memory then None else s.shape

-- the range of a parameter: its width, from its low end on
abbrev pub parameter_range : Option ParameterEntry → Option Shape
parameter_range None = None
parameter_range (Some p) = Some (record { bits = p.constant.word.width; low = p.low; words = 0 })

-- the range that a select of a name has to lie in
abbrev pub range_of : Option Entry → Option Shape
range_of None = None
range_of (Some Instance) = None
range_of (Some (Parameter p)) = parameter_range p
range_of (Some (Integer n)) = Some (record { bits = 32; low = 0; words = 0 })
range_of (Some (Signal s)) = word_range s

-- both are known, and the first is less
abbrev pub is_below : Number → Number → Bool
is_below (the.Known h) (the.Known l) = int_lt h l
is_below (the.Known h) the.Open = false
is_below (the.Known h) the.NotConstant = false
is_below the.Open l = false
is_below the.NotConstant l = false

-- a known number that lies outside a known range
abbrev pub is_outside : Option Shape → Number → Bool
is_outside None n = false
is_outside (Some r) (the.Known n) = int_lt n (pos r.low) || not (int_lt n (pos (r.low + r.bits)))
is_outside (Some r) the.Open = false
is_outside (Some r) the.NotConstant = false

-- a part select: its high end isn't below its low end, and both lie in the range; of each rule the ends that it speaks of are known
abbrev pub part_offences : Place → Option Shape → Choice → List Offence
part_offences place range (choice.Range h l) = at_if (is_below h l || (is_outside range h || is_outside range l)) place VRange
part_offences place range (choice.Index i) = []
part_offences place range (choice.Up base w) = []
part_offences place range (choice.Down base w) = []

-- what a select of a name offends by what the name is and by its ends
abbrev pub bits_offences : Place → Option Entry → Choice → List Offence
bits_offences place entry c = memory_part_offences place entry c ++ part_offences place (range_of entry) c

-- a name that is read whole, and one that is read by a select
abbrev pub whole_offences : List Turn → Place → Option Entry → List Offence
whole_offences turns place entry = name_offences turns place entry ++ memory_offences place entry

-- what a select that is read offends: its name, then its ends
abbrev pub select_offences : List Turn → Place → Option Entry → Choice → List Offence
select_offences turns place entry c = name_offences turns place entry ++ bits_offences place entry c

-- an expression that must be constant names no signal and divides by no 0
abbrev pub varying_offences : Place → Worth → List Offence
varying_offences place (Value w) = []
varying_offences place Open = []
varying_offences place NotConstant = at place VConstant

-- a number from 1 to a greatest one
abbrev pub is_out_of : ℕ → Number → Bool
is_out_of most (the.Known n) = int_lt n (pos 1) || int_lt (pos most) n
is_out_of most the.Open = false
is_out_of most the.NotConstant = false

-- a literal of a concatenation has a size (5.1.14)
abbrev pub size_offences : Literal → List Offence
size_offences (literal.Decimal d) = at d.place VUnsized
size_offences (literal.Based b) = at b.place VUnsized
size_offences (literal.Sized s b) = []

-- what may be assigned: registers by processes, and nets by assigns and by outputs that are connected (6.1, 9.2)
abbrev pub wrong_target : Bool → Kind
wrong_target true = VNotRegister
wrong_target false = VNotNet

-- a process assigns registers, an assign or an output nets; an input is never assigned
abbrev pub is_target : Bool → Sort → Bool
is_target register Reg = register
is_target register Net = not register
is_target register Input = false

-- a name that is assigned; a loop variable only in the head of its loop
abbrev pub assigned_offences : Bool → Place → Option Entry → List Offence
assigned_offences register place None = at place VUnknownName
assigned_offences register place (Some Instance) = at place VUnknownName
assigned_offences register place (Some (Parameter p)) = at place (wrong_target register)
assigned_offences register place (Some (Integer n)) = at place (wrong_target register) ++ at place VLoop
assigned_offences register place (Some (Signal s)) = at_if (not (is_target register s.sort)) place (wrong_target register)

-- what an assignment to a whole name offends
abbrev pub whole_target_offences : Bool → Place → Option Entry → List Offence
whole_target_offences register place entry = assigned_offences register place entry ++ memory_offences place entry

-- what an assignment to a select of a name offends
abbrev pub part_target_offences : Bool → Place → Option Entry → Choice → List Offence
part_target_offences register place entry c = assigned_offences register place entry ++ bits_offences place entry c
