-- What the names of a module mean.
use Rattle.std.specs.Prelude.{ℕ, List, [], ◌∷◌, Option, Some, None, true, eqb, bytes_eq, if◌then◌else◌}
use Rattle.elab_names.specs.declared.constant.Standing.{Standing}
use Rattle.elab_names.specs.declared.constant.Worth.TheVariants.{Open, NotConstant}
use Rattle.elab_names.specs.declared.names.Entry.{Entry}
use Rattle.elab_names.specs.declared.names.Entry.TheVariants.{Parameter, Integer, Signal, Instance}
use Rattle.elab_names.specs.declared.names.ParameterEntry.{ParameterEntry}
use Rattle.elab_names.specs.declared.names.SignalEntry.{SignalEntry}
use Rattle.elab_names.specs.declared.names.Shape.{Shape}
use Rattle.elab_names.specs.declared.names.Turn.{Turn}
use Rattle.elab_names.specs.Constants.{standing, unknown, constant_standing}

-- the names that are declared so far
abbrev pub Scope : Type 0
Scope = List (List ℕ × Entry)

-- what a name stands for; of two entries of one name the first
abbrev pub find_in : Scope → List ℕ → Option Entry
find_in [] name = None
find_in (e ∷ scope) name = if bytes_eq name e.0 then Some e.1 else find_in scope name

-- with a name that means this from here on
abbrev pub put : List ℕ → Entry → Scope → Scope
put name entry [] = (name, entry) ∷ []
put name entry (e ∷ scope) = if bytes_eq name e.0 then (e.0, entry) ∷ scope else e ∷ put name entry scope

-- the turn that a loop variable is in
abbrev pub turn_of : List Turn → ℕ → Option Turn
turn_of [] integer = None
turn_of (t ∷ turns) integer = if eqb t.integer integer then Some t else turn_of turns integer

-- a loop variable has 32 bits and a sign
abbrev pub turn_standing : Option Turn → Standing
turn_standing None = standing (Some 32) (Some true) Open
turn_standing (Some t) = standing (Some 32) (Some true) t.value

-- a parameter as a part; nothing is known of one without a value
abbrev pub parameter_standing : Option ParameterEntry → Standing
parameter_standing None = unknown
parameter_standing (Some p) = constant_standing p.constant

-- how many bits a signal of a shape has
abbrev pub shape_bits : Option Shape → Option ℕ
shape_bits None = None
shape_bits (Some s) = Some s.bits

-- a signal's name has a length and a sign, and is no constant
abbrev pub signal_standing : SignalEntry → Standing
signal_standing s = standing (shape_bits s.shape) (Some s.signed) NotConstant

-- what a name is by itself
abbrev pub entry_standing : List Turn → Option Entry → Standing
entry_standing turns None = unknown
entry_standing turns (Some (Parameter p)) = parameter_standing p
entry_standing turns (Some (Integer n)) = turn_standing (turn_of turns n)
entry_standing turns (Some (Signal s)) = signal_standing s
entry_standing turns (Some Instance) = unknown
