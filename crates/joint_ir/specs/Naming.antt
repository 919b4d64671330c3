-- The names of properties, and the limits that name them.
use Rattle.std.specs.Prelude.{ℕ, Bool, true, false, if◌then◌else◌, List, [], ◌∷◌, ◌++◌, Option, Some, None, bytes_eq, codes, decimal}
use Rattle.std.specs.List.{flat_map, position_from}
use Rattle.joint_ir.specs.declared.bounds.Limit.{Limit}
use Rattle.joint_ir.specs.declared.naming.NamedLimit.{NamedLimit}
use Rattle.joint_ir.specs.declared.program.CProgram.{CProgram}
use Rattle.joint_ir.specs.declared.program.Prop.{Prop}
use Rattle.joint_ir.specs.declared.program.PropKind.{PropKind}
use Rattle.joint_ir.specs.declared.program.PropKind.TheVariants as kind

-- the word for a kind of property
abbrev pub kind_text : PropKind → List ℕ
kind_text kind.Assertion = codes "assertion"
kind_text kind.Overflow = codes "overflow"
kind_text kind.Division = codes "division"
kind_text kind.Shift = codes "shift"
kind_text kind.Bounds = codes "bounds"
kind_text kind.Unwind = codes "unwind"
kind_text kind.Recursion = codes "recursion"
kind_text kind.Frame = codes "frame"

-- the name of a property: `FUNCTION.KIND.NUMBER`
abbrev pub property_name : Prop → List ℕ
property_name p = p.function ++ (codes "." ++ (kind_text p.kind ++ (codes "." ++ decimal p.number)))

-- loops and functions with a body have limits: of turns, and of activations at one time
abbrev pub has_limit : PropKind → Bool
has_limit kind.Assertion = false
has_limit kind.Overflow = false
has_limit kind.Division = false
has_limit kind.Shift = false
has_limit kind.Bounds = false
has_limit kind.Unwind = true
has_limit kind.Recursion = true
has_limit kind.Frame = false

-- a property is of a loop or a function, and has this name
abbrev pub is_limited_by : (name : List ℕ) → Prop → Bool
is_limited_by name p = if has_limit p.kind then bytes_eq (property_name p) name else false

-- an entry as a limit of the property that it names; an entry that names none has no effect
abbrev pub limit_at : (count : ℕ) → Option ℕ → List Limit
limit_at count None = []
limit_at count (Some i) = record { prop = record { 0 = i }; count = count } ∷ []

-- the limit that an entry gives: of the first property of that name
abbrev pub limit_named : List Prop → NamedLimit → List Limit
limit_named props entry = limit_at entry.count (position_from (is_limited_by entry.name) 0 props)

-- the limits of the properties that a list names, in the order of the list
abbrev pub limits_of : CProgram → List NamedLimit → List Limit
limits_of program named = flat_map (limit_named program.props) named
