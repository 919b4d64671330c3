-- The names of the properties of a function: `FUNCTION.KIND.NUMBER`.
use Rattle.std.specs.Prelude.{ℕ, ◌+◌, ◌&&◌, List, [], ◌∷◌, map, Bool, eqb}
use Rattle.std.specs.List.{count_by}
use Rattle.src_text.specs.declared.refusal.Place.{Place}
use Rattle.joint_ir.specs.declared.program.Prop.{Prop}
use Rattle.joint_ir.specs.WellFormed.{kind_number}
use Rattle.offence_order.specs.Order.{precedes}
use Rattle.c_words.specs.declared.notes.Site.{Site}
use Rattle.c_words.specs.Marks.{number_of}

-- one place before another in a text: by line, then column
abbrev pub is_earlier : Place → Place → Bool
is_earlier a b = precedes (a.line ∷ a.column ∷ []) (b.line ∷ b.column ∷ [])

-- a property is of the same kind as another, and stands before it
abbrev pub is_counted : Site → Site → Bool
is_counted s t = eqb (kind_number t.kind) (kind_number s.kind) && is_earlier t.place s.place

-- a property's number: from 1, among those of its function and kind, by place
abbrev pub number_among : List Site → Site → ℕ
number_among sites s = number_of (1 + count_by (is_counted s) sites)

-- a property of a function with its number and its line
abbrev pub prop_numbered : List ℕ → Site → (number : ℕ) → Prop
prop_numbered name s n = record { function = name; kind = s.kind; number = n; line = s.place.line }

-- a property of a function, numbered among those of its kind
abbrev pub prop_of : List ℕ → List Site → Site → Prop
prop_of name sites s = prop_numbered name s (number_among sites s)

-- the properties of a function, in the order in which they were noted
abbrev pub props_of : List ℕ → List Site → List Prop
props_of name sites = map (prop_of name sites) sites
