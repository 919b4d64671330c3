-- How a binding ends without links.
use Rattle.std.specs.Prelude.{◌≡◌, List, Option, Some, None}
use Rattle.src_text.specs.declared.refusal.Lang.TheVariants.{C}
use Rattle.src_text.specs.declared.refusal.Refusal.{Refusal}
use Rattle.offence_order.specs.declared.Offence.{Offence}
use Rattle.offence_order.specs.Order.{IsHead}
use Rattle.bind_struct.specs.declared.ends.BindEnd.{BindEnd}
use Rattle.bind_struct.specs.declared.ends.BindEnd.TheVariants.{Refused, Memory}

-- the refusal for an offence in the C file
abbrev pub refusal_of : Offence → Refusal
refusal_of o = record { lang = C; place = o.place; kind = o.kind }

-- the end for want of memory
abbrev pub IsMemory : BindEnd → Type 0
IsMemory Memory = Unit {0}
IsMemory (Refused r) = ⊥

-- it ends for an offence, or for want of memory
abbrev pub IsEndOf : Option Offence → BindEnd → Type 0
IsEndOf first Memory = Unit {0}
IsEndOf None (Refused r) = ⊥
IsEndOf (Some o) (Refused r) = r ≡ refusal_of o

-- it ends for the head of the ordered offences, or for want of memory
abbrev pub IsEnd : List (List Offence) → BindEnd → Type 0
IsEnd groups Memory = Unit {0}
IsEnd groups (Refused r) = (o : Offence) × IsHead groups o × (r ≡ refusal_of o)
