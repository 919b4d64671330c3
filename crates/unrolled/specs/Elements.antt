-- The terms of an object's elements, and what becomes of them by a write.
use Rattle.std.specs.Prelude.{◌≡◌, ℕ, List, [], slice_index_or, slice_set}
use Rattle.word_eqs.specs.declared.term.TermId.{TermId}
use Rattle.joint_ir.specs.declared.expr.Slot.{Slot}
use Rattle.joint_ir.specs.declared.expr.Slot.TheVariants.{Global, Local, Member, BoundValue}
use Rattle.unrolled.specs.declared.Objects.{Objects as Terms}

-- the terms of an object's elements; `bound` has none
abbrev pub terms_of : Terms → Slot → List TermId
terms_of o (Global i) = slice_index_or o.globals.items i []
terms_of o (Local i) = slice_index_or o.locals.items i []
terms_of o (Member i) = slice_index_or o.members.items i []
terms_of o BoundValue = []

-- rows with one element of one row set
abbrev pub set_in : List (List TermId) → (row element : ℕ) → TermId → List (List TermId)
set_in rows i j t = slice_set rows i (slice_set (slice_index_or rows i []) j t)

-- one element of one object has another term
abbrev pub IsSet : (old new : Terms) → Slot → (element : ℕ) → TermId → Type 0
IsSet old new (Global i) j t = (new.globals.items ≡ set_in old.globals.items i j t) × (new.locals.items ≡ old.locals.items) × (new.members.items ≡ old.members.items)
IsSet old new (Local i) j t = (new.globals.items ≡ old.globals.items) × (new.locals.items ≡ set_in old.locals.items i j t) × (new.members.items ≡ old.members.items)
IsSet old new (Member i) j t = (new.globals.items ≡ old.globals.items) × (new.locals.items ≡ old.locals.items) × (new.members.items ≡ set_in old.members.items i j t)
IsSet old new BoundValue j t = (new.globals.items ≡ old.globals.items) × (new.locals.items ≡ old.locals.items) × (new.members.items ≡ old.members.items)
