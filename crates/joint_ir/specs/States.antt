-- What a run holds at one moment: the objects of C, the words of the module, and how far it has come.
use Rattle.std.specs.Prelude.{ℕ, zero, suc, List, [], ◌∷◌, slice_index_or, slice_set}
use Rattle.std.specs.Prelude.{ℤ, pos}
use Rattle.joint_ir.specs.declared.expr.Slot.{Slot}
use Rattle.joint_ir.specs.declared.expr.Slot.TheVariants.{Global, Local, Member, BoundValue}
use Rattle.joint_ir.specs.declared.program.Var.{Var}
use Rattle.joint_ir.specs.Values.{Rows}

-- the objects: for each file-scope object, each local of the activation that runs, and each member of the mirror, its
-- elements; an object that is no array has one, and a struct none
pub record Store : Type 0 where
  pub globals : List (List ℤ)
  pub locals : List (List ℤ)
  pub members : List (List ℤ)

-- the words of the module: of the registers, by register in flat order and by index, of the inputs other than the clock,
-- and of the wires, each in flat order
pub record View : Type 0 where
  pub registers : List ℕ
  pub inputs : List ℕ
  pub wires : List ℕ

-- a moment of a run: C's objects, the module's words, the clock edges taken, and what was returned last
pub record JointState : Type 0 where
  pub store : Store
  pub view : View
  -- the clock edges so far
  pub edges : ℕ
  -- what the last `return` gave
  pub returned : ℤ

-- a number of times one value
abbrev pub copies : {A : Type 0} → ℕ → A → List A
copies zero x = []
copies (suc n) x = x ∷ copies n x

-- the elements of the object at a place
abbrev pub row_at : List (List ℤ) → ℕ → List ℤ
row_at rows i = slice_index_or rows i []

-- the elements of an object; `bound` holds the number of frames
abbrev pub rows_of : (frames : ℕ) → Store → Rows
rows_of frames s (Global i) = row_at s.globals i
rows_of frames s (Local i) = row_at s.locals i
rows_of frames s (Member i) = row_at s.members i
rows_of frames s BoundValue = pos frames ∷ []

-- rows with one element of one row set
abbrev pub put_at : List (List ℤ) → (row element : ℕ) → ℤ → List (List ℤ)
put_at rows i j v = slice_set rows i (slice_set (row_at rows i) j v)

-- a store with one element of one object set
abbrev pub put : Store → Slot → (element : ℕ) → ℤ → Store
put s (Global i) j v = record { globals = put_at s.globals i j v; locals = s.locals; members = s.members }
put s (Local i) j v = record { globals = s.globals; locals = put_at s.locals i j v; members = s.members }
put s (Member i) j v = record { globals = s.globals; locals = s.locals; members = put_at s.members i j v }
put s BoundValue j v = s

-- a number of elements, one for what is no array
abbrev pub element_count : (length : ℕ) → ℕ
element_count zero = 1
element_count (suc n) = suc n

-- first values, and zeros to the end
abbrev pub filled_up : List ℤ → ℕ → List ℤ
filled_up firsts zero = []
filled_up [] (suc n) = pos 0 ∷ filled_up [] n
filled_up (v ∷ firsts) (suc n) = v ∷ filled_up firsts n

-- the first elements of objects (C99 6.7.8, paragraphs 10 and 21)
abbrev pub first_rows : List Var → List (List ℤ)
first_rows [] = []
first_rows (x ∷ vars) = filled_up x.firsts (element_count x.length) ∷ first_rows vars
