-- Rows of locals that are kept before a body, and put back behind it.
use Rattle.std.specs.Prelude.{◌≡◌, ℕ, ◌+◌, List, ◌++◌, length, take, drop}
use Rattle.unwind_state.specs.declared.state.State.{State}
use Rattle.unwind_state.specs.Images.{Image}

-- the rows from a place on, up to another one
abbrev pub rows_part : {A : Type 0} → (first end : ℕ) → List A → List A
rows_part first end rows = drop first (take end rows)

-- rows with others in place of those from one on
abbrev pub rows_back : {A : Type 0} → (first : ℕ) → (part rows : List A) → List A
rows_back first part rows = take first rows ++ (part ++ drop (first + length part) rows)

-- the words y of a state, where those of a function's own locals and of the result are those of x again
abbrev pub image_back : (first end : ℕ) → (x y : Image) → Image
image_back first end x y = record {
  globals = y.globals;
  locals = rows_back first (rows_part first end x.locals) y.locals;
  members = y.members;
  registers = y.registers;
  inputs = y.inputs;
  unknown = y.unknown;
  wires = y.wires;
  edges = y.edges;
  result = x.result;
}

-- a state whose own locals and result are those of another one again
pub record IsBack (first end : ℕ) (s0 s2 s3 : State) : Type 0 where
  pub globals : s3.objects.globals.items ≡ s2.objects.globals.items
  pub locals : s3.objects.locals.items ≡ rows_back first (rows_part first end s0.objects.locals.items) s2.objects.locals.items
  pub members : s3.objects.members.items ≡ s2.objects.members.items
  pub registers : s3.registers ≡ s2.registers
  pub inputs : s3.inputs ≡ s2.inputs
  pub unknown : s3.unknown ≡ s2.unknown
  pub wires : s3.wires ≡ s2.wires
  pub edges : s3.edges ≡ s2.edges
  pub result : s3.result ≡ s0.result
