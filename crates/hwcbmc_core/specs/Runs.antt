-- Joint runs of a C program and a circuit. A run is a function of the choices that it draws, in order; the
-- written forms leave nothing to choose, so their runs draw none.
use Rattle.std.specs.Prelude.{◌≡◌, ℕ, ◌+◌, ◌%◌, ◌==◌, List, [], ◌∷◌, ◌++◌, replicate, if◌then◌else◌, codes, zero, suc}
use Rattle.hwcbmc_core.specs.declared.sources.Program.{Program}
use Rattle.hwcbmc_core.specs.declared.sources.Counter.{Counter}
use Rattle.joint_ir.specs.declared.bounds.Bounds.{Bounds}

-- a statement of the C program
pub data Statement : Type 0 where
  -- a call of `next_timeframe`
  NextFrame : Statement
  -- an assertion that the register's member of the mirror has this value
  Assert : ℕ → Statement

-- a property of the C program: its name, and its line in the C text
pub record Property : Type 0 where
  pub name : List ℕ
  pub line : ℕ

-- how a run ends
pub data Outcome : Type 0 where
  -- `main` returned
  Ended : Outcome
  -- the program went on past the last clock edge
  OutOfFrames : Outcome
  Broken : Property → Outcome

-- a word of a signal, and the value that it has now
pub record Shown : Type 0 where
  pub path : List ℕ
  pub value : ℕ

-- what a run tells
pub data Event : Type 0 where
  -- the clock edges so far, and the words that changed
  Frame : ℕ → List Shown → Event
  Broke : Property → Event

-- a run: how it ends, and what it tells, in order
pub record Run : Type 0 where
  pub outcome : Outcome
  pub events : List Event

-- where a run stands: the value of the register, and the clock edges so far
pub record State : Type 0 where
  pub count : ℕ
  pub edges : ℕ

-- the one assertion of the program, which stands behind the lines of the edges
abbrev pub assertion : Program → Property
assertion program = record { name = codes "main.assertion.1"; line = 5 + program.edges }

-- `main`'s statements, in order
abbrev pub statements : Program → List Statement
statements program = replicate program.edges NextFrame ++ Assert program.expected ∷ []

-- The register after a clock edge: the sum at 8 bits (IEEE 1364-2005, 5.4 and 9.2.2).
abbrev pub next_count : Counter → ℕ → ℕ
next_count counter count = (count + counter.step) % 256

-- the register after so many clock edges
abbrev pub count_at : Counter → ℕ → ℕ
count_at counter zero = counter.first
count_at counter (suc edges) = next_count counter (count_at counter edges)

-- the register
abbrev pub shown_count : ℕ → Shown
shown_count count = record { path = codes "counter.count"; value = count }

-- the register, where its value changed
abbrev pub changed : ℕ → ℕ → List Shown
changed old new = if old == new then [] else shown_count new ∷ []

-- an event before the others
abbrev pub after_event : Event → Run → Run
after_event event run = record { outcome = run.outcome; events = event ∷ run.events }

-- what is left of a run, by cases on what is left of the program
abbrev pub run_from : Program → Counter → Bounds → List Statement → State → Run
run_from program counter bounds [] state = record { outcome = Ended; events = [] }
run_from program counter bounds (NextFrame ∷ rest) state =
    if state.edges == bounds.frames then record { outcome = OutOfFrames; events = [] }
    else after_event (Frame (state.edges + 1) (changed state.count (next_count counter state.count)))
    (run_from program counter bounds rest (record { count = next_count counter state.count; edges = state.edges + 1 }))
run_from program counter bounds (Assert expected ∷ rest) state =
    if state.count == expected then run_from program counter bounds rest state
    else record { outcome = Broken (assertion program); events = Broke (assertion program) ∷ [] }

-- The run on these choices. Its first frame shows each word.
abbrev pub run_of : Program → Counter → Bounds → List ℕ → Run
run_of program counter bounds choices =
    after_event (Frame 0 (shown_count counter.first ∷ []))
    (run_from program counter bounds (statements program) (record { count = counter.first; edges = 0 }))

-- Some run breaks the property.
abbrev pub CanBreak : Program → Counter → Bounds → Property → Type 0
CanBreak program counter bounds property =
    (choices : List ℕ) × ((run_of program counter bounds choices).outcome ≡ Broken property)
