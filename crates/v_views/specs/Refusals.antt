-- What a design of this profile keeps, as far as settled views and edges need it: one driver for each bit, no latch, no
-- race and no combinational cycle. IEEE 1364-2005 takes more designs; those give no one answer, or not in two values.
use Rattle.std.specs.Prelude.{◌≡◌, ℕ, ◌<◌, List, length, get_or, Contains, All, Bool, true, false, ◌||◌, ◌⊎◌}
use Rattle.std.specs.List.{AllPairs}
use Rattle.v_tree.specs.declared.stmt.AssignmentKind.TheVariants.{Blocking, Nonblocking}
use Rattle.v_views.specs.declared.Sort.{Sort}
use Rattle.v_views.specs.declared.Sort.TheVariants.{Input, Net, Reg}
use Rattle.v_views.specs.Spots.{Spot, View, is_bit_of}
use Rattle.v_views.specs.Language.{Language}
use Rattle.v_views.specs.Names.{names}
use Rattle.v_views.specs.Frames.{Process, reads_bit, reads_outside, sets, sets_certain}

-- A design: its expressions and shapes, the sort of each signal, its drivers, and its clocked processes.
pub record Design (E : Type 0) : Type 0 where
  pub language : Language E
  pub sort : ℕ → Sort
  pub drivers : List (Process E)
  pub clocked : List (Process E)

module _ {E : Type 0} (m : Design E) where
  -- the signal has this bit
  abbrev pub IsBit : Spot → Type 0
  IsBit x = is_bit_of (m.language.shape x.signal) x.signal x ≡ true

  -- a view has no bits but those of its signals
  abbrev pub IsView : View → Type 0
  IsView v = (x : Spot) → (IsBit x → ⊥) → v x ≡ false

  -- whether a process assigns a name by `=` or by `<=`
  abbrev pub names_by_any : Process E → ℕ → Bool
  names_by_any p g = names m.language Blocking p.body g || names m.language Nonblocking p.body g

  -- a driver doesn't assign this name by `=`
  abbrev pub LeavesName : ℕ → Process E → Type 0
  LeavesName g d = names m.language Blocking d.body g ≡ false

  -- a bit of an input or of a register, which is a `reg` that no combinational process assigns
  abbrev pub IsFree : Spot → Type 0
  IsFree x = (m.sort x.signal ≡ Input) ⊎ ((m.sort x.signal ≡ Reg) × All (LeavesName x.signal) m.drivers)

  -- drivers that are no process assign nets, processes assign variables (6.1 and 9.2)
  abbrev pub HasSort : Process E → Type 0
  HasSort d = (g : ℕ) → names m.language Blocking d.body g ≡ true → ((d.procedural ≡ true) × (m.sort g ≡ Reg)) ⊎ ((d.procedural ≡ false) × (m.sort g ≡ Net))

  -- each driver assigns what its sort may
  abbrev pub HaveSorts : Type 0
  HaveSorts = All HasSort m.drivers

  -- no two drivers write one bit of a wire
  abbrev pub ShareNoWire : Process E → Process E → Type 0
  ShareNoWire c d = (x : Spot) → m.sort x.signal ≡ Net → sets m.language c x ≡ true → sets m.language d x ≡ true → ⊥

  -- no bit of a wire has two drivers
  abbrev pub OneDriver : Type 0
  OneDriver = AllPairs ShareNoWire m.drivers

  -- no two processes assign one variable
  abbrev pub ShareNoName : Process E → Process E → Type 0
  ShareNoName c d = c.procedural ≡ true → d.procedural ≡ true → (g : ℕ) → names_by_any c g ≡ true → names_by_any d g ≡ true → ⊥

  -- the same of each two of these processes
  abbrev pub OneProcess : List (Process E) → Type 0
  OneProcess ps = AllPairs ShareNoName ps

  -- the same of a combinational and a clocked process
  abbrev pub OtherProcess : Type 0
  OtherProcess = All (λ d. d.procedural ≡ true → All (λ p. (g : ℕ) → names_by_any d g ≡ true → names_by_any p g ≡ true → ⊥) m.clocked) m.drivers

  -- clocked processes assign variables alone (9.2)
  abbrev pub ClockedSorts : Type 0
  ClockedSorts = All (λ p. (g : ℕ) → names_by_any p g ≡ true → m.sort g ≡ Reg) m.clocked

  -- each bit of a wire is written by a driver, for certain
  abbrev pub AllDriven : Type 0
  AllDriven = (x : Spot) → IsBit x → m.sort x.signal ≡ Net → (d : Process E) × Contains m.drivers d × (sets_certain m.language d x ≡ true)

  -- a combinational process assigns each bit of its variables on every path: it holds no latch
  abbrev pub HasNoLatch : Process E → Type 0
  HasNoLatch d = d.procedural ≡ true → (x : Spot) → IsBit x → names m.language Blocking d.body x.signal ≡ true → sets_certain m.language d x ≡ true

  -- no combinational process holds a latch
  abbrev pub NoLatch : Type 0
  NoLatch = All HasNoLatch m.drivers

  -- the drivers stand in an order: none reads from outside what it or a later one writes
  pub record InOrder : Type 0 where
    pub itself : All (λ d. (x : Spot) → reads_outside m.language d x ≡ true → sets m.language d x ≡ true → ⊥) m.drivers
    pub later : AllPairs (λ c d. (x : Spot) → reads_outside m.language c x ≡ true → sets m.language d x ≡ true → ⊥) m.drivers

  -- what depends on a bit: itself, and what is written by a driver that reads from outside a bit which depends on it
  pub data DependsOn (y : Spot) : Spot → Type 0 where
    Itself : DependsOn y y
    Through : (x z : Spot) (d : Process E) → Contains m.drivers d → sets m.language d x ≡ true → reads_outside m.language d z ≡ true → DependsOn y z → DependsOn y x

  -- no race: a clocked process reads no bit that depends on a register which some clocked process assigns by `=`, unless
  -- the bit is that register's own and the process is the one that assigns it
  abbrev pub NoRace : Type 0
  NoRace = (i j : ℕ) (d : Process E) (x y : Spot) → i < length m.clocked → j < length m.clocked → reads_bit m.language (get_or m.clocked i d) x ≡ true → DependsOn y x → names m.language Blocking (get_or m.clocked j d).body y.signal ≡ true → (x.signal ≡ y.signal) × (i ≡ j)
