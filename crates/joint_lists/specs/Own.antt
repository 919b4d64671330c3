-- Which locals a function's body may change: its own, which stand one after another.
use Rattle.std.specs.Prelude.{◌≡◌, ℕ, suc, ◌+◌, ◌<◌, ◌≤◌, List, [], ◌∷◌, ◌++◌, max, Option, Some, None, length, take, drop, ℤ}
use Rattle.joint_ir.specs.declared.program.Function.{Function}
use Rattle.joint_ir.specs.declared.stmt.Group.{Group, out-Group}
use Rattle.joint_ir.specs.declared.stmt.TStmt.{TStmt}
use Rattle.joint_ir.specs.States.{JointState}
use Rattle.joint_ir.specs.Effects.{Effect, Goes, Stops, TooFew, Onward}
use Rattle.joint_ir.specs.WellFormed.{declared_in}

-- the place behind the last of these places and of those below one
abbrev pub behind_all : ℕ → List ℕ → ℕ
behind_all n [] = n
behind_all n (x ∷ xs) = behind_all (max n (suc x)) xs

-- the places that the statements of a list declare, in text order; those of a statement that may be left out; and those of
-- the groups of a switch
abbrev pub declared_items : List TStmt → List ℕ
declared_items [] = []
declared_items (s ∷ rest) = declared_in s.node ++ declared_items rest

-- the locals that a statement declares, if there is one
abbrev pub declared_option : Option TStmt → List ℕ
declared_option None = []
declared_option (Some s) = declared_in s.node

-- the locals that the groups of a `switch` declare, in order
abbrev pub declared_cases : List Group → List ℕ
declared_cases [] = []
declared_cases (g ∷ rest) = declared_items (out-Group g).body ++ declared_cases rest

-- the place behind a function's own objects: its parameters, and what its body declares
abbrev pub own_end : Function → TStmt → ℕ
own_end fn body = behind_all (fn.first + fn.params) (declared_in body.node)

-- a place of a function's own objects
abbrev pub IsOwn : (first end x : ℕ) → Type 0
IsOwn first end x = (first ≤ x) × (x < end)

-- the locals before a function's own, and those behind them, are those of certain rows
pub record KeepsOthers (first end : ℕ) (rows : List (List ℤ)) (s : JointState) : Type 0 where
  pub count : length s.store.locals ≡ length rows
  pub before : take first s.store.locals ≡ take first rows
  pub behind : drop end s.store.locals ≡ drop end rows

-- each state that an effect goes on with has a property
abbrev pub GoesWith : (JointState → Type 0) → Effect → Type 0
GoesWith P (Goes way s told c) = P s
GoesWith P (Stops o told c) = Unit {0}
GoesWith P TooFew = Unit {0}

-- a stretch keeps a property of states
abbrev pub Keeps : (JointState → Type 0) → Onward → Type 0
Keeps P f = (s : JointState) (c : List ℕ) → P s → GoesWith P (f s c)
