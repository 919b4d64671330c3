-- When a stretch of a run does what a stretch of a list does, in one assignment.
use Rattle.std.specs.Prelude.{◌≡◌, ℕ, List, ◌++◌, eqb, if◌then◌else◌, Option, Some, None}
use Rattle.bits_core.specs.Word.{Word}
use Rattle.word_eqs.specs.Guarded.{Stop, AtCut, AtProp}
use Rattle.joint_ir.specs.declared.event.Outcome.{Outcome}
use Rattle.joint_ir.specs.declared.way.Way.{Way}
use Rattle.joint_ir.specs.declared.way.Way.TheVariants.{Next, Breaking, Continuing, Returning}
use Rattle.joint_ir.specs.Effects.{Effect, Told, nothing, Goes, Stops, Onward, preceded}
use Rattle.joint_ir.specs.States.{JointState}
use Rattle.unwound.specs.Covers.{broken_by}
use Rattle.trails.specs.Trails.{Trail, Through, Halts, values_of, widths_of}

-- the property that ends a list, if one does
abbrev pub stop_prop : Stop → Option ℕ
stop_prop AtCut = None
stop_prop (AtProp p) = Some p

-- the number of a way, by which ways are told apart
abbrev pub way_number : Way → ℕ
way_number Next = 0
way_number Breaking = 1
way_number Continuing = 2
way_number Returning = 3

-- 1 for one and the same way
abbrev pub way_bit : Way → Way → ℕ
way_bit w way = if eqb (way_number w) (way_number way) then 1 else 0

-- of the guards of the ways on, that of one way is 1, and the others are 0
abbrev pub IsAt : (Way → ℕ) → Way → Type 0
IsAt guards way = (w : Way) → guards w ≡ way_bit w way

-- a run that goes on in a state, with nothing told
abbrev pub goes : Way → Onward
goes way s c = Goes way s nothing c

-- The run draws just the words read, each at its width, and goes on the way of the guard that is 1, in a state of which
-- something holds; `out` says how.
pub record GoesOn (run : List ℕ → Effect) (reads : List Word) (guards : Way → ℕ) (holds : Way → JointState → Type 0) (out : Way → Onward) : Type 0 where
  pub way : Way
  pub state : JointState
  pub told : Told
  pub at : IsAt guards way
  pub held : holds way state
  pub widths : told.widths ≡ widths_of reads
  pub runs : (rest : List ℕ) → run (values_of reads ++ rest) ≡ preceded told (out way state rest)

-- The run draws just the words read, each at its width, and ends, at a property exactly where the list does.
pub record EndsAt (run : List ℕ → Effect) (reads : List Word) (stop : Stop) : Type 0 where
  pub outcome : Outcome
  pub told : Told
  pub broken : broken_by outcome ≡ stop_prop stop
  pub widths : told.widths ≡ widths_of reads
  pub runs : (rest : List ℕ) → run (values_of reads ++ rest) ≡ Stops outcome told rest

-- On the choices that a list reads the run does what the list does, and leaves what stands behind them.
abbrev pub Follows : (run : List ℕ → Effect) → Trail → (guards : Way → ℕ) → (holds : Way → JointState → Type 0) → (out : Way → Onward) → Type 0
Follows run (Through reads) guards holds out = GoesOn run reads guards holds out
Follows run (Halts reads stop) guards holds out = EndsAt run reads stop
