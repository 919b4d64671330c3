-- How a run begins, and when a list that was made so covers all runs.
use Rattle.std.specs.Prelude.{◌≡◌, ℕ, ◌+◌, ◌*◌, ◌≤◌, List, [], ◌++◌, Option, slice_get}
use Rattle.bits_core.specs.Word.{Word}
use Rattle.word_eqs.specs.Gates.{gate_count}
use Rattle.word_eqs.specs.Graph.{IsGraph}
use Rattle.word_eqs.specs.Guarded.{IsOrdered}
use Rattle.word_eqs.specs.Meaning.{Values, Respects}
use Rattle.joint_ir.specs.declared.bounds.Bounds.{Bounds}
use Rattle.joint_ir.specs.declared.ctype.IntType.{IntType}
use Rattle.joint_ir.specs.declared.pair.Pair.{Pair}
use Rattle.joint_ir.specs.Effects.{Onward, preceded}
use Rattle.joint_ir.specs.Runs.{with_first_state, body_of, main_effect}
use Rattle.joint_ir.specs.States.{JointState}
use Rattle.joint_ir.specs.Steps.{type_or_int, result_of}
use Rattle.joint_ir.specs.Weights.{weight_of}
use Rattle.sized_terms.specs.Sized.{Has}
use Rattle.unrolled.specs.declared.Unrolled.{Unrolled}
use Rattle.trails.specs.Following.{goes}
use Rattle.trails.specs.Trails.{Through, values_of, widths_of, trail}
use Rattle.unwind_state.specs.declared.state.Flow.{Flow}
use Rattle.unwind_state.specs.declared.state.Guard.TheVariants.{Always}
use Rattle.unwind_state.specs.declared.state.State.{State}
use Rattle.unwind_state.specs.Images.{look, IsState, IsSettled, IsBehind}
use Rattle.unwind_state.specs.Unwinding.{Unwinds}
use Rattle.unwind_state.specs.Writing.{HasObjects}
use Rattle.unwound.specs.Covers.{AreNarrow, CoversRuns}
use Rattle.unwind_module.specs.Drawing.{drew_all}
use Rattle.unwind_module.specs.Words.{HasModule}

-- The list so far draws what a run draws before `main`, and the words stand for its first state; no local is declared yet, and
-- the result's term has the width of what `main` returns.
pub record Begins (p : Pair) (n : Unrolled) (s : State) : Type 0 where
  pub proper : IsGraph n.terms
  pub objects : HasObjects p.program n.terms s.objects
  pub module_ : HasModule p n.terms s
  pub result : Has n.terms s.result
  pub wide : s.result.width ≡ (type_or_int (result_of (slice_get p.program.functions p.program.main))).bits
  pub settled : (v : Values) → Respects v n.terms → IsSettled p (look v s)
  pub reads : Values → List Word
  pub through : (v : Values) → Respects v n.terms → trail v n.list ≡ Through (reads v)
  pub first : Values → JointState
  pub stands : (v : Values) → Respects v n.terms → IsState p [] (look v s) (first v)
  pub runs : (v : Values) → Respects v n.terms → (rest : List ℕ) (go : Onward) → with_first_state p (values_of (reads v) ++ rest) go ≡ preceded (drew_all (widths_of (reads v))) (go (first v) rest)

-- Where the body of `main` was unwound behind a run's beginning, the whole list covers all runs, if it is in order, its choices
-- have at most 64 bits, and its gates are within the weight.
abbrev pub MainCovers : Type 0
MainCovers = (p : Pair) (b : Bounds) (n1 n2 : Unrolled) (s1 s2 : State) (f : Flow) (visible : List ℕ) (result : Option IntType) → Begins p n1 s1 →
    Unwinds (IsSettled p) n1 n2 s1 s2 (λ v. main_effect p b (body_of (slice_get p.program.functions p.program.main))) Always f (IsState p []) (IsBehind p visible result) goes →
    IsOrdered n2.terms n2.list → AreNarrow n2.terms n2.list → 1 + gate_count n2.terms n2.list ≤ 8 * weight_of p b → CoversRuns p b n2.terms n2.list
