-- An array is declared element by element: what is left of that, and what one element promises.
use Rattle.std.specs.Prelude.{◌≡◌, ℕ, suc, ◌+◌, ◌<◌, List, slice_index_or, drop, pos}
use Rattle.word_eqs.specs.Meaning.{Values}
use Rattle.joint_ir.specs.declared.ctype.IntType.{IntType}
use Rattle.joint_ir.specs.declared.expr.Slot.TheVariants.{Local}
use Rattle.joint_ir.specs.declared.pair.Pair.{Pair}
use Rattle.joint_ir.specs.declared.stmt.TInit.{TInit}
use Rattle.joint_ir.specs.declared.stmt.TInit.TheVariants.{Free, Values as Exprs, Called}
use Rattle.joint_ir.specs.declared.way.Way.TheVariants.{Next}
use Rattle.joint_ir.specs.Effects.{Onward, nothing, Goes, with_value, draw}
use Rattle.joint_ir.specs.States.{JointState, row_at}
use Rattle.joint_ir.specs.Steps.{Setting, rows_in, slot_type, first_value, free_elements, set_elements}
use Rattle.joint_ir.specs.Types.{converted}
use Rattle.joint_ir.specs.WellFormed.{Scope, FitsDeclare}
use Rattle.sized_terms.specs.declared.SizedTerm.{SizedTerm}
use Rattle.sized_terms.specs.Sized.{Has}
use Rattle.unrolled.specs.declared.Unrolled.{Unrolled}
use Rattle.unwind_state.specs.declared.state.Guard.{Guard}
use Rattle.unwind_state.specs.declared.state.State.{State}
use Rattle.unwind_state.specs.Guards.{flow_at}
use Rattle.unwind_state.specs.Images.{Image, words_at, numbers, IsState, IsSettled}
use Rattle.unwind_state.specs.Unwinding.{Grows, Unwinds}
use Rattle.unwind_state.specs.Writing.{HasObjects, HasResult}
use Rattle.unwind_simple.specs.declared.simple.Activation.{Activation}
use Rattle.unwind_simple.specs.Simple.{is_in, result_in, setting_of}
use Rattle.unwind_simple.specs.Obtaining.{Valuing, Obtains}

-- words stand for a run's state, and the first k elements of a local have their values
pub record HasElements (p : Pair) (visible : List ℕ) (x k : ℕ) (im : Image) (s : JointState) : Type 0 where
  pub state : IsState p visible im s
  pub firsts : (j : ℕ) → j < k → slice_index_or (numbers (slot_type p.program (Local x)) (words_at im.locals x)) j (pos 0) ≡ slice_index_or (row_at s.store.locals x) j (pos 0)

-- how a run comes to the value of the element at a place: any, that of its expression, or 0
abbrev pub element_run : Setting → IntType → TInit → (place : ℕ) → Valuing
element_run k t Free i s c go = draw t.bits c (λ m rest. go (converted t (pos m)) s rest)
element_run k t (Exprs es) i s c go = with_value (first_value (rows_in k s) (drop i es)) c (λ n. go n s c)
element_run k t (Called call) i s c go = go (pos 0) s c

-- the declaration's last n elements, from a place on
abbrev pub left_over : Setting → (line x : ℕ) → IntType → TInit → (n place : ℕ) → Onward
left_over k line x t Free n i = free_elements line x t n i
left_over k line x t (Exprs es) n i = set_elements k line x n i (drop i es)
left_over k line x t (Called call) n i = λ s c. Goes Next s nothing c

-- the term of an element's value, where the elements before it have theirs
pub record IsElement (a : Activation) (n0 n1 : Unrolled) (s : State) (x : ℕ) (ty : IntType) (init : TInit) (place : ℕ) (g : Guard) (t : SizedTerm) : Type 0 where
  pub grows : Grows n0.terms n1.terms
  pub has : Has n1.terms t
  pub width : t.width ≡ ty.bits
  pub obtains : (c : Scope) → is_in a c → FitsDeclare c x init → Obtains (IsSettled a.pair.now) n0 n1 s ty (element_run (setting_of a) ty init place) g t (HasElements a.pair.now c.locals x place)

-- the element at a place took its value, and the declaration goes on with the next one
pub record IsSetAt (a : Activation) (n0 n1 : Unrolled) (s0 s1 : State) (x : ℕ) (init : TInit) (place : ℕ) (g : Guard) : Type 0 where
  pub grows : Grows n0.terms n1.terms
  pub objects : HasObjects a.pair.now.program n1.terms s1.objects
  pub result : HasResult (result_in a) n0.terms s0.result → HasResult (result_in a) n1.terms s1.result
  pub does : (c : Scope) → is_in a c → FitsDeclare c x init → (line n : ℕ) →
      Unwinds (IsSettled a.pair.now) n0 n1 s0 s1 (λ v. left_over (setting_of a) line x (slot_type a.pair.now.program (Local x)) init (suc n) place) g (flow_at Next g) (HasElements a.pair.now c.locals x place) (λ way. HasElements a.pair.now c.locals x (place + 1))
      (λ way. left_over (setting_of a) line x (slot_type a.pair.now.program (Local x)) init n (place + 1))
