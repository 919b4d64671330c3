-- What a stretch of an unwinding promises: what was pushed does what a stretch of a run does, under a guard.
use Rattle.std.specs.Prelude.{◌≡◌, ℕ, List, [], ◌++◌, ◌∷◌}
use Rattle.bits_core.specs.Word.{number}
use Rattle.word_eqs.specs.declared.list.Act.{Act}
use Rattle.word_eqs.specs.declared.list.Act.TheVariants.{Free}
use Rattle.word_eqs.specs.declared.list.Step.{Step}
use Rattle.word_eqs.specs.declared.term.TermId.{TermId}
use Rattle.word_eqs.specs.declared.term.VarId.{VarId}
use Rattle.word_eqs.specs.Graph.{Graph, IsGraph}
use Rattle.word_eqs.specs.Guarded.{AtProp}
use Rattle.word_eqs.specs.Meaning.{Values, Respects, IsWordOf}
use Rattle.joint_ir.specs.declared.ctype.IntType.{IntType}
use Rattle.joint_ir.specs.declared.way.Way.{Way}
use Rattle.joint_ir.specs.declared.way.Way.TheVariants.{Next, Breaking, Continuing, Returning}
use Rattle.joint_ir.specs.Effects.{Onward}
use Rattle.joint_ir.specs.States.{JointState}
use Rattle.joint_ir.specs.Values.{Answer, Value, Fault}
use Rattle.sized_terms.specs.declared.SizedTerm.{SizedTerm}
use Rattle.sized_terms.specs.Sized.{Has, bits}
use Rattle.unrolled.specs.declared.Unrolled.{Unrolled}
use Rattle.trails.specs.Following.{goes, Follows}
use Rattle.trails.specs.Trails.{Trail, Through, Halts, trail}
use Rattle.unwind_state.specs.declared.state.Flow.{Flow}
use Rattle.unwind_state.specs.declared.state.Guard.{Guard}
use Rattle.unwind_state.specs.declared.state.State.{State}
use Rattle.unwind_state.specs.Guards.{Adds, bit_at, bits_of}
use Rattle.unwind_state.specs.Images.{Image, look}

-- nothing happens under a guard of 0: no step acts, no way on is live, and each word is as it was
pub record IsIdle (t : Trail) (guards : Way → ℕ) (x y : Image) : Type 0 where
  pub passes : t ≡ Through []
  pub off : (way : Way) → guards way ≡ 0
  pub kept : y ≡ x

-- What was pushed between two moments does what a run does, under a guard. `fixed` is known of the words of the state in each
-- valuation; `before` and `behind` relate them to the run's state; `out` says how the run goes on behind the stretch.
pub record Unwinds (fixed : Image → Type 0) (n0 n1 : Unrolled) (s0 s1 : State) (run : Values → Onward) (g : Guard) (f : Flow) (before : Image → JointState → Type 0) (behind : Way → Image → JointState → Type 0) (out : Way → Onward) : Type 0 where
  pub grown : (v : Values) → Respects v n1.terms → Respects v n0.terms
  pub more : List Step
  pub list : n1.list ≡ n0.list ++ more
  pub settled : (v : Values) → Respects v n1.terms → fixed (look v s0) → fixed (look v s1)
  pub idle : (v : Values) → Respects v n1.terms → bit_at v g ≡ 0 → fixed (look v s0) → IsIdle (trail v more) (bits_of v f) (look v s0) (look v s1)
  pub live : (v : Values) → Respects v n1.terms → bit_at v g ≡ 1 → fixed (look v s0) → (s : JointState) → before (look v s0) s → Follows (run v s) (trail v more) (bits_of v f) (λ way. behind way (look v s1)) out

-- what an expression's checks do, and the word of its value
abbrev pub Gives : IntType → Answer → Trail → (value : ℕ) → Type 0
Gives t (Value n) trail value = (trail ≡ Through []) × (number t.signed t.bits value ≡ n)
Gives t (Fault p) trail value = trail ≡ Halts [] (AtProp p.0)

-- the checks of an expression under a guard, and the term of its value; the state isn't touched
pub record Asks (fixed : Image → Type 0) (old new : Unrolled) (at : State) (t : IntType) (answer : JointState → Answer) (g : Guard) (x : SizedTerm) (before : Image → JointState → Type 0) : Type 0 where
  pub grown : (v : Values) → Respects v new.terms → Respects v old.terms
  pub more : List Step
  pub list : new.list ≡ old.list ++ more
  pub idle : (v : Values) → Respects v new.terms → bit_at v g ≡ 0 → fixed (look v at) → trail v more ≡ Through []
  pub live : (v : Values) → Respects v new.terms → bit_at v g ≡ 1 → fixed (look v at) → (s : JointState) → before (look v at) s → Gives t (answer s) (trail v more) (bits v x)

-- the same of an answer that hangs on terms made before
pub record AsksIn (fixed : Image → Type 0) (old new : Unrolled) (at : State) (t : IntType) (answer : Values → JointState → Answer) (g : Guard) (x : SizedTerm) (before : Image → JointState → Type 0) : Type 0 where
  pub grown : (v : Values) → Respects v new.terms → Respects v old.terms
  pub more : List Step
  pub list : new.list ≡ old.list ++ more
  pub idle : (v : Values) → Respects v new.terms → bit_at v g ≡ 0 → fixed (look v at) → trail v more ≡ Through []
  pub live : (v : Values) → Respects v new.terms → bit_at v g ≡ 1 → fixed (look v at) → (s : JointState) → before (look v at) s → Gives t (answer v s) (trail v more) (bits v x)

-- a term of one bit that is 1 where a path is live
pub record IsTerm (old new : Unrolled) (g : Guard) (t : SizedTerm) : Type 0 where
  pub adds : Adds old new
  pub has : Has new.terms t
  pub width : t.width ≡ 1
  pub value : (v : Values) → Respects v new.terms → bits v t ≡ bit_at v g

-- terms that were there stay
pub record Grows (old new : Graph) : Type 0 where
  pub grown : (v : Values) → Respects v new → Respects v old
  pub kept : (x : SizedTerm) → Has old x → Has new x
  pub proper : IsGraph new

-- a step was pushed under a guard
pub record IsPushed (old new : Unrolled) (g : Guard) (act : Act) : Type 0 where
  pub grows : Grows old.terms new.terms
  pub guard : TermId
  pub list : new.list ≡ old.list ++ (record { guard = guard; act = act }) ∷ []
  pub value : (v : Values) → Respects v new.terms → (v.term guard.0).value ≡ bit_at v g

-- a new variable and its term
pub record IsVariable (old new : Unrolled) (w : ℕ) (x : VarId) (t : SizedTerm) : Type 0 where
  pub adds : Adds old new
  pub has : Has new.terms t
  pub width : t.width ≡ w
  pub word : (v : Values) → Respects v new.terms → IsWordOf w (v.var x.0)
  pub value : (v : Values) → Respects v new.terms → bits v t ≡ (v.var x.0).value

-- a word of so many bits was drawn under a guard
pub record IsDrawn (old new : Unrolled) (w : ℕ) (g : Guard) (t : SizedTerm) : Type 0 where
  pub variable : VarId
  pub pushed : IsPushed old new g (Free variable)
  pub has : Has new.terms t
  pub width : t.width ≡ w
  pub word : (v : Values) → Respects v new.terms → IsWordOf w (v.var variable.0)
  pub value : (v : Values) → Respects v new.terms → bits v t ≡ (v.var variable.0).value

-- a state that is another where the guard is 1; no step was pushed
pub record Changes (fixed : Image → Type 0) (n0 n1 : Unrolled) (s0 s1 : State) (g : Guard) (before after : Image → JointState → Type 0) (next : Values → JointState → JointState) : Type 0 where
  pub grown : (v : Values) → Respects v n1.terms → Respects v n0.terms
  pub list : n1.list ≡ n0.list
  pub settled : (v : Values) → Respects v n1.terms → fixed (look v s0) → fixed (look v s1)
  pub kept : (v : Values) → Respects v n1.terms → bit_at v g ≡ 0 → fixed (look v s0) → look v s1 ≡ look v s0
  pub changed : (v : Values) → Respects v n1.terms → bit_at v g ≡ 1 → fixed (look v s0) → (s : JointState) → before (look v s0) s → after (look v s1) (next v s)
