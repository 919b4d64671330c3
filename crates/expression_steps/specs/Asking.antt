-- What the terms and the steps of an expression promise: under a guard that is 1 the steps do what its checks do, and the term
-- has its number; under a guard of 0 the steps do nothing.
use Rattle.std.specs.Prelude.{◌≡◌, ℕ, ◌+◌, ◌*◌, ◌≤◌, Bool, List, [], ◌∷◌, ◌++◌, Option, Some, None, bit_and, nat_lt, not, ◌&&◌, ◌||◌, true}
use Rattle.bits_core.specs.Word.{number, bit}
use Rattle.word_eqs.specs.declared.list.Act.TheVariants.{Prop}
use Rattle.word_eqs.specs.declared.list.Step.{Step}
use Rattle.word_eqs.specs.Gates.{step_gates}
use Rattle.word_eqs.specs.Graph.{Graph}
use Rattle.word_eqs.specs.Guarded.{Walk, Passes, Stops, AtProp, walk}
use Rattle.word_eqs.specs.Meaning.{Values, Respects}
use Rattle.joint_ir.specs.declared.ctype.IntType.{IntType}
use Rattle.bits_core.specs.declared.op.Op2.{Op2}
use Rattle.bits_core.specs.declared.op.Op2.TheVariants as op2
use Rattle.joint_ir.specs.declared.expr.LogicOp.{LogicOp}
use Rattle.joint_ir.specs.declared.expr.LogicOp.TheVariants.{And, Or}
use Rattle.joint_ir.specs.Values.{Answer, Value, Fault, bit_of}
use Rattle.sized_terms.specs.declared.SizedTerm.{SizedTerm}
use Rattle.sized_terms.specs.Sized.{Has, Builds, bits}
use Rattle.checked_terms.specs.declared.Check.{Check}
use Rattle.checked_terms.specs.declared.Checked.{Checked}
use Rattle.checked_terms.specs.Checked.{IsChecked}
use Rattle.unrolled.specs.declared.Unrolled.{Unrolled}
use Rattle.expression_steps.specs.declared.steps.Split.{Split}

-- the step of a check under a guard
abbrev pub check_steps : SizedTerm → Option Check → List Step
check_steps g None = []
check_steps g (Some c) = (record { guard = g.term; act = Prop c.prop.0 c.test.term }) ∷ []

-- steps alone were pushed
pub record IsPushed (old new : Unrolled) (more : List Step) : Type 0 where
  pub terms : new.terms ≡ old.terms
  pub list : new.list ≡ old.list ++ more

-- what the checks of an answer do, and the number of a type that its term has
abbrev pub Gives : IntType → Answer → Walk → ℕ → Type 0
Gives t (Value n) w k = (w ≡ Passes []) × (number t.signed t.bits k ≡ n)
Gives t (Fault p) w k = w ≡ Stops [] (AtProp p.0)

-- Terms and steps that ask for an answer under guard g, and have its number in term x. `holds` is what is known in a valuation
-- of the objects' rows, in whose terms the answer is given. All is worth so many gates.
pub record Asks (X : Type 0) (old new : Unrolled) (t : IntType) (gates : ℕ) (g x : SizedTerm) (holds : Values → X → Type 0) (answer : Values → X → Answer) : Type 0 where
  pub made : ℕ
  pub most : ℕ
  pub builds : Builds old.terms new.terms made most
  pub more : List Step
  pub list : new.list ≡ old.list ++ more
  pub has : Has new.terms x
  pub width : x.width ≡ t.bits
  pub idle : (v : Values) → Respects v new.terms → bits v g ≡ 0 → walk v more ≡ Passes []
  pub live : (v : Values) → Respects v new.terms → bits v g ≡ 1 → (s : X) → holds v s → Gives t (answer v s) (walk v more) (bits v x)
  pub few : (h : Graph) → ((y : SizedTerm) → Has new.terms y → Has h y) → step_gates h more + made ≤ gates

-- whether a term isn't 0
abbrev pub is_set : Values → SizedTerm → Bool
is_set v x = nat_lt 0 (bits v x)

-- whether a term isn't 0, and a guard for where it isn't and one for where it is
pub record IsSplit (old new : Unrolled) (g x : SizedTerm) (r : Split) : Type 0 where
  pub builds : Builds old.terms new.terms (3 * x.width + 2) 4
  pub list : new.list ≡ old.list
  pub has_set : Has new.terms r.set
  pub has_taken : Has new.terms r.taken
  pub has_other : Has new.terms r.other
  pub width_set : r.set.width ≡ 1
  pub width_taken : r.taken.width ≡ 1
  pub width_other : r.other.width ≡ 1
  pub set : (v : Values) → Respects v new.terms → bits v r.set ≡ bit (is_set v x)
  pub taken : (v : Values) → Respects v new.terms → bits v r.taken ≡ bit_and (bits v g) (bit (is_set v x))
  pub other : (v : Values) → Respects v new.terms → bits v r.other ≡ bit_and (bits v g) (bit (not (is_set v x)))

-- a result's terms and the steps of its checks were added
pub record IsDone (old new : Unrolled) (t : IntType) (gates most : ℕ) (g : SizedTerm) (r : Checked) (answer : Values → Answer) : Type 0 where
  pub checked : IsChecked old.terms new.terms t gates most r answer
  pub list : new.list ≡ old.list ++ (check_steps g r.division ++ check_steps g r.other)

-- the side of a split on which `&&` or `||` evaluates its right operand
abbrev pub side_of : LogicOp → Split → SizedTerm
side_of And s = s.taken
side_of Or s = s.other

-- what `&&` or `||` is of two tests
abbrev pub joined_by : LogicOp → Bool → Bool → Bool
joined_by And a b = a && b
joined_by Or a b = a || b

-- 0 or 1 of type `int` for a test and a term
pub record IsJoined (old new : Unrolled) (op : LogicOp) (set y t : SizedTerm) : Type 0 where
  pub builds : Builds old.terms new.terms (3 * y.width + 1) 3
  pub list : new.list ≡ old.list
  pub has : Has new.terms t
  pub width : t.width ≡ 32
  pub value : (v : Values) → Respects v new.terms → (b : Bool) → bits v set ≡ bit b → number true 32 (bits v t) ≡ bit_of (joined_by op b (is_set v y))

-- the operation on bits that `&&` and `||` are, where both operands are one bit
abbrev pub join_op_of : LogicOp → Op2
join_op_of And = op2.And
join_op_of Or = op2.Or
