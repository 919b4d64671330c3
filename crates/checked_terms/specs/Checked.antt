-- What terms of C's operators promise: the number of the result, and the checks before it.
use Rattle.std.specs.Prelude.{◌≡◌, ℕ, ◌+◌, ◌*◌, ◌≤◌, ◌<◌, Bool, true, false, Option, Some, None, ℤ, not}
use Rattle.bits_core.specs.Word.{number, at_zero, bit, modulo}
use Rattle.word_eqs.specs.Graph.{Graph}
use Rattle.word_eqs.specs.Meaning.{Values, Respects}
use Rattle.joint_ir.specs.declared.ctype.IntType.{IntType}
use Rattle.joint_ir.specs.declared.program.PropId.{PropId}
use Rattle.joint_ir.specs.Types.{in_range}
use Rattle.joint_ir.specs.Values.{Answer, Value, Fault}
use Rattle.sized_terms.specs.declared.SizedTerm.{SizedTerm}
use Rattle.sized_terms.specs.Sized.{Has, Builds, IsMade, bits}
use Rattle.checked_terms.specs.declared.Check.{Check}
use Rattle.checked_terms.specs.declared.Checked.{Checked}
use Rattle.checked_terms.specs.declared.Cut.{Cut}

-- the number of a type that a term stands for
abbrev pub stands : IntType → Values → SizedTerm → ℤ
stands t v x = number t.signed t.bits (bits v x)

-- an answer behind a check, which breaks its property where its term is 0
abbrev pub test_then : Values → Option Check → Answer → Answer
test_then v None a = a
test_then v (Some c) a = at_zero (bits v c.test) (Fault c.prop) a

-- the same test, where a property stands for it
abbrev pub check_of : Option PropId → SizedTerm → Option Check
check_of None t = None
check_of (Some p) t = Some (record { prop = p; test = t })

-- the term of a check, if there is one, stands in the graph
abbrev pub HasCheck : Graph → Option Check → Type 0
HasCheck g None = Unit {0}
HasCheck g (Some c) = Has g c.test

-- what a step of a check counts as
abbrev pub check_gates : Option Check → ℕ
check_gates None = 0
check_gates (Some c) = c.test.width + 8

-- Terms of a result of a type with its checks, which give this answer in each valuation. The terms and the steps of the checks
-- are worth so many gates.
pub record IsChecked (old new : Graph) (t : IntType) (gates most : ℕ) (r : Checked) (answer : Values → Answer) : Type 0 where
  pub made : ℕ
  pub builds : Builds old new made most
  pub has : Has new r.value
  pub width : r.value.width ≡ t.bits
  pub division : HasCheck new r.division
  pub other : HasCheck new r.other
  pub gives : (v : Values) → Respects v new → test_then v r.division (test_then v r.other (Value (stands t v r.value))) ≡ answer v
  pub few : made + check_gates r.division + check_gates r.other ≤ gates

-- a type of 1 to 64 bits other than `_Bool`
pub record IsPlain (t : IntType) : Type 0 where
  pub some : 0 < t.bits
  pub few : t.bits ≤ 64
  pub truth : t.truth ≡ false

-- a wide number cut to a signed type, and whether it is in its range
pub record IsCut (old new : Graph) (t : IntType) (wide : SizedTerm) (r : Cut) : Type 0 where
  pub builds : Builds old new (4 * wide.width) 3
  pub has : Has new r.value
  pub has_fits : Has new r.fits
  pub width : r.value.width ≡ t.bits
  pub width_fits : r.fits.width ≡ 1
  pub value : (v : Values) → Respects v new → bits v r.value ≡ modulo t.bits (number true wide.width (bits v wide))
  pub fits : (v : Values) → Respects v new → bits v r.fits ≡ bit (in_range t (number true wide.width (bits v wide)))

-- one term alone, without checks
abbrev pub plain : SizedTerm → Checked
plain t = record { division = None; other = None; value = t }

-- 0 and 1 of type `int` for a test
abbrev pub comparison_of : (negated : Bool) → Bool → Bool
comparison_of false b = b
comparison_of true b = not b
