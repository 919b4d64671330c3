-- Whether a shift may be made, by its operands' words.
use Rattle.std.specs.Prelude.{◌≡◌, ℕ, ◌*◌, ◌%◌, ◌^◌, Bool, true, false, not, ◌&&◌, nat_eq, bit_and}
use Rattle.bits_core.specs.Word.{bit}
use Rattle.bits_core.specs.Ops.{less, shifted_right}
use Rattle.bits_core.specs.declared.op.Op2.{Op2}
use Rattle.bits_core.specs.declared.op.Op2.TheVariants.{ShrS, ShrU}
use Rattle.word_eqs.specs.Graph.{Graph}
use Rattle.word_eqs.specs.Meaning.{Values, Respects}
use Rattle.joint_ir.specs.declared.ctype.IntType.{IntType}
use Rattle.joint_ir.specs.Values.{is_amount}
use Rattle.sized_terms.specs.declared.SizedTerm.{SizedTerm}
use Rattle.sized_terms.specs.Sized.{Has, Builds, bits}
use Rattle.checked_terms.specs.Checked.{stands}
use Rattle.shift_terms.specs.declared.Amount.{Amount}

-- the amount of a shift at the width of what is shifted, and whether it is one that a number of the type may be shifted by
pub record IsAmountOf (old new : Graph) (t u : IntType) (b : SizedTerm) (r : Amount) : Type 0 where
  pub builds : Builds old new (10 * b.width) 3
  pub has : Has new r.by
  pub has_within : Has new r.within
  pub width : r.by.width ≡ t.bits
  pub width_within : r.within.width ≡ 1
  pub value : (v : Values) → Respects v new → bits v r.by ≡ bits v b % 2 ^ t.bits
  pub within : (v : Values) → Respects v new → bits v r.within ≡ bit (is_amount t (stands u v b))

-- a number with a sign loses nothing by a left shift: it comes back where it is shifted to the right, and isn't below 0
abbrev pub loses_nothing : (w x y shifted : ℕ) → Bool
loses_nothing w x y shifted = nat_eq (shifted_right true w shifted y) x && not (less true w x 0)

-- the same behind a bit
abbrev pub keeps_bit : (w x y shifted within : ℕ) → ℕ
keeps_bit w x y shifted within = bit_and within (bit (loses_nothing w x y shifted))

-- the right shift that fills with the sign, or with zeros
abbrev pub right_op_of : Bool → Op2
right_op_of true = ShrS
right_op_of false = ShrU
