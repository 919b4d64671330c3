-- Small constants, worked out by hand from the rules of lengths and signs (IEEE 1364-2005, 5.4 and 5.5).
use Rattle.std.specs.Prelude.{◌≡◌, ℕ, List, [], ◌∷◌, Option, Some, None, Bool, true, false, pos}
use Rattle.bits_core.specs.Word.{word}
use Rattle.v_tree.specs.declared.expr.BinaryOp.TheVariants as binary
use Rattle.v_tree.specs.declared.expr.UnaryOp.TheVariants as unary
use Rattle.elab_names.specs.declared.constant.Standing.{Standing}
use Rattle.elab_names.specs.declared.constant.Worth.{Worth}
use Rattle.elab_names.specs.declared.constant.Worth.TheVariants.{Value, Open, NotConstant}
use Rattle.elab_names.specs.declared.measure.Measured.{Measured}
use Rattle.elab_names.specs.declared.measure.Measured.TheVariants as a
use Rattle.elab_names.specs.declared.names.Entry.{Entry}
use Rattle.elab_names.specs.declared.names.Entry.TheVariants.{Parameter}
use Rattle.elab_names.specs.declared.select.Choice.TheVariants as choice
use Rattle.elab_names.specs.declared.select.Number.TheVariants as the
use Rattle.elab_names.specs.Constants.{standing, unknown}
use Rattle.elab_names.specs.Operators.{form_of}
use Rattle.elab_names.specs.Selects.{select_standing}
use Rattle.elab_names.specs.Measured.{by_itself, by_form, by_operator, worth_of, concatenation, replicated}

-- a number of so many bits
abbrev pub sized : ℕ → Bool → ℕ → Standing
sized l s n = standing (Some l) (Some s) (Value (word l n))

-- a plain decimal number: 32 bits, with sign
abbrev pub plain : ℕ → Measured
plain n = a.Standing (sized 32 true n)

-- a parameter of 32 bits that is 4
abbrev pub four : Option Entry
four = Some (Parameter (Some (record { constant = record { word = word 32 4; signed = true }; low = 0 })))

-- worked constants, by the rules on lengths and signs (IEEE 1364-2005, 5.4 and 5.5)
pub record WorkedConstants : Type 0 where
  -- `4'd15 + 4'd1` has its own four bits
  pub carry : by_itself (by_form (form_of binary.Add) binary.Add (a.Standing (sized 4 false 15)) (a.Standing (sized 4 false 1))) ≡ sized 4 false 0
  -- `-8 / 3`, with sign: -2
  pub quotient : worth_of (by_itself (by_form (form_of binary.Divide) binary.Divide (by_operator unary.Minus (plain 8)) (plain 3))) ≡ Value (word 32 4294967294)
  -- `1 / 0 + nope` is open, `{1 / 0, nope}` isn't constant
  pub open_sum : worth_of (by_itself (by_form (form_of binary.Add) binary.Add (by_form (form_of binary.Divide) binary.Divide (plain 1) (plain 0)) (a.Standing unknown))) ≡ Open
  pub varying : worth_of (concatenation (by_itself (by_form (form_of binary.Divide) binary.Divide (plain 1) (plain 0)) ∷ unknown ∷ [])) ≡ NotConstant
  -- bit 2 of a parameter that is 4, and one that it lacks
  pub bit_two : select_standing [] four (choice.Index (the.Known (pos 2))) ≡ sized 1 false 1
  pub no_bit : select_standing [] four (choice.Index (the.Known (pos 40))) ≡ sized 1 false 0
  -- `{3{2'b10}}` is `6'b101010`
  pub copies : replicated (the.Known (pos 3)) (concatenation (sized 2 false 2 ∷ [])) ≡ sized 6 false 42
  -- `{2'b10, 3'b001}` is `5'b10001`
  pub parts : concatenation (sized 2 false 2 ∷ sized 3 false 1 ∷ []) ≡ sized 5 false 17
