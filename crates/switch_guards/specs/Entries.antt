-- Where control enters a switch, as guards (C99 6.8.4.2).
use Rattle.std.specs.Prelude.{◌≡◌, ℕ, ℤ, Bool, true, false, eqb, bit_and, bit_or, List, All, length, slice_get, Option, Some, None}
use Rattle.std.specs.List.{list_any}
use Rattle.std.specs.Ordering.{int_eq}
use Rattle.bits_core.specs.Word.{bit, number}
use Rattle.word_eqs.specs.Meaning.{Values, Respects}
use Rattle.joint_ir.specs.declared.ctype.IntType.{IntType}
use Rattle.joint_ir.specs.declared.stmt.Group.{Group, out-Group}
use Rattle.joint_ir.specs.declared.stmt.Label.{Label}
use Rattle.joint_ir.specs.Statements.{is_case}
use Rattle.joint_ir.specs.WellFormed.{FitsLabel}
use Rattle.joint_lists.specs.Lists.{case_with, entered_case}
use Rattle.sized_terms.specs.declared.SizedTerm.{SizedTerm}
use Rattle.sized_terms.specs.Sized.{Has, bits}
use Rattle.unrolled.specs.declared.Unrolled.{Unrolled}
use Rattle.unwind_state.specs.declared.state.Guard.{Guard}
use Rattle.unwind_state.specs.Guards.{Adds, HasGuard, bit_at}

-- the number of a type that a term stands for
abbrev pub number_of : IntType → Values → SizedTerm → ℤ
number_of t v x = number t.signed t.bits (bits v x)

-- a term of one bit for a test
pub record IsBit (old new : Unrolled) (t : SizedTerm) (test : Values → Bool) : Type 0 where
  pub adds : Adds old new
  pub has : Has new.terms t
  pub width : t.width ≡ 1
  pub value : (v : Values) → Respects v new.terms → bits v t ≡ bit (test v)

-- a term of one bit: another one, or that a value is a number
pub record IsEither (old new : Unrolled) (ty : IntType) (x any : SizedTerm) (n : ℤ) (t : SizedTerm) : Type 0 where
  pub adds : Adds old new
  pub has : Has new.terms t
  pub width : t.width ≡ 1
  pub value : (v : Values) → Respects v new.terms → bits v t ≡ bit_or (bits v any) (bit (int_eq n (number_of ty v x)))

-- the same for a label
pub record IsOrLabel (old new : Unrolled) (ty : IntType) (x any : SizedTerm) (label : Label) (t : SizedTerm) : Type 0 where
  pub adds : Adds old new
  pub has : Has new.terms t
  pub width : t.width ≡ 1
  pub value : (v : Values) → Respects v new.terms → bits v t ≡ bit_or (bits v any) (bit (is_case (number_of ty v x) label))

-- the labels of all groups are numbers of a type, or `default`
abbrev pub FitLabels : IntType → List Group → Type 0
FitLabels t groups = All (λ g. All (λ label. FitsLabel t label) (out-Group g).labels) groups

-- a place is that of a group
abbrev pub is_place : (group : ℕ) → Option ℕ → Bool
is_place k None = false
is_place k (Some j) = eqb j k

-- there is no place
abbrev pub is_nowhere : Option ℕ → Bool
is_nowhere None = true
is_nowhere (Some j) = false

-- Guards for where a place is that of each group, and for where there is none.
pub record ArePlaced (old new : Unrolled) (g : Guard) (n : ℕ) (guards : List Guard) (past : Guard) (place : Values → Option ℕ) : Type 0 where
  pub adds : Adds old new
  pub count : length guards ≡ n
  pub has : (k : ℕ) (e : Guard) → slice_get guards k ≡ Some e → HasGuard new.terms e
  pub has_past : HasGuard new.terms past
  pub enters : (v : Values) → Respects v new.terms → (k : ℕ) (e : Guard) → slice_get guards k ≡ Some e → bit_at v e ≡ bit_and (bit_at v g) (bit (is_place k (place v)))
  pub passes : (v : Values) → Respects v new.terms → bit_at v past ≡ bit_and (bit_at v g) (bit (is_nowhere (place v)))

-- where a value is one of a group's labels, and of none before it
abbrev pub AreHits : (old new : Unrolled) (ty : IntType) (value : SizedTerm) (g : Guard) (groups : List Group) (guards : List Guard) (past : Guard) → Type 0
AreHits old new ty value g groups guards past = ArePlaced old new g (length groups) guards past (λ v. case_with (is_case (number_of ty v value)) groups)

-- where control enters each group of a switch over a value, and where it enters none
abbrev pub AreEntries : (old new : Unrolled) (ty : IntType) (value : SizedTerm) (g : Guard) (groups : List Group) (guards : List Guard) (past : Guard) → Type 0
AreEntries old new ty value g groups guards past = ArePlaced old new g (length groups) guards past (λ v. entered_case (number_of ty v value) groups)
