-- Terms of the first elements of objects (C99 6.7.8, paragraphs 10 and 21).
use Rattle.std.specs.Prelude.{◌≡◌, ℕ, List, [], ◌∷◌, ℤ}
use Rattle.bits_core.specs.Word.{number}
use Rattle.word_eqs.specs.declared.term.TermId.{TermId}
use Rattle.word_eqs.specs.Graph.{Graph}
use Rattle.word_eqs.specs.Meaning.{Values, Respects}
use Rattle.joint_ir.specs.declared.ctype.IntType.{IntType}
use Rattle.joint_ir.specs.declared.program.Var.{Var}
use Rattle.joint_ir.specs.States.{copies, element_count, filled_up}
use Rattle.joint_ir.specs.WellFormed.{AreTerms}
use Rattle.sized_terms.specs.declared.SizedTerm.{SizedTerm}
use Rattle.sized_terms.specs.Sized.{Has, bits}
use Rattle.unrolled.specs.declared.Unrolled.{Unrolled}
use Rattle.unwind_state.specs.Guards.{Adds}
use Rattle.unwind_state.specs.Images.{words, numbers}

-- a term of a type that stands for this number in each valuation
pub record IsElement (n0 n1 : Unrolled) (ty : IntType) (t : SizedTerm) (n : ℤ) : Type 0 where
  pub adds : Adds n0 n1
  pub has : Has n1.terms t
  pub width : t.width ≡ ty.bits
  pub stands : (v : Values) → Respects v n1.terms → number ty.signed ty.bits (bits v t) ≡ n

-- terms of the first k elements of an object
pub record ArePart (g : Graph) (x : Var) (k : ℕ) (ids : List TermId) : Type 0 where
  pub terms : AreTerms g ids (copies k x.ty.bits)
  pub stand : (v : Values) → Respects v g → numbers x.ty (words v ids) ≡ filled_up x.firsts k

-- terms of all elements of an object
abbrev pub IsRow : Graph → Var → List TermId → Type 0
IsRow g x ids = ArePart g x (element_count x.length) ids

-- terms of all elements of objects
abbrev pub AreRows : Graph → List Var → List (List TermId) → Type 0
AreRows g [] [] = Unit {0}
AreRows g [] (row ∷ rows) = ⊥
AreRows g (x ∷ vars) [] = ⊥
AreRows g (x ∷ vars) (row ∷ rows) = IsRow g x row × AreRows g vars rows

-- terms of the elements of an object were made
pub record HasRow (n0 n1 : Unrolled) (x : Var) (ids : List TermId) : Type 0 where
  pub adds : Adds n0 n1
  pub row : IsRow n1.terms x ids

-- terms of the elements of objects were made
pub record HasRows (n0 n1 : Unrolled) (vars : List Var) (rows : List (List TermId)) : Type 0 where
  pub adds : Adds n0 n1
  pub all : AreRows n1.terms vars rows
