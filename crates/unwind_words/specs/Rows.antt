-- Rows of terms: the words of each signal, what the mirror shows of them, and the inputs that it drives.
use Rattle.std.specs.Prelude.{◌≡◌, ℕ, List, [], ◌∷◌, map, length, Option, Some, ℤ}
use Rattle.word_eqs.specs.declared.term.TermId.{TermId}
use Rattle.word_eqs.specs.Graph.{Graph, width_in}
use Rattle.word_eqs.specs.Meaning.{Values, Respects}
use Rattle.joint_ir.specs.declared.ctype.IntType.{IntType}
use Rattle.joint_ir.specs.declared.expr.Slot.TheVariants.{Member}
use Rattle.joint_ir.specs.declared.module.Role.TheVariants.{Input, Register, Wire}
use Rattle.joint_ir.specs.declared.module.Signal.{Signal}
use Rattle.joint_ir.specs.declared.pair.Pair.{Pair}
use Rattle.joint_ir.specs.declared.program.Member.{Member as AMember}
use Rattle.joint_ir.specs.States.{copies, element_count, row_at}
use Rattle.joint_ir.specs.Steps.{type_or_int, slot_type}
use Rattle.joint_ir.specs.Views.{widths_of, signal_words, mirror_row, member_row, filled_from, members_of, mirroring_member, driven_input, driven}
use Rattle.joint_ir.specs.WellFormed.{AreTerms}
use Rattle.sized_terms.specs.Sized.{Has}
use Rattle.unrolled.specs.declared.Unrolled.{Unrolled}
use Rattle.unwind_state.specs.declared.state.Guard.{Guard}
use Rattle.unwind_state.specs.Guards.{Adds, bit_at}
use Rattle.unwind_state.specs.Images.{words, words_at, numbers}
use Rattle.unwind_state.specs.Writing.{sized}
use Rattle.unwind_module.specs.Words.{AreAlike, member_elements}

-- rows of terms of given widths
abbrev pub AreRows : Graph → List (List TermId) → List (List ℕ) → Type 0
AreRows g [] [] = Unit {0}
AreRows g [] (ws ∷ wss) = ⊥
AreRows g (row ∷ rows) [] = ⊥
AreRows g (row ∷ rows) (ws ∷ wss) = AreTerms g row ws × AreRows g rows wss

-- the widths of the words of each signal
abbrev pub signal_widths : List Signal → List (List ℕ)
signal_widths signals = map (λ (s : Signal). copies (element_count s.words) s.bits) signals

-- terms of the words of the registers, the inputs and the wires of signals
pub record HaveTerms (g : Graph) (signals : List Signal) (registers inputs wires : List TermId) : Type 0 where
  pub registers_ : AreTerms g registers (widths_of Register signals)
  pub inputs_ : AreTerms g inputs (widths_of Input signals)
  pub wires_ : AreTerms g wires (widths_of Wire signals)

-- a row for each signal, of the terms of its words; the clock's is 0
pub record HasSignals (n0 n1 : Unrolled) (signals : List Signal) (registers inputs wires : List TermId) (rows : List (List TermId)) : Type 0 where
  pub adds : Adds n0 n1
  pub terms : AreRows n1.terms rows (signal_widths signals)
  pub stand : (v : Values) → Respects v n1.terms → map (words v) rows ≡ signal_words signals (words v registers) (words v inputs) (words v wires)

-- terms that stand for what a member of a type shows of a signal with these words
pub record IsShown (n0 n1 : Unrolled) (ty : IntType) (s : Signal) (row ids : List TermId) : Type 0 where
  pub adds : Adds n0 n1
  pub terms : AreTerms n1.terms ids (copies (length row) ty.bits)
  pub stand : (v : Values) → Respects v n1.terms → numbers ty (words v ids) ≡ mirror_row ty (Some s) (words v row)

-- the widths of the elements of each member
abbrev pub member_widths : List AMember → List (List ℕ)
member_widths members = map (λ (m : AMember). copies (member_elements m) (type_or_int m.ty).bits) members

-- the numbers that rows of words stand for, each row by the type of its member
abbrev pub member_numbers : List AMember → List (List ℕ) → List (List ℤ)
member_numbers [] rows = []
member_numbers (m ∷ members) [] = []
member_numbers (m ∷ members) (row ∷ rows) = numbers (type_or_int m.ty) row ∷ member_numbers members rows

-- terms that stand for what one member shows
pub record IsMember (p : Pair) (n0 n1 : Unrolled) (rows : List (List TermId)) (m : AMember) (signal : Option ℕ) (ids : List TermId) : Type 0 where
  pub adds : Adds n0 n1
  pub terms : AreTerms n1.terms ids (copies (member_elements m) (type_or_int m.ty).bits)
  pub stand : (v : Values) → Respects v n1.terms → numbers (type_or_int m.ty) (words v ids) ≡ member_row p.module.signals (map (words v) rows) m.ty signal

-- a row for each member, of terms that stand for what the mirror shows of signals with these words
pub record HasMirror (p : Pair) (n0 n1 : Unrolled) (rows shown : List (List TermId)) : Type 0 where
  pub adds : Adds n0 n1
  pub terms : AreRows n1.terms shown (member_widths (members_of p.program.mirror))
  pub stand : (v : Values) → Respects v n1.terms →
      member_numbers (members_of p.program.mirror) (map (words v) shown) ≡ filled_from p.binding.links p.module.signals (map (words v) rows) 0 (members_of p.program.mirror)

-- the mirror's rows stand for these
abbrev pub Mirrors : Pair → Values → List (List TermId) → List (List ℤ) → Type 0
Mirrors p v rows members = (i : ℕ) → numbers (slot_type p.program (Member i)) (words_at (map (words v) rows) i) ≡ row_at members i

-- the term of one input as the mirror drives it, wherever its rows stand for those of a run
pub record IsDriven (p : Pair) (n0 n1 : Unrolled) (members : List (List TermId)) (s : Signal) (place : ℕ) (old t : TermId) : Type 0 where
  pub adds : Adds n0 n1
  pub has : Has n1.terms (sized t s.bits)
  pub stand : (v : Values) → Respects v n1.terms → (rows : List (List ℤ)) → Mirrors p v members rows →
      (v.term t.0).value ≡ driven_input s (mirroring_member p.binding.links place) rows (v.term old.0).value

-- the inputs as the mirror drives them, wherever its rows stand for those of a run
pub record AreDriven (p : Pair) (n0 n1 : Unrolled) (members : List (List TermId)) (inputs ids : List TermId) : Type 0 where
  pub adds : Adds n0 n1
  pub terms : AreTerms n1.terms ids (widths_of Input p.module.signals)
  pub stand : (v : Values) → Respects v n1.terms → (rows : List (List ℤ)) → Mirrors p v members rows → words v ids ≡ driven p rows (words v inputs)

-- rows of terms, each of the widths of the other's
abbrev pub AreAlikeRows : Graph → (new old : List (List TermId)) → Type 0
AreAlikeRows g [] [] = Unit {0}
AreAlikeRows g [] (b ∷ old) = ⊥
AreAlikeRows g (a ∷ new) [] = ⊥
AreAlikeRows g (a ∷ new) (b ∷ old) = AreAlike g a b × AreAlikeRows g new old

-- the widths of rows of terms
abbrev pub widths_in : Graph → List (List TermId) → List (List ℕ)
widths_in g rows = map (λ (row : List TermId). map (λ (t : TermId). width_in g t.0) row) rows

-- rows that have the words of the new ones where the guard is 1, and those of the old ones where it is 0
pub record AreChosenRows (n0 n1 : Unrolled) (g : Guard) (new old rows : List (List TermId)) : Type 0 where
  pub adds : Adds n0 n1
  pub terms : AreRows n1.terms rows (widths_in n0.terms new)
  pub off : (v : Values) → Respects v n1.terms → bit_at v g ≡ 0 → map (words v) rows ≡ map (words v) old
  pub on : (v : Values) → Respects v n1.terms → bit_at v g ≡ 1 → map (words v) rows ≡ map (words v) new
