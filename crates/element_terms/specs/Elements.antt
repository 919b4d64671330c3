-- An element of an array whose index and elements are terms.
use Rattle.std.specs.Prelude.{◌≡◌, ℕ, ◌+◌, ◌*◌, ◌<◌, ◌≤◌, List, Some, slice_get}
use Rattle.word_eqs.specs.declared.term.TermId.{TermId}
use Rattle.word_eqs.specs.Graph.{Graph}
use Rattle.word_eqs.specs.Meaning.{Values, Respects}
use Rattle.sized_terms.specs.declared.SizedTerm.{SizedTerm}
use Rattle.sized_terms.specs.Sized.{Has, Builds, bits}

-- a term with its width
abbrev pub sized : TermId → ℕ → SizedTerm
sized t w = record { term = t; width = w }

-- each element is a term of w bits
abbrev pub AreElements : Graph → List TermId → (w : ℕ) → Type 0
AreElements g elements w = (k : ℕ) (t : TermId) → slice_get elements k ≡ Some t → Has g (sized t w)

-- after the elements before k were looked at, t is the one at the index, if that is before k
pub record IsRead (old new : Graph) (index : SizedTerm) (elements : List TermId) (w k : ℕ) (t : SizedTerm) : Type 0 where
  pub builds : Builds old new (k * (4 * index.width + 3 * w)) (3 * k)
  pub has : Has new t
  pub width : t.width ≡ w
  pub value : (v : Values) → Respects v new → (j : ℕ) → j < k → bits v index ≡ j → (x : TermId) → slice_get elements j ≡ Some x → bits v t ≡ bits v (sized x w)
