-- What assignments of a list in order read of choices.
use Rattle.std.specs.Prelude.{◌≡◌, ℕ, ◌≤◌, List, length, take}
use Rattle.word_eqs.specs.declared.list.Step.{Step}
use Rattle.word_eqs.specs.Assignments.{IsAssignment, reduced}
use Rattle.word_eqs.specs.Graph.{Graph, IsGraph}
use Rattle.word_eqs.specs.Guarded.{IsOrdered, walk, choices_read, widths_read}
use Rattle.word_eqs.specs.Meaning.{Values}

-- An assignment that reads the first of the choices, each modulo 2 to the width that it is read at.
pub record Matches (g : Graph) (list : List Step) (choices : List ℕ) : Type 0 where
  pub v : Values
  pub assigns : IsAssignment g list v
  pub enough : length (widths_read g v list) ≤ length choices
  pub reads : reduced (widths_read g v list) (take (length (widths_read g v list)) choices) ≡ choices_read (walk v list)

-- where there are at least as many choices as steps, some assignment reads the first of them
abbrev pub EachListMatched : Type 0
EachListMatched = (g : Graph) (list : List Step) (choices : List ℕ) → IsGraph g → IsOrdered g list → length list ≤ length choices → Matches g list choices

-- what is read has as many numbers as widths, and is itself modulo 2 to them
abbrev pub ReadsFit : Type 0
ReadsFit =
    (g : Graph) (list : List Step) (v : Values) → IsOrdered g list → IsAssignment g list v
    → (length (choices_read (walk v list)) ≡ length (widths_read g v list)) × (reduced (widths_read g v list) (choices_read (walk v list)) ≡ choices_read (walk v list))
