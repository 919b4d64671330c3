-- Assignments of the variables of a list, and what one makes of the list.
use Rattle.std.specs.Prelude.{ℕ, ◌%◌, ◌^◌, List, [], ◌∷◌, Option, Some, None}
use Rattle.word_eqs.specs.declared.list.Step.{Step}
use Rattle.word_eqs.specs.Graph.{Graph}
use Rattle.word_eqs.specs.Guarded.{Walk, Passes, Stops, AtCut, AtProp, Assigns}
use Rattle.word_eqs.specs.Meaning.{Values, Respects}

-- An assignment: each variable has a word of its width, each term what its parts make, and a variable that the list sets has
-- the word of its term.
pub record IsAssignment (g : Graph) (list : List Step) (v : Values) : Type 0 where
  pub respects : Respects v g
  pub sets : Assigns v list

-- the property that ends a walk, if one does
abbrev pub broken_in : Walk → Option ℕ
broken_in (Passes reads) = None
broken_in (Stops reads AtCut) = None
broken_in (Stops reads (AtProp p)) = Some p

-- numbers, each modulo 2 to its width
abbrev pub reduced : (widths numbers : List ℕ) → List ℕ
reduced [] numbers = []
reduced (w ∷ widths) [] = []
reduced (w ∷ widths) (n ∷ numbers) = n % 2 ^ w ∷ reduced widths numbers
