-- Partway through a list of which each thing changes what is known, and is noted against it.
use Rattle.std.specs.Prelude.{◌≡◌, ℕ, List, drop}
use Rattle.offence_order.specs.declared.Offence.{Offence}
use Rattle.c_words.specs.declared.notes.Notes.{Notes}
use Rattle.c_constants.specs.Constants.{told}

-- what is left to do, from what is done
pub record SoFar {X R : Type 0} (all : R → List X → R) (offences : R → List X → List Offence) (old now : Notes) (before after : R) (xs : List X) (i : ℕ) : Type 0 where
  pub known_so : all before xs ≡ all after (drop i xs)
  pub notes_so : told old (offences before xs) ≡ told now (offences after (drop i xs))
