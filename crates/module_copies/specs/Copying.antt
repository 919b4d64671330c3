-- Terms that were copied from another graph.
use Rattle.std.specs.Prelude.{◌≡◌, ℕ, ◌+◌, ◌≤◌, List, map, slice_index}
use Rattle.word_eqs.specs.declared.term.TermId.{TermId}
use Rattle.word_eqs.specs.Gates.{term_gates}
use Rattle.word_eqs.specs.Graph.{Graph, places, width_in}
use Rattle.word_eqs.specs.Meaning.{Values, Respects}
use Rattle.joint_ir.specs.Views.{term_numbers}
use Rattle.joint_ir.specs.WellFormed.{AreTerms}
use Rattle.unrolled.specs.declared.Unrolled.{Unrolled}
use Rattle.unwind_state.specs.Guards.{Adds}
use Rattle.unwind_state.specs.Images.{words}

-- of the copies of all terms, those of the wanted ones
abbrev pub IsPicked : (ids : List ℕ) → (wanted : List TermId) → (found : List ℕ) → Type 0
IsPicked ids wanted found = found ≡ map (λ (t : TermId). slice_index ids t.0) wanted

-- Terms alone were added, at most of the gates of the graph; of them these have, in each valuation, the numbers that the wanted
-- terms have where the variables have the numbers of the terms put in; and they have the widths of the wanted terms, one for one.
pub record AreCopied (old new : Unrolled) (from : Graph) (wanted subs ids : List TermId) : Type 0 where
  pub adds : Adds old new
  pub cost : term_gates new.terms ≤ term_gates old.terms + term_gates from
  pub value : (v : Values) → Respects v new.terms → words v ids ≡ term_numbers from (words v subs) wanted
  pub terms : AreTerms new.terms ids (map (λ (t : TermId). width_in from t.0) wanted)
