-- Stores of one number to several parts, side by side (IEEE 1364-2005, 5.1.14 and 9.2).
use Rattle.std.specs.Prelude.{◌≡◌, ℕ, ◌+◌, ◌-◌, ◌*◌, ◌/◌, ◌^◌, ◌<◌, ◌≤◌, List, [], ◌∷◌, ◌++◌, Option, length}
use Rattle.bits_core.specs.Word.{at_zero}
use Rattle.v_views.specs.Spots.{Spot, Shape, spread, written}
use Rattle.flat_tree.specs.Values as values
use Rattle.flat_language.specs.Reads.{shape_of}
use Rattle.view_rows.specs.declared.stores.Part.{Part}
use Rattle.view_rows.specs.Rows.{view_in, part_places, IsRow}
use Rattle.word_eqs.specs.declared.term.TermId.{TermId}
use Rattle.word_eqs.specs.Gates.{term_gates}
use Rattle.word_eqs.specs.Graph.{Graph, width_in}
use Rattle.word_eqs.specs.Meaning.{Values, Respects}

-- the shapes of signals as statements see them
abbrev pub seen : (ℕ → values.Shape) → ℕ → Shape
seen shapes g = shape_of (shapes g)

-- a part of at most 64 bits
abbrev pub ArePart : Part → Type 0
ArePart p = p.high < 64

-- the places of parts, the leftmost part first
abbrev pub all_places : List Part → List (Option Spot)
all_places [] = []
all_places (p ∷ rest) = part_places p ++ all_places rest

-- how many bits parts have
abbrev pub all_bits : List Part → ℕ
all_bits [] = 0
all_bits (p ∷ rest) = p.high - p.low + 1 + all_bits rest

-- the number of a term, without its lowest bits, was written to some places where a guard isn't 0: there the row stands for
-- the view after the writes, and else for the view before
pub record IsWrittenTo (count : ℕ) (shape : ℕ → Shape) (starts : List ℕ) (before after : List TermId) (to : List (Option Spot)) (value low guard : ℕ) (bits terms : ℕ) (old new : Graph) : Type 0 where
  pub grown : (v : Values) → Respects v new → Respects v old
  pub view : (v : Values) → Respects v new → view_in shape starts after v ≡ at_zero (v.term guard).value (view_in shape starts before v) (written (spread to ((v.term value).value / 2 ^ low)) (view_in shape starts before v))
  pub row : IsRow count shape starts after new
  pub size : length after ≡ length before
  pub longer : length old.terms ≤ length new.terms
  pub kept : (k : ℕ) → k < length old.terms → width_in new k ≡ width_in old k
  pub vars : new.vars ≡ old.vars
  pub cost : term_gates new ≤ term_gates old + 3 * bits
  pub few : length new.terms ≤ length old.terms + terms

-- to one part
abbrev pub IsPartStored : (count : ℕ) (shape : ℕ → Shape) (starts : List ℕ) (before after : List TermId) (p : Part) (value low guard : ℕ) (old new : Graph) → Type 0
IsPartStored count shape starts before after p value low guard old new = IsWrittenTo count shape starts before after (part_places p) value low guard (p.high - p.low + 1) 7 old new

-- to several, from the left
abbrev pub AreStored : (count : ℕ) (shape : ℕ → Shape) (starts : List ℕ) (before after : List TermId) (parts : List Part) (value low guard : ℕ) (old new : Graph) → Type 0
AreStored count shape starts before after parts value low guard old new = IsWrittenTo count shape starts before after (all_places parts) value low guard (all_bits parts) (7 * length parts) old new
