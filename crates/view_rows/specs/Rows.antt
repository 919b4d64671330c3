-- Rows of terms that stand for views, and stores to them.
use Rattle.std.specs.Prelude.{◌≡◌, ℕ, zero, suc, ◌+◌, ◌-◌, ◌*◌, ◌<◌, ◌≤◌, max, List, [], ◌∷◌, length, slice_index, Option, Some, Bool, ◌&&◌}
use Rattle.bits_core.specs.Word.{at_zero}
use Rattle.v_views.specs.Spots.{Spot, View, Shape, BitWrite, spot, bit_of, is_bit_of, spread, written}
use Rattle.view_rows.specs.declared.stores.Part.{Part}
use Rattle.word_eqs.specs.declared.term.TermId.{TermId}
use Rattle.word_eqs.specs.Gates.{term_gates}
use Rattle.word_eqs.specs.Graph.{Graph, width_in, places}
use Rattle.word_eqs.specs.Meaning.{Values, Respects}

-- the term of a signal's word: each signal's words stand in the row from its start on
abbrev pub place_in : List ℕ → List TermId → ℕ → ℕ → ℕ
place_in starts words g i = slice_index (places words) (slice_index starts g + i)

-- the view that a row stands for in a valuation: each bit that there is has the truth that it has in its word's term
abbrev pub view_in : (ℕ → Shape) → List ℕ → List TermId → Values → View
view_in shape starts words v x = is_bit_of (shape x.signal) x.signal x && bit_of (v.term (place_in starts words x.signal x.word)).value x.bit

-- so many signals have a term for each of their words, each at a place of its own; other signals have no bits
pub record IsRow (count : ℕ) (shape : ℕ → Shape) (starts : List ℕ) (words : List TermId) (g : Graph) : Type 0 where
  pub size : length starts ≡ count
  pub inside : (k : ℕ) → k < count → slice_index starts k + max 1 (shape k).words ≤ length words
  pub apart : (j k : ℕ) → j < k → k < count → slice_index starts j + max 1 (shape j).words ≤ slice_index starts k
  pub there : (k i : ℕ) → k < count → i < max 1 (shape k).words → place_in starts words k i < length g.terms
  pub width : (k i : ℕ) → k < count → i < max 1 (shape k).words → width_in g (place_in starts words k i) ≡ (shape k).bits
  pub none : (k : ℕ) → count ≤ k → (shape k).bits ≡ 0

-- the bits of a word of a signal from a place on, the highest first
abbrev pub bits_from : (signal word low n : ℕ) → List (Option Spot)
bits_from g i low zero = []
bits_from g i low (suc n) = Some (spot g i (low + n)) ∷ bits_from g i low n

-- the places of a part
abbrev pub part_places : Part → List (Option Spot)
part_places p = bits_from p.signal p.word p.low (p.high - p.low + 1)

-- a part of a word that there is
pub record FitsPart (count : ℕ) (shape : ℕ → Shape) (p : Part) : Type 0 where
  pub signal : p.signal < count
  pub word : p.word < max 1 (shape p.signal).words
  pub order : p.low ≤ p.high
  pub high : p.high < (shape p.signal).bits

-- a term was stored to part of a word where a guard isn't 0: there the row stands for the view after the writes, and else
-- for the view before
pub record IsStored (count : ℕ) (shape : ℕ → Shape) (starts : List ℕ) (before after : List TermId) (p : Part) (value guard : ℕ) (old new : Graph) : Type 0 where
  pub grown : (v : Values) → Respects v new → Respects v old
  pub view : (v : Values) → Respects v new → view_in shape starts after v ≡ at_zero (v.term guard).value (view_in shape starts before v) (written (spread (part_places p) (v.term value).value) (view_in shape starts before v))
  pub row : IsRow count shape starts after new
  pub size : length after ≡ length before
  pub longer : length old.terms ≤ length new.terms
  pub kept : (k : ℕ) → k < length old.terms → width_in new k ≡ width_in old k
  pub vars : new.vars ≡ old.vars
  pub cost : term_gates new ≤ term_gates old + 3 * (p.high - p.low + 1)
  pub terms : length new.terms ≤ length old.terms + 6
