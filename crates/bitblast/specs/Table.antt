-- The edges of many words in one list.
use Rattle.std.specs.Prelude.{ℕ, ◌+◌, ◌≤◌, List, map, All}
use Rattle.std.specs.List.{slice_range}
use Rattle.arrayvec.specs.ArrayVec.{ArrayVec}
use Rattle.gate_net.specs.declared.net.Edge.{Edge}
use Rattle.bitblast.specs.declared.edge_table.Span.{Span}

-- the edges at a span
abbrev pub word_at : List Edge → Span → ArrayVec Edge
word_at edges span = record { items = slice_range edges span.start (span.start + span.width) }

-- the edges at each span, in order
abbrev pub words_at : List Edge → List Span → List (ArrayVec Edge)
words_at edges spans = map (word_at edges) spans

-- each span lies in a list of so many edges, and is no wider than a word may be
abbrev pub AreWithin : ℕ → List Span → Type 0
AreWithin len spans = All (λ (s : Span). (s.start + s.width ≤ len) × (s.width ≤ 128)) spans
