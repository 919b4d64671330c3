-- How many nodes the actions of a derivation make, and the test that these are no more than the tokens, and one.
use Rattle.std.specs.Prelude.{◌≡◌, ℕ, ◌+◌, ◌-◌, ◌≤◌, Bool, true, cond, ◌&&◌, List, [], ◌∷◌, length, slice_index, nat_lt, nat_le}
use Rattle.std.proofs.Common.{suc, zero}
use Rattle.ll_parse.specs.Conditions.{IsLl}
use Rattle.ll_parse.specs.Grammar.{Parses}
use Rattle.ll_parse.specs.Places.{placed}
use Rattle.ll_parse.specs.Tables.{Lists, grammar_of}
use Rattle.ll_parse.specs.Test.{all_below, body_of}
use Rattle.ll_actions.specs.Steps.{steps_of}
use Rattle.node_depth.specs.declared.weave.Weave.{Weave}
use Rattle.node_depth.specs.Nodes.{Trees, none, node}
use Rattle.node_depth.specs.Weaves.{Look, weave_of, woven}

-- how many nodes there are
abbrev pub size : Trees → ℕ
size none = 0
size (node p a b) = 1 + size a + size b

-- how many nodes an action makes, by its mark
abbrev pub nodes_of : List Weave → ℕ → ℕ
nodes_of ws zero = 0
nodes_of ws (suc a) = (weave_of ws a).nodes

-- What a nonterminal derives has at most as many nodes as tokens, and `spare` more, less 3.
abbrev pub spare_of : List ℕ → ℕ → ℕ
spare_of spare s = cond (nat_lt s 256) 0 (slice_index spare (s - 256))

-- the sum of this over the symbols of a body
abbrev pub spares_of : List ℕ → List ℕ → ℕ
spares_of spare [] = 0
spares_of spare (s ∷ ss) = spare_of spare s + spares_of spare ss

-- 1 for a token, 3 for a nonterminal
abbrev pub owed : ℕ → ℕ
owed s = cond (nat_lt s 256) 1 3

-- the sum of this over the symbols of a body
abbrev pub owed_of : List ℕ → ℕ
owed_of [] = 0
owed_of (s ∷ ss) = owed s + owed_of ss

-- the production's node and what its body has to spare are no more than what its head has
abbrev pub is_production_few : Lists → List ℕ → List Weave → List ℕ → ℕ → Bool
is_production_few t marks ws spare p =
    nat_le (nodes_of ws (slice_index marks p) + spares_of spare (body_of t p) + 3) (spare_of spare (slice_index t.heads p) + owed_of (body_of t p))

-- The test: the start symbol has at most 4 to spare, and each production keeps to what its head has.
abbrev pub are_few : Lists → List ℕ → List Weave → List ℕ → Bool
are_few t marks ws spare = nat_lt 255 t.start && nat_le (spare_of spare t.start) 4 && all_below (length t.heads) (is_production_few t marks ws spare)

-- Where a table passes the test, the tree that the actions of a text weave has no more nodes than the text has tokens,
-- and one.
abbrev pub CountLaw : Type 0
CountLaw = (t : Lists) (marks : List ℕ) (ws : List Weave) (spare : List ℕ) → IsLl t → are_few t marks ws spare ≡ true →
    (tokens productions : List ℕ) → Parses (grammar_of t) tokens productions →
    (l : Look) → woven ws (steps_of marks (placed (grammar_of t) 0 (t.start ∷ []) productions)) [] ≡ l ∷ [] → size l.trees ≤ length tokens + 1
