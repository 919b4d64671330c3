-- What an edge of a net is worth.
use Rattle.std.specs.Prelude.{ℕ, Bool, not}
use Rattle.clause_arena.specs.Clause.{bool_eq}
use Rattle.gate_net.specs.declared.net.Edge.{Edge}

-- the value of an edge under values of the nodes
abbrev pub edge_value : (ℕ → Bool) → Edge → Bool
edge_value a e = bool_eq (a e.node) (not e.negated)

-- the negation of an edge
abbrev pub opposite_edge : Edge → Edge
opposite_edge e = record { node = e.node; negated = not e.negated }
