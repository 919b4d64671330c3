-- The clauses of a node (G. S. Tseitin, On the complexity of derivation in propositional calculus,
-- 1968): variable i stands for node i.
use Rattle.std.specs.Prelude.{◌≡◌, ℕ, true, false, [], ◌∷◌, Some}
use Rattle.clause_arena.specs.declared.Lit.{Lit}
use Rattle.clause_arena.specs.Clause.{Clause, Clauses, lit, opposite, is_below, IsEachVariableOnce}
use Rattle.gate_net.specs.declared.net.Edge.{Edge}
use Rattle.gate_net.specs.declared.net.Node.{Node}
use Rattle.gate_net.specs.declared.net.Node.TheVariants.{One, Input, And}

-- the literal that holds where the edge is 1
abbrev pub lit_of : Edge → Lit
lit_of e = lit e.negated e.node

-- the clauses that hold exactly where node i has the value that it has to have
abbrev pub node_clauses : ℕ → Node → Clauses
node_clauses i One = Some (lit false i ∷ []) ∷ []
node_clauses i Input = []
node_clauses i (And g) =
    Some (lit true i ∷ lit_of g.left ∷ []) ∷ Some (lit true i ∷ lit_of g.right ∷ []) ∷ Some (lit false i ∷ opposite (lit_of g.left) ∷ opposite (lit_of g.right) ∷ []) ∷ []

-- no variable stands twice in the clause, and each one is below n
abbrev pub Fits : ℕ → Clause → Type 0
Fits n c = IsEachVariableOnce c × (is_below n c ≡ true)
