-- Where each production of a derivation begins.
use Rattle.std.specs.Prelude.{ℕ, List, [], ◌∷◌, ◌++◌, cond, nat_lt}
use Rattle.std.proofs.Common.{suc}
use Rattle.ll_parse.specs.Grammar.{Grammar}
use Rattle.ll_parse.specs.declared.placing.Placed.{Placed}

-- how many tokens come before the first nonterminal of the stack, where i come before the stack
abbrev pub place_of : ℕ → List ℕ → ℕ
place_of i [] = i
place_of i (s ∷ ss) = cond (nat_lt s 256) (place_of (suc i) ss) i

-- the stack after its first nonterminal
abbrev pub below : List ℕ → List ℕ
below [] = []
below (s ∷ ss) = cond (nat_lt s 256) (below ss) ss

-- The productions, each with the number of tokens before it, where i tokens come before the stack.
abbrev pub placed : Grammar → ℕ → List ℕ → List ℕ → List Placed
placed g i ss [] = []
placed g i ss (p ∷ ps) = record { production = p; place = place_of i ss } ∷ placed g (place_of i ss) (g.body p ++ below ss) ps
