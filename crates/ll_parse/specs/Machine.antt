-- What a run of the parser keeps, on its stack from the top down.
use Rattle.std.specs.Prelude.{◌≡◌, ℕ, ◌<◌, List, [], ◌∷◌, ◌++◌}
use Rattle.ll_parse.specs.Conditions.{IsLinked, AllCanEnd, tail_of}
use Rattle.ll_parse.specs.Grammar.{Grammar, next_kind, Derives, Parses}
use Rattle.ll_parse.specs.Tables.{Lists, grammar_of, cell_of, follow_of, witness_of, rank_of}
use Rattle.ll_parse.specs.declared.machine.Top.{Top}
use Rattle.ll_parse.specs.declared.machine.Top.TheVariants.{Token, End, Stuck}

-- From the stack old the productions qs led to the stack new, before a token of kind a.
pub record Leads (g : Grammar) (a : ℕ) (old qs new : List ℕ) : Type 0 where
  pub sound : (ps us : List ℕ) → next_kind us ≡ a → Derives g new ps us → Derives g old (qs ++ ps) us
  pub whole : (all us : List ℕ) → next_kind us ≡ a → Derives g old all us → (ps : List ℕ) × (all ≡ qs ++ ps) × Derives g new ps us

-- After the tokens seen and the productions so far, the stack is what is still to come.
pub record HasRead (g : Grammar) (seen productions stack : List ℕ) : Type 0 where
  pub sound : (ps us : List ℕ) → Derives g stack ps us → Parses g (seen ++ us) (productions ++ ps)
  pub whole : (all us : List ℕ) → Parses g (seen ++ us) all → (ps : List ℕ) × (all ≡ productions ++ ps) × Derives g stack ps us

-- The stack between two tokens.
abbrev pub IsKept : Lists → List ℕ → Type 0
IsKept t stack = IsLinked (grammar_of t) (cell_of t) (follow_of t) stack × AllCanEnd (grammar_of t) (witness_of t) (rank_of t) stack

-- The stack while productions are used before a token of kind a.
pub record Expands (t : Lists) (a : ℕ) (old qs new : List ℕ) : Type 0 where
  pub leads : Leads (grammar_of t) a old qs new
  pub linked : IsLinked (grammar_of t) (cell_of t) (follow_of t) new
  pub can_end : AllCanEnd (grammar_of t) (witness_of t) (rank_of t) (tail_of (grammar_of t) (witness_of t) (rank_of t) new)

-- What the top says, once no production is left to use before a token of kind a.
abbrev pub MatchTop : Lists → ℕ → List ℕ → List ℕ → List ℕ → Top → Type 0
MatchTop t a old qs new (Token k) = (k < 256) × Leads (grammar_of t) a old qs (k ∷ new) × IsKept t new
MatchTop t a old qs new End = Leads (grammar_of t) a old qs []
MatchTop t a old qs new Stuck = (ps us : List ℕ) → next_kind us ≡ a → Derives (grammar_of t) old ps us → ⊥
