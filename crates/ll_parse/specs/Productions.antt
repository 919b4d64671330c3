-- The productions of a table as a list, to be read beside a published grammar.
use Rattle.std.specs.Prelude.{◌≡◌, ℕ, ◌+◌, ◌-◌, Bool, true, false, ◌&&◌, List, [], ◌∷◌, length, nat_eq, nat_lt}
use Rattle.std.proofs.Common.{suc, zero}
use Rattle.ll_parse.specs.Tables.{Lists, grammar_of}

-- The head may stand for the body, but not where the next token is of the kind `not_before`.
pub record Production : Type 0 where
  pub head : ℕ
  pub body : List ℕ
  pub not_before : ℕ

-- the number that is no kind of token
abbrev pub NO_KIND : ℕ
NO_KIND = 255

infixr 4 ◌⟶◌
-- a production that may be used before every token
abbrev pub ◌⟶◌ : ℕ → List ℕ → Production
n ⟶ body = record { head = n; body = body; not_before = NO_KIND }

-- an empty production, which isn't used before a token of the kind k
abbrev pub nothing_but_before : ℕ → ℕ → Production
nothing_but_before n k = record { head = n; body = []; not_before = k }

-- a symbol before others, if it is kept
abbrev keep : Bool → ℕ → List ℕ → List ℕ
keep true s ss = s ∷ ss
keep false s ss = ss

-- The symbols of a body that are no actions. The actions are the nonterminals from `first` on.
abbrev pub without_actions : ℕ → List ℕ → List ℕ
without_actions first [] = []
without_actions first (s ∷ ss) = keep (nat_lt s first) s (without_actions first ss)

-- n productions of the table from number p on, without their actions
abbrev pub productions_from : Lists → ℕ → ℕ → ℕ → List Production
productions_from t first p zero = []
productions_from t first p (suc n) =
    record { head = (grammar_of t).head p; body = without_actions first ((grammar_of t).body p); not_before = (grammar_of t).not_before p }
    ∷ productions_from t first (suc p) n

-- whether a body has no symbols
abbrev is_empty : List ℕ → Bool
is_empty [] = true
is_empty (s ∷ ss) = false

-- n productions of the table from number p on are one for each action from `first` on, and empty: an action stands for no token
abbrev pub are_actions : Lists → ℕ → ℕ → ℕ → Bool
are_actions t first p zero = true
are_actions t first p (suc n) =
    nat_eq ((grammar_of t).head p) first && (is_empty ((grammar_of t).body p)
    && (nat_eq ((grammar_of t).not_before p) NO_KIND && are_actions t (suc first) (suc p) n))

-- The table has these productions, and besides them one for each action; where the actions are left out, they are these.
pub record HasProductions (t : Lists) (first : ℕ) (ps : List Production) : Type 0 where
  pub productions : productions_from t first 0 (length ps) ≡ ps
  pub actions : are_actions t first (length ps) (length t.heads - length ps) ≡ true
