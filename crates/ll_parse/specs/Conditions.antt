-- When one token ahead tells the production, every stack can be completed, and the work is linear.
use Rattle.std.specs.Prelude.{◌≡◌, ◌≢◌, ℕ, ◌+◌, ◌*◌, ◌<◌, ◌≤◌, ◌⊎◌, Bool, true, false, cond, List, [], ◌∷◌, length, slice_index}
use Rattle.std.proofs.Common.{suc}
use Rattle.ll_parse.specs.Grammar.{Grammar, next_kind, Derives}
use Rattle.ll_parse.specs.Tables.{Lists, grammar_of, cell_of, follow_of, witness_of, rank_of, cost_of, nullable_of}

-- What picks a production: 0 for none, or one more than its number; and what may follow each nonterminal.
module _ (g : Grammar) (cell : ℕ → ℕ → ℕ) (follow : ℕ → ℕ → Bool) where
  -- the symbol may begin with this kind
  abbrev pub CanBegin : ℕ → ℕ → Type 0
  CanBegin s a = ((s < 256) × (a ≡ s)) ⊎ ((256 ≤ s) × (cell s a ≢ 0))

  -- this kind may come next where these symbols are to come
  abbrev pub Expects : List ℕ → ℕ → Type 0
  Expects [] a = a ≡ 0
  Expects (s ∷ ss) a = CanBegin s a

  -- each nonterminal among the symbols to come is followed by what may follow it
  abbrev pub IsLinked : List ℕ → Type 0
  IsLinked [] = Unit {0}
  IsLinked (s ∷ ss) = (256 ≤ s → (a : ℕ) → Expects ss a → follow s a ≡ true) × IsLinked ss

  -- this kind may come next where the rest ys of a body of the nonterminal n is to come
  abbrev pub ExpectsAfter : ℕ → List ℕ → ℕ → Type 0
  ExpectsAfter n [] a = follow n a ≡ true
  ExpectsAfter n (y ∷ ys) a = CanBegin y a

  -- the same as IsLinked within a body of the nonterminal n
  abbrev pub IsBodyLinked : ℕ → List ℕ → Type 0
  IsBodyLinked n [] = Unit {0}
  IsBodyLinked n (x ∷ xs) = (256 ≤ x → (a : ℕ) → ExpectsAfter n xs a → follow x a ≡ true) × IsBodyLinked n xs

  -- production p of the nonterminal n is picked wherever it can be used
  abbrev pub IsPicked : ℕ → ℕ → List ℕ → Type 0
  IsPicked n p [] = (a : ℕ) → follow n a ≡ true → a ≢ g.not_before p → cell n a ≡ suc p
  IsPicked n p (x ∷ xs) = (a : ℕ) → CanBegin x a → cell n a ≡ suc p

  -- one token ahead decides
  pub record Decides : Type 0 where
    pub heads : (p : ℕ) → p < g.productions → 256 ≤ g.head p
    pub picked : (p : ℕ) → p < g.productions → IsPicked (g.head p) p (g.body p)
    pub links : (p : ℕ) → p < g.productions → IsBodyLinked (g.head p) (g.body p)
    pub ends : follow g.start 0 ≡ true
    pub picks : (s a p : ℕ) → 256 ≤ s → cell s a ≡ suc p → (p < g.productions) × (s ≡ g.head p) × (a ≢ g.not_before p)

-- The production `witness n` makes a text of the nonterminal n; its nonterminals have a lower rank than n.
module _ (g : Grammar) (witness rank : ℕ → ℕ) where
  -- no production minds this kind
  abbrev pub IsUnbarred : ℕ → Type 0
  IsUnbarred a = (p : ℕ) → p < g.productions → a ≢ g.not_before p

  -- p is a production of the nonterminal s
  abbrev pub IsFor : ℕ → ℕ → Type 0
  IsFor s p = (p < g.productions) × (s ≡ g.head p)

  -- the symbol has a text that begins with a kind that no production minds, whatever such text follows
  abbrev pub CanEnd : ℕ → Type 0
  CanEnd s = ((s < 256) × IsUnbarred s) ⊎ ((256 ≤ s) × IsFor s (witness s))

  -- the same, where the rank of a nonterminal is below r
  abbrev pub CanEndBelow : ℕ → ℕ → Type 0
  CanEndBelow r s = ((s < 256) × IsUnbarred s) ⊎ ((256 ≤ s) × IsFor s (witness s) × (rank s < r))

  -- each of these symbols has such a text
  abbrev pub AllCanEnd : List ℕ → Type 0
  AllCanEnd [] = Unit {0}
  AllCanEnd (s ∷ ss) = CanEnd s × AllCanEnd ss

  -- each of these symbols has one, where the ranks of nonterminals are below r
  abbrev pub AllCanEndBelow : ℕ → List ℕ → Type 0
  AllCanEndBelow r [] = Unit {0}
  AllCanEndBelow r (s ∷ ss) = CanEndBelow r s × AllCanEndBelow r ss

  -- all symbols but the first
  abbrev pub tail_of : List ℕ → List ℕ
  tail_of [] = []
  tail_of (s ∷ ss) = ss

  -- every stack can be completed
  pub record Completes : Type 0 where
    pub ends : IsUnbarred 0
    pub first : CanEnd g.start
    pub tails : (p : ℕ) → p < g.productions → AllCanEnd (tail_of (g.body p))
    pub witnesses : (s : ℕ) → 256 ≤ s → IsFor s (witness s) → AllCanEndBelow (rank s) (g.body (witness s))

  -- the symbols have a text that begins with a kind that no production minds
  abbrev pub HasText : List ℕ → Type 0
  HasText ss = (ps : List ℕ) × (us : List ℕ) × IsUnbarred (next_kind us) × Derives g ss ps us

-- How many productions are used: `cost` for each symbol, and `per_token` more for each token.
module _ (g : Grammar) (cost : ℕ → ℕ) (nullable : ℕ → Bool) (per_token : ℕ) where
  -- how many productions come at most before the next token
  abbrev pub steps_of : List ℕ → ℕ
  steps_of [] = 0
  steps_of (s ∷ ss) = cost s + cond (nullable s) (steps_of ss) 0

  -- whether all of these symbols may stand for nothing
  abbrev pub all_nullable : List ℕ → Bool
  all_nullable [] = true
  all_nullable (s ∷ ss) = cond (nullable s) (all_nullable ss) false

  -- what these symbols cost together
  abbrev pub costs_of : List ℕ → ℕ
  costs_of [] = 0
  costs_of (s ∷ ss) = cost s + costs_of ss

  -- how many of the symbols stand for a token at least
  abbrev pub tokens_of : List ℕ → ℕ
  tokens_of [] = 0
  tokens_of (s ∷ ss) = cond (nullable s) 0 1 + tokens_of ss

  -- no production comes without end
  pub record IsLinear : Type 0 where
    pub costs : (p : ℕ) → p < g.productions → steps_of (g.body p) < cost (g.head p)
    pub nulls : (p : ℕ) → p < g.productions → all_nullable (g.body p) ≡ true → nullable (g.head p) ≡ true
    pub pays : (p : ℕ) → p < g.productions → 1 + costs_of (g.body p) + per_token * cond (nullable (g.head p)) 0 1 ≤ cost (g.head p) + per_token * tokens_of (g.body p)
    pub tokens : (k : ℕ) → k < 256 → (cost k ≡ 0) × (nullable k ≡ false)

-- The table is LL(1): one token ahead tells the production, each stack can be completed, and the work is linear.
pub record IsLl (t : Lists) : Type 0 where
  pub decides : Decides (grammar_of t) (cell_of t) (follow_of t)
  pub completes : Completes (grammar_of t) (witness_of t) (rank_of t)
  pub linear : IsLinear (grammar_of t) (cost_of t) (nullable_of t) t.per_token
  pub count : length t.bodies ≡ length t.heads + 1
  pub order : (p : ℕ) → p < length t.heads → slice_index t.bodies p ≤ slice_index t.bodies (p + 1)
  pub inside : (p : ℕ) → p < length t.heads → slice_index t.bodies (p + 1) ≤ length t.symbols
