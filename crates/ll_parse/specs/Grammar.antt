-- Context-free grammars as data, and the texts that they derive (the words are those of Aho, Lam, Sethi and Ullman,
-- 'Compilers', 4.2).
use Rattle.std.specs.Prelude.{◌≡◌, ◌≢◌, ℕ, ◌+◌, ◌<◌, ◌≤◌, List, [], ◌∷◌, ◌++◌, length, take}

-- A symbol below 256 is a kind of token, any other one a nonterminal. Production p lets its head stand for its body,
-- but not where the next token is of the kind `not_before p`.
pub record Grammar : Type 0 where
  pub start : ℕ
  pub productions : ℕ
  pub head : ℕ → ℕ
  pub body : ℕ → List ℕ
  pub not_before : ℕ → ℕ

-- the kind of the next token, or 0 at the end
abbrev pub next_kind : List ℕ → ℕ
next_kind [] = 0
next_kind (k ∷ ts) = k

-- A leftmost derivation: the symbols ss derive the tokens ts by the productions ps, each of which is used on the
-- leftmost nonterminal. So ps lists the parse trees of ss in preorder, each production before those of the trees below.
pub data Derives (g : Grammar) : List ℕ → List ℕ → List ℕ → Type 0 where
  done : Derives g [] [] []
  token : {k : ℕ} {ss ps ts : List ℕ} → k < 256 → Derives g ss ps ts → Derives g (k ∷ ss) ps (k ∷ ts)
  production : {s : ℕ} {ss ts : List ℕ} (p : ℕ) (ps : List ℕ) → p < g.productions → s ≡ g.head p → next_kind ts ≢ g.not_before p →
      Derives g (g.body p ++ ss) ps ts → Derives g (s ∷ ss) (p ∷ ps) ts

-- The text ts has the parse tree whose productions are ps.
abbrev pub Parses : Grammar → List ℕ → List ℕ → Type 0
Parses g ts ps = Derives g (g.start ∷ []) ps ts

-- Some text that has a parse tree begins with these tokens.
abbrev pub Begins : Grammar → List ℕ → Type 0
Begins g ts = (us : List ℕ) × (ps : List ℕ) × Parses g (ts ++ us) ps

-- No parse tree has these tokens. Those before token i begin a text that has one, those up to and with token i
-- begin none; or i is the number of tokens, and all of them begin such a text.
pub record Refuses (g : Grammar) (tokens : List ℕ) (i : ℕ) : Type 0 where
  pub within : i ≤ length tokens
  pub before : Begins g (take i tokens)
  pub least : i < length tokens → Begins g (take (i + 1) tokens) → ⊥
  pub none : (ps : List ℕ) → Parses g tokens ps → ⊥
