-- The grammar that a list of productions is, and that a table has the same texts.
use Rattle.std.specs.Prelude.{ℕ, List, [], ◌∷◌, length}
use Rattle.std.proofs.Common.{suc, zero}
use Rattle.ll_parse.specs.Grammar.{Grammar, Parses}
use Rattle.ll_parse.specs.Productions.{Production, NO_KIND}
use Rattle.ll_parse.specs.Tables.{Lists, grammar_of}

-- production p of the list
abbrev pub nth : List Production → ℕ → Production
nth [] p = record { head = 0; body = []; not_before = NO_KIND }
nth (x ∷ xs) zero = x
nth (x ∷ xs) (suc p) = nth xs p

-- the grammar of these productions
abbrev pub listed : ℕ → List Production → Grammar
listed start ps = record {
  start = start;
  productions = length ps;
  head = λ p. (nth ps p).head;
  body = λ p. (nth ps p).body;
  not_before = λ p. (nth ps p).not_before;
}

-- The texts of the table are those of the productions.
pub record SameTexts (t : Lists) (ps : List Production) : Type 0 where
  pub listed_too : (tokens ds : List ℕ) → Parses (grammar_of t) tokens ds → (es : List ℕ) × Parses (listed t.start ps) tokens es
  pub tabled_too : (tokens es : List ℕ) → Parses (listed t.start ps) tokens es → (ds : List ℕ) × Parses (grammar_of t) tokens ds
