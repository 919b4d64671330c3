-- One token decides each production, so a text has one derivation at most.
use Rattle.std.proofs.Common.{◌≡◌, ℕ, suc, ◌≤◌, Bool, List, [], ◌∷◌, ◌++◌, sym, ◌∙◌, ap, subst, arith}
use Rattle.ll_parse.specs.Conditions.{IsLinked, Decides, IsLl}
use Rattle.ll_parse.specs.Grammar.{Grammar, next_kind, Derives, Parses}
use Rattle.ll_parse.specs.Grammar.Derives.{done, token, production}
use Rattle.ll_parse.specs.Tables.{Lists, grammar_of, cell_of, follow_of}
use Rattle.ll_parse.proofs.Theory.{linked_production, production_of, token_of, empty_of}
use Rattle.ll_parse.proofs.Ends.{start_kept}

module _ (g : Grammar) (cell : ℕ → ℕ → ℕ) (follow : ℕ → ℕ → Bool) (decides : Decides g cell follow) where
  derivation_only : {ss ps ts : List ℕ} → Derives g ss ps ts → IsLinked g cell follow ss → (qs : List ℕ) → Derives g ss qs ts → qs ≡ ps
  derivation_only done l qs d = (empty_of g cell follow decides qs [] d).0
  derivation_only (token {k} {ss} {ps} {ts} small d) l qs other = derivation_only d l.1 qs (token_of g cell follow decides k k ss qs ts small other).1
  derivation_only (production {s} {ss} {ts} p ps small is allowed d) l qs other =
      let big : 256 ≤ s = subst (λ n. 256 ≤ n) (sym is) (decides.heads p small) in
      let linked : IsLinked g cell follow (g.body p ++ ss) = linked_production g cell follow decides p s ss small is l in
      let r = production_of g cell follow decides big other l in
      let own = production_of g cell follow decides big (production p ps small is allowed d) l in
      let same : r.0 ≡ p = same_number (cell s (next_kind ts)) r.0 own.0 r.3 own.3 ∙ sym (first_of p own.0 ps own.1 own.2) in
      let rest : r.1 ≡ ps = derivation_only d linked r.1 (subst (λ x. Derives g (g.body x ++ ss) r.1 ts) same r.4) in
      r.2 ∙ ap (λ x. x ∷ r.1) same ∙ ap (λ x. p ∷ x) rest
    where
      same_number : (c m n : ℕ) → c ≡ suc m → c ≡ suc n → m ≡ n
      same_number c m n h k = omega arith

      first_of : (x y : ℕ) (xs ys : List ℕ) → x ∷ xs ≡ y ∷ ys → x ≡ y
      first_of x y xs ys e = cc

pub one_derivation : (t : Lists) → IsLl t → (ts ps qs : List ℕ) → Parses (grammar_of t) ts ps → Parses (grammar_of t) ts qs → qs ≡ ps
one_derivation t ll ts ps qs d other = derivation_only (grammar_of t) (cell_of t) (follow_of t) ll.decides d (start_kept t ll).0 qs other
