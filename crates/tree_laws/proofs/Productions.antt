-- The productions of a text, by computing.
use Rattle.std.proofs.Common.{◌≡◌, ℕ, suc, zero, ◌<◌, ◌≤◌, Bool, true, false, cond, nat_lt, nat_eq, List, [], ◌∷◌, ◌++◌, Option, Some, None, refl, sym, ◌∙◌, ap, subst}
use Rattle.std.proofs.lemmas.Bool.{ltb-true, ltb-false, eqb-true}
use Rattle.ll_parse.specs.Conditions.{IsLl}
use Rattle.ll_parse.specs.Grammar.{next_kind, Derives}
use Rattle.ll_parse.specs.Grammar.Derives.{done, token, production}
use Rattle.ll_parse.specs.Tables.{Lists, grammar_of, cell_of}
use Rattle.grammar_laws.proofs.InOrder.{at_numbers, at_numbers_is}

-- goes on behind a token of the kind k
abbrev behind : ℕ → List ℕ → (List ℕ → Option (List ℕ)) → Option (List ℕ)
behind k [] go = None
behind k (t ∷ ts) go = cond (nat_eq k t) (go ts) None

abbrev after : ℕ → Option (List ℕ) → Option (List ℕ)
after p None = None
after p (Some ps) = Some (p ∷ ps)

-- goes on with the production that a cell picks
abbrev by : ℕ → (ℕ → Option (List ℕ)) → Option (List ℕ)
by zero go = None
by (suc p) go = after p (go p)

abbrev at_end : List ℕ → Option (List ℕ)
at_end [] = Some []
at_end (t ∷ ts) = None

-- the productions by which the symbols derive the tokens, in fewer than n turns, where the table picks each
abbrev pub productions : Lists → ℕ → List ℕ → List ℕ → Option (List ℕ)
productions t zero ss ts = None
productions t (suc n) [] ts = at_end ts
productions t (suc n) (s ∷ ss) ts = cond (nat_lt s 256)
    (behind s ts (productions t n ss))
    (by (cell_of t s (next_kind ts)) (λ p. at_numbers ((grammar_of t).body p ++ ss) (λ stack. productions t n stack ts)))

-- what goes on with a production
abbrev expanded : Lists → ℕ → List ℕ → List ℕ → ℕ → Option (List ℕ)
expanded t n ss ts p = at_numbers ((grammar_of t).body p ++ ss) (λ stack. productions t n stack ts)

abbrev given : Option (List ℕ) → List ℕ
given None = []
given (Some ps) = ps

none_not : (A : Type 0) (ps : List ℕ) → None ≡ Some ps → A
none_not A ps h = let z : None ≡ Some ps = h in cc

module _ (t : Lists) (ll : IsLl t) where
  behind_derives : (k : ℕ) (ss ts ps : List ℕ) (go : List ℕ → Option (List ℕ)) → k < 256
      → ((us qs : List ℕ) → go us ≡ Some qs → Derives (grammar_of t) ss qs us)
      → behind k ts go ≡ Some ps → Derives (grammar_of t) (k ∷ ss) ps ts
  behind_derives k ss [] ps go small goes h = none_not _ ps h
  behind_derives k ss (x ∷ ts) ps go small goes h = on (nat_eq k x) refl h
    where
      on : (b : Bool) → nat_eq k x ≡ b → cond b (go ts) None ≡ Some ps → Derives (grammar_of t) (k ∷ ss) ps (x ∷ ts)
      on true e h = subst (λ y. Derives (grammar_of t) (k ∷ ss) ps (y ∷ ts)) (eqb-true k x e) (token small (goes ts ps h))
      on false e h = none_not _ ps h

  by_derives : (c s : ℕ) (ss ts ps : List ℕ) (go : ℕ → Option (List ℕ)) → 256 ≤ s → cell_of t s (next_kind ts) ≡ c
      → ((p : ℕ) (qs : List ℕ) → go p ≡ Some qs → Derives (grammar_of t) ((grammar_of t).body p ++ ss) qs ts)
      → by c go ≡ Some ps → Derives (grammar_of t) (s ∷ ss) ps ts
  by_derives zero s ss ts ps go big cell goes h = none_not _ ps h
  by_derives (suc p) s ss ts ps go big cell goes h = on (go p) refl h
    where
      on : (o : Option (List ℕ)) → go p ≡ o → after p o ≡ Some ps → Derives (grammar_of t) (s ∷ ss) ps ts
      on None e h = none_not _ ps h
      on (Some qs) e h =
          let w = ll.decides.picks s (next_kind ts) p big cell in
          subst (λ all. Derives (grammar_of t) (s ∷ ss) all ts) (ap given h) (production p qs w.0 w.1 w.2 (goes p qs e))

  derives_by : (n s : ℕ) (ss ts ps : List ℕ)
      → ((ss ts ps : List ℕ) → productions t n ss ts ≡ Some ps → Derives (grammar_of t) ss ps ts)
      → (b : Bool) → nat_lt s 256 ≡ b
      → cond b (behind s ts (productions t n ss)) (by (cell_of t s (next_kind ts)) (expanded t n ss ts)) ≡ Some ps
      → Derives (grammar_of t) (s ∷ ss) ps ts
  derives_by n s ss ts ps below true e h = behind_derives s ss ts ps (productions t n ss) (ltb-true s 256 e) (below ss) h
  derives_by n s ss ts ps below false e h =
      by_derives (cell_of t s (next_kind ts)) s ss ts ps (expanded t n ss ts) (ltb-false s 256 e) refl
      (λ p qs h. below ((grammar_of t).body p ++ ss) ts qs (sym (at_numbers_is ((grammar_of t).body p ++ ss) (λ stack. productions t n stack ts)) ∙ h)) h

  pub derives : (n : ℕ) (ss ts ps : List ℕ) → productions t n ss ts ≡ Some ps → Derives (grammar_of t) ss ps ts
  derives zero ss ts ps h = none_not _ ps h
  derives (suc n) [] [] ps h = subst (λ all. Derives (grammar_of t) [] all []) (ap given h) done
  derives (suc n) [] (x ∷ ts) ps h = none_not _ ps h
  derives (suc n) (s ∷ ss) ts ps h = derives_by n s ss ts ps (λ ss ts ps. derives n ss ts ps) (nat_lt s 256) refl h
