-- Where a table stops, by computing, and that no text of its grammar goes on there.
use Rattle.std.proofs.Common.{◌≡◌, ◌≢◌, ℕ, suc, zero, ◌<◌, ◌≤◌, Bool, true, false, cond, nat_lt, nat_eq, List, [], ◌∷◌, ◌++◌, Option, Some, None, length, take, refl, sym, ◌∙◌, ap, subst, arith}
use Rattle.std.proofs.lemmas.Bool.{ltb-true, ltb-false, eqb-true, eqb-false}
use Rattle.ll_parse.specs.Conditions.{IsLl, IsLinked}
use Rattle.ll_parse.specs.Grammar.{next_kind, Derives}
use Rattle.ll_parse.specs.Tables.{Lists, grammar_of, cell_of, follow_of}
use Rattle.ll_parse.proofs.Ends.{start_kept}
use Rattle.ll_parse.proofs.Theory.{linked_production, production_of, no_production, no_token, no_end, token_of, empty_of}
use Rattle.grammar_laws.specs.Refused.{Stops}
use Rattle.grammar_laws.proofs.InOrder.{at_numbers, at_numbers_is}

abbrev one_later : Option ℕ → Option ℕ
one_later None = None
one_later (Some i) = Some (suc i)

-- goes on behind a token of the kind k
abbrev behind : ℕ → List ℕ → (List ℕ → Option ℕ) → Option ℕ
behind k [] go = Some 0
behind k (t ∷ ts) go = cond (nat_eq k t) (one_later (go ts)) (Some 0)

-- goes on with the production that a cell picks
abbrev by : ℕ → (ℕ → Option ℕ) → Option ℕ
by zero go = Some 0
by (suc p) go = go p

abbrev at_end : List ℕ → Option ℕ
at_end [] = None
at_end (t ∷ ts) = Some 0

-- how many of the tokens are read before the table stops, in fewer than n turns; None where it doesn't
abbrev pub stop : Lists → ℕ → List ℕ → List ℕ → Option ℕ
stop t zero ss ts = None
stop t (suc n) [] ts = at_end ts
stop t (suc n) (s ∷ ss) ts = cond (nat_lt s 256)
    (behind s ts (stop t n ss))
    (by (cell_of t s (next_kind ts)) (λ p. at_numbers ((grammar_of t).body p ++ ss) (λ stack. stop t n stack ts)))

-- the symbols derive neither the tokens nor any that begin with the first i of them and one more
record Stuck (t : Lists) (ss ts : List ℕ) (i : ℕ) : Type 0 where
  none : (ps : List ℕ) → Derives (grammar_of t) ss ps ts → ⊥
  least : i < length ts → (us ps : List ℕ) → Derives (grammar_of t) ss ps (take (suc i) ts ++ us) → ⊥

abbrev Linked : Lists → List ℕ → Type 0
Linked t ss = IsLinked (grammar_of t) (cell_of t) (follow_of t) ss

no_some : (A : Type 0) (i : ℕ) → None ≡ Some i → A
no_some A i h = let z : None ≡ Some i = h in cc

abbrev given : Option ℕ → ℕ
given None = 0
given (Some i) = i

no_less : (A : Type 0) (i : ℕ) → i < 0 → A
no_less A i h = absurd (omega (arith, h))

module _ (t : Lists) (ll : IsLl t) where
  token_stuck : (k x : ℕ) (ss ts : List ℕ) (j : ℕ) → k < 256 → k ≡ x → Stuck t ss ts j → Stuck t (k ∷ ss) (x ∷ ts) (suc j)
  token_stuck k x ss ts j small same h = record {
    none = λ ps d. h.none ps (token_of (grammar_of t) (cell_of t) (follow_of t) ll.decides k x ss ps ts small d).1;
    least = λ less us ps d. h.least (omega (arith, less)) us ps (token_of (grammar_of t) (cell_of t) (follow_of t) ll.decides k x ss ps (take (suc j) ts ++ us) small d).1;
  }

  other_stuck : (k x : ℕ) (ss ts : List ℕ) → k < 256 → k ≢ x → Stuck t (k ∷ ss) (x ∷ ts) 0
  other_stuck k x ss ts small differ =
      let differs : x ≢ k = λ e. differ (sym e) in record {
        none = λ ps d. no_token (grammar_of t) (cell_of t) (follow_of t) ll.decides k ss ps (x ∷ ts) small differs d;
        least = λ less us ps d. no_token (grammar_of t) (cell_of t) (follow_of t) ll.decides k ss ps (x ∷ us) small differs d;
      }

  end_stuck : (k : ℕ) (ss : List ℕ) → k < 256 → Stuck t (k ∷ ss) [] 0
  end_stuck k ss small = record {
    none = λ ps d. no_end (grammar_of t) (cell_of t) (follow_of t) ll.decides k ss ps small d;
    least = λ less us ps d. no_less ⊥ 0 less;
  }

  empty_stuck : (x : ℕ) (ts : List ℕ) → Stuck t [] (x ∷ ts) 0
  empty_stuck x ts = record {
    none = λ ps d. let e = (empty_of (grammar_of t) (cell_of t) (follow_of t) ll.decides ps (x ∷ ts) d).1 in cc;
    least = λ less us ps d. let e = (empty_of (grammar_of t) (cell_of t) (follow_of t) ll.decides ps (x ∷ us) d).1 in cc;
  }

  behind_stuck : (k : ℕ) (ss ts : List ℕ) (i : ℕ) (go : List ℕ → Option ℕ) → k < 256
      → ((us : List ℕ) (j : ℕ) → go us ≡ Some j → Stuck t ss us j)
      → behind k ts go ≡ Some i → Stuck t (k ∷ ss) ts i
  behind_stuck k ss [] i go small goes h = subst (λ j. Stuck t (k ∷ ss) [] j) (ap given h) (end_stuck k ss small)
  behind_stuck k ss (x ∷ ts) i go small goes h = on (nat_eq k x) refl h
    where
      later : (o : Option ℕ) → go ts ≡ o → one_later o ≡ Some i → k ≡ x → Stuck t (k ∷ ss) (x ∷ ts) i
      later None e h same = no_some _ i h
      later (Some j) e h same = subst (λ m. Stuck t (k ∷ ss) (x ∷ ts) m) (ap given h) (token_stuck k x ss ts j small same (goes ts j e))

      on : (b : Bool) → nat_eq k x ≡ b → cond b (one_later (go ts)) (Some 0) ≡ Some i → Stuck t (k ∷ ss) (x ∷ ts) i
      on true e h = later (go ts) refl h (eqb-true k x e)
      on false e h = subst (λ m. Stuck t (k ∷ ss) (x ∷ ts) m) (ap given h) (other_stuck k x ss ts small (eqb-false k x e))

  none_stuck : (s : ℕ) (ss ts : List ℕ) → 256 ≤ s → Linked t (s ∷ ss) → cell_of t s (next_kind ts) ≡ 0 → Stuck t (s ∷ ss) ts 0
  none_stuck s ss [] big linked none = record {
    none = λ ps d. no_production (grammar_of t) (cell_of t) (follow_of t) ll.decides s 0 ss ps [] linked big none refl d;
    least = λ less us ps d. no_less ⊥ 0 less;
  }
  none_stuck s ss (x ∷ ts) big linked none = record {
    none = λ ps d. no_production (grammar_of t) (cell_of t) (follow_of t) ll.decides s x ss ps (x ∷ ts) linked big none refl d;
    least = λ less us ps d. no_production (grammar_of t) (cell_of t) (follow_of t) ll.decides s x ss ps (x ∷ us) linked big none refl d;
  }

  same_pick : (c m n : ℕ) → c ≡ suc m → c ≡ suc n → m ≡ n
  same_pick c m n h k = omega (arith, h, k)

  -- what the symbols derive before a token of this kind, the body of the production that is picked derives
  opened : (s p : ℕ) (ss us ps : List ℕ) → 256 ≤ s → Linked t (s ∷ ss) → cell_of t s (next_kind us) ≡ suc p
      → Derives (grammar_of t) (s ∷ ss) ps us → (qs : List ℕ) × Derives (grammar_of t) ((grammar_of t).body p ++ ss) qs us
  opened s p ss us ps big linked picks d =
      let r = production_of (grammar_of t) (cell_of t) (follow_of t) ll.decides big d linked in
      let same : r.0 ≡ p = same_pick (cell_of t s (next_kind us)) r.0 p r.3 picks in
      (r.1, subst (λ q. Derives (grammar_of t) ((grammar_of t).body q ++ ss) r.1 us) same r.4)

  picked_stuck : (s p : ℕ) (ss ts : List ℕ) (i : ℕ) → 256 ≤ s → Linked t (s ∷ ss) → cell_of t s (next_kind ts) ≡ suc p
      → Stuck t ((grammar_of t).body p ++ ss) ts i → Stuck t (s ∷ ss) ts i
  picked_stuck s p ss [] i big linked picks h = record {
    none = λ ps d. let o = opened s p ss [] ps big linked picks d in h.none o.0 o.1;
    least = λ less us ps d. no_less ⊥ i less;
  }
  picked_stuck s p ss (x ∷ ts) i big linked picks h = record {
    none = λ ps d. let o = opened s p ss (x ∷ ts) ps big linked picks d in h.none o.0 o.1;
    least = λ less us ps d. let o = opened s p ss (x ∷ (take i ts ++ us)) ps big linked picks d in h.least less us o.0 o.1;
  }

  linked_body : (s p a : ℕ) (ss : List ℕ) → 256 ≤ s → Linked t (s ∷ ss) → cell_of t s a ≡ suc p → Linked t ((grammar_of t).body p ++ ss)
  linked_body s p a ss big linked picks =
      let k = ll.decides.picks s a p big picks in
      linked_production (grammar_of t) (cell_of t) (follow_of t) ll.decides p s ss k.0 k.1 linked

  by_stuck : (c s : ℕ) (ss ts : List ℕ) (i : ℕ) (go : ℕ → Option ℕ) → 256 ≤ s → Linked t (s ∷ ss) → cell_of t s (next_kind ts) ≡ c
      → ((p : ℕ) → Linked t ((grammar_of t).body p ++ ss) → go p ≡ Some i → Stuck t ((grammar_of t).body p ++ ss) ts i)
      → by c go ≡ Some i → Stuck t (s ∷ ss) ts i
  by_stuck zero s ss ts i go big linked cell goes h = subst (λ j. Stuck t (s ∷ ss) ts j) (ap given h) (none_stuck s ss ts big linked cell)
  by_stuck (suc p) s ss ts i go big linked cell goes h =
      picked_stuck s p ss ts i big linked cell (goes p (linked_body s p (next_kind ts) ss big linked cell) h)

  stuck_by : (n s : ℕ) (ss ts : List ℕ) (i : ℕ) → Linked t (s ∷ ss)
      → ((ss ts : List ℕ) (i : ℕ) → Linked t ss → stop t n ss ts ≡ Some i → Stuck t ss ts i)
      → (b : Bool) → nat_lt s 256 ≡ b
      → cond b (behind s ts (stop t n ss)) (by (cell_of t s (next_kind ts)) (λ p. at_numbers ((grammar_of t).body p ++ ss) (λ stack. stop t n stack ts))) ≡ Some i
      → Stuck t (s ∷ ss) ts i
  stuck_by n s ss ts i linked below true e h = behind_stuck s ss ts i (stop t n ss) (ltb-true s 256 e) (λ us j. below ss us j linked.1) h
  stuck_by n s ss ts i linked below false e h =
      by_stuck (cell_of t s (next_kind ts)) s ss ts i (λ p. at_numbers ((grammar_of t).body p ++ ss) (λ stack. stop t n stack ts)) (ltb-false s 256 e) linked refl
      (λ p links h. below ((grammar_of t).body p ++ ss) ts i links (sym (at_numbers_is ((grammar_of t).body p ++ ss) (λ stack. stop t n stack ts)) ∙ h)) h

  stuck : (n : ℕ) (ss ts : List ℕ) (i : ℕ) → Linked t ss → stop t n ss ts ≡ Some i → Stuck t ss ts i
  stuck zero ss ts i linked h = no_some _ i h
  stuck (suc n) [] [] i linked h = no_some _ i h
  stuck (suc n) [] (x ∷ ts) i linked h = subst (λ j. Stuck t [] (x ∷ ts) j) (ap given h) (empty_stuck x ts)
  stuck (suc n) (s ∷ ss) ts i linked h = stuck_by n s ss ts i linked (λ ss ts i. stuck n ss ts i) (nat_lt s 256) refl h

  pub stops : (n : ℕ) (ts : List ℕ) (i : ℕ) → stop t n (t.start ∷ []) ts ≡ Some i → Stops (grammar_of t) ts i
  stops n ts i h =
      let s = stuck n (t.start ∷ []) ts i (start_kept t ll).0 h in record {
        none = s.none;
        least = λ less begins. s.least less begins.0 begins.1 begins.2;
      }
