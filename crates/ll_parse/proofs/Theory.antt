use Rattle.std.proofs.Common.{◌≡◌, ◌≢◌, ℕ, suc, ◌<◌, ◌≤◌, Bool, true, inl, inr, List, [], ◌∷◌, ◌++◌, refl, sym, ◌∙◌, ap, subst, append_assoc, append-nil, arith}
use Rattle.ll_parse.specs.Conditions.{Expects, IsLinked, ExpectsAfter, IsBodyLinked, IsPicked, Decides}
use Rattle.ll_parse.specs.Grammar.{Grammar, next_kind, Derives, Parses, Begins}
use Rattle.ll_parse.specs.Machine.{Leads, HasRead}
use Rattle.ll_parse.specs.Grammar.Derives.{done, token, production}

module _ (g : Grammar) (cell : ℕ → ℕ → ℕ) (follow : ℕ → ℕ → Bool) (decides : Decides g cell follow) where
  after : (n a : ℕ) (xs ss : List ℕ) → (Expects g cell follow ss a → follow n a ≡ true) → Expects g cell follow (xs ++ ss) a → ExpectsAfter g cell follow n xs a
  after n a [] ss k e = k e
  after n a (y ∷ ys) ss k e = e

  linked_body : (n : ℕ) (xs ss : List ℕ) → IsBodyLinked g cell follow n xs → ((a : ℕ) → Expects g cell follow ss a → follow n a ≡ true) → IsLinked g cell follow ss → IsLinked g cell follow (xs ++ ss)
  linked_body n [] ss h k l = l
  linked_body n (x ∷ xs) ss h k l = (λ big a e. h.0 big a (after n a xs ss (k a) e), linked_body n xs ss h.1 k l)

  -- after a production the stack is linked again
  pub linked_production : (p s : ℕ) (ss : List ℕ) → p < g.productions → s ≡ g.head p → IsLinked g cell follow (s ∷ ss) → IsLinked g cell follow (g.body p ++ ss)
  linked_production p s ss small is l =
      let big : 256 ≤ s = subst (λ n. 256 ≤ n) (sym is) (decides.heads p small) in
      linked_body s (g.body p) ss (subst (λ n. IsBodyLinked g cell follow n (g.body p)) (sym is) (decides.links p small)) (l.0 big) l.1

  picked_of : (n p a : ℕ) (b ss : List ℕ) → IsPicked g cell follow n p b → (Expects g cell follow ss a → follow n a ≡ true) → a ≢ g.not_before p → Expects g cell follow (b ++ ss) a → cell n a ≡ suc p
  picked_of n p a [] ss h k allowed e = h a (k e) allowed
  picked_of n p a (x ∷ xs) ss h k allowed e = h a e

  picked : (p s a : ℕ) (ss : List ℕ) → p < g.productions → s ≡ g.head p → a ≢ g.not_before p → IsLinked g cell follow (s ∷ ss) → Expects g cell follow (g.body p ++ ss) a → cell s a ≡ suc p
  picked p s a ss small is allowed l e =
      let big : 256 ≤ s = subst (λ n. 256 ≤ n) (sym is) (decides.heads p small) in
      picked_of s p a (g.body p) ss (subst (λ n. IsPicked g cell follow n p (g.body p)) (sym is) (decides.picked p small)) (l.0 big a) allowed e

  -- what a stack derives begins as the stack expects
  pub expected : {ss ps ts : List ℕ} → Derives g ss ps ts → IsLinked g cell follow ss → Expects g cell follow ss (next_kind ts)
  expected done l = refl
  expected (token small d) l = inl (small, refl)
  expected (production {s} {ss} {ts} p ps small is allowed d) l =
      let e : Expects g cell follow (g.body p ++ ss) (next_kind ts) = expected d (linked_production p s ss small is l) in
      let c : cell s (next_kind ts) ≡ suc p = picked p s (next_kind ts) ss small is allowed l e in
      inr (subst (λ n. 256 ≤ n) (sym is) (decides.heads p small), λ z. cc)

  -- a derivation of a nonterminal goes by the production that is picked
  pub production_of : {s : ℕ} {ss ps ts : List ℕ} → 256 ≤ s → Derives g (s ∷ ss) ps ts → IsLinked g cell follow (s ∷ ss) →
      (p : ℕ) × (qs : List ℕ) × (ps ≡ p ∷ qs) × (cell s (next_kind ts) ≡ suc p) × Derives g (g.body p ++ ss) qs ts
  production_of big (token small d) l = absurd (omega arith)
  production_of big (production {s} {ss} {ts} p ps small is allowed d) l =
      (p, ps, refl, picked p s (next_kind ts) ss small is allowed l (expected d (linked_production p s ss small is l)), d)

  pub leads_none : (a : ℕ) (ss : List ℕ) → Leads g a ss [] ss
  leads_none a ss = record {
    sound = λ ps us e d. d;
    whole = λ all us e d. (all, refl, d);
  }

  same_pick : (c m n : ℕ) → c ≡ suc m → c ≡ suc n → m ≡ n
  same_pick c m n h k = omega arith

  -- one more production
  pub leads_production : (a p s : ℕ) (old qs ss : List ℕ) → Leads g a old qs (s ∷ ss) → IsLinked g cell follow (s ∷ ss) → 256 ≤ s → cell s a ≡ suc p → Leads g a old (qs ++ p ∷ []) (g.body p ++ ss)
  leads_production a p s old qs ss h l big c = record {
    sound = λ ps us e d.
        let k : (p < g.productions) × (s ≡ g.head p) × (a ≢ g.not_before p) = decides.picks s a p big c in
        rw append_assoc (h.sound (p ∷ ps) us e (production p ps k.0 k.1 (subst (λ x. x ≢ g.not_before p) (sym e) k.2) d));
    whole = λ all us e d.
        let w = h.whole all us e d in
        let r = production_of big w.2 l in
        let same : r.0 ≡ p = same_pick (cell s a) r.0 p (subst (λ x. cell s x ≡ suc r.0) e r.3) c in
        (r.1, w.1 ∙ ap (λ x. qs ++ x) (r.2 ∙ ap (λ x. x ∷ r.1) same) ∙ sym (append_assoc qs (p ∷ []) r.1), subst (λ x. Derives g (g.body x ++ ss) r.1 us) same r.4);
  }

  -- where no production is picked, nothing is derived
  pub no_production : (s a : ℕ) (ss ps us : List ℕ) → IsLinked g cell follow (s ∷ ss) → 256 ≤ s → cell s a ≡ 0 → next_kind us ≡ a → Derives g (s ∷ ss) ps us → ⊥
  no_production s a ss ps us l big none e d =
      let r = production_of big d l in
      let z : suc r.0 ≡ 0 = sym r.3 ∙ ap (λ x. cell s x) e ∙ none in cc

  pub no_token : (k : ℕ) (ss ps us : List ℕ) → k < 256 → next_kind us ≢ k → Derives g (k ∷ ss) ps us → ⊥
  no_token k ss ps us small ne (token _ d) = ne refl
  no_token k ss ps us small ne (production p ps' in_productions is allowed d) = let big : 256 ≤ g.head p = decides.heads p in_productions in absurd (omega arith)

  pub no_end : (s : ℕ) (ss ps : List ℕ) → s < 256 → Derives g (s ∷ ss) ps [] → ⊥
  no_end s ss ps small (production p ps' in_productions is allowed d) = let big : 256 ≤ g.head p = decides.heads p in_productions in absurd (omega arith)

  pub token_of : (k t : ℕ) (ss ps us : List ℕ) → k < 256 → Derives g (k ∷ ss) ps (t ∷ us) → (t ≡ k) × Derives g ss ps us
  token_of k t ss ps us small (token _ d) = (refl, d)
  token_of k t ss ps us small (production p ps' in_productions is allowed d) = let big : 256 ≤ g.head p = decides.heads p in_productions in absurd (omega arith)

  pub empty_of : (ps us : List ℕ) → Derives g [] ps us → (ps ≡ []) × (us ≡ [])
  empty_of ps us done = (refl, refl)

  pub read_none : HasRead g [] [] (g.start ∷ [])
  read_none = record {
    sound = λ ps us d. d;
    whole = λ all us d. (all, refl, d);
  }

  seen_more : (seen us : List ℕ) (k : ℕ) → (seen ++ k ∷ []) ++ us ≡ seen ++ k ∷ us
  seen_more seen us k = append_assoc seen (k ∷ []) us

  pub read_token : (seen productions qs old new : List ℕ) (k : ℕ) → k < 256 → HasRead g seen productions old → Leads g k old qs (k ∷ new) → HasRead g (seen ++ k ∷ []) (productions ++ qs) new
  read_token seen productions qs old new k small h l = record {
    sound = λ ps us d. rw (append_assoc productions qs ps, append_assoc seen (k ∷ []) us) (h.sound (qs ++ ps) (k ∷ us) (l.sound ps (k ∷ us) refl (token small d)));
    whole = λ all us d.
        let w = h.whole all (k ∷ us) (subst (λ x. Parses g x all) (seen_more seen us k) d) in
        let v = l.whole w.0 (k ∷ us) refl w.2 in
        let e : all ≡ productions ++ (qs ++ v.0) = w.1 ∙ ap (λ x. productions ++ x) v.1 in
        (v.0, e ∙ sym (append_assoc productions qs v.0), (token_of k k new v.0 us small v.2).1);
  }

  -- what cannot go on with this token cannot begin a text
  pub read_stuck : (seen productions stack : List ℕ) (k : ℕ) → HasRead g seen productions stack → ((ps us : List ℕ) → Derives g stack ps (k ∷ us) → ⊥) → Begins g (seen ++ k ∷ []) → ⊥
  read_stuck seen productions stack k h never (us, ps, d) =
      let w = h.whole ps (k ∷ us) (subst (λ x. Parses g x ps) (seen_more seen us k) d) in never w.0 us w.2

  pub read_ends : (tokens productions stack : List ℕ) → HasRead g tokens productions stack → ((ps : List ℕ) → Derives g stack ps [] → ⊥) → (all : List ℕ) → Parses g tokens all → ⊥
  read_ends tokens productions stack h never all d =
      let w = h.whole all [] (subst (λ x. Parses g x all) (sym (append-nil tokens)) d) in never w.0 w.2

  pub read_all : (tokens productions qs stack : List ℕ) → HasRead g tokens productions stack → Leads g 0 stack qs [] → Parses g tokens (productions ++ qs)
  read_all tokens productions qs stack h l =
      subst (λ x. Parses g tokens (productions ++ x)) (append-nil qs) (subst (λ x. Parses g x (productions ++ (qs ++ []))) (append-nil tokens) (h.sound (qs ++ []) [] (l.sound [] [] refl done)))

  pub read_only : (tokens productions qs stack : List ℕ) → HasRead g tokens productions stack → Leads g 0 stack qs [] → (all : List ℕ) → Parses g tokens all → all ≡ productions ++ qs
  read_only tokens productions qs stack h l all d =
      let w = h.whole all [] (subst (λ x. Parses g x all) (sym (append-nil tokens)) d) in
      let v = l.whole w.0 [] refl w.2 in
      let e = empty_of v.0 [] v.2 in
      w.1 ∙ ap (λ x. productions ++ x) (v.1 ∙ ap (λ x. qs ++ x) e.0 ∙ append-nil qs)
