-- A grammar with actions, and the same one without them.
use Rattle.std.proofs.Common.{◌≡◌, ◌≢◌, ℕ, ◌<◌, ◌≤◌, Bool, true, false, nat_lt, List, [], ◌∷◌, ◌++◌, refl, sym, ap, subst, ◌∙◌, arith}
use Rattle.std.proofs.lemmas.Bool.{ltb-true, ltb-false}
use Rattle.ll_parse.specs.Grammar.{Grammar, next_kind, Derives}
use Rattle.ll_parse.specs.Grammar.Derives.{done, token, production}
use Rattle.ll_parse.specs.Productions.{without_actions}

-- each symbol is below the limit, and none is the number that is no kind of token
abbrev pub Clean : ℕ → List ℕ → Type 0
Clean limit [] = Unit {0}
Clean limit (s ∷ ss) = (s < limit) × (s ≢ 255) × Clean limit ss

-- The first n productions of g are those of h, but for the actions in their bodies; the others are empty, one for each action.
pub record IsWithout (g h : Grammar) (first n limit : ℕ) : Type 0 where
  pub kinds : 256 ≤ first
  pub fewer : n ≤ g.productions
  pub count : h.productions ≡ n
  pub heads : (p : ℕ) → p < n → h.head p ≡ g.head p
  pub plain : (p : ℕ) → p < n → g.head p < first
  pub bodies : (p : ℕ) → p < n → h.body p ≡ without_actions first (g.body p)
  pub bars : (p : ℕ) → p < n → h.not_before p ≡ g.not_before p
  pub clean : (p : ℕ) → p < n → Clean limit (g.body p)
  pub actions : (p : ℕ) → n ≤ p → p < g.productions → (first ≤ g.head p) × (g.body p ≡ [])
  pub action_of : (s : ℕ) → first ≤ s → s < limit → (q : ℕ) × (q < g.productions) × (s ≡ g.head q) × (g.body q ≡ []) × (g.not_before q ≡ 255)

abbrev kept_if : Bool → ℕ → List ℕ → List ℕ
kept_if true s ss = s ∷ ss
kept_if false s ss = ss

pub kept : (first s : ℕ) (ss : List ℕ) → nat_lt s first ≡ true → without_actions first (s ∷ ss) ≡ s ∷ without_actions first ss
kept first s ss h = ap (λ b. kept_if b s (without_actions first ss)) h

pub dropped : (first s : ℕ) (ss : List ℕ) → nat_lt s first ≡ false → without_actions first (s ∷ ss) ≡ without_actions first ss
dropped first s ss h = ap (λ b. kept_if b s (without_actions first ss)) h

is_less : (m n : ℕ) → m < n → nat_lt m n ≡ true
is_less m n h = on (nat_lt m n) refl
  where
    on : (b : Bool) → nat_lt m n ≡ b → nat_lt m n ≡ true
    on true e = e
    on false e = let k : n ≤ m = ltb-false m n e in absurd (omega (arith, h, k))

not_less : (m n : ℕ) → n ≤ m → nat_lt m n ≡ false
not_less m n h = on (nat_lt m n) refl
  where
    on : (b : Bool) → nat_lt m n ≡ b → nat_lt m n ≡ false
    on true e = let k : m < n = ltb-true m n e in absurd (omega (arith, h, k))
    on false e = e

without_append : (first : ℕ) (xs ys : List ℕ) → without_actions first (xs ++ ys) ≡ without_actions first xs ++ without_actions first ys
without_append first [] ys = refl
without_append first (x ∷ xs) ys = on (nat_lt x first) refl (without_append first xs ys)
  where
    on : (b : Bool) → nat_lt x first ≡ b → without_actions first (xs ++ ys) ≡ without_actions first xs ++ without_actions first ys
        → without_actions first (x ∷ (xs ++ ys)) ≡ without_actions first (x ∷ xs) ++ without_actions first ys
    on true e below =
        kept first x (xs ++ ys) e ∙ ap (λ r. x ∷ r) below
        ∙ sym (ap (λ r. r ++ without_actions first ys) (kept first x xs e))
    on false e below =
        dropped first x (xs ++ ys) e ∙ below ∙ sym (ap (λ r. r ++ without_actions first ys) (dropped first x xs e))

clean_append : (limit : ℕ) (xs ys : List ℕ) → Clean limit xs → Clean limit ys → Clean limit (xs ++ ys)
clean_append limit [] ys h k = k
clean_append limit (x ∷ xs) ys h k = (h.0, h.1, clean_append limit xs ys h.2 k)

-- no symbol is the number that is no kind of token
abbrev NoBars : List ℕ → Type 0
NoBars [] = Unit {0}
NoBars (s ∷ ss) = (s ≢ 255) × NoBars ss

no_bars : (first limit : ℕ) (ss : List ℕ) → Clean limit ss → NoBars (without_actions first ss)
no_bars first limit [] h = tt
no_bars first limit (s ∷ ss) h = on (nat_lt s first) refl (no_bars first limit ss h.2)
  where
    on : (b : Bool) → nat_lt s first ≡ b → NoBars (without_actions first ss) → NoBars (without_actions first (s ∷ ss))
    on true e below = subst NoBars (sym (kept first s ss e)) (h.1, below)
    on false e below = subst NoBars (sym (dropped first s ss e)) below

no_bars_append : (xs ys : List ℕ) → NoBars xs → NoBars ys → NoBars (xs ++ ys)
no_bars_append [] ys h k = k
no_bars_append (x ∷ xs) ys h k = (h.0, no_bars_append xs ys h.1 k)

abbrev first_of : List ℕ → ℕ
first_of [] = 0
first_of (s ∷ ss) = s

abbrev rest_of : List ℕ → List ℕ
rest_of [] = []
rest_of (s ∷ ss) = ss

no_cons : (A : Type 0) (x : ℕ) (xs : List ℕ) → [] ≡ x ∷ xs → A
no_cons A x xs h = let z : [] ≡ x ∷ xs = h in cc

module _ (g h : Grammar) (first n limit : ℕ) (w : IsWithout g h first n limit) where
  -- what g derives, h derives without the actions
  pub listed_too : {ss ds ts : List ℕ} → Derives g ss ds ts → (es : List ℕ) × Derives h (without_actions first ss) es ts
  listed_too done = ([], done)
  listed_too (token {k} {ss} {ps} {ts} small d) =
      let r = listed_too d in
      let kinds = w.kinds in
      (r.0, subst (λ us. Derives h us r.0 (k ∷ ts)) (sym (kept first k ss (is_less k first (omega (arith, small, kinds))))) (token small r.1))
  listed_too (production {s} {ss} {ts} p ds small is allowed d) = on (nat_lt p n) refl (listed_too d)
    where
      on : (b : Bool) → nat_lt p n ≡ b → ((es : List ℕ) × Derives h (without_actions first (g.body p ++ ss)) es ts) → (es : List ℕ) × Derives h (without_actions first (s ∷ ss)) es ts
      on true e r =
          let under : p < n = ltb-true p n e in
          let plain : nat_lt s first ≡ true = is_less s first (subst (λ x. x < first) (sym is) (w.plain p under)) in
          let body : without_actions first (g.body p ++ ss) ≡ h.body p ++ without_actions first ss =
          without_append first (g.body p) ss ∙ ap (λ b. b ++ without_actions first ss) (sym (w.bodies p under)) in (
            p ∷ r.0,
            subst (λ us. Derives h us (p ∷ r.0) ts) (sym (kept first s ss plain))
                (production p r.0 (subst (λ m. p < m) (sym w.count) under) (is ∙ sym (w.heads p under)) (subst (λ x. next_kind ts ≢ x) (sym (w.bars p under)) allowed)
                (subst (λ us. Derives h us r.0 ts) body r.1)),
          )
      on false e r =
          let over : n ≤ p = ltb-false p n e in
          let action = w.actions p over small in
          let body : without_actions first (g.body p ++ ss) ≡ without_actions first ss = ap (λ b. without_actions first (b ++ ss)) action.1 in
          (r.0, subst (λ us. Derives h us r.0 ts) (body ∙ sym (dropped first s ss (not_less s first (subst (λ x. first ≤ x) (sym is) action.0)))) r.1)

  -- what h derives doesn't begin with the number that is no kind of token
  no_bar : {us es ts : List ℕ} → Derives h us es ts → NoBars us → next_kind ts ≢ 255
  no_bar done c = λ e. let z : 0 ≡ 255 = e in omega (arith, z)
  no_bar (token small d) c = c.0
  no_bar (production {ss = us} p es small is allowed d) c =
      let under : p < n = subst (λ m. p < m) w.count small in
      no_bar d (no_bars_append (h.body p) us (subst NoBars (sym (w.bodies p under)) (no_bars first limit (g.body p) (w.clean p under))) c.1)

  abbrev Derived : List ℕ → List ℕ → Type 0
  Derived ss ts = (ds : List ℕ) × Derives g ss ds ts

  abbrev IsPlainTop : List ℕ → Type 0
  IsPlainTop [] = Unit {0}
  IsPlainTop (s ∷ ss) = nat_lt s first ≡ true

  -- the actions on top of a stack come to nothing
  skip : (us ts : List ℕ) → next_kind ts ≢ 255 → ((ss : List ℕ) → without_actions first ss ≡ us → Clean limit ss → IsPlainTop ss → Derived ss ts)
      → (ss : List ℕ) → without_actions first ss ≡ us → Clean limit ss → Derived ss ts
  skip us ts unbarred go [] e c = go [] e c tt
  skip us ts unbarred go (s ∷ ss) e c = on (nat_lt s first) refl (λ e. skip us ts unbarred go ss e c.2)
    where
      on : (b : Bool) → nat_lt s first ≡ b → (without_actions first ss ≡ us → Derived ss ts) → Derived (s ∷ ss) ts
      on true plain below = go (s ∷ ss) e c plain
      on false action below =
          let r = below (sym (dropped first s ss action) ∙ e) in
          let a = w.action_of s (ltb-false s first action) c.0 in
          (a.0 ∷ r.0, production a.0 r.0 a.1 a.2 (subst (λ x. next_kind ts ≢ x) (sym a.4) unbarred) (subst (λ b. Derives g (b ++ ss) r.0 ts) (sym a.3) r.1))

  -- what h derives, g derives with the actions
  pub tabled_too : {us es ts : List ℕ} → Derives h us es ts → NoBars us → (ss : List ℕ) → without_actions first ss ≡ us → Clean limit ss → Derived ss ts
  tabled_too done bars = skip [] [] (no_bar done bars) at_end
    where
      at_end : (ss : List ℕ) → without_actions first ss ≡ [] → Clean limit ss → IsPlainTop ss → Derived ss []
      at_end [] e c plain = ([], done)
      at_end (s ∷ ss) e c plain = no_cons _ s (without_actions first ss) (sym e ∙ kept first s ss plain)
  tabled_too (token {k} {ss = us} {ts} small d) bars = skip (k ∷ us) (k ∷ ts) bars.0 (at_token (λ ss e c. tabled_too d bars.1 ss e c))
    where
      at_token : ((ss : List ℕ) → without_actions first ss ≡ us → Clean limit ss → Derived ss ts)
          → (ss : List ℕ) → without_actions first ss ≡ k ∷ us → Clean limit ss → IsPlainTop ss → Derived ss (k ∷ ts)
      at_token below [] e c plain = no_cons _ k us e
      at_token below (s ∷ ss) e c plain =
          let same : s ∷ without_actions first ss ≡ k ∷ us = sym (kept first s ss plain) ∙ e in
          let r = below ss (ap rest_of same) c.2 in
          (r.0, subst (λ x. Derives g (x ∷ ss) r.0 (k ∷ ts)) (sym (ap first_of same)) (token small r.1))
  tabled_too (production {s} {ss = us} {ts} p es small is allowed d) bars =
      let under : p < n = subst (λ m. p < m) w.count small in
      let clean = no_bars_append (h.body p) us (subst NoBars (sym (w.bodies p under)) (no_bars first limit (g.body p) (w.clean p under))) bars.1 in
      skip (s ∷ us) ts (no_bar (production p es small is allowed d) bars) (at_nonterminal under (λ ss e c. tabled_too d clean ss e c))
    where
      at_nonterminal : p < n → ((ss : List ℕ) → without_actions first ss ≡ h.body p ++ us → Clean limit ss → Derived ss ts)
          → (ss : List ℕ) → without_actions first ss ≡ s ∷ us → Clean limit ss → IsPlainTop ss → Derived ss ts
      at_nonterminal under below [] e c plain = no_cons _ s us e
      at_nonterminal under below (x ∷ ss) e c plain =
          let same : x ∷ without_actions first ss ≡ s ∷ us = sym (kept first x ss plain) ∙ e in
          let fewer = w.fewer in
          let body : without_actions first (g.body p ++ ss) ≡ h.body p ++ us =
          without_append first (g.body p) ss ∙ ap (λ b. b ++ without_actions first ss) (sym (w.bodies p under)) ∙ ap (λ r. h.body p ++ r) (ap rest_of same) in
          let r = below (g.body p ++ ss) body (clean_append limit (g.body p) ss (w.clean p under) c.2) in
          (p ∷ r.0, production p r.0 (omega (arith, under, fewer)) (ap first_of same ∙ is ∙ w.heads p under) (subst (λ x. next_kind ts ≢ x) (w.bars p under) allowed) r.1)
