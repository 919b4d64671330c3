-- A table has the texts of its productions, by tests that compute.
use Rattle.std.proofs.Common.{◌≡◌, ◌≢◌, ℕ, suc, zero, ◌+◌, ◌-◌, ◌<◌, ◌≤◌, Bool, true, false, ◌&&◌, nat_lt, nat_eq, List, [], ◌∷◌, length, refl, sym, ap, subst, ◌∙◌, arith}
use Rattle.std.proofs.lemmas.Bool.{and_parts, ltb-true, eqb-true, eqb-false}
use Rattle.ll_parse.specs.Grammar.{Derives}
use Rattle.ll_parse.specs.Productions.{Production, HasProductions, without_actions, productions_from, are_actions}
use Rattle.ll_parse.specs.Tables.{Lists, grammar_of}
use Rattle.grammar_texts.specs.Listed.{nth, listed, SameTexts}
use Rattle.grammar_texts.proofs.Without.{Clean, IsWithout, kept, listed_too, tabled_too}

-- the heads are no actions
abbrev pub are_plain : ℕ → List Production → Bool
are_plain first [] = true
are_plain first (x ∷ xs) = nat_lt x.head first && are_plain first xs

abbrev flipped : Bool → Bool
flipped true = false
flipped false = true

abbrev differs : ℕ → ℕ → Bool
differs m n = flipped (nat_eq m n)

abbrev is_clean : ℕ → List ℕ → Bool
is_clean limit [] = true
is_clean limit (s ∷ ss) = nat_lt s limit && (differs s 255 && is_clean limit ss)

-- the bodies of n productions from p on have symbols below the limit, and none that is no kind of token
abbrev pub are_clean : Lists → ℕ → ℕ → ℕ → Bool
are_clean t limit p zero = true
are_clean t limit p (suc n) = is_clean limit ((grammar_of t).body p) && are_clean t limit (suc p) n

plain_at : (first : ℕ) (xs : List Production) (p : ℕ) → are_plain first xs ≡ true → p < length xs → (nth xs p).head < first
plain_at first [] p h l = absurd (omega (arith, l))
plain_at first (x ∷ xs) zero h l = ltb-true x.head first (and_parts (nat_lt x.head first) (are_plain first xs) h).0
plain_at first (x ∷ xs) (suc p) h l = plain_at first xs p (and_parts (nat_lt x.head first) (are_plain first xs) h).1 (omega (arith, l))

different : (m n : ℕ) → differs m n ≡ true → m ≢ n
different m n h e = on (nat_eq m n) refl h
  where
    on : (b : Bool) → nat_eq m n ≡ b → flipped b ≡ true → ⊥
    on true k h = let z : false ≡ true = h in cc
    on false k h = eqb-false m n k e

clean_of : (limit : ℕ) (ss : List ℕ) → is_clean limit ss ≡ true → Clean limit ss
clean_of limit [] h = tt
clean_of limit (s ∷ ss) h =
    let a = and_parts (nat_lt s limit) (differs s 255 && is_clean limit ss) h in
    let b = and_parts (differs s 255) (is_clean limit ss) a.1 in
    (ltb-true s limit a.0, different s 255 b.0, clean_of limit ss b.1)

module _ (t : Lists) where
  abbrev at : ℕ → ℕ → Production
  at first q = record { head = (grammar_of t).head q; body = without_actions first ((grammar_of t).body q); not_before = (grammar_of t).not_before q }

  nth_from : (first b n p : ℕ) → p < n → nth (productions_from t first b n) p ≡ at first (b + p)
  nth_from first b zero p l = absurd (omega (arith, l))
  nth_from first b (suc n) zero l = let e : b ≡ b + 0 = omega arith in ap (at first) e
  nth_from first b (suc n) (suc p) l = let e : suc b + p ≡ b + suc p = omega arith in nth_from first (suc b) n p (omega (arith, l)) ∙ ap (at first) e

  clean_at : (limit b n p : ℕ) → are_clean t limit b n ≡ true → p < n → Clean limit ((grammar_of t).body (b + p))
  clean_at limit b zero p h l = absurd (omega (arith, l))
  clean_at limit b (suc n) zero h l =
      let e : b ≡ b + 0 = omega arith in
      subst (λ q. Clean limit ((grammar_of t).body q)) e
      (clean_of limit ((grammar_of t).body b) (and_parts (is_clean limit ((grammar_of t).body b)) (are_clean t limit (suc b) n) h).0)
  clean_at limit b (suc n) (suc p) h l =
      let e : suc b + p ≡ b + suc p = omega arith in
      subst (λ q. Clean limit ((grammar_of t).body q)) e
      (clean_at limit (suc b) n p (and_parts (is_clean limit ((grammar_of t).body b)) (are_clean t limit (suc b) n) h).1 (omega (arith, l)))

  abbrev IsAction : ℕ → ℕ → Type 0
  IsAction q s = ((grammar_of t).head q ≡ s) × ((grammar_of t).body q ≡ []) × ((grammar_of t).not_before q ≡ 255)

  abbrev is_nothing : List ℕ → Bool
  is_nothing [] = true
  is_nothing (s ∷ ss) = false

  nothing_of : (ss : List ℕ) → is_nothing ss ≡ true → ss ≡ []
  nothing_of [] h = refl
  nothing_of (s ∷ ss) h = let z : false ≡ true = h in cc

  action_at : (f b m i q s : ℕ) → q ≡ b + i → s ≡ f + i → are_actions t f b m ≡ true → i < m → IsAction q s
  action_at f b zero i q s eq es h l = absurd (omega (arith, l))
  action_at f b (suc m) i q s eq es h l =
      let body = (grammar_of t).body b in
      let bar = (grammar_of t).not_before b in
      let rest = are_actions t (suc f) (suc b) m in
      let one = and_parts (nat_eq ((grammar_of t).head b) f) (is_nothing body && (nat_eq bar 255 && rest)) h in
      let two = and_parts (is_nothing body) (nat_eq bar 255 && rest) one.1 in
      let three = and_parts (nat_eq bar 255) rest two.1 in
      on i eq es l (eqb-true ((grammar_of t).head b) f one.0, nothing_of body two.0, eqb-true bar 255 three.0) (λ j ej fj lj. action_at (suc f) (suc b) m j q s ej fj three.1 lj)
    where
      on : (i : ℕ) → q ≡ b + i → s ≡ f + i → i < suc m → IsAction b f
          → ((j : ℕ) → q ≡ suc b + j → s ≡ suc f + j → j < m → IsAction q s) → IsAction q s
      on zero eq es l here later =
          let e : b ≡ q = omega (arith, eq) in
          let k : f ≡ s = omega (arith, es) in
          subst (λ x. IsAction x s) e (subst (λ y. IsAction b y) k here)
      on (suc i) eq es l here later = later i (omega (arith, eq)) (omega (arith, es)) (omega (arith, l))

module _ (t : Lists) (first : ℕ) (ps : List Production) (has : HasProductions t first ps) where
  abbrev n : ℕ
  n = length ps

  abbrev limit : ℕ
  limit = first + (length t.heads - n)

  production_at : (p : ℕ) → p < n → nth ps p ≡ at t first p
  production_at p l =
      let e : 0 + p ≡ p = omega arith in
      ap (λ xs. nth xs p) (sym has.productions) ∙ nth_from t first 0 n p l ∙ ap (at t first) e

  module _ (kinds : 256 ≤ first) (fewer : n < length t.heads) (plain : are_plain first ps ≡ true) (clean : are_clean t limit 0 n ≡ true) where
    without : IsWithout (grammar_of t) (listed t.start ps) first n limit
    without = record {
      kinds = kinds;
      fewer = omega (arith, fewer);
      count = refl;
      heads = λ p l. ap (λ (x : Production). x.head) (production_at p l);
      plain = λ p l. subst (λ x. x < first) (ap (λ (x : Production). x.head) (production_at p l)) (plain_at first ps p plain l);
      bodies = λ p l. ap (λ (x : Production). x.body) (production_at p l);
      bars = λ p l. ap (λ (x : Production). x.not_before) (production_at p l);
      clean = λ p l. let e : 0 + p ≡ p = omega arith in subst (λ q. Clean limit ((grammar_of t).body q)) e (clean_at t limit 0 n p clean l);
      actions = λ p over l.
          let a = action_at t first n (length t.heads - n) (p - n) p (first + (p - n)) (omega (arith, over)) refl has.actions (omega (arith, over, l)) in
          let e = a.0 in (omega (arith, e), a.1);
      action_of = λ s over l.
          let a = action_at t first n (length t.heads - n) (s - first) (n + (s - first)) s refl (omega (arith, over)) has.actions (omega (arith, over, l)) in
          (n + (s - first), omega (arith, over, l, fewer), sym a.0, a.1, a.2);
    }

    pub same : nat_lt t.start first ≡ true → t.start ≢ 255 → SameTexts t ps
    same starts unbarred =
        let start : Clean limit (t.start ∷ []) = (let l = ltb-true t.start first starts in omega (arith, l), unbarred, tt) in record {
          listed_too = λ tokens ds d.
              let r = listed_too (grammar_of t) (listed t.start ps) first n limit without d in
              (r.0, subst (λ us. Derives (listed t.start ps) us r.0 tokens) (kept first t.start [] starts) r.1);
          tabled_too = λ tokens es d.
              tabled_too (grammar_of t) (listed t.start ps) first n limit without d (unbarred, tt) (t.start ∷ []) (kept first t.start [] starts) start;
        }
