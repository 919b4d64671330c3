-- The steps of placing the productions.
use Rattle.std.proofs.Common.{◌≡◌, ℕ, suc, zero, ◌+◌, ◌<◌, ◌≤◌, Bool, true, false, cond, List, [], ◌∷◌, ◌++◌, length, reverse, drop, get_or, drop-cons, nat_lt, refl, sym, ◌∙◌, ap, subst, append_assoc, append-nil, arith}
use Rattle.std.proofs.lemmas.Bool.{lt-ltb, le-ltb}
use Rattle.ll_parse.specs.Conditions.{IsLl}
use Rattle.ll_parse.specs.Grammar.{Grammar, Derives, Parses}
use Rattle.ll_parse.specs.Places.{place_of, below, placed}
use Rattle.ll_parse.specs.Tables.{Lists, grammar_of}
use Rattle.ll_parse.proofs.Steps.{popped, nothing}
use Rattle.ll_parse.specs.Grammar.Derives.{done, token, production}
use Rattle.ll_parse.specs.declared.placing.Placed.{Placed}

pub place_token : (i s : ℕ) (ss : List ℕ) → s < 256 → place_of i (s ∷ ss) ≡ place_of (suc i) ss
place_token i s ss l = ap (λ b. cond b (place_of (suc i) ss) i) (lt-ltb s 256 l)

pub below_token : (s : ℕ) (ss : List ℕ) → s < 256 → below (s ∷ ss) ≡ below ss
below_token s ss l = ap (λ b. cond b (below ss) ss) (lt-ltb s 256 l)

pub place_production : (i s : ℕ) (ss : List ℕ) → 256 ≤ s → place_of i (s ∷ ss) ≡ i
place_production i s ss l = ap (λ b. cond b (place_of (suc i) ss) i) (le-ltb s 256 l)

pub below_production : (s : ℕ) (ss : List ℕ) → 256 ≤ s → below (s ∷ ss) ≡ ss
below_production s ss l = ap (λ b. cond b (below ss) ss) (le-ltb s 256 l)

pub place_up : (ss : List ℕ) (i : ℕ) → i ≤ place_of i ss
place_up [] i = omega arith
place_up (s ∷ ss) i = by (nat_lt s 256) (place_up ss (suc i))
  where
    by : (b : Bool) → suc i ≤ place_of (suc i) ss → i ≤ cond b (place_of (suc i) ss) i
    by true h = omega arith
    by false h = omega arith

-- one pop
pub record Pop (i : ℕ) (goal : ℕ) (below_goal : List ℕ) (ss : List ℕ) : Type 0 where
  pub place : place_of i ss ≡ goal
  pub rest : below ss ≡ below_goal

module _ (i goal : ℕ) (bg : List ℕ) (old : List ℕ) (h : Pop i goal bg (reverse old)) where
  pub pop_none : length old ≡ 0 → (new : List ℕ) → new ≡ [] → (i ≡ goal) × (reverse new ≡ bg)
  pop_none e new n =
      let o : old ≡ [] = nothing old (length old) refl e in
      (ap (λ x. place_of i (reverse x)) (sym o) ∙ h.place, ap reverse n ∙ ap (λ x. below (reverse x)) (sym o) ∙ h.rest)

  pub pop_production : (new : List ℕ) (s : ℕ) → old ≡ new ++ s ∷ [] → 256 ≤ s → (i ≡ goal) × (reverse new ≡ bg)
  pop_production new s e big =
      let p = popped old new s e in
      (sym (place_production i s (reverse new) big) ∙ ap (place_of i) (sym p) ∙ h.place, sym (below_production s (reverse new) big) ∙ ap below (sym p) ∙ h.rest)

  pub pop_token : (new : List ℕ) (s : ℕ) → old ≡ new ++ s ∷ [] → s < 256 → Pop (i + 1) goal bg (reverse new)
  pop_token new s e small =
      let p = popped old new s e in
      record {
        place = ap (λ x. place_of x (reverse new)) (let z : i + 1 ≡ suc i = omega arith in z) ∙ sym (place_token i s (reverse new) small) ∙ ap (place_of i) (sym p) ∙ h.place;
        rest = sym (below_token s (reverse new) small) ∙ ap below (sym p) ∙ h.rest;
      }

  pub pop_fits : (new : List ℕ) (s : ℕ) → old ≡ new ++ s ∷ [] → s < 256 → i + 1 ≤ goal
  pop_fits new s e small = let w = (pop_token new s e small).place in let u = place_up (reverse new) (i + 1) in omega (arith, w, u)

-- what a derivation says of the next_kind place
place_within : (g : Grammar) → ((p : ℕ) → p < g.productions → 256 ≤ g.head p) → (ss ps us : List ℕ) → Derives g ss ps us → (i : ℕ) → place_of i ss ≤ i + length us
place_within g heads _ _ _ done i = omega arith
place_within g heads _ _ _ (token {k = k} {ss = ss} {ps = ps} {ts = us} small d) i = let h = place_within g heads ss ps us d (suc i) in let e = place_token i k ss small in omega (arith, h, e)
place_within g heads _ _ _ (production {s = s} {ss = ss} {ts = us} p ps small is allowed d) i = let e = place_production i s ss (subst (λ x. 256 ≤ x) (sym is) (heads p small)) in omega (arith, e)

record Next (g : Grammar) (p : ℕ) (ps ss us : List ℕ) : Type 0 where
  vs : List ℕ
  inside : p < g.productions
  derives : Derives g (g.body p ++ below ss) ps vs
  count : (i : ℕ) → place_of i ss + length vs ≡ i + length us

next_of : (g : Grammar) → ((p : ℕ) → p < g.productions → 256 ≤ g.head p) → (p : ℕ) (ps ss all us : List ℕ) → Derives g ss all us → all ≡ p ∷ ps → Next g p ps ss us
next_of g heads p ps _ _ _ done e = absurd (let z = ap length e in omega (arith, z))
next_of g heads p ps _ _ _ (token {k = k} {ss = ss} {ps = all} {ts = us} small d) e =
    let w = next_of g heads p ps ss all us d e in
    record {
      vs = w.vs;
      inside = w.inside;
      derives = subst (λ x. Derives g (g.body p ++ x) ps w.vs) (sym (below_token k ss small)) w.derives;
      count = λ i. (let c = w.count (suc i) in let z = place_token i k ss small in omega (arith, c, z));
    }
next_of g heads p ps _ _ _ (production {s = s} {ss = ss} {ts = us} q qs small is allowed d) e =
    let pq : q ≡ p = cc in
    let pqs : qs ≡ ps = cc in
    let big : 256 ≤ s = subst (λ x. 256 ≤ x) (sym is) (heads q small) in
    record {
      vs = us;
      inside = subst (λ x. x < g.productions) pq small;
      derives = subst (λ x. Derives g (g.body p ++ x) ps us) (sym (below_production s ss big)) (subst (λ x. Derives g (g.body x ++ ss) ps us) pq (subst (λ x. Derives g (g.body q ++ ss) x us) pqs d));
      count = λ i. (let z = place_production i s ss big in omega (arith, z));
    }

pub record Placing (t : Lists) (tokens productions : List ℕ) (at place : ℕ) (stack : List ℕ) (so : List Placed) : Type 0 where
  pub us : List ℕ
  pub derives : Derives (grammar_of t) stack (drop at productions) us
  pub count : place + length us ≡ length tokens
  pub out : so ++ placed (grammar_of t) place stack (drop at productions) ≡ placed (grammar_of t) 0 (t.start ∷ []) productions

module _ (t : Lists) (ll : IsLl t) (tokens productions : List ℕ) where
  pub start : (stack : List ℕ) (out : List Placed) → stack ≡ t.start ∷ [] → out ≡ [] → Parses (grammar_of t) tokens productions → Placing t tokens productions 0 0 (reverse stack) out
  start stack out s o d = record {
    us = tokens;
    derives = subst (λ x. Derives (grammar_of t) (reverse x) productions tokens) (sym s) d;
    count = omega arith;
    out = ap (λ x. x ++ placed (grammar_of t) 0 (reverse stack) productions) o ∙ ap (λ x. placed (grammar_of t) 0 (reverse x) productions) s;
  }

  pub fits : (at place : ℕ) (stack : List ℕ) (out : List Placed) → Placing t tokens productions at place stack out → place_of place stack ≤ length tokens
  fits at place stack out h = let w = place_within (grammar_of t) ll.decides.heads stack (drop at productions) h.us h.derives place in let c = h.count in omega arith

  pub production_fits : (at place : ℕ) (stack : List ℕ) (out : List Placed) → Placing t tokens productions at place stack out → at < length productions → get_or productions at 0 < length t.heads
  production_fits at place stack out h l = (next_of (grammar_of t) ll.decides.heads (get_or productions at 0) (drop (suc at) productions) stack (drop at productions) h.us h.derives (drop-cons productions at 0 l)).inside

  pub goes : (at place : ℕ) (stack : List ℕ) (out : List Placed) → Placing t tokens productions at place stack out → at < length productions →
      (place' : ℕ) (mid new : List ℕ) (out' : List Placed) → place' ≡ place_of place stack → reverse mid ≡ below stack → reverse new ≡ (grammar_of t).body (get_or productions at 0) ++ reverse mid →
      out' ≡ out ++ record { production = get_or productions at 0; place = place' } ∷ [] → Placing t tokens productions (at + 1) place' (reverse new) out'
  goes at place stack out h l place' mid new out' pe me ne oe =
      let r = get_or productions at 0 in
      let n = next_of (grammar_of t) ll.decides.heads r (drop (suc at) productions) stack (drop at productions) h.us h.derives (drop-cons productions at 0 l) in
      let se : reverse new ≡ (grammar_of t).body r ++ below stack = ne ∙ ap (λ x. (grammar_of t).body r ++ x) me in
      let up : suc at ≡ at + 1 = omega arith in
      subst (λ x. Placing t tokens productions x place' (reverse new) out') up (record {
        us = n.vs;
        derives = subst (λ x. Derives (grammar_of t) x (drop (suc at) productions) n.vs) (sym se) n.derives;
        count = (let a = n.count place in let b = h.count in omega (arith, a, b, pe));
        out = ap (λ x. x ++ placed (grammar_of t) place' (reverse new) (drop (suc at) productions)) oe
            ∙ append_assoc out (record { production = r; place = place' } ∷ []) (placed (grammar_of t) place' (reverse new) (drop (suc at) productions))
            ∙ ap (λ x. out ++ record { production = r; place = x } ∷ placed (grammar_of t) x (reverse new) (drop (suc at) productions)) pe
            ∙ ap (λ x. out ++ record { production = r; place = place_of place stack } ∷ placed (grammar_of t) (place_of place stack) x (drop (suc at) productions)) se
            ∙ ap (λ x. out ++ placed (grammar_of t) place stack x) (sym (drop-cons productions at 0 l))
            ∙ h.out;
      })

  pub ends : (at place : ℕ) (stack : List ℕ) (out : List Placed) → Placing t tokens productions at place stack out → length productions ≤ at → out ≡ placed (grammar_of t) 0 (t.start ∷ []) productions
  ends at place stack out h l =
      sym (append-nil out) ∙ ap (λ x. out ++ placed (grammar_of t) place stack x) (sym (drop_all at productions l)) ∙ h.out
    where
      drop_all : (n : ℕ) (xs : List ℕ) → length xs ≤ n → drop n xs ≡ []
      drop_all zero [] l = refl
      drop_all zero (x ∷ xs) l = absurd (omega arith)
      drop_all (suc n) [] l = refl
      drop_all (suc n) (x ∷ xs) l = drop_all n xs (omega arith)
