-- Where the table's actions come after what is claimed, so do the steps of a text.
use Rattle.std.proofs.Common.{◌≡◌, ℕ, suc, zero, ◌-◌, ◌<◌, ◌≤◌, Bool, true, false, cond, ◌&&◌, List, [], ◌∷◌, ◌++◌, length, get_or, nat_lt, refl, sym, ◌∙◌, ap, subst, append_assoc, length-append, arith}
use Rattle.std.proofs.Math.Dec.{eqb}
use Rattle.std.proofs.lemmas.Bool.{and_parts, eqb-true, eq-eqb, lt-ltb, le-ltb}
use Rattle.std.specs.List.{All}
use Rattle.ll_parse.specs.Conditions.{IsLl}
use Rattle.ll_parse.specs.Grammar.{Derives, Parses}
use Rattle.ll_parse.specs.Grammar.Derives.{done, token, production}
use Rattle.ll_parse.specs.Places.{placed}
use Rattle.ll_parse.specs.Tables.{Lists, grammar_of}
use Rattle.ll_parse.specs.Test.{all_below, body_of}
use Rattle.ll_parse.proofs.Check.{all_below_at}
use Rattle.ll_actions.proofs.StepsAt.{steps_at, steps_token, steps_production}
use Rattle.ll_actions.specs.declared.step.Step.{Step}
use Rattle.ll_actions.specs.Steps.{marked, steps_of}
use Rattle.ll_actions.specs.After.{kinds_before, is_among, IsAfter, IsPlaced, is_last_among, does_end_in, kinds_at, kinds_of, is_claimed, does_lead_to, do_follow, is_body_placed, is_mark_placed, is_production_placed, are_placed}

all_none : {X : Type 0} (P : X → Type 0) → All P []
all_none P k d l = absurd (omega arith)

all_cons : {X : Type 0} (P : X → Type 0) (x : X) (xs : List X) → P x → All P xs → All P (x ∷ xs)
all_cons P x xs h hs zero d l = h
all_cons P x xs h hs (suc k) d l = hs k d (omega arith)

-- the last of the tokens so far is of one of these kinds, if there are any
abbrev IsLast : List ℕ → List ℕ → Type 0
IsLast [] seen = Unit {0}
IsLast (k ∷ ks) seen = (old : List ℕ) × (x : ℕ) × (seen ≡ old ++ x ∷ []) × (is_among x (k ∷ ks) ≡ true)

get_or-here : (old more : List ℕ) (x : ℕ) → get_or (old ++ x ∷ more) (length old) 0 ≡ x
get_or-here [] more x = refl
get_or-here (y ∷ old) more x = get_or-here old more x

after_last : (kinds seen ts : List ℕ) → IsLast kinds seen → IsAfter kinds (seen ++ ts) (length seen)
after_last [] seen ts h = tt
after_last (k ∷ ks) seen ts h =
    let old = h.0 in let x = h.1 in
    let n : length seen ≡ suc (length old) = ap length h.2 ∙ (let a = length-append old (x ∷ []) in omega (arith, a)) in
    let at : get_or (seen ++ ts) (length seen - 1) 0 ≡ x =
    ap (λ i. get_or (seen ++ ts) i 0) (let z : length seen - 1 ≡ length old = omega arith in z)
    ∙ ap (λ s. get_or (s ++ ts) (length old) 0) h.2 ∙ ap (λ s. get_or s (length old) 0) (append_assoc old (x ∷ []) ts) ∙ get_or-here old ts x in
    (omega arith, ap (λ y. is_among y (k ∷ ks)) at ∙ h.3)

cond_true : (b c : Bool) → cond b false c ≡ true → (b ≡ false) × (c ≡ true)
cond_true true c h = absurd (let z : false ≡ true = h in cc)
cond_true false c h = (refl, h)

unclaimed : (kinds seen : List ℕ) → is_claimed kinds ≡ false → IsLast kinds seen
unclaimed [] seen h = tt
unclaimed (k ∷ ks) seen h = absurd (let z : true ≡ false = h in cc)

module _ (t : Lists) (ll : IsLl t) (marks : List ℕ) (after : List (List ℕ)) (spots : List ℕ) (placed_all : are_placed t marks after spots ≡ true) where
  abbrev kinds : ℕ → List ℕ
  kinds s = kinds_of after spots s

  abbrev IsReady : List ℕ → List ℕ → Type 0
  IsReady seen [] = Unit {0}
  IsReady seen (s ∷ ss) = (IsLast (kinds s) seen) × (do_follow t after spots s ss ≡ true)

  production_placed : (p : ℕ) → p < length t.heads → (is_body_placed t after spots (body_of t p) ≡ true) × (is_mark_placed after spots (get_or t.heads p 0) (get_or marks p 0) ≡ true)
  production_placed p l = and_parts (is_body_placed t after spots (body_of t p)) (is_mark_placed after spots (get_or t.heads p 0) (get_or marks p 0))
      (all_below_at (length t.heads) (is_production_placed t marks after spots) (cond_true (is_claimed (kinds t.start)) (all_below (length t.heads) (is_production_placed t marks after spots)) placed_all).1 p l)

  last_token : (ks seen : List ℕ) (k : ℕ) → k < 256 → does_lead_to t ks k ≡ true → IsLast ks (seen ++ k ∷ [])
  last_token [] seen k small h = tt
  last_token (x ∷ xs) seen k small h = (seen, k, refl, ap (λ b. cond b (is_among k (x ∷ xs)) (does_end_in t (x ∷ xs) k)) (sym (lt-ltb k 256 small)) ∙ h)

  ready_token : (seen ss : List ℕ) (k : ℕ) → k < 256 → do_follow t after spots k ss ≡ true → IsReady (seen ++ k ∷ []) ss
  ready_token seen [] k small h = tt
  ready_token seen (y ∷ ys) k small h =
      let w = and_parts (does_lead_to t (kinds y) k) (do_follow t after spots y ys) h in (last_token (kinds y) seen k small w.0, w.1)

  -- the body of a production of s ends as what comes after s asks
  ends : (ks : List ℕ) (s p : ℕ) → p < length t.heads → s ≡ get_or t.heads p 0 → 256 ≤ s → does_lead_to t ks s ≡ true → is_claimed ks ≡ true → is_last_among ks (body_of t p) ≡ true
  ends [] s p l is big h c = absurd (let z : false ≡ true = c in cc)
  ends (k ∷ ks) s p l is big h c =
      let e : does_end_in t (k ∷ ks) s ≡ true = ap (λ b. cond b (is_among s (k ∷ ks)) (does_end_in t (k ∷ ks) s)) (sym (le-ltb s 256 big)) ∙ h in
      let one = all_below_at (length t.heads) (λ q. cond (eqb (get_or t.heads q 0) s) (is_last_among (k ∷ ks) (body_of t q)) true) e p l in
      ap (λ b. cond b (is_last_among (k ∷ ks) (body_of t p)) true) (sym (eq-eqb (get_or t.heads p 0) s (sym is))) ∙ one

  leads_last : (ks : List ℕ) (x : ℕ) → (is_claimed ks ≡ true → is_last_among ks (x ∷ []) ≡ true) → does_lead_to t ks x ≡ true
  leads_last [] x h = refl
  leads_last (k ∷ ks) x h =
      let w = and_parts (nat_lt x 256) (is_among x (k ∷ ks)) (h refl) in
      ap (λ b. cond b (is_among x (k ∷ ks)) (does_end_in t (k ∷ ks) x)) w.0 ∙ w.1

  both : (a b : Bool) → a ≡ true → b ≡ true → (a && b) ≡ true
  both a b h k = ap (λ x. x && b) h ∙ k

  follow_append : (x : ℕ) (xs : List ℕ) (y : ℕ) (ys : List ℕ) → do_follow t after spots x xs ≡ true → (is_claimed (kinds y) ≡ true → is_last_among (kinds y) (x ∷ xs) ≡ true) → do_follow t after spots y ys ≡ true →
      do_follow t after spots x (xs ++ y ∷ ys) ≡ true
  follow_append x [] y ys h last k = both (does_lead_to t (kinds y) x) (do_follow t after spots y ys) (leads_last (kinds y) x last) k
  follow_append x (z ∷ zs) y ys h last k =
      let w = and_parts (does_lead_to t (kinds z) x) (do_follow t after spots z zs) h in
      both (does_lead_to t (kinds z) x) (do_follow t after spots z (zs ++ y ∷ ys)) w.0 (follow_append z zs y ys w.1 last k)

  follow_nothing : (x : ℕ) (xs : List ℕ) → do_follow t after spots x xs ≡ true → do_follow t after spots x (xs ++ []) ≡ true
  follow_nothing x [] h = refl
  follow_nothing x (z ∷ zs) h =
      let w = and_parts (does_lead_to t (kinds z) x) (do_follow t after spots z zs) h in
      both (does_lead_to t (kinds z) x) (do_follow t after spots z (zs ++ [])) w.0 (follow_nothing z zs w.1)

  claimed_of : (ks seen : List ℕ) → (is_claimed ks ≡ true → ⊥) → IsLast ks seen
  claimed_of [] seen h = tt
  claimed_of (k ∷ ks) seen h = absurd (h refl)

  ready_body : (seen : List ℕ) (b : List ℕ) (s : ℕ) (ss : List ℕ) → is_body_placed t after spots b ≡ true →
      ((ks : List ℕ) → does_lead_to t ks s ≡ true → is_claimed ks ≡ true → is_last_among ks b ≡ true) → do_follow t after spots s ss ≡ true → IsReady seen (b ++ ss)
  ready_body seen [] s [] h last k = tt
  ready_body seen [] s (y ∷ ys) h last k =
      let w = and_parts (does_lead_to t (kinds y) s) (do_follow t after spots y ys) k in
      (claimed_of (kinds y) seen (λ c. (let z : false ≡ true = last (kinds y) w.0 c in cc)), w.1)
  ready_body seen (x ∷ xs) s [] h last k =
      let w = cond_true (is_claimed (kinds x)) (do_follow t after spots x xs) h in
      (unclaimed (kinds x) seen w.0, follow_nothing x xs w.1)
  ready_body seen (x ∷ xs) s (y ∷ ys) h last k =
      let w = cond_true (is_claimed (kinds x)) (do_follow t after spots x xs) h in
      let v = and_parts (does_lead_to t (kinds y) s) (do_follow t after spots y ys) k in
      (unclaimed (kinds x) seen w.0, follow_append x xs y ys w.1 (last (kinds y) v.0) v.1)

  -- what a step of the production comes after
  marked_after : (s a : ℕ) (seen : List ℕ) → 256 ≤ s → is_mark_placed after spots s (suc a) ≡ true → IsLast (kinds s) seen → IsLast (kinds_before after a) seen
  marked_after s a seen big h last = by (is_claimed (kinds_before after a)) refl h
    where
      by : (b : Bool) → is_claimed (kinds_before after a) ≡ b → cond b (eqb (get_or spots (s - 256) 0) (suc a)) true ≡ true → IsLast (kinds_before after a) seen
      by false c h = unclaimed (kinds_before after a) seen c
      by true c h =
          let e : kinds s ≡ kinds_before after a = ap (λ b. cond b [] (kinds_at after (get_or spots (s - 256) 0))) (le-ltb s 256 big) ∙ ap (kinds_at after) (eqb-true (get_or spots (s - 256) 0) (suc a) h) in
          subst (λ ks. IsLast ks seen) e last

  all_marked : (m s : ℕ) (seen ts : List ℕ) (ss : List Step) → 256 ≤ s → is_mark_placed after spots s m ≡ true → IsLast (kinds s) seen → All (IsPlaced after (seen ++ ts)) ss → All (IsPlaced after (seen ++ ts)) (marked m (length seen) ss)
  all_marked zero s seen ts ss big h last rest = rest
  all_marked (suc a) s seen ts ss big h last rest = all_cons (IsPlaced after (seen ++ ts)) (record { action = a; token = length seen }) ss (record {
    within = (let e = length-append seen ts in omega (arith, e));
    comes_after = after_last (kinds_before after a) seen ts (marked_after s a seen big h last);
  }) rest

  goes : (ss ps ts : List ℕ) → Derives (grammar_of t) ss ps ts → (seen : List ℕ) → IsReady seen ss → All (IsPlaced after (seen ++ ts)) (steps_at (grammar_of t) marks (length seen) ss ps)
  goes _ _ _ done seen h = all_none (IsPlaced after (seen ++ []))
  goes _ _ _ (token {k = k} {ss = ss} {ps = ps} {ts = ts} small d) seen h =
      let n : length (seen ++ k ∷ []) ≡ suc (length seen) = (let e = length-append seen (k ∷ []) in omega (arith, e)) in
      subst (All (IsPlaced after (seen ++ k ∷ ts))) (ap (λ i. steps_at (grammar_of t) marks i ss ps) n ∙ sym (steps_token (grammar_of t) marks (length seen) k ss ps small))
      (subst (λ x. All (IsPlaced after x) (steps_at (grammar_of t) marks (length (seen ++ k ∷ [])) ss ps)) (append_assoc seen (k ∷ []) ts) (goes ss ps ts d (seen ++ k ∷ []) (ready_token seen ss k small h.1)))
  goes _ _ _ (production {s = s} {ss = ss} {ts = ts} p ps inside is allowed d) seen h =
      let big : 256 ≤ s = subst (λ x. 256 ≤ x) (sym is) (ll.decides.heads p inside) in
      let w = production_placed p inside in
      let ready = ready_body seen (body_of t p) s ss w.0 (λ ks lead c. ends ks s p inside is big lead c) h.1 in
      subst (All (IsPlaced after (seen ++ ts))) (sym (steps_production (grammar_of t) marks (length seen) s p ss ps big))
      (all_marked (get_or marks p 0) s seen ts (steps_at (grammar_of t) marks (length seen) (body_of t p ++ ss) ps) big (subst (λ x. is_mark_placed after spots x (get_or marks p 0) ≡ true) (sym is) w.1) h.0
      (goes (body_of t p ++ ss) ps ts d seen ready))

  -- Each step of a text stands within its tokens, right after one of a kind that its action comes after.
  pub placed_steps : (ts ps : List ℕ) → Parses (grammar_of t) ts ps → All (IsPlaced after ts) (steps_of marks (placed (grammar_of t) 0 (t.start ∷ []) ps))
  placed_steps ts ps d = goes (t.start ∷ []) ps ts d [] (unclaimed (kinds t.start) [] (cond_true (is_claimed (kinds t.start)) (all_below (length t.heads) (is_production_placed t marks after spots)) placed_all).0, refl)
