-- Where the table's productions fit the sorts, the steps of a text find theirs.
use Rattle.std.proofs.Common.{◌≡◌, ℕ, suc, zero, ◌<◌, ◌≤◌, Bool, true, false, cond, ◌&&◌, List, [], ◌∷◌, ◌++◌, length, get_or, nat_lt, refl, sym, ◌∙◌, ap, subst, append_assoc, append-nil, option_map, option_and_then, arith}
use Rattle.std.proofs.Math.Dec.{eqb}
use Rattle.std.proofs.lemmas.Bool.{and_parts, eqb-true, eq-eqb, ltb-true, lt-ltb, le-ltb}
use Rattle.std.specs.declared.option.Option.{Option}
use Rattle.std.specs.declared.option.Option.TheVariants.{None, Some}
use Rattle.ll_parse.specs.Conditions.{IsLl}
use Rattle.ll_parse.specs.Grammar.{Derives, Parses}
use Rattle.ll_parse.specs.Grammar.Derives.{done, token, production}
use Rattle.ll_parse.specs.Places.{placed}
use Rattle.ll_parse.specs.Tables.{Lists, grammar_of}
use Rattle.ll_parse.specs.Test.{all_below, body_of}
use Rattle.ll_parse.proofs.Check.{all_below_at}
use Rattle.ll_actions.proofs.StepsAt.{steps_at, steps_token, steps_production}
use Rattle.ll_actions.specs.declared.step.Step.{Step}
use Rattle.ll_actions.specs.Steps.{marked, steps_of}
use Rattle.ll_actions.specs.Sorts.{Signature, Effect, signature_of, effect_of, taken, after_action, sorts_after, after_effect, after_symbol, after_body, after_mark, are_same, is_stack, is_start_typed, is_production_typed, is_typed}

-- What lies on top is these sorts, and the rest below.
pub taken_is : (xs st rest : List ℕ) → taken xs st ≡ Some rest → st ≡ xs ++ rest
taken_is [] st rest e = cc
taken_is (x ∷ xs) [] rest e = cc
taken_is (x ∷ xs) (y ∷ ys) rest e = by (eqb x y) refl e (taken_is xs ys rest)
  where
    by : (b : Bool) → eqb x y ≡ b → cond b (taken xs ys) None ≡ Some rest → (taken xs ys ≡ Some rest → ys ≡ xs ++ rest) → y ∷ ys ≡ x ∷ (xs ++ rest)
    by true t e h = let u : ys ≡ xs ++ rest = h e in let v : x ≡ y = eqb-true x y t in cc
    by false t e h = cc

pub taken_all : (xs rest : List ℕ) → taken xs (xs ++ rest) ≡ Some rest
taken_all [] rest = refl
taken_all (x ∷ xs) rest = ap (λ b. cond b (taken xs (xs ++ rest)) None) (eq-eqb x x refl) ∙ taken_all xs rest

-- what is below the stack stays below
taken_above : (xs st rest more : List ℕ) → taken xs st ≡ Some rest → taken xs (st ++ more) ≡ Some (rest ++ more)
taken_above xs st rest more e =
    ap (λ s. taken xs (s ++ more)) (taken_is xs st rest e) ∙ ap (taken xs) (append_assoc xs rest more) ∙ taken_all xs (rest ++ more)

-- An option that has a value.
record Has (A : Type 0) (f : A → Option (List ℕ)) (o : Option A) (r : List ℕ) : Type 0 where
  it : A
  is : o ≡ Some it
  goes : f it ≡ Some r

has : {A : Type 0} (f : A → Option (List ℕ)) (o : Option A) (r : List ℕ) → option_and_then f o ≡ Some r → Has A f o r
has f None r e = cc
has f (Some x) r e = record { it = x; is = refl; goes = e }

mapped : (xs : List ℕ) (o : Option (List ℕ)) (r : List ℕ) → option_map (λ rest. xs ++ rest) o ≡ Some r → (rest : List ℕ) × (o ≡ Some rest) × (r ≡ xs ++ rest)
mapped xs None r e = cc
mapped xs (Some x) r e = (x, refl, cc)

-- An effect on a stack is the same on a higher one.
module _ (gs : List Signature) (es : List Effect) where
  effect_above : (e : Effect) (st r more : List ℕ) → after_effect e st ≡ Some r → after_effect e (st ++ more) ≡ Some (r ++ more)
  effect_above e st r more h =
      let m = mapped e.gives (taken e.takes st) r h in
      ap (option_map (λ rest. e.gives ++ rest)) (taken_above e.takes st m.0 more m.1)
      ∙ ap Some (sym (append_assoc e.gives m.0 more)) ∙ ap (λ x. Some (x ++ more)) (sym m.2)

  action_above : (g : Signature) (st r more : List ℕ) → after_action g st ≡ Some r → after_action g (st ++ more) ≡ Some (r ++ more)
  action_above g st r more h = effect_above (record { takes = g.takes; gives = g.gives ∷ [] }) st r more h

  symbol_above : (s : ℕ) (st r more : List ℕ) → after_symbol es s st ≡ Some r → after_symbol es s (st ++ more) ≡ Some (r ++ more)
  symbol_above s st r more h = by (nat_lt s 256) h
    where
      by : (b : Bool) → cond b (Some st) (after_effect (effect_of es s) st) ≡ Some r → cond b (Some (st ++ more)) (after_effect (effect_of es s) (st ++ more)) ≡ Some (r ++ more)
      by true h = let e : st ≡ r = cc in ap (λ x. Some (x ++ more)) e
      by false h = effect_above (effect_of es s) st r more h

  mark_above : (m : ℕ) (st r more : List ℕ) → after_mark gs m st ≡ Some r → after_mark gs m (st ++ more) ≡ Some (r ++ more)
  mark_above zero st r more h = let e : st ≡ r = cc in ap (λ x. Some (x ++ more)) e
  mark_above (suc a) st r more h = action_above (signature_of gs a) st r more h

  body_above : (b st r more : List ℕ) → after_body es b st ≡ Some r → after_body es b (st ++ more) ≡ Some (r ++ more)
  body_above [] st r more h = let e : st ≡ r = cc in ap (λ x. Some (x ++ more)) e
  body_above (s ∷ ss) st r more h =
      let w = has (after_body es ss) (after_symbol es s st) r h in
      ap (option_and_then (after_body es ss)) (symbol_above s st w.it more w.is) ∙ body_above ss w.it r more w.goes

  body_append : (b ss st mid : List ℕ) → after_body es b st ≡ Some mid → after_body es (b ++ ss) st ≡ after_body es ss mid
  body_append [] ss st mid h = let e : st ≡ mid = cc in ap (after_body es ss) e
  body_append (s ∷ b) ss st mid h =
      let w = has (after_body es b) (after_symbol es s st) mid h in
      ap (option_and_then (after_body es (b ++ ss))) w.is ∙ body_append b ss w.it mid w.goes

  sorts_marked : (m i : ℕ) (ss : List Step) (st mid : List ℕ) → after_mark gs m st ≡ Some mid → sorts_after gs (marked m i ss) st ≡ sorts_after gs ss mid
  sorts_marked zero i ss st mid h = let e : st ≡ mid = cc in ap (sorts_after gs ss) e
  sorts_marked (suc a) i ss st mid h = ap (option_and_then (sorts_after gs ss)) h

same_of : (xs ys : List ℕ) → are_same xs ys ≡ true → xs ≡ ys
same_of [] [] h = refl
same_of [] (y ∷ ys) h = cc
same_of (x ∷ xs) [] h = cc
same_of (x ∷ xs) (y ∷ ys) h =
    let w = and_parts (eqb x y) (are_same xs ys) h in
    let a = eqb-true x y w.0 in let b = same_of xs ys w.1 in cc

stack_of : (xs : List ℕ) (o : Option (List ℕ)) → is_stack xs o ≡ true → o ≡ Some xs
stack_of xs None h = cc
stack_of xs (Some ys) h = ap Some (sym (same_of xs ys h))

module _ (t : Lists) (ll : IsLl t) (marks : List ℕ) (gs : List Signature) (es : List Effect) (sort : ℕ) (typed : is_typed t marks gs es sort ≡ true) where
  parts : (is_start_typed t es sort ≡ true) × (all_below (length t.heads) (is_production_typed t marks gs es) ≡ true)
  parts = and_parts (is_start_typed t es sort) (all_below (length t.heads) (is_production_typed t marks gs es)) typed

  production_typed : (p : ℕ) → p < length t.heads → let e = effect_of es (get_or t.heads p 0) in option_and_then (after_body es (body_of t p)) (after_mark gs (get_or marks p 0) e.takes) ≡ Some e.gives
  production_typed p l = stack_of _ _ (all_below_at (length t.heads) (is_production_typed t marks gs es) parts.1 p l)

  -- the symbols to come take the stack st to r, and so do the steps of what they derive
  goes : (ss ps ts : List ℕ) → Derives (grammar_of t) ss ps ts → (i : ℕ) (st r : List ℕ) → after_body es ss st ≡ Some r → sorts_after gs (steps_at (grammar_of t) marks i ss ps) st ≡ Some r
  goes _ _ _ done i st r h = h
  goes _ _ _ (token {k = k} {ss = ss} {ps = ps} {ts = ts} small d) i st r h =
      ap (λ x. sorts_after gs x st) (steps_token (grammar_of t) marks i k ss ps small)
      ∙ goes ss ps ts d (suc i) st r (ap (λ b. option_and_then (after_body es ss) (cond b (Some st) (after_effect (effect_of es k) st))) (sym (lt-ltb k 256 small)) ∙ h)
  goes _ _ _ (production {s = s} {ss = ss} {ts = ts} p ps inside is allowed d) i st r h =
      let big : 256 ≤ s = subst (λ x. 256 ≤ x) (sym is) (ll.decides.heads p inside) in
      let e = effect_of es s in
      let w = has (after_body es ss) (after_effect e st) r (ap (λ b. option_and_then (after_body es ss) (cond b (Some st) (after_effect (effect_of es s) st))) (sym (le-ltb s 256 big)) ∙ h) in
      let m = mapped e.gives (taken e.takes st) w.it w.is in
      let own : option_and_then (after_body es (body_of t p)) (after_mark gs (get_or marks p 0) e.takes) ≡ Some e.gives =
      subst (λ n. option_and_then (after_body es (body_of t p)) (after_mark gs (get_or marks p 0) (effect_of es n).takes) ≡ Some (effect_of es n).gives) (sym is) (production_typed p inside) in
      let v = has (after_body es (body_of t p)) (after_mark gs (get_or marks p 0) e.takes) e.gives own in
      let sts : st ≡ e.takes ++ m.0 = taken_is e.takes st m.0 m.1 in
      let first : after_mark gs (get_or marks p 0) st ≡ Some (v.it ++ m.0) = ap (after_mark gs (get_or marks p 0)) sts ∙ mark_above gs es (get_or marks p 0) e.takes v.it m.0 v.is in
      let second : after_body es (body_of t p) (v.it ++ m.0) ≡ Some (e.gives ++ m.0) = body_above gs es (body_of t p) v.it e.gives m.0 v.goes in
      let third : after_body es (body_of t p ++ ss) (v.it ++ m.0) ≡ Some r = body_append gs es (body_of t p) ss (v.it ++ m.0) (e.gives ++ m.0) second ∙ ap (after_body es ss) (sym m.2) ∙ w.goes in
      ap (λ x. sorts_after gs x st) (steps_production (grammar_of t) marks i s p ss ps big)
      ∙ sorts_marked gs es (get_or marks p 0) i (steps_at (grammar_of t) marks i ((grammar_of t).body p ++ ss) ps) st (v.it ++ m.0) first
      ∙ goes ((grammar_of t).body p ++ ss) ps ts d i (v.it ++ m.0) r third

  starts : after_body es (t.start ∷ []) [] ≡ Some (sort ∷ [])
  starts =
      let a = and_parts (nat_lt 255 t.start && are_same (effect_of es t.start).takes []) (are_same (effect_of es t.start).gives (sort ∷ [])) parts.0 in
      let b = and_parts (nat_lt 255 t.start) (are_same (effect_of es t.start).takes []) a.0 in
      let big : 256 ≤ t.start = (let l = ltb-true 255 t.start b.0 in omega arith) in
      ap (λ x. option_and_then (after_body es []) (cond x (Some []) (after_effect (effect_of es t.start) []))) (le-ltb t.start 256 big)
      ∙ ap (λ x. option_and_then (after_body es []) (option_map (λ rest. (effect_of es t.start).gives ++ rest) (taken x []))) (same_of (effect_of es t.start).takes [] b.1)
      ∙ ap Some (append-nil (effect_of es t.start).gives ∙ same_of (effect_of es t.start).gives (sort ∷ []) a.1)

  -- Each step of a text finds the values that it takes, and they leave one value.
  pub typed_steps : (ts ps : List ℕ) → Parses (grammar_of t) ts ps → sorts_after gs (steps_of marks (placed (grammar_of t) 0 (t.start ∷ []) ps)) [] ≡ Some (sort ∷ [])
  typed_steps ts ps d = goes (t.start ∷ []) ps ts d 0 [] (sort ∷ []) starts

-- What a step finds on the stack, and what is left to do.
pub record Finds (gs : List Signature) (s : Step) (ss : List Step) (st r : List ℕ) : Type 0 where
  pub rest : List ℕ
  pub is : st ≡ (signature_of gs s.action).takes ++ rest
  pub goes : sorts_after gs ss ((signature_of gs s.action).gives ∷ rest) ≡ Some r

pub next_step : (gs : List Signature) (s : Step) (ss : List Step) (st r : List ℕ) → sorts_after gs (s ∷ ss) st ≡ Some r → Finds gs s ss st r
next_step gs s ss st r h =
    let g = signature_of gs s.action in
    let w = has (sorts_after gs ss) (after_action g st) r h in
    let m = mapped (g.gives ∷ []) (taken g.takes st) w.it w.is in
    record { rest = m.0; is = taken_is g.takes st m.0 m.1; goes = ap (sorts_after gs ss) (sym m.2) ∙ w.goes }

pub sorts_after-append : (gs : List Signature) (ss us : List Step) (st : List ℕ) → sorts_after gs (ss ++ us) st ≡ option_and_then (sorts_after gs us) (sorts_after gs ss st)
sorts_after-append gs [] us st = refl
sorts_after-append gs (s ∷ ss) us st = by (after_action (signature_of gs s.action) st) (sorts_after-append gs ss us)
  where
    by : (o : Option (List ℕ)) → ((x : List ℕ) → sorts_after gs (ss ++ us) x ≡ option_and_then (sorts_after gs us) (sorts_after gs ss x)) →
        option_and_then (sorts_after gs (ss ++ us)) o ≡ option_and_then (sorts_after gs us) (option_and_then (sorts_after gs ss) o)
    by None h = refl
    by (Some x) h = h x
