-- The arrays by variable, as literals become true and are taken back.
use Rattle.std.proofs.Common.{◌≡◌, ℕ, ◌+◌, ◌<◌, ◌≤◌, eqb, ltb, Bool, true, false, ◌||◌, inl, inr, List, [], ◌∷◌, ◌++◌, length, take, set, get_or, replicate, Option, Some, None, cond, refl, sym, ap, ◌∙◌, subst, arith, length-append}
use Rattle.std.specs.Option.{option_to_list}
use Rattle.std.proofs.lemmas.Bool.{cases_lt, cases_eq, and_parts, and_from, or_cases, or_left, or_right, both_ways, not-true, not_from_false, false_from_ne_true, ltb-true, eq-eqb, ne_eqb}
use Rattle.std.proofs.Math.Bool.{or-false}
use Rattle.std.proofs.lemmas.List.{get_or-set_same, get_or-set_other, get_or-replicate, map-append, get_or-take, length-set, length-take-le, length-replicate}
use Rattle.std.proofs.lemmas.List.Folds.{list_any_more, list_all-append}
use Rattle.clause_arena.specs.declared.Lit.{Lit}
use Rattle.clause_arena.specs.declared.ClauseId.{ClauseId}
use Rattle.clause_arena.specs.Clause.{Clause, lit, opposite, lit_eq, has, is_below, without}
use Rattle.clause_arena.proofs.Sets.{lit_eq-true, lit_eq-refl, list_all-at, list_all-from_has, has-without, has-append}
use Rattle.res_log.specs.Partial.{is_free, is_false}
use Rattle.cdcl.specs.Trail.{IsConsistent}
use Rattle.cdcl.specs.Arrays.{code_of, value_in, AreValues, ArePlaces, reasons_along}
use Rattle.cdcl.proofs.Back.{place-of, zero_lit, get_or-any}
use Rattle.cdcl.proofs.Looks.{has-at}
use Rattle.cdcl.proofs.Spread.{get_or-old, get_or-new, free-new}
use Rattle.cdcl.proofs.Gains.{apart}

-- one literal more
pub has-push : (p : List Lit) (l m : Lit) → has (p ++ l ∷ []) m ≡ (has p m || lit_eq m l)
has-push p l m = has-append p (l ∷ []) m ∙ ap (λ (b : Bool). has p m || b) (or-false (lit_eq m l))

sign_test : (s a b : Bool) → (a ≡ true → b ≡ true → ⊥) → eqb (cond a 1 (cond b 2 0)) (cond s 2 1) ≡ cond s b a
sign_test true true true f = absurd (f refl refl)
sign_test false true true f = absurd (f refl refl)
sign_test true true false f = refl
sign_test true false true f = refl
sign_test true false false f = refl
sign_test false true false f = refl
sign_test false false true f = refl
sign_test false false false f = refl

has_sign : (p : List Lit) (s : Bool) (v : ℕ) → cond s (has p (lit true v)) (has p (lit false v)) ≡ has p (lit s v)
has_sign p true v = refl
has_sign p false v = refl

-- the value says whether a literal is true
pub holds-is : (p : List Lit) (values : List ℕ) (l : Lit) → IsConsistent p → AreValues p values → l.var < length values → eqb (get_or values l.var 0) (code_of l) ≡ has p l
holds-is p values l h f b =
    let v = l.var in
    ap (λ (n : ℕ). eqb n (code_of l)) (f v b)
    ∙ sign_test l.negative (has p (lit false v)) (has p (lit true v)) (λ x y. apart p h (lit false v) x y)
    ∙ has_sign p l.negative v

pub holds-at : (p : List Lit) (values : List ℕ) (l : Lit) (r n : ℕ) → r ≡ get_or values l.var r → n ≡ code_of l → IsConsistent p → AreValues p values → l.var < length values → eqb r n ≡ has p l
holds-at p values l r n e g h f b =
    ap (λ (x : ℕ). eqb x n) (e ∙ get_or-any values l.var r 0 b) ∙ ap (eqb (get_or values l.var 0)) g ∙ holds-is p values l h f b

-- a new literal's values
new_code : (s : Bool) (v : ℕ) → code_of (lit s v) ≡ cond (lit_eq (lit false v) (lit s v)) 1 (cond (lit_eq (lit true v) (lit s v)) 2 0)
new_code true v = rw (eq-eqb v v refl) refl
new_code false v = rw (eq-eqb v v refl) refl

free-sign : (p : List Lit) (l : Lit) → is_free p l ≡ true → (s : Bool) → has p (lit s l.var) ≡ false
free-sign p l f s =
    false_from_ne_true _ (λ h.
    let w = place-of p (lit s l.var) h in
    free-new p l f w.0 zero_lit w.1 (ap (λ (y : Lit). y.var) (w.2 zero_lit)))

value-new : (p : List Lit) (l : Lit) → is_free p l ≡ true → code_of l ≡ value_in (p ++ l ∷ []) l.var
value-new p l f =
    let v = l.var in
    let a : has (p ++ l ∷ []) (lit false v) ≡ lit_eq (lit false v) l = has-push p l (lit false v) ∙ ap (λ (b : Bool). b || lit_eq (lit false v) l) (free-sign p l f false) in
    let c : has (p ++ l ∷ []) (lit true v) ≡ lit_eq (lit true v) l = has-push p l (lit true v) ∙ ap (λ (b : Bool). b || lit_eq (lit true v) l) (free-sign p l f true) in
    new_code l.negative v
    ∙ sym (ap (λ (b : Bool). cond b 1 (cond (has (p ++ l ∷ []) (lit true v)) 2 0)) a ∙ ap (λ (b : Bool). cond (lit_eq (lit false v) l) 1 (cond b 2 0)) c)

other-lit : (s : Bool) (v : ℕ) (l : Lit) → (v ≡ l.var → ⊥) → lit_eq (lit s v) l ≡ false
other-lit s v l n = false_from_ne_true _ (λ e. n (ap (λ (y : Lit). y.var) (lit_eq-true (lit s v) l e)))

has-other : (p : List Lit) (l : Lit) (s : Bool) (v : ℕ) → (v ≡ l.var → ⊥) → has (p ++ l ∷ []) (lit s v) ≡ has p (lit s v)
has-other p l s v n = has-push p l (lit s v) ∙ ap (λ (b : Bool). has p (lit s v) || b) (other-lit s v l n) ∙ or-false (has p (lit s v))

value-other : (p : List Lit) (l : Lit) (v : ℕ) → (v ≡ l.var → ⊥) → value_in (p ++ l ∷ []) v ≡ value_in p v
value-other p l v n =
    ap (λ (b : Bool). cond b 1 (cond (has (p ++ l ∷ []) (lit true v)) 2 0)) (has-other p l false v n)
    ∙ ap (λ (b : Bool). cond (has p (lit false v)) 1 (cond b 2 0)) (has-other p l true v n)

pub valued-push : (p : List Lit) (values : List ℕ) (l : Lit) → AreValues p values → is_free p l ≡ true → l.var < length values → AreValues (p ++ l ∷ []) (set values l.var (code_of l))
valued-push p values l f g b v h =
    elim (cases_eq v l.var) [
      | inl e ↦
          subst (λ (n : ℕ). get_or (set values l.var (code_of l)) n 0 ≡ value_in (p ++ l ∷ []) n) (sym e)
          (get_or-set_same values l.var (code_of l) 0 b ∙ value-new p l g)
      | inr n ↦
          let k : v < length values = omega (arith, h, length-set values l.var (code_of l)) in
          get_or-set_other values l.var v (code_of l) 0 n ∙ f v k ∙ sym (value-other p l v n)
    ]

pub placed-push : (p : List Lit) (places : List ℕ) (l : Lit) → ArePlaces p places → is_free p l ≡ true → l.var < length places → ArePlaces (p ++ l ∷ []) (set places l.var (length p))
placed-push p places l f g b k d h =
    elim (cases_lt k (length p)) [
      | inl m ↦
          let e : get_or (p ++ l ∷ []) k d ≡ get_or p k d = get_or-old p l k d m in
          subst (λ (x : Lit). get_or (set places l.var (length p)) x.var 0 ≡ k) (sym e)
          (get_or-set_other places l.var (get_or p k d).var (length p) 0 (λ q. free-new p l g k d m q) ∙ f k d m)
      | inr m ↦
          let e : k ≡ length p = omega (arith, h, length-append p (l ∷ [])) in
          let x : get_or (p ++ l ∷ []) k d ≡ l = ap (λ (n : ℕ). get_or (p ++ l ∷ []) n d) e ∙ get_or-new p l d in
          subst (λ (y : Lit). get_or (set places l.var (length p)) y.var 0 ≡ k) (sym x) (get_or-set_same places l.var (length p) 0 b ∙ sym e)
    ]

along-other : (rs : List (Option ClauseId)) (v : ℕ) (r : Option ClauseId) (p : List Lit) → ((m : Lit) → has p m ≡ true → m.var ≡ v → ⊥) → reasons_along (set rs v r) p ≡ reasons_along rs p
along-other rs v r [] f = refl
along-other rs v r (x ∷ xs) f =
    ap (λ (o : Option ClauseId). o ∷ reasons_along (set rs v r) xs) (get_or-set_other rs v x.var r None (f x (or_left _ _ (lit_eq-refl x))))
    ∙ ap (λ (os : List (Option ClauseId)). get_or rs x.var None ∷ os) (along-other rs v r xs (λ m h. f m (or_right (lit_eq m x) _ h)))

free-var-new : (p : List Lit) (l : Lit) → is_free p l ≡ true → (m : Lit) → has p m ≡ true → m.var ≡ l.var → ⊥
free-var-new p l f m h q =
    let w = place-of p m h in free-new p l f w.0 zero_lit w.1 (ap (λ (y : Lit). y.var) (w.2 zero_lit) ∙ q)

pub reasons-push : (p : List Lit) (rs : List (Option ClauseId)) (l : Lit) (r : Option ClauseId) → is_free p l ≡ true → l.var < length rs → reasons_along (set rs l.var r) (p ++ l ∷ []) ≡ reasons_along rs p ++ r ∷ []
reasons-push p rs l r f b =
    map-append (λ (x : Lit). get_or (set rs l.var r) x.var None) p (l ∷ [])
    ∙ ap (λ (os : List (Option ClauseId)). os ++ get_or (set rs l.var r) l.var None ∷ []) (along-other rs l.var r p (free-var-new p l f))
    ∙ ap (λ (o : Option ClauseId). reasons_along rs p ++ o ∷ []) (get_or-set_same rs l.var r None b)

pub below-push : (n : ℕ) (p : List Lit) (l : Lit) → is_below n p ≡ true → ltb l.var n ≡ true → is_below n (p ++ l ∷ []) ≡ true
below-push n p l h b = list_all-append (λ x. ltb x.var n) p (l ∷ []) ∙ and_from _ _ h (and_from _ _ b refl)

-- the newest literal is taken back
pub consistent-pop : (p : List Lit) (l : Lit) → IsConsistent (p ++ l ∷ []) → IsConsistent p
consistent-pop p l h i j d a b e =
    h i j d a (omega (arith, length-append p (l ∷ [])))
    (ap (λ (y : Lit). y.var) (get_or-old p l i d (omega arith)) ∙ e ∙ sym (ap (λ (y : Lit). y.var) (get_or-old p l j d b)))

pub below-pop : (n : ℕ) (p : List Lit) (l : Lit) → is_below n (p ++ l ∷ []) ≡ true → (is_below n p ≡ true) × (l.var < n)
below-pop n p l h =
    let w = and_parts _ _ (sym (list_all-append (λ x. ltb x.var n) p (l ∷ [])) ∙ h) in
    (w.0, ltb-true _ _ (and_parts (ltb l.var n) true w.1).0)

newest-new : (p : List Lit) (l : Lit) → IsConsistent (p ++ l ∷ []) → (m : Lit) → has p m ≡ true → m.var ≡ l.var → ⊥
newest-new p l h m a q =
    let w = place-of p m a in
    let n : length (p ++ l ∷ []) ≡ length p + 1 = length-append p (l ∷ []) in
    h w.0 (length p) zero_lit w.1 (omega arith)
    (ap (λ (y : Lit). y.var) (get_or-old p l w.0 zero_lit w.1 ∙ w.2 zero_lit) ∙ q ∙ sym (ap (λ (y : Lit). y.var) (get_or-new p l zero_lit)))

value-free : (a b : Bool) → a ≡ false → b ≡ false → ◌≡◌ {A = ℕ} 0 (cond a 1 (cond b 2 0))
value-free a b e f = rw (e, f) refl

pub valued-pop : (p : List Lit) (values : List ℕ) (l : Lit) → IsConsistent (p ++ l ∷ []) → AreValues (p ++ l ∷ []) values → l.var < length values → AreValues p (set values l.var 0)
valued-pop p values l c f b v h =
    elim (cases_eq v l.var) [
      | inl e ↦
          let gone : (s : Bool) → has p (lit s v) ≡ false = λ s. false_from_ne_true _ (λ a. newest-new p l c (lit s v) a e) in
          subst (λ (n : ℕ). get_or (set values l.var 0) n 0 ≡ value_in p v) (sym e)
          (get_or-set_same values l.var 0 0 b ∙ value-free (has p (lit false v)) (has p (lit true v)) (gone false) (gone true))
      | inr n ↦
          let k : v < length values = omega (arith, h, length-set values l.var 0) in
          get_or-set_other values l.var v 0 0 n ∙ f v k ∙ value-other p l v n
    ]

pub placed-pop : (p : List Lit) (places : List ℕ) (l : Lit) → ArePlaces (p ++ l ∷ []) places → ArePlaces p places
placed-pop p places l f k d h =
    subst (λ (x : Lit). get_or places x.var 0 ≡ k) (get_or-old p l k d h) (f k d (omega (arith, h, length-append p (l ∷ []))))

-- no literal is true
pub values-none : (n : ℕ) → AreValues [] (replicate n 0)
values-none n v h = get_or-replicate n v 0 0 (omega (arith, h, length-replicate {A = ℕ} n 0))

-- a true literal's place tells whether it was true at an earlier moment
pub placed-has : (p : List Lit) (places : List ℕ) (start : ℕ) (x : Lit) → ArePlaces p places → start ≤ length p → has p x ≡ true → get_or places x.var 0 < start → has (take start p) x ≡ true
placed-has p places start x f b h l =
    let w = place-of p x h in
    let e : get_or places x.var 0 ≡ w.0 = ap (λ (y : Lit). get_or places y.var 0) (sym (w.2 zero_lit)) ∙ f w.0 zero_lit w.1 in
    let n : length (take start p) ≡ start = length-take-le start p b in
    let k : w.0 < start = omega arith in
    ap (has (take start p)) (sym (get_or-take start p w.0 zero_lit k ∙ w.2 zero_lit)) ∙ has-at (take start p) w.0 zero_lit (omega arith)

pub has-placed : (p : List Lit) (places : List ℕ) (start : ℕ) (x : Lit) → ArePlaces p places → start ≤ length p → has (take start p) x ≡ true → get_or places x.var 0 < start
has-placed p places start x f b h =
    let w = place-of (take start p) x h in
    let n : length (take start p) ≡ start = length-take-le start p b in
    let k : w.0 < start = omega arith in
    let y : get_or p w.0 zero_lit ≡ x = sym (get_or-take start p w.0 zero_lit k) ∙ w.2 zero_lit in
    let e : get_or places x.var 0 ≡ w.0 = ap (λ (z : Lit). get_or places z.var 0) (sym y) ∙ f w.0 zero_lit (omega arith) in
    omega arith

pub popped : (p q : List Lit) (o : Option Lit) (l : Lit) → p ≡ q ++ option_to_list o → o ≡ Some l → p ≡ q ++ l ∷ []
popped p q o l e f = e ∙ ap (λ (x : Option Lit). q ++ option_to_list x) f

pub at-any : (xs : List ℕ) (i r : ℕ) → r ≡ get_or xs i r → i < length xs → r ≡ get_or xs i 0
at-any xs i r e b = e ∙ get_or-any xs i r 0 b

pub below-at : (n : ℕ) (c : Clause) (m : Lit) → is_below n c ≡ true → has c m ≡ true → m.var < n
below-at n c m h a = ltb-true _ _ (list_all-at (λ x. ltb x.var n) c h m a)

-- what holds of each literal so far and of the next one
pub one-more : (P : Lit → Type 0) (c : Clause) (i : ℕ) → i < length c → ((m : Lit) → has (take i c) m ≡ true → P m) → P (get_or c i zero_lit) → (m : Lit) → has (take (i + 1) c) m ≡ true → P m
one-more P c i l f h m a =
    elim (or_cases (has (take i c) m) (lit_eq m (get_or c i zero_lit)) (sym (list_any_more (lit_eq m) c i zero_lit l) ∙ a)) [
      | inl b ↦ f m b
      | inr b ↦ subst P (sym (lit_eq-true m (get_or c i zero_lit) b)) h
    ]

pub others-true : (q : List Lit) (v : ℕ) (c : Clause) → ((m : Lit) → has c m ≡ true → (m.var ≡ v → ⊥) → has q (opposite m) ≡ true) → is_false q (without v c) ≡ true
others-true q v c f =
    list_all-from_has (λ m. has q (opposite m)) _ (λ m k.
    let z = and_parts _ _ (sym (has-without v c m) ∙ k) in
    f m z.0 (λ e. both_ways _ (not-true _ z.1) (eq-eqb _ _ e)))

pub others-false : (q : List Lit) (v : ℕ) (c : Clause) (x : Lit) → has c x ≡ true → (x.var ≡ v → ⊥) → has q (opposite x) ≡ false → is_false q (without v c) ≡ false
others-false q v c x h n f =
    false_from_ne_true _ (λ t.
    both_ways _ f (list_all-at (λ m. has q (opposite m)) _ t x (has-without v c x ∙ and_from _ _ h (not_from_false _ (ne_eqb _ _ n)))))

-- a literal that is false, by its place
pub late-false : (p : List Lit) (places : List ℕ) (start r n : ℕ) (c : Clause) (x : Lit) (v : ℕ) → r ≡ get_or places x.var r → start ≤ r → length places ≡ n → is_below n c ≡ true → ArePlaces p places → start ≤ length p → has c x ≡ true → (x.var ≡ v → ⊥) → false ≡ is_false (take start p) (without v c)
late-false p places start r n c x v e l o b f s h d =
    let k : x.var < length places = omega (arith, below-at n c x b h) in
    let g = at-any places x.var r e k in
    sym (others-false (take start p) v c x h d (false_from_ne_true _ (λ t. absurd (omega (arith, has-placed p places start (opposite x) f s t, g)))))

pub early-false : (p : List Lit) (places : List ℕ) (start r n : ℕ) (c : Clause) (x : Lit) → r ≡ get_or places x.var r → r < start → length places ≡ n → is_below n c ≡ true → ArePlaces p places → start ≤ length p → is_false p c ≡ true → has c x ≡ true → has (take start p) (opposite x) ≡ true
early-false p places start r n c x e l o b f s w h =
    let k : x.var < length places = omega (arith, below-at n c x b h) in
    let g = at-any places x.var r e k in
    placed-has p places start (opposite x) f s (list_all-at (λ m. has p (opposite m)) c w x h) (omega arith)
