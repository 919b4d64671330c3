-- A table that passes the test is LL(1).
use Rattle.std.proofs.Common.{◌≡◌, ◌≢◌, ℕ, suc, zero, ◌+◌, ◌-◌, ◌<◌, ◌≤◌, Bool, true, false, cond, ◌&&◌, ◌||◌, ◌⊎◌, inl, inr, List, [], ◌∷◌, length, get_or, nat_lt, refl, sym, ◌∙◌, ap, subst, arith}
use Rattle.std.proofs.Math.Dec.{leb, ltb, eqb}
use Rattle.std.proofs.lemmas.Bool.{and_parts, ltb-true, eqb-true, eq-eqb, lt-ltb, ltb-false, leb-true}
use Rattle.ll_parse.specs.Conditions.{CanBegin, ExpectsAfter, IsBodyLinked, IsPicked, Decides, IsUnbarred, IsFor, CanEnd, CanEndBelow, AllCanEnd, AllCanEndBelow, tail_of, Completes, steps_of, all_nullable, IsLinear, IsLl}
use Rattle.ll_parse.specs.Tables.{Lists, grammar_of, cell_of, follow_of, witness_of, rank_of, cost_of, nullable_of}
use Rattle.ll_parse.specs.Test.{all_below, only, row_of, followers, first_only, is_picked, has_followers, is_linked, is_none_of, has_witness, can_end, all_can_end, tail_can_end, all_can_end_below, body_of, pays, is_production_fit, is_body_inside, is_row_fit, are_rows_fit, are_ends_fit, is_ll}
use Rattle.ll_parse.proofs.Check.{all_below_at, only_at, only_but_at}

or_of : (a b : Bool) → (a || b) ≡ true → (a ≡ true) ⊎ (b ≡ true)
or_of true b h = inl refl
or_of false b h = inr h

-- a test and what it chooses
cond_of : (b c d : Bool) → cond b c d ≡ true → ((b ≡ true) × (c ≡ true)) ⊎ ((b ≡ false) × (d ≡ true))
cond_of true c d h = inl (refl, h)
cond_of false c d h = inr (refl, h)

module _ (t : Lists) where
  follows_of : (s a : ℕ) → follow_of t s a ≡ true → get_or (followers t s) a 0 ≢ 0
  follows_of s a h z = let l : 0 < get_or (followers t s) a 0 = ltb-true 0 (get_or (followers t s) a 0) h in absurd (omega arith)

  to_follow : (s a : ℕ) → get_or (followers t s) a 0 ≡ 1 → follow_of t s a ≡ true
  to_follow s a h = ap (λ n. nat_lt 0 n) h

  first_at : (v s : ℕ) (ys : List ℕ) → first_only t v s ys ≡ true → (a : ℕ) → CanBegin (grammar_of t) (cell_of t) (follow_of t) s a → get_or ys a 0 ≡ v
  first_at v s ys h a can = elim (cond_of (ltb s 256) (eqb (get_or ys s 0) v) (only v (row_of t s) ys) h) [
    | inl w ↦ elim can [
      | inl c ↦ subst (λ x. get_or ys x 0 ≡ v) (sym c.1) (eqb-true (get_or ys s 0) v w.1)
      | inr c ↦ let l = ltb-true s 256 w.0 in let big = c.0 in absurd (omega arith)
    ]
    | inr w ↦ elim can [
      | inl c ↦ let e = lt-ltb s 256 c.0 in absurd (let z : true ≡ false = sym e ∙ w.0 in cc)
      | inr c ↦ only_at v (row_of t s) ys w.1 a c.1
    ]
  ]

  picked_at : (n p : ℕ) (b : List ℕ) → is_picked t n p b ≡ true → IsPicked (grammar_of t) (cell_of t) (follow_of t) n p b
  picked_at n p [] h = λ a f allowed. only_but_at (suc p) (get_or t.not_before p 0) 0 (followers t n) (row_of t n) h a (follows_of n a f) (λ e. allowed (omega (arith, e)))
  picked_at n p (x ∷ xs) h = λ a can. first_at (suc p) x (row_of t n) h a can

  after_at : (n x : ℕ) (xs : List ℕ) → has_followers t n xs (followers t x) ≡ true → (a : ℕ) → ExpectsAfter (grammar_of t) (cell_of t) (follow_of t) n xs a → follow_of t x a ≡ true
  after_at n x [] h a f = to_follow x a (only_at 1 (followers t n) (followers t x) h a (follows_of n a f))
  after_at n x (y ∷ ys) h a can = to_follow x a (first_at 1 y (followers t x) h a can)

  links_at : (n : ℕ) (b : List ℕ) → is_linked t n b ≡ true → IsBodyLinked (grammar_of t) (cell_of t) (follow_of t) n b
  links_at n [] h = tt
  links_at n (x ∷ xs) h =
      let w = and_parts (ltb x 256 || has_followers t n xs (followers t x)) (is_linked t n xs) h in (
        λ big a f. elim (or_of (ltb x 256) (has_followers t n xs (followers t x)) w.0) [
          | inl e ↦ let l = ltb-true x 256 e in absurd (omega arith)
          | inr e ↦ after_at n x xs e a f
        ],
        links_at n xs w.1,
      )

  none_at : (a : ℕ) (bs : List ℕ) → is_none_of a bs ≡ true → (p : ℕ) → p < length bs → a ≢ get_or bs p 0
  none_at a [] h p l e = absurd (omega arith)
  none_at a (b ∷ bs) h p l e = elim (cond_of (eqb a b) false (is_none_of a bs) h) [
    | inl w ↦ absurd (let z : false ≡ true = w.1 in cc)
    | inr w ↦ none_next a b bs w.0 w.1 p l e (none_at a bs w.1)
  ]
    where
      none_next : (a b : ℕ) (bs : List ℕ) → eqb a b ≡ false → is_none_of a bs ≡ true → (p : ℕ) → p < length (b ∷ bs) → a ≡ get_or (b ∷ bs) p 0 → ((q : ℕ) → q < length bs → a ≢ get_or bs q 0) → ⊥
      none_next a b bs f n zero l e never = let z : true ≡ false = sym (eq-eqb a b e) ∙ f in cc
      none_next a b bs f n (suc q) l e never = never q (omega arith) e

  module _ (bars : length t.not_before ≡ length t.heads) where
    unbarred_at : (a : ℕ) → is_none_of a t.not_before ≡ true → IsUnbarred (grammar_of t) (witness_of t) (rank_of t) a
    unbarred_at a h = λ p l. none_at a t.not_before h p (omega arith)

    witness_at : (s : ℕ) → has_witness t s ≡ true → IsFor (grammar_of t) (witness_of t) (rank_of t) s (witness_of t s)
    witness_at s h =
        let w = and_parts (ltb (witness_of t s) (length t.heads)) (eqb s (get_or t.heads (witness_of t s) 0)) h in
        (ltb-true (witness_of t s) (length t.heads) w.0, eqb-true s (get_or t.heads (witness_of t s) 0) w.1)

    can_end_at : (s : ℕ) → can_end t s ≡ true → CanEnd (grammar_of t) (witness_of t) (rank_of t) s
    can_end_at s h = elim (cond_of (ltb s 256) (is_none_of s t.not_before) (has_witness t s) h) [
      | inl w ↦ inl (ltb-true s 256 w.0, unbarred_at s w.1)
      | inr w ↦ inr (not_below s w.0, witness_at s w.1)
    ]
      where
        not_below : (s : ℕ) → ltb s 256 ≡ false → 256 ≤ s
        not_below s h = ltb-false s 256 h

    all_can_end_at : (ss : List ℕ) → all_can_end t ss ≡ true → AllCanEnd (grammar_of t) (witness_of t) (rank_of t) ss
    all_can_end_at [] h = tt
    all_can_end_at (s ∷ ss) h = let w = and_parts (can_end t s) (all_can_end t ss) h in (can_end_at s w.0, all_can_end_at ss w.1)

    tail_at : (ss : List ℕ) → tail_can_end t ss ≡ true → AllCanEnd (grammar_of t) (witness_of t) (rank_of t) (tail_of (grammar_of t) (witness_of t) (rank_of t) ss)
    tail_at [] h = tt
    tail_at (s ∷ ss) h = all_can_end_at ss h

    below_good : (r s : ℕ) → CanEnd (grammar_of t) (witness_of t) (rank_of t) s → (ltb s 256 || ltb (rank_of t s) r) ≡ true → CanEndBelow (grammar_of t) (witness_of t) (rank_of t) r s
    below_good r s (inl g) h = inl g
    below_good r s (inr g) h = elim (or_of (ltb s 256) (ltb (rank_of t s) r) h) [
      | inl e ↦ let l = ltb-true s 256 e in let big = g.0 in absurd (omega arith)
      | inr e ↦ inr (g.0, g.1, ltb-true (rank_of t s) r e)
    ]

    all_can_end_below_at : (r : ℕ) (ss : List ℕ) → all_can_end_below t r ss ≡ true → AllCanEndBelow (grammar_of t) (witness_of t) (rank_of t) r ss
    all_can_end_below_at r [] h = tt
    all_can_end_below_at r (s ∷ ss) h =
        let w = and_parts (can_end t s && (ltb s 256 || ltb (rank_of t s) r)) (all_can_end_below t r ss) h in
        let v = and_parts (can_end t s) (ltb s 256 || ltb (rank_of t s) r) w.0 in
        (below_good r s (can_end_at s v.0) v.1, all_can_end_below_at r ss w.1)

  row_at : (s b : ℕ) (cs : List ℕ) → is_row_fit t s b cs ≡ true → (i p : ℕ) → get_or cs i 0 ≡ suc p → (p < length t.heads) × (s ≡ get_or t.heads p 0) × (b + i ≢ get_or t.not_before p 0)
  row_at s b [] h i p e = absurd (let z : 0 ≡ suc p = e in cc)
  row_at s b (zero ∷ cs) h zero p e = absurd (let z : 0 ≡ suc p = e in cc)
  row_at s b (zero ∷ cs) h (suc i) p e = let w = row_at s (suc b) cs h i p e in (w.0, w.1, λ f. w.2 (omega (arith, f)))
  row_at s b (suc q ∷ cs) h (suc i) p e =
      let v = and_parts (ltb q (length t.heads) && eqb s (get_or t.heads q 0) && (cond (eqb b (get_or t.not_before q 0)) false true)) (is_row_fit t s (suc b) cs) h in
      let w = row_at s (suc b) cs v.1 i p e in (w.0, w.1, λ f. w.2 (omega (arith, f)))
  row_at s b (suc q ∷ cs) h zero p e =
      let v = and_parts (ltb q (length t.heads) && eqb s (get_or t.heads q 0) && (cond (eqb b (get_or t.not_before q 0)) false true)) (is_row_fit t s (suc b) cs) h in
      let u = and_parts (ltb q (length t.heads) && eqb s (get_or t.heads q 0)) (cond (eqb b (get_or t.not_before q 0)) false true) v.0 in
      let x = and_parts (ltb q (length t.heads)) (eqb s (get_or t.heads q 0)) u.0 in
      let same : q ≡ p = same_suc q p e in
      let allowed : b ≢ get_or t.not_before q 0 = λ f. elim (cond_of (eqb b (get_or t.not_before q 0)) false true u.1) [
        | inl z ↦ let y : false ≡ true = z.1 in cc
        | inr z ↦ let y : true ≡ false = sym (eq-eqb b (get_or t.not_before q 0) f) ∙ z.0 in cc
      ] in (
        subst (λ n. n < length t.heads) same (ltb-true q (length t.heads) x.0),
        subst (λ n. s ≡ get_or t.heads n 0) same (eqb-true s (get_or t.heads q 0) x.1),
        λ f. subst (λ n. b ≢ get_or t.not_before n 0) same allowed (omega (arith, f)),
      )
    where
      same_suc : (q p : ℕ) → suc q ≡ suc p → q ≡ p
      same_suc q p e = omega (arith, e)

  rows_at : (s : ℕ) (rs : List (List ℕ)) → are_rows_fit t s rs ≡ true → (i a p : ℕ) → get_or (get_or rs i []) a 0 ≡ suc p → (p < length t.heads) × (s + i ≡ get_or t.heads p 0) × (a ≢ get_or t.not_before p 0)
  rows_at s [] h i a p e = absurd (let z : 0 ≡ suc p = e in cc)
  rows_at s (r ∷ rs) h zero a p e =
      let w = row_at s 0 r (and_parts (is_row_fit t s 0 r) (are_rows_fit t (suc s) rs) h).0 a p e in
      (w.0, omega (arith, w.1), λ f. w.2 (omega (arith, f)))
  rows_at s (r ∷ rs) h (suc i) a p e =
      let w = rows_at (suc s) rs (and_parts (is_row_fit t s 0 r) (are_rows_fit t (suc s) rs) h).1 i a p e in
      (w.0, omega (arith, w.1), w.2)

all_eight : (a b c d e f g i : Bool) → (a && b && c && d && e && f && g && i) ≡ true → (a ≡ true) × (b ≡ true) × (c ≡ true) × (d ≡ true) × (e ≡ true) × (f ≡ true) × (g ≡ true) × (i ≡ true)
all_eight a b c d e f g i h =
    let w7 = and_parts (a && b && c && d && e && f && g) i h in
    let w6 = and_parts (a && b && c && d && e && f) g w7.0 in
    let w5 = and_parts (a && b && c && d && e) f w6.0 in
    let w4 = and_parts (a && b && c && d) e w5.0 in
    let w3 = and_parts (a && b && c) d w4.0 in
    let w2 = and_parts (a && b) c w3.0 in
    let w1 = and_parts a b w2.0 in
    (w1.0, w1.1, w2.1, w3.1, w4.1, w5.1, w6.1, w7.1)

module _ (t : Lists) (h : is_ll t ≡ true) where
  parts : (are_ends_fit t ≡ true) × (are_rows_fit t 256 t.rows ≡ true) × (all_below (length t.heads) (is_body_inside t) ≡ true) × (all_below (length t.heads) (is_production_fit t) ≡ true)
  parts =
      let a = and_parts (are_ends_fit t && are_rows_fit t 256 t.rows && all_below (length t.heads) (is_body_inside t)) (all_below (length t.heads) (is_production_fit t)) h in
      let b = and_parts (are_ends_fit t && are_rows_fit t 256 t.rows) (all_below (length t.heads) (is_body_inside t)) a.0 in
      let c = and_parts (are_ends_fit t) (are_rows_fit t 256 t.rows) b.0 in (c.0, c.1, b.1, a.1)

  ends : (get_or (followers t t.start) 0 0 ≡ 1) × (is_none_of 0 t.not_before ≡ true) × (can_end t t.start ≡ true) × (length t.bodies ≡ suc (length t.heads)) × (length t.not_before ≡ length t.heads)
  ends =
      let e1 = eqb (get_or (followers t t.start) 0 0) 1 in let e2 = is_none_of 0 t.not_before in let e3 = can_end t t.start in
      let e4 = eqb (length t.bodies) (suc (length t.heads)) in let e5 = eqb (length t.not_before) (length t.heads) in
      let a = and_parts (e1 && e2 && e3 && e4) e5 parts.0 in
      let b = and_parts (e1 && e2 && e3) e4 a.0 in
      let c = and_parts (e1 && e2) e3 b.0 in
      let d = and_parts e1 e2 c.0 in
      (eqb-true (get_or (followers t t.start) 0 0) 1 d.0, d.1, c.1, eqb-true (length t.bodies) (suc (length t.heads)) b.1, eqb-true (length t.not_before) (length t.heads) a.1)

  production_at : (p : ℕ) → p < length t.heads → let n = get_or t.heads p 0 in let b = body_of t p in
      (ltb 255 n ≡ true) × (is_picked t n p b ≡ true) × (is_linked t n b ≡ true) × (tail_can_end t b ≡ true)
      × (cond (eqb p (witness_of t n)) (all_can_end_below t (rank_of t n) b) true ≡ true)
      × (ltb (steps_of (grammar_of t) (cost_of t) (nullable_of t) t.per_token b) (cost_of t n) ≡ true)
      × (cond (all_nullable (grammar_of t) (cost_of t) (nullable_of t) t.per_token b) (nullable_of t n) true ≡ true)
      × (pays t n b ≡ true)
  production_at p l = let n = get_or t.heads p 0 in let b = body_of t p in
      all_eight (ltb 255 n) (is_picked t n p b) (is_linked t n b) (tail_can_end t b) (cond (eqb p (witness_of t n)) (all_can_end_below t (rank_of t n) b) true)
      (ltb (steps_of (grammar_of t) (cost_of t) (nullable_of t) t.per_token b) (cost_of t n)) (cond (all_nullable (grammar_of t) (cost_of t) (nullable_of t) t.per_token b) (nullable_of t n) true)
      (pays t n b)
      (all_below_at (length t.heads) (is_production_fit t) parts.3 p l)

  picks : (s a p : ℕ) → 256 ≤ s → cell_of t s a ≡ suc p → (p < length t.heads) × (s ≡ get_or t.heads p 0) × (a ≢ get_or t.not_before p 0)
  picks s a p big c =
      let w = rows_at t 256 t.rows parts.1 (s - 256) a p c in (w.0, omega (arith, w.1), w.2)

  heads_at : (p : ℕ) → p < length t.heads → 256 ≤ get_or t.heads p 0
  heads_at p l = ltb-true 255 (get_or t.heads p 0) (production_at p l).0

  decides_of : Decides (grammar_of t) (cell_of t) (follow_of t)
  decides_of = record {
    heads = heads_at;
    picked = λ p l. picked_at t (get_or t.heads p 0) p (body_of t p) (production_at p l).1;
    links = λ p l. links_at t (get_or t.heads p 0) (body_of t p) (production_at p l).2;
    ends = to_follow t t.start 0 ends.0;
    picks = picks;
  }

  witness_of_at : (s p : ℕ) → p ≡ witness_of t s → s ≡ get_or t.heads p 0 → p < length t.heads → AllCanEndBelow (grammar_of t) (witness_of t) (rank_of t) (rank_of t s) (body_of t p)
  witness_of_at s p e is l =
      let n = get_or t.heads p 0 in
      let same : p ≡ witness_of t n = e ∙ ap (witness_of t) is in
      elim (cond_of (eqb p (witness_of t n)) (all_can_end_below t (rank_of t n) (body_of t p)) true (production_at p l).4) [
        | inl w ↦ subst (λ x. AllCanEndBelow (grammar_of t) (witness_of t) (rank_of t) (rank_of t x) (body_of t p)) (sym is) (all_can_end_below_at t ends.4 (rank_of t n) (body_of t p) w.1)
        | inr w ↦ absurd (let z : true ≡ false = sym (eq-eqb p (witness_of t n) same) ∙ w.0 in cc)
      ]

  completes_of : Completes (grammar_of t) (witness_of t) (rank_of t)
  completes_of = record {
    ends = unbarred_at t ends.4 0 ends.1;
    first = can_end_at t ends.4 t.start ends.2;
    tails = λ p l. tail_at t ends.4 (body_of t p) (production_at p l).3;
    witnesses = λ s big m. witness_of_at s (witness_of t s) refl m.1 m.0;
  }

  token_cost : (k : ℕ) → k < 256 → cost_of t k ≡ 0
  token_cost k small = ap (λ b. cond b 0 (get_or t.costs (k - 256) 0)) (lt-ltb k 256 small)

  token_null : (k : ℕ) → k < 256 → nullable_of t k ≡ false
  token_null k small = ap (λ b. cond b false (get_or t.nullable (k - 256) false)) (lt-ltb k 256 small)

  linear_of : IsLinear (grammar_of t) (cost_of t) (nullable_of t) t.per_token
  linear_of = record {
    costs = λ p l. ltb-true (steps_of (grammar_of t) (cost_of t) (nullable_of t) t.per_token (body_of t p)) (cost_of t (get_or t.heads p 0)) (production_at p l).5;
    nulls = λ p l all. elim (cond_of (all_nullable (grammar_of t) (cost_of t) (nullable_of t) t.per_token (body_of t p)) (nullable_of t (get_or t.heads p 0)) true (production_at p l).6) [
      | inl w ↦ w.1
      | inr w ↦ absurd (let z : true ≡ false = sym all ∙ w.0 in cc)
    ];
    pays = λ p l. leb-true _ _ (production_at p l).7;
    tokens = λ k small. (token_cost k small, token_null k small);
  }

  bounds_at : (p : ℕ) → p < length t.heads → (get_or t.bodies p 0 ≤ get_or t.bodies (p + 1) 0) × (get_or t.bodies (p + 1) 0 ≤ length t.symbols)
  bounds_at p l =
      let w = and_parts (leb (get_or t.bodies p 0) (get_or t.bodies (p + 1) 0)) (leb (get_or t.bodies (p + 1) 0) (length t.symbols)) (all_below_at (length t.heads) (is_body_inside t) parts.2 p l) in
      (leb-true (get_or t.bodies p 0) (get_or t.bodies (p + 1) 0) w.0, leb-true (get_or t.bodies (p + 1) 0) (length t.symbols) w.1)

  pub fits : IsLl t
  fits = record {
    decides = decides_of;
    completes = completes_of;
    linear = linear_of;
    count = omega (arith, ends.3);
    order = λ p l. (bounds_at p l).0;
    inside = λ p l. (bounds_at p l).1;
  }
