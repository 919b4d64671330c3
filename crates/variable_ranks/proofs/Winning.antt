-- Who wins in the end is the best variable of the set.
use Rattle.std.proofs.Common.{◌≡◌, ℕ, suc, zero, ◌+◌, ◌-◌, ◌*◌, ◌/◌, ◌<◌, ◌≤◌, ◌⊎◌, eqb, ltb, Bool, true, false, ◌||◌, ◌&&◌, inl, inr, List, length, set, get_or, Option, Some, None, cond, refl, sym, ap, ◌∙◌, subst, arith}
use Rattle.std.proofs.lemmas.Bool.{cases_lt, cases_order, cases_cond, cases_Bool, false≢true, both_ways, and_parts, and_from, or_cases, or_left, or_right, lt-ltb, ltb-true, eqb-true, eq-eqb}
use Rattle.std.proofs.lemmas.List.{get_or-set_other, get_or_past, set-set, set-get_or}
use Rattle.variable_ranks.specs.Games.{is_worse, winner, player, ArePlayed}
use Rattle.variable_ranks.specs.Best.{IsIn, IsBetter, IsBest}
use Rattle.variable_ranks.proofs.Playing.{own, player-game, player-own}

some-is : (x y : ℕ) → Some x ≡ Some y → x ≡ y
some-is x y h = cc

none-some : (x : ℕ) → None ≡ Some x → ⊥
none-some x h = cc

own-cases : (u v : ℕ) (b : Bool) → cond b (Some u) None ≡ Some v → (b ≡ true) × (u ≡ v)
own-cases u v true e = (refl, some-is u v e)
own-cases u v false e = absurd (none-some v e)

own-in : (present : List Bool) (u v : ℕ) → own present u ≡ Some v → IsIn present v
own-in present u v e =
    let w = own-cases u v (get_or present u false) e in
    subst (IsIn present) w.1 w.0

winner-is : (numbers : List ℕ) (a b : Option ℕ) (v : ℕ) → winner numbers a b ≡ Some v → (a ≡ Some v) ⊎ (b ≡ Some v)
winner-is numbers None b v e = inr e
winner-is numbers (Some x) None v e = inl e
winner-is numbers (Some x) (Some y) v e =
    elim (cases_cond (is_worse numbers x y) (Some y) (Some x) (Some v) (sym e)) [
      | inl a ↦ inr (sym a)
      | inr a ↦ inl (sym a)
    ]

-- who comes from a place is in the set
pub player-in : (numbers : List ℕ) (present : List Bool) (ws : List (Option ℕ)) → ArePlayed numbers present ws → (m place v : ℕ) → 0 < place → length ws ≤ place + m → player present ws place ≡ Some v → IsIn present v
player-in numbers present ws h zero place v p b e = own-in present (place - length ws) v (sym (player-own present ws place (omega (arith, b))) ∙ e)
player-in numbers present ws h (suc m) place v p b e =
    elim (cases_lt place (length ws)) [
      | inl lt ↦
          elim (winner-is numbers (player present ws (2 * place)) (player present ws (2 * place + 1)) v (sym (h place p lt) ∙ sym (player-game present ws place lt) ∙ e)) [
            | inl a ↦ player-in numbers present ws h m (2 * place) v (omega (arith, p)) (omega (arith, p, b)) a
            | inr a ↦ player-in numbers present ws h m (2 * place + 1) v (omega arith) (omega (arith, p, b)) a
          ]
      | inr le ↦ own-in present (place - length ws) v (sym (player-own present ws place le) ∙ e)
    ]

-- the first of two is the same, or better
abbrev AsGood : List ℕ → ℕ → ℕ → Type 0
AsGood numbers v w = (get_or numbers w 0 < get_or numbers v 0) ⊎ ((get_or numbers w 0 ≡ get_or numbers v 0) × (v ≤ w))

good-self : (numbers : List ℕ) (v : ℕ) → AsGood numbers v v
good-self numbers v = inr (refl, omega arith)

good-then : (numbers : List ℕ) (v y w : ℕ) → AsGood numbers v y → AsGood numbers y w → AsGood numbers v w
good-then numbers v y w a b =
    elim a [
      | inl l ↦
          elim b [
            | inl m ↦ inl (omega (arith, l, m))
            | inr q ↦ inl (omega (arith, l, q.0))
          ]
      | inr p ↦
          elim b [
            | inl m ↦ inl (omega (arith, p.0, m))
            | inr q ↦ inr (q.0 ∙ p.0, omega (arith, p.1, q.1))
          ]
    ]

good-better : (numbers : List ℕ) (v w : ℕ) → AsGood numbers v w → (w ≡ v → ⊥) → IsBetter numbers v w
good-better numbers v w a ne =
    elim a [
      | inl l ↦ inl l
      | inr p ↦
          elim (cases_lt v w) [
            | inl l ↦ inr (p.0, l)
            | inr m ↦ absurd (ne (omega (arith, m, p.1)))
          ]
    ]

worse-good : (numbers : List ℕ) (x y : ℕ) → is_worse numbers x y ≡ true → AsGood numbers y x
worse-good numbers x y b =
    elim (or_cases (ltb (get_or numbers x 0) (get_or numbers y 0)) (eqb (get_or numbers x 0) (get_or numbers y 0) && ltb y x) b) [
      | inl l ↦ inl (ltb-true _ _ l)
      | inr p ↦ let w = and_parts _ _ p in inr (eqb-true _ _ w.0, omega (arith, ltb-true _ _ w.1))
    ]

not-worse : (numbers : List ℕ) (x y : ℕ) → is_worse numbers x y ≡ false → AsGood numbers x y
not-worse numbers x y b =
    elim (cases_order (get_or numbers x 0) (get_or numbers y 0)) [
      | inl e ↦
          elim (cases_lt y x) [
            | inl l ↦ absurd (both_ways _ b (or_right (ltb (get_or numbers x 0) (get_or numbers y 0)) _ (and_from _ _ (eq-eqb _ _ e) (lt-ltb _ _ l))))
            | inr m ↦ inr (sym e, m)
          ]
      | inr o ↦
          elim o [
            | inl l ↦ absurd (both_ways _ b (or_left _ (eqb (get_or numbers x 0) (get_or numbers y 0) && ltb y x) (lt-ltb _ _ l)))
            | inr g ↦ inl g
          ]
    ]

-- who wins is as good as both
better-both : (numbers : List ℕ) (x y : ℕ) → (v : ℕ) × (winner numbers (Some x) (Some y) ≡ Some v) × AsGood numbers v x × AsGood numbers v y
better-both numbers x y =
    elim (cases_Bool (is_worse numbers x y)) [
      | inl b ↦ (y, ap (λ (c : Bool). cond c (Some y) (Some x)) b, worse-good numbers x y b, good-self numbers y)
      | inr b ↦ (x, ap (λ (c : Bool). cond c (Some y) (Some x)) b, good-self numbers x, not-worse numbers x y b)
    ]

-- what the first of two players beats, if anyone
abbrev Beats : List ℕ → Option ℕ → Option ℕ → Type 0
Beats numbers top other = (w : ℕ) → other ≡ Some w → (v : ℕ) × (top ≡ Some v) × AsGood numbers v w

beats-self : (numbers : List ℕ) (top : Option ℕ) → Beats numbers top top
beats-self numbers top w e = (w, e, good-self numbers w)

beats-then : (numbers : List ℕ) (a b c : Option ℕ) → Beats numbers a b → Beats numbers b c → Beats numbers a c
beats-then numbers a b c f g w e =
    let y = g w e in
    let x = f y.0 y.1 in
    (x.0, x.1, good-then numbers x.0 y.0 w x.2 y.2)

winner-left : (numbers : List ℕ) (a b : Option ℕ) → Beats numbers (winner numbers a b) a
winner-left numbers None b w e = absurd (none-some w e)
winner-left numbers (Some x) None w e = (w, e, good-self numbers w)
winner-left numbers (Some x) (Some y) w e =
    let t = better-both numbers x y in
    (t.0, t.1, subst (AsGood numbers t.0) (some-is x w e) t.2)

winner-right : (numbers : List ℕ) (a b : Option ℕ) → Beats numbers (winner numbers a b) b
winner-right numbers None b w e = (w, e, good-self numbers w)
winner-right numbers (Some x) None w e = absurd (none-some w e)
winner-right numbers (Some x) (Some y) w e =
    let t = better-both numbers x y in
    (t.0, t.1, subst (AsGood numbers t.0) (some-is y w e) t.3)

game-beats : (numbers : List ℕ) (present : List Bool) (ws : List (Option ℕ)) → ArePlayed numbers present ws → (g place : ℕ) → 0 < g → g < length ws → 2 * g ≤ place → place ≤ 2 * g + 1
    → Beats numbers (player present ws g) (player present ws place)
game-beats numbers present ws h g place p l a b =
    let won = sym (player-game present ws g l ∙ h g p l) in
    elim (cases_lt (2 * g) place) [
      | inl m ↦
          subst (λ (t : Option ℕ). Beats numbers t (player present ws place)) won
          (subst (λ (j : ℕ). Beats numbers (winner numbers (player present ws (2 * g)) (player present ws (2 * g + 1))) (player present ws j)) (omega (arith, m, b))
          (winner-right numbers (player present ws (2 * g)) (player present ws (2 * g + 1))))
      | inr m ↦
          subst (λ (t : Option ℕ). Beats numbers t (player present ws place)) won
          (subst (λ (j : ℕ). Beats numbers (winner numbers (player present ws (2 * g)) (player present ws (2 * g + 1))) (player present ws j)) (omega (arith, m, a))
          (winner-left numbers (player present ws (2 * g)) (player present ws (2 * g + 1))))
    ]

-- who wins in the end beats all
top-beats : (numbers : List ℕ) (present : List Bool) (ws : List (Option ℕ)) → ArePlayed numbers present ws → (m place : ℕ) → 0 < place → place ≤ m → place < 2 * length ws
    → Beats numbers (player present ws 1) (player present ws place)
top-beats numbers present ws h zero place p b l = absurd (omega (arith, p, b))
top-beats numbers present ws h (suc m) place p b l =
    elim (cases_lt place 2) [
      | inl one ↦
          let e : 1 ≡ place = omega (arith, one, p) in
          subst (λ (j : ℕ). Beats numbers (player present ws 1) (player present ws j)) e (beats-self numbers (player present ws 1))
      | inr two ↦
          let gp : 0 < place / 2 = omega (arith, two) in
          let gl : place / 2 < length ws = omega (arith, l) in
          beats-then numbers (player present ws 1) (player present ws (place / 2)) (player present ws place)
          (top-beats numbers present ws h m (place / 2) gp (omega (arith, b, two)) (omega (arith, gl)))
          (game-beats numbers present ws h (place / 2) place gp gl (omega arith) (omega arith))
    ]

pub in-below : (present : List Bool) (w : ℕ) → IsIn present w → w < length present
in-below present w i =
    elim (cases_lt w (length present)) [
      | inl l ↦ l
      | inr m ↦ absurd (both_ways _ (get_or_past present w false m) i)
    ]

beaten : (numbers : List ℕ) (present : List Bool) (ws : List (Option ℕ)) → length ws ≡ length present → ArePlayed numbers present ws → (w : ℕ) → IsIn present w → (v : ℕ) × (player present ws 1 ≡ Some v) × AsGood numbers v w
beaten numbers present ws n h w i =
    let l = in-below present w i in
    let place : length ws + w - length ws ≡ w = omega arith in
    top-beats numbers present ws h (length ws + w) (length ws + w) (omega (arith, l, n)) (omega arith) (omega (arith, l, n)) w
    (player-own present ws (length ws + w) (omega arith) ∙ ap (own present) place ∙ ap (λ (c : Bool). cond c (Some w) None) i)

pub best-is : (numbers : List ℕ) (present : List Bool) (ws : List (Option ℕ)) → length ws ≡ length present → ArePlayed numbers present ws → (r : Option ℕ) → r ≡ player present ws 1 → IsBest numbers present r
best-is numbers present ws n h None e = λ w i. let t = beaten numbers present ws n h w i in none-some t.0 (e ∙ t.1)
best-is numbers present ws n h (Some v) e = (
  player-in numbers present ws h (length ws) 1 v (omega arith) (omega arith) (sym e),
  λ w i ne.
      let t = beaten numbers present ws n h w i in
      good-better numbers v w (subst (λ (x : ℕ). AsGood numbers x w) (sym (some-is v t.0 (e ∙ t.1))) t.2) ne,
)

winner-number : (numbers : List ℕ) (v x : ℕ) (a b : Option ℕ) → (a ≡ Some v → ⊥) → (b ≡ Some v → ⊥) → winner (set numbers v x) a b ≡ winner numbers a b
winner-number numbers v x None b f g = refl
winner-number numbers v x (Some y) None f g = refl
winner-number numbers v x (Some y) (Some z) f g =
    ap (λ (n : ℕ). cond (ltb n (get_or (set numbers v x) z 0) || (eqb n (get_or (set numbers v x) z 0) && ltb z y)) (Some z) (Some y)) (get_or-set_other numbers v y x 0 (λ e. f (ap (λ (t : ℕ). Some t) e)))
    ∙ ap (λ (n : ℕ). cond (ltb (get_or numbers y 0) n || (eqb (get_or numbers y 0) n && ltb z y)) (Some z) (Some y)) (get_or-set_other numbers v z x 0 (λ e. g (ap (λ (t : ℕ). Some t) e)))

-- the number of a variable that isn't in the set changes no game
pub played-number : (numbers : List ℕ) (present : List Bool) (ws : List (Option ℕ)) (v x : ℕ) → get_or present v false ≡ false → ArePlayed numbers present ws → ArePlayed (set numbers v x) present ws
played-number numbers present ws v x out h k kp kl =
    h k kp kl
    ∙ sym (winner-number numbers v x (player present ws (2 * k)) (player present ws (2 * k + 1))
    (λ e. both_ways _ out (player-in numbers present ws h (length ws) (2 * k) v (omega (arith, kp)) (omega arith) e))
    (λ e. both_ways _ out (player-in numbers present ws h (length ws) (2 * k + 1) v (omega arith) (omega arith) e)))

-- a variable of the set that is taken out and put back
pub back-in : (present : List Bool) (v : ℕ) → get_or present v false ≡ true → set (set present v false) v true ≡ present
back-in present v e = set-set present v false true ∙ ap (λ (b : Bool). set present v b) (sym e) ∙ set-get_or present v false
