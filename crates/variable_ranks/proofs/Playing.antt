-- What a change leaves of the games that were played.
use Rattle.std.proofs.Common.{◌≡◌, ℕ, suc, zero, ◌+◌, ◌-◌, ◌*◌, ◌/◌, ◌<◌, ◌≤◌, ltb, Bool, true, false, inl, inr, List, length, set, get_or, Option, Some, None, cond, refl, sym, ap, ◌∙◌, subst, arith}
use Rattle.std.proofs.lemmas.Bool.{cases_lt, cases_eq, lt-ltb, le-ltb}
use Rattle.std.proofs.lemmas.List.{get_or-set_same, get_or-set_other, length-set, get_or_read}
use Rattle.variable_ranks.specs.Games.{winner, player, IsPlayed, ArePlayedBut, ArePlayedFrom, ArePlayed}

-- who comes from the place of a variable
abbrev pub own : List Bool → ℕ → Option ℕ
own present v = cond (get_or present v false) (Some v) None

pub player-game : (present : List Bool) (ws : List (Option ℕ)) (place : ℕ) → place < length ws → player present ws place ≡ get_or ws place None
player-game present ws place l = ap (λ (b : Bool). cond b (get_or ws place None) (own present (place - length ws))) (lt-ltb place (length ws) l)

pub player-own : (present : List Bool) (ws : List (Option ℕ)) (place : ℕ) → length ws ≤ place → player present ws place ≡ own present (place - length ws)
player-own present ws place l = ap (λ (b : Bool). cond b (get_or ws place None) (own present (place - length ws))) (le-ltb place (length ws) l)

-- another game has a new winner
pub player-set : (present : List Bool) (ws : List (Option ℕ)) (g : ℕ) (x : Option ℕ) (place : ℕ) → (place ≡ g → ⊥) → player present (set ws g x) place ≡ player present ws place
player-set present ws g x place n =
    ap (λ (m : ℕ). cond (ltb place m) (get_or (set ws g x) place None) (own present (place - m))) (length-set ws g x)
    ∙ ap (λ (y : Option ℕ). cond (ltb place (length ws)) y (own present (place - length ws))) (get_or-set_other ws g place x None n)

-- another variable came or went
pub player-mark : (present : List Bool) (ws : List (Option ℕ)) (v : ℕ) (b : Bool) (place : ℕ) → (place ≡ length ws + v → ⊥) → player (set present v b) ws place ≡ player present ws place
player-mark present ws v b place n =
    elim (cases_lt place (length ws)) [
      | inl l ↦ player-game (set present v b) ws place l ∙ sym (player-game present ws place l)
      | inr m ↦
          player-own (set present v b) ws place m
          ∙ ap (λ (c : Bool). cond c (Some (place - length ws)) None) (get_or-set_other present v (place - length ws) b false (λ e. n (omega (arith, e, m))))
          ∙ sym (player-own present ws place m)
    ]

-- a game whose winner and players stay
played-same : (numbers : List ℕ) (p q : List Bool) (ws us : List (Option ℕ)) (k : ℕ) → get_or us k None ≡ get_or ws k None
    → player q us (2 * k) ≡ player p ws (2 * k) → player q us (2 * k + 1) ≡ player p ws (2 * k + 1) → IsPlayed numbers p ws k → IsPlayed numbers q us k
played-same numbers p q ws us k a b c h =
    a ∙ h ∙ ap (λ (y : Option ℕ). winner numbers y (player p ws (2 * k + 1))) (sym b) ∙ ap (λ (y : Option ℕ). winner numbers (player q us (2 * k)) y) (sym c)

-- the game that is played anew
played-here : (numbers : List ℕ) (present : List Bool) (ws : List (Option ℕ)) (g : ℕ) (l r x : Option ℕ) → 0 < g → g < length ws
    → l ≡ player present ws (2 * g) → r ≡ player present ws (2 * g + 1) → x ≡ winner numbers l r → IsPlayed numbers present (set ws g x) g
played-here numbers present ws g l r x pos lt el er ex =
    get_or-set_same ws g x None lt ∙ ex
    ∙ ap (λ (y : Option ℕ). winner numbers y r) (el ∙ sym (player-set present ws g x (2 * g) (λ e. omega (arith, e, pos))))
    ∙ ap (λ (y : Option ℕ). winner numbers (player present (set ws g x) (2 * g)) y) (er ∙ sym (player-set present ws g x (2 * g + 1) (λ e. omega (arith, e, pos))))

pub replayed : (numbers : List ℕ) (present : List Bool) (ws : List (Option ℕ)) (g : ℕ) (l r x : Option ℕ) → 0 < g → g < length ws
    → l ≡ player present ws (2 * g) → r ≡ player present ws (2 * g + 1) → x ≡ winner numbers l r → ArePlayedBut numbers present ws g → ArePlayedBut numbers present (set ws g x) (g / 2)
replayed numbers present ws g l r x pos lt el er ex h k kp kl ne =
    let m : k < length ws = omega (arith, kl, length-set ws g x) in
    elim (cases_eq k g) [
      | inl e ↦ subst (λ (j : ℕ). IsPlayed numbers present (set ws g x) j) (sym e) (played-here numbers present ws g l r x pos lt el er ex)
      | inr o ↦
          played-same numbers present present ws (set ws g x) k (get_or-set_other ws g k x None o)
          (player-set present ws g x (2 * k) (λ e. ne (omega (arith, e)))) (player-set present ws g x (2 * k + 1) (λ e. ne (omega (arith, e)))) (h k kp m o)
    ]

-- the one game that may not have been played was played, or is none
pub played-all : (numbers : List ℕ) (present : List Bool) (ws : List (Option ℕ)) (g : ℕ) → ArePlayedBut numbers present ws g → (0 < g → IsPlayed numbers present ws g) → ArePlayed numbers present ws
played-all numbers present ws g h f k kp kl =
    elim (cases_eq k g) [
      | inl e ↦ subst (λ (j : ℕ). IsPlayed numbers present ws j) (sym e) (f (omega (arith, e, kp)))
      | inr n ↦ h k kp kl n
    ]

get_or-at : (ws : List (Option ℕ)) (g : ℕ) (y : Option ℕ) → g < length ws → y ≡ get_or ws g y → get_or ws g None ≡ y
get_or-at ws g y lt e = sym (get_or_read ws g y lt e None)

-- the game ends as before
pub played-still : (numbers : List ℕ) (present : List Bool) (ws : List (Option ℕ)) (g : ℕ) (l r x y : Option ℕ) → g < length ws
    → l ≡ player present ws (2 * g) → r ≡ player present ws (2 * g + 1) → x ≡ winner numbers l r → x ≡ y → y ≡ get_or ws g y → ArePlayedBut numbers present ws g → ArePlayed numbers present ws
played-still numbers present ws g l r x y lt el er ex e ey h =
    played-all numbers present ws g h (λ pos.
    get_or-at ws g y lt ey ∙ sym e ∙ ex ∙ ap (λ (z : Option ℕ). winner numbers z r) el ∙ ap (λ (z : Option ℕ). winner numbers (player present ws (2 * g)) z) er)

-- a variable came or went
pub played-mark : (numbers : List ℕ) (present : List Bool) (ws : List (Option ℕ)) (v : ℕ) (b : Bool) → ArePlayed numbers present ws → ArePlayedBut numbers (set present v b) ws ((length ws + v) / 2)
played-mark numbers present ws v b h k kp kl ne =
    played-same numbers present (set present v b) ws ws k refl (player-mark present ws v b (2 * k) (λ e. ne (omega (arith, e))))
    (player-mark present ws v b (2 * k + 1) (λ e. ne (omega (arith, e)))) (h k kp kl)

-- one game more, from the last one on
pub played-down : (numbers : List ℕ) (present : List Bool) (ws : List (Option ℕ)) (from g : ℕ) (l r x : Option ℕ) → 0 < g → g < length ws → from ≡ g + 1
    → l ≡ player present ws (2 * g) → r ≡ player present ws (2 * g + 1) → x ≡ winner numbers l r → ArePlayedFrom numbers present ws from → ArePlayedFrom numbers present (set ws g x) g
played-down numbers present ws from g l r x pos lt f el er ex h k kp kf kl =
    let m : k < length ws = omega (arith, kl, length-set ws g x) in
    elim (cases_lt g k) [
      | inl o ↦
          played-same numbers present present ws (set ws g x) k (get_or-set_other ws g k x None (λ e. omega (arith, e, o)))
          (player-set present ws g x (2 * k) (λ e. omega (arith, e, o, kp))) (player-set present ws g x (2 * k + 1) (λ e. omega (arith, e, o, kp))) (h k kp (omega (arith, o, f)) m)
      | inr o ↦
          subst (λ (j : ℕ). IsPlayed numbers present (set ws g x) j) (omega (arith, o, kf)) (played-here numbers present ws g l r x pos lt el er ex)
    ]

pub played-none : (numbers : List ℕ) (present : List Bool) (ws : List (Option ℕ)) (from : ℕ) → length ws ≤ from → ArePlayedFrom numbers present ws from
played-none numbers present ws from l k kp kf kl = absurd (omega (arith, l, kf, kl))

pub played-each : (numbers : List ℕ) (present : List Bool) (ws : List (Option ℕ)) (from : ℕ) → from ≤ 1 → ArePlayedFrom numbers present ws from → ArePlayed numbers present ws
played-each numbers present ws from l h k kp kl = h k kp (omega (arith, l, kp)) kl

-- the flag of a variable, as it was read
pub flag-read : (present : List Bool) (v : ℕ) (r b : Bool) → v < length present → r ≡ get_or present v r → r ≡ b → get_or present v false ≡ b
flag-read present v r b l e t = sym (get_or_read present v r l e false) ∙ t
