-- Which variables a chooser knows, and which one it picks.
use Rattle.std.proofs.Common.{◌≡◌, ℕ, ◌+◌, ◌<◌, ◌≤◌, ◌/◌, eqb, Bool, true, false, inl, inr, List, length, map, set, get_or, sym, ap, ◌∙◌, subst, arith}
use Rattle.std.proofs.lemmas.Bool.{cases_lt, cases_eq, both_ways, eqb-true, eq-eqb}
use Rattle.std.proofs.lemmas.List.{get_or-set_same, get_or-set_other, get_or-map, get_or_read, length-map, length-set}
use Rattle.std.proofs.lemmas.Nat.{shr_le}
use Rattle.clause_arena.specs.declared.Lit.{Lit}
use Rattle.clause_arena.specs.Clause.{Clause, has}
use Rattle.variable_ranks.specs.Best.{IsIn, IsBetter, IsBestOf}
use Rattle.variable_ranks.proofs.Winning.{in-below}
use Rattle.cdcl.specs.Pick.{IsFreeIn, IsPick}
use Rattle.cdcl.proofs.Back.{place-of, zero_lit}

-- each of the first n literals has a fact of its variable
abbrev pub AreHeard : (ℕ → Type 0) → Clause → ℕ → Type 0
AreHeard P lits n = (k : ℕ) → k < n → P (get_or lits k zero_lit).var

pub heard-all : (P : ℕ → Type 0) (lits : Clause) (n : ℕ) → length lits ≤ n → AreHeard P lits n → (l : Lit) → has lits l ≡ true → P l.var
heard-all P lits n b f l h =
    let w = place-of lits l h in
    subst (λ (m : Lit). P m.var) (w.2 zero_lit) (f w.0 (omega (arith, w.1, b)))

pub heard-more : (P Q : ℕ → Type 0) (lits : Clause) (n : ℕ) → ((v : ℕ) → P v → Q v) → Q (get_or lits n zero_lit).var → AreHeard P lits n → AreHeard Q lits (n + 1)
heard-more P Q lits n up q f k l =
    elim (cases_lt k n) [
      | inl m ↦ up (get_or lits k zero_lit).var (f k m)
      | inr m ↦ subst (λ (j : ℕ). Q (get_or lits j zero_lit).var) (omega (arith, l, m)) q
    ]

-- a variable is put into the set
pub put-in : (present more : List Bool) (v : ℕ) → more ≡ set present v true → v < length present → IsIn more v
put-in present more v e l = ap (λ (p : List Bool). get_or p v false) e ∙ get_or-set_same present v true false l

stays-at : (present : List Bool) (v w : ℕ) → IsIn present w → get_or (set present v true) w false ≡ true
stays-at present v w i =
    elim (cases_eq w v) [
      | inl q ↦ ap (λ (j : ℕ). get_or (set present v true) j false) q ∙ get_or-set_same present v true false (subst (λ (j : ℕ). j < length present) q (in-below present w i))
      | inr n ↦ get_or-set_other present v w true false n ∙ i
    ]

pub stays-in : (present more : List Bool) (v w : ℕ) → more ≡ set present v true → IsIn present w → IsIn more w
stays-in present more v w e i = ap (λ (p : List Bool). get_or p w false) e ∙ stays-at present v w i

taken-at : (present : List Bool) (values : List ℕ) (v : ℕ) → (get_or values v 0 ≡ 0 → ⊥) → (w : ℕ) → IsFreeIn values w → IsIn present w → get_or (set present v false) w false ≡ true
taken-at present values v valued w f i =
    elim (cases_eq w v) [
      | inl q ↦ absurd (valued (ap (λ (j : ℕ). get_or values j 0) (sym q) ∙ f.1))
      | inr n ↦ get_or-set_other present v w false false n ∙ i
    ]

-- a variable with a value is taken out of the set
pub taken-known : (present fewer : List Bool) (values : List ℕ) (v r : ℕ) → fewer ≡ set present v false → v < length values → r ≡ get_or values v r → eqb r 0 ≡ false
    → ((w : ℕ) → IsFreeIn values w → IsIn present w) → (w : ℕ) → IsFreeIn values w → IsIn fewer w
taken-known present fewer values v r e l er valued known w f =
    ap (λ (p : List Bool). get_or p w false) e
    ∙ taken-at present values v (λ z. both_ways _ valued (eq-eqb r 0 (get_or_read values v r l er 0 ∙ z))) w f (known w f)

-- the best variable of the set is free
pub picked : (numbers old : List ℕ) (present : List Bool) (values : List ℕ) (v r : ℕ) → numbers ≡ old → v < length values → r ≡ get_or values v r → eqb r 0 ≡ true → IsBestOf numbers present v
    → ((w : ℕ) → IsFreeIn values w → IsIn present w) → IsPick (IsBetter old) values v
picked numbers old present values v r e l er free best known =
    inl ((l, sym (get_or_read values v r l er 0) ∙ eqb-true r 0 free), λ w f n. subst (λ (ns : List ℕ). IsBetter ns v w) e (best.1 w (known w f) n))

-- the numbers stay below a bound
small-at : (xs : List ℕ) (v x b : ℕ) → x ≤ b → ((w : ℕ) → w < length xs → get_or xs w 0 ≤ b) → (w : ℕ) → w < length xs → get_or (set xs v x) w 0 ≤ b
small-at xs v x b h f w m =
    elim (cases_eq w v) [
      | inl q ↦ subst (λ (j : ℕ). get_or (set xs v x) j 0 ≤ b) (sym q) (subst (λ (n : ℕ). n ≤ b) (sym (get_or-set_same xs v x 0 (omega (arith, m, q)))) h)
      | inr n ↦ subst (λ (y : ℕ). y ≤ b) (sym (get_or-set_other xs v w x 0 n)) (f w m)
    ]

pub small-set : (xs ys : List ℕ) (v x b : ℕ) → ys ≡ set xs v x → x ≤ b → ((w : ℕ) → w < length xs → get_or xs w 0 ≤ b) → (w : ℕ) → w < length ys → get_or ys w 0 ≤ b
small-set xs ys v x b e h f w l = subst (λ (zs : List ℕ). get_or zs w 0 ≤ b) (sym e) (small-at xs v x b h f w (omega (arith, l, ap length e, length-set xs v x)))

pub small-divided : (xs ys : List ℕ) (b : ℕ) → ys ≡ map (λ (x : ℕ). x / 1099511627776) xs → ((w : ℕ) → w < length xs → get_or xs w 0 ≤ b) → (w : ℕ) → w < length ys → get_or ys w 0 ≤ b
small-divided xs ys b e f w l =
    let m : w < length xs = omega (arith, l, ap length e, length-map xs (λ (x : ℕ). x / 1099511627776)) in
    subst (λ (zs : List ℕ). get_or zs w 0 ≤ b) (sym e)
    (subst (λ (y : ℕ). y ≤ b) (sym (get_or-map (λ (x : ℕ). x / 1099511627776) xs w 0 0 m)) (omega (arith, shr_le (get_or xs w 0) 40, f w m)))
