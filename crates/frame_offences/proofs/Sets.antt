-- Sets of drivers, and the table of what those before a driver write.
use Rattle.std.proofs.Common.{◌≡◌, inl, inr, ℕ, zero, suc, ◌+◌, ◌<◌, ◌≤◌, List, [], ◌∷◌, length, take, get_or, replicate, Bool, true, false, eqb, refl, sym, ap, ◌∙◌, subst, arith}
use Rattle.std.specs.Prelude.{All, ◌&&◌, ◌||◌, Option, Some, None}
use Rattle.std.specs.Global.{Vec}
use Rattle.std.proofs.lemmas.List.Folds.{list_any_more, list_any_at}
use Rattle.std.proofs.lemmas.Bool.{cases_lt, cases_Bool, eq-eqb, eqb-true}
use Rattle.bit_sets.specs.declared.Bits.{Bits}
use Rattle.bit_sets.specs.Sets.{is_set, has, is_in, IsWithin, Fills}
use Rattle.bit_sets.proofs.Masks.{set_none}
use Rattle.frame_offences.specs.Drivers.{AreMeeting, IsMore, IsMeeting, set_of, any_has, IsFilled, SharesBefore, HasNoSecond, mask_has, IsLacking, LacksNone}
use Rattle.frame_offences.proofs.Bits.{clash, both_true}

pub or_false : (b : Bool) → (b || false) ≡ b
or_false true = refl
or_false false = refl

or_true : (a b : Bool) → (a || b) ≡ true → b ≡ false → a ≡ true
or_true true b e f = refl
or_true false b e f = absurd (clash b e f)

same_all : (z n g : ℕ) → get_or (replicate n z) g z ≡ z
same_all z zero g = refl
same_all z (suc n) zero = refl
same_all z (suc n) (suc g) = same_all z n g

-- a table of zeros has no bit
pub blank_bits : (n g k : ℕ) (table : List ℕ) → table ≡ replicate n 0 → is_set (get_or table g 0) k ≡ false
blank_bits n g k table e = ap (λ l. is_set (get_or l g 0) k) e ∙ ap (λ m. is_set m k) (same_all 0 n g) ∙ set_none k

pub blank_filled : (n : ℕ) (table : List ℕ) → table ≡ replicate n 0 → IsFilled [] table
blank_filled n table e g k = blank_bits n g k table e

pub set_here : (sets : List (Vec Bits)) (j : ℕ) (v : Vec Bits) → j < length sets → v ≡ get_or sets j v → set_of sets j ≡ v.items
set_here [] j v lt is = absurd (omega (arith, lt))
set_here (s ∷ rest) zero v lt is = ap (λ (x : Vec Bits). x.items) (sym is)
set_here (s ∷ rest) (suc j) v lt is = set_here rest j v (omega (arith, lt)) is

-- one of some sets whose signals are all there
pub within_set : (n : ℕ) (sets : List (Vec Bits)) (j : ℕ) (v : Vec Bits) (set : List Bits) → j < length sets → v ≡ get_or sets j v → set ≡ v.items → All (λ (s : Vec Bits). IsWithin n s.items) sets → IsWithin n set
within_set n sets j v set lt is e W = subst (IsWithin n) (sym (e ∙ ap (λ (s : Vec Bits). s.items) is)) (W j v lt)

-- one set more in the table
pub filled_more : (sets : List (Vec Bits)) (j : ℕ) (v : Vec Bits) (set : List Bits) (old new : List ℕ) → j < length sets → v ≡ get_or sets j v → set ≡ v.items → IsFilled (take j sets) old → Fills set old new → IsFilled (take (j + 1) sets) new
filled_more sets j v set old new lt is e F W g k =
    let has_bit : Vec Bits → Bool = λ s. is_in s.items g k in
    W.bits g k
    ∙ ap (λ b. b || is_in set g k) (F g k)
    ∙ ap (λ l. any_has (take j sets) g k || is_in l g k) (e ∙ ap (λ (s : Vec Bits). s.items) is)
    ∙ sym (list_any_more has_bit sets j v lt)

-- so far a set and a table have no bit in common
pub meets_more : (table : List ℕ) (list : List Bits) (i : ℕ) (d b : Bits) (m : ℕ) → i < length list → b ≡ get_or list i d → m ≡ get_or table b.signal 0 → AreMeeting m b.mask false → IsMeeting table (take i list) false → IsMeeting table (take (i + 1) list) false
meets_more table list i d b m lt is at M before g k x y =
    let more : is_in (take (i + 1) list) g k ≡ (is_in (take i list) g k || has g k b) = list_any_more (has g k) list i d lt ∙ ap (λ z. is_in (take i list) g k || has g k z) (sym is) in
    elim (cases_Bool (has g k b)) [
      | inl t ↦
          let h = both_true (eqb b.signal g) (is_set b.mask k) t in
          let same : b.signal ≡ g = eqb-true b.signal g h.0 in
          M k (ap (λ z. is_set z k) (at ∙ ap (λ j. get_or table j 0) same) ∙ x) h.1
      | inr f ↦ before g k x (or_true (is_in (take i list) g k) (has g k b) (sym more ∙ y) f)
    ]

-- they have one
pub meets_here : (table : List ℕ) (list : List Bits) (i : ℕ) (d b : Bits) (m : ℕ) → i < length list → b ≡ get_or list i d → m ≡ get_or table b.signal 0 → AreMeeting m b.mask true → IsMeeting table list true
meets_here table list i d b m lt is at M =
    let k = M.0 in
    let g = b.signal in
    let here : has g k b ≡ true = ap (λ t. t && is_set b.mask k) (eq-eqb g g refl) ∙ M.2 in
    (g, k, ap (λ z. is_set z k) (sym at) ∙ M.1, list_any_at (has g k) list i d lt (ap (has g k) (sym is) ∙ here))

-- the set meets what those before it have
pub shares_here : (sets : List (Vec Bits)) (j : ℕ) (v : Vec Bits) (set : List Bits) (table : List ℕ) → j < length sets → v ≡ get_or sets j v → set ≡ v.items → IsFilled (take j sets) table → IsMeeting table set true → SharesBefore sets j
shares_here sets j v set table lt is e F M = record {
  signal = M.0;
  bit = M.1;
  before = sym (F M.0 M.1) ∙ M.2;
  there = ap (λ l. is_in l M.0 M.1) (set_here sets j v lt is ∙ sym e) ∙ M.3;
}

-- it doesn't
pub no_second_more : (sets : List (Vec Bits)) (j : ℕ) (v : Vec Bits) (set : List Bits) (table : List ℕ) → j < length sets → v ≡ get_or sets j v → set ≡ v.items → IsFilled (take j sets) table → IsMeeting table set false → HasNoSecond sets j → HasNoSecond sets (j + 1)
no_second_more sets j v set table lt is e F M before i l S = elim (cases_lt i j) [
  | inl q ↦ before i q S
  | inr q ↦
      let same : i ≡ j = omega (arith, l, q) in
      let T = subst (SharesBefore sets) same S in
      M T.signal T.bit (F T.signal T.bit ∙ T.before) (ap (λ x. is_in x T.signal T.bit) (e ∙ sym (set_here sets j v lt is)) ∙ T.there)
]

mask_here : (wanted : List Bits) (j g k : ℕ) (d b : Bits) → j < length wanted → b ≡ get_or wanted j d → mask_has wanted j g k ≡ has g k b
mask_here [] j g k d b lt is = absurd (omega (arith, lt))
mask_here (x ∷ rest) zero g k d b lt is = ap (has g k) (sym is)
mask_here (x ∷ rest) (suc j) g k d b lt is = mask_here rest j g k d b (omega (arith, lt)) is

-- a mask has a bit that no set has
pub lacks_here : (wanted : List Bits) (sets : List (Vec Bits)) (j : ℕ) (d b : Bits) (m : ℕ) (table : List ℕ) → j < length wanted → b ≡ get_or wanted j d → m ≡ get_or table b.signal 0 → IsFilled sets table → IsMore b.mask m true → IsLacking wanted sets j
lacks_here wanted sets j d b m table lt is at F M =
    let k = M.0 in
    let g = b.signal in
    record {
      signal = g;
      bit = k;
      wants = mask_here wanted j g k d b lt is ∙ ap (λ t. t && is_set b.mask k) (eq-eqb g g refl) ∙ M.1;
      none = sym (F g k) ∙ ap (λ z. is_set z k) (sym at) ∙ M.2;
    }

-- it has none
pub lacks_more : (wanted : List Bits) (sets : List (Vec Bits)) (j : ℕ) (d b : Bits) (m : ℕ) (table : List ℕ) → j < length wanted → b ≡ get_or wanted j d → m ≡ get_or table b.signal 0 → IsFilled sets table → IsMore b.mask m false → LacksNone wanted sets j → LacksNone wanted sets (j + 1)
lacks_more wanted sets j d b m table lt is at F M before i l L = elim (cases_lt i j) [
  | inl q ↦ before i q L
  | inr q ↦
      let same : i ≡ j = omega (arith, l, q) in
      let T = subst (IsLacking wanted sets) same L in
      let h = both_true (eqb b.signal T.signal) (is_set b.mask T.bit) (sym (mask_here wanted j T.signal T.bit d b lt is) ∙ T.wants) in
      let there = ap (λ z. is_set z T.bit) (sym (at ∙ ap (λ g. get_or table g 0) (eqb-true b.signal T.signal h.0))) ∙ M T.bit h.1 in
      clash (any_has sets T.signal T.bit) (sym (F T.signal T.bit) ∙ there) T.none
]
