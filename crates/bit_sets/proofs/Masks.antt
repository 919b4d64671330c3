-- Masks of bits, and tables of them.
use Rattle.std.proofs.Common.{◌≡◌, inl, inr, ℕ, zero, suc, ◌+◌, ◌%◌, ◌<◌, List, [], ◌∷◌, ◌++◌, length, take, get_or, set, Bool, true, false, eqb, refl, sym, ap, ◌∙◌, arith, get_or-set_same, get_or-set_other, max, min}
use Rattle.std.specs.Prelude.{not, ◌&&◌, ◌||◌, bit_and, bit_or, bit_xor}
use Rattle.std.specs.Int.{bit_at}
use Rattle.std.proofs.lemmas.Nat.Bits.{bit_at_and, bit_at_or, bit_at_xor, bit_at-lt, bit_at-zero}
use Rattle.std.proofs.lemmas.List.Folds.{list_any_more, list_any-append}
use Rattle.std.proofs.lemmas.Bool.{cases_Bool, eqb-false}
use Rattle.std.proofs.lemmas.Bool.Decides.{eqb_tells}
use Rattle.bit_sets.specs.declared.Bits.{Bits}
use Rattle.bit_sets.specs.Sets.{is_set, has, is_in, names, IsEmpty, Fills, Clears, TakesOut, IsCommon, IsWithout}

bits_or : (x y : ℕ) → x < 2 → y < 2 → eqb (max x y) 1 ≡ (eqb x 1 || eqb y 1)
bits_or zero zero a b = refl
bits_or zero (suc zero) a b = refl
bits_or zero (suc (suc y)) a b = absurd (omega arith)
bits_or (suc zero) zero a b = refl
bits_or (suc zero) (suc zero) a b = refl
bits_or (suc zero) (suc (suc y)) a b = absurd (omega arith)
bits_or (suc (suc x)) y a b = absurd (omega arith)

bits_and : (x y : ℕ) → x < 2 → y < 2 → eqb (min x y) 1 ≡ (eqb x 1 && eqb y 1)
bits_and zero zero a b = refl
bits_and zero (suc zero) a b = refl
bits_and zero (suc (suc y)) a b = absurd (omega arith)
bits_and (suc zero) zero a b = refl
bits_and (suc zero) (suc zero) a b = refl
bits_and (suc zero) (suc (suc y)) a b = absurd (omega arith)
bits_and (suc (suc x)) y a b = absurd (omega arith)

bits_lacking : (x y : ℕ) → x < 2 → y < 2 → eqb ((x + min x y) % 2) 1 ≡ (eqb x 1 && not (eqb y 1))
bits_lacking zero zero a b = refl
bits_lacking zero (suc zero) a b = refl
bits_lacking zero (suc (suc y)) a b = absurd (omega arith)
bits_lacking (suc zero) zero a b = refl
bits_lacking (suc zero) (suc zero) a b = refl
bits_lacking (suc zero) (suc (suc y)) a b = absurd (omega arith)
bits_lacking (suc (suc x)) y a b = absurd (omega arith)

pub set_or : (m n k : ℕ) → is_set (bit_or m n) k ≡ (is_set m k || is_set n k)
set_or m n k = ap (λ x. eqb x 1) (bit_at_or m n k) ∙ bits_or (bit_at m k) (bit_at n k) (bit_at-lt m k) (bit_at-lt n k)

pub set_and : (m n k : ℕ) → is_set (bit_and m n) k ≡ (is_set m k && is_set n k)
set_and m n k = ap (λ x. eqb x 1) (bit_at_and m n k) ∙ bits_and (bit_at m k) (bit_at n k) (bit_at-lt m k) (bit_at-lt n k)

pub set_none : (k : ℕ) → is_set 0 k ≡ false
set_none k = ap (λ x. eqb x 1) (bit_at-zero k)

or_false : (b : Bool) → (b || false) ≡ b
or_false true = refl
or_false false = refl

or_assoc : (a b c : Bool) → ((a || b) || c) ≡ (a || (b || c))
or_assoc true b c = refl
or_assoc false b c = refl

-- the mask of signal s has bit k more
here_is : (s g k mask : ℕ) → eqb s g ≡ true → (eqb s g && is_set mask k) ≡ is_set mask k
here_is s g k mask e = ap (λ t. t && is_set mask k) e

elsewhere : (s g k mask : ℕ) → eqb s g ≡ false → (eqb s g && is_set mask k) ≡ false
elsewhere s g k mask e = ap (λ t. t && is_set mask k) e

or_none : (a b : Bool) → (a || b) ≡ false → (a ≡ false) × (b ≡ false)
or_none true b e = cc
or_none false b e = (refl, e)

or_and : (a b c : Bool) → ((a || b) && c) ≡ ((a && c) || (b && c))
or_and true b true = refl
or_and true true false = refl
or_and true false false = refl
or_and false b c = refl

pub fill_more : (list : List Bits) (i : ℕ) (d : Bits) (old new : List ℕ) (b : Bits) (m : ℕ) → i < length list → b ≡ get_or list i d → b.signal < length new → m ≡ get_or new b.signal 0 → Fills (take i list) old new → Fills (take (i + 1) list) old (set new b.signal (bit_or m b.mask))
fill_more list i d old new b m lt is within at F =
    let s = b.signal in
    let v = bit_or m b.mask in
    record {
      bits = λ g k.
          let more : is_in (take (i + 1) list) g k ≡ (is_in (take i list) g k || has g k b) = list_any_more (has g k) list i d lt ∙ ap (λ x. is_in (take i list) g k || has g k x) (sym is) in
          elim (eqb_tells s g) [
            | inl e ↦
                let new_is : get_or (set new s v) g 0 ≡ v = ap (λ j. get_or (set new s v) j 0) (sym e.1) ∙ get_or-set_same new s v 0 within in
                let was : is_set m k ≡ (is_set (get_or old g 0) k || is_in (take i list) g k) = ap (λ x. is_set x k) (at ∙ ap (λ j. get_or new j 0) e.1) ∙ F.bits g k in
                ap (λ x. is_set x k) new_is ∙ set_or m b.mask k
                ∙ ap (λ x. x || is_set b.mask k) was
                ∙ or_assoc (is_set (get_or old g 0) k) (is_in (take i list) g k) (is_set b.mask k)
                ∙ ap (λ x. is_set (get_or old g 0) k || (is_in (take i list) g k || x)) (sym (here_is s g k b.mask e.0))
                ∙ ap (λ x. is_set (get_or old g 0) k || x) (sym more)
            | inr e ↦
                ap (λ x. is_set x k) (get_or-set_other new s g v 0 (λ q. e.1 (sym q))) ∙ F.bits g k
                ∙ ap (λ x. is_set (get_or old g 0) k || x) (sym (more ∙ ap (λ x. is_in (take i list) g k || x) (elsewhere s g k b.mask e.0) ∙ or_false (is_in (take i list) g k)))
          ];
      others = λ g h.
          let more = list_any_more (λ (x : Bits). eqb x.signal g) list i d lt ∙ ap (λ (x : Bits). names (take i list) g || eqb x.signal g) (sym is) in
          let (first, second) = or_none (names (take i list) g) (eqb s g) (sym more ∙ h) in
          get_or-set_other new s g v 0 (λ q. eqb-false s g second (sym q)) ∙ F.others g first;
    }

-- what is shared of one more mask
pub shared_more : (table : List ℕ) (list both : List Bits) (i : ℕ) (d b : Bits) (m : ℕ) → i < length list → b ≡ get_or list i d → m ≡ get_or table b.signal 0 → IsCommon table (take i list) both → IsCommon table (take (i + 1) list) (both ++ record { signal = b.signal; mask = bit_and b.mask m } ∷ [])
shared_more table list both i d b m lt is at S g k =
    let c : Bits = record { signal = b.signal; mask = bit_and b.mask m } in
    let t = is_set (get_or table g 0) k in
    let one : has g k c ≡ (has g k b && t) = elim (eqb_tells b.signal g) [
      | inl e ↦ here_is b.signal g k (bit_and b.mask m) e.0 ∙ set_and b.mask m k ∙ ap (λ x. is_set b.mask k && is_set x k) (at ∙ ap (λ j. get_or table j 0) e.1) ∙ ap (λ x. x && t) (sym (here_is b.signal g k b.mask e.0))
      | inr e ↦ elsewhere b.signal g k (bit_and b.mask m) e.0 ∙ ap (λ x. x && t) (sym (elsewhere b.signal g k b.mask e.0))
    ] in
    let more : is_in (take (i + 1) list) g k ≡ (is_in (take i list) g k || has g k b) = list_any_more (has g k) list i d lt ∙ ap (λ x. is_in (take i list) g k || has g k x) (sym is) in
    list_any-append (has g k) both (c ∷ []) ∙ ap (λ x. is_in both g k || x) (or_false (has g k c) ∙ one) ∙ ap (λ x. x || (has g k b && t)) (S g k)
    ∙ sym (ap (λ x. x && t) more ∙ or_and (is_in (take i list) g k) (has g k b) t)

pub set_lacking : (m n k : ℕ) → is_set (bit_xor m (bit_and m n)) k ≡ (is_set m k && not (is_set n k))
set_lacking m n k =
    ap (λ x. eqb x 1) (bit_at_xor m (bit_and m n) k ∙ ap (λ x. (bit_at m k + x) % 2) (bit_at_and m n k))
    ∙ bits_lacking (bit_at m k) (bit_at n k) (bit_at-lt m k) (bit_at-lt n k)

-- what is lacking of one more mask
pub lacking_more : (table : List ℕ) (list rest : List Bits) (i : ℕ) (d b : Bits) (m : ℕ) → i < length list → b ≡ get_or list i d → m ≡ get_or table b.signal 0 → IsWithout table (take i list) rest → IsWithout table (take (i + 1) list) (rest ++ record { signal = b.signal; mask = bit_xor b.mask (bit_and b.mask m) } ∷ [])
lacking_more table list rest i d b m lt is at S g k =
    let c : Bits = record { signal = b.signal; mask = bit_xor b.mask (bit_and b.mask m) } in
    let t = not (is_set (get_or table g 0) k) in
    let one : has g k c ≡ (has g k b && t) = elim (eqb_tells b.signal g) [
      | inl e ↦ here_is b.signal g k (bit_xor b.mask (bit_and b.mask m)) e.0 ∙ set_lacking b.mask m k ∙ ap (λ x. is_set b.mask k && not (is_set x k)) (at ∙ ap (λ j. get_or table j 0) e.1) ∙ ap (λ x. x && t) (sym (here_is b.signal g k b.mask e.0))
      | inr e ↦ elsewhere b.signal g k (bit_xor b.mask (bit_and b.mask m)) e.0 ∙ ap (λ x. x && t) (sym (elsewhere b.signal g k b.mask e.0))
    ] in
    let more : is_in (take (i + 1) list) g k ≡ (is_in (take i list) g k || has g k b) = list_any_more (has g k) list i d lt ∙ ap (λ x. is_in (take i list) g k || has g k x) (sym is) in
    list_any-append (has g k) rest (c ∷ []) ∙ ap (λ x. is_in rest g k || x) (or_false (has g k c) ∙ one) ∙ ap (λ x. x || (has g k b && t)) (S g k)
    ∙ sym (ap (λ x. x && t) more ∙ or_and (is_in (take i list) g k) (has g k b) t)

-- a table that was empty, filled and cleared
pub cleared : (list : List Bits) (old filled new : List ℕ) → IsEmpty old → Fills list old filled → Clears list filled new → IsEmpty new
cleared list old filled new E F C g = elim (cases_Bool (names list g)) [
  | inl t ↦ C.named g t
  | inr f ↦ C.others g f ∙ F.others g f ∙ E g
]

-- the bits of a table that was empty and is filled
pub filled_bits : (list : List Bits) (old new : List ℕ) (g k : ℕ) → IsEmpty old → Fills list old new → is_set (get_or new g 0) k ≡ is_in list g k
filled_bits list old new g k E F = F.bits g k ∙ ap (λ x. is_set x k || is_in list g k) (E g) ∙ ap (λ x. x || is_in list g k) (set_none k)

pub and_comm : (a b : Bool) → (a && b) ≡ (b && a)
and_comm true true = refl
and_comm true false = refl
and_comm false true = refl
and_comm false false = refl

two_out : (x a b : Bool) → ((x && not a) && not b) ≡ (x && not (a || b))
two_out true true b = refl
two_out true false b = refl
two_out false a b = refl

none_out : (x a : Bool) → (x && not a) ≡ (x && not (a || false))
none_out x true = refl
none_out x false = refl

pub take_out_more : (list : List Bits) (i : ℕ) (d : Bits) (old new : List ℕ) (b : Bits) (m : ℕ) → i < length list → b ≡ get_or list i d → b.signal < length new → m ≡ get_or new b.signal 0 → TakesOut (take i list) old new → TakesOut (take (i + 1) list) old (set new b.signal (bit_xor m (bit_and m b.mask)))
take_out_more list i d old new b m lt is within at F g k =
    let s = b.signal in
    let v = bit_xor m (bit_and m b.mask) in
    let o = is_set (get_or old g 0) k in
    let t = is_in (take i list) g k in
    let more : is_in (take (i + 1) list) g k ≡ (t || has g k b) = list_any_more (has g k) list i d lt ∙ ap (λ x. t || has g k x) (sym is) in
    elim (eqb_tells s g) [
      | inl e ↦
          let new_is : get_or (set new s v) g 0 ≡ v = ap (λ j. get_or (set new s v) j 0) (sym e.1) ∙ get_or-set_same new s v 0 within in
          let was : is_set m k ≡ (o && not t) = ap (λ x. is_set x k) (at ∙ ap (λ j. get_or new j 0) e.1) ∙ F g k in
          ap (λ x. is_set x k) new_is ∙ set_lacking m b.mask k
          ∙ ap (λ x. x && not (is_set b.mask k)) was
          ∙ two_out o t (is_set b.mask k)
          ∙ ap (λ x. o && not (t || x)) (sym (here_is s g k b.mask e.0))
          ∙ ap (λ x. o && not x) (sym more)
      | inr e ↦
          ap (λ x. is_set x k) (get_or-set_other new s g v 0 (λ q. e.1 (sym q))) ∙ F g k
          ∙ none_out o t
          ∙ ap (λ x. o && not (t || x)) (sym (elsewhere s g k b.mask e.0))
          ∙ ap (λ x. o && not x) (sym more)
    ]

none_taken : (x : Bool) → x ≡ (x && not false)
none_taken true = refl
none_taken false = refl

pub take_out_none : (old : List ℕ) → TakesOut [] old old
take_out_none old g k = none_taken (is_set (get_or old g 0) k)
