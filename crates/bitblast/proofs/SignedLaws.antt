-- Division of signed words by their sizes.
use Rattle.std.proofs.Common.{◌≡◌, ◌≢◌, ℕ, zero, suc, ◌+◌, ◌-◌, ◌*◌, ◌/◌, ◌%◌, ◌^◌, ◌<◌, ◌≤◌, Bool, true, false, not, List, length, get_or, refl, sym, ap, ◌∙◌, subst, arith}
use Rattle.std.specs.Prelude.{pos, neg_ℤ, nat_lt, int_div, int_rem, unsigned_abs, if◌then◌else◌}
use Rattle.std.proofs.Math.Nat.{mod-eq_of_lt}
use Rattle.std.proofs.lemmas.Bool.Decides.{nat_tests}
use Rattle.bits_core.specs.Word.{at_zero, modulo, read_signed, wrap}
use Rattle.bits_core.proofs.Laws.{abs_below, quotient_alike, quotient_plain, quotient_unlike, rem_down, remainder_plain, remainder_up, sign_is, signed_high, signed_low, wrap_negsuc}
use Rattle.gate_net.specs.declared.net.Edge.{Edge}
use Rattle.gate_net.specs.declared.net.Node.{Node}
use Rattle.gate_net.specs.Edge.{edge_value}
use Rattle.bitblast.specs.Circuit.{MakesEdge, MakesWord, differ, number_of}
use Rattle.bitblast.proofs.Numbers.{number_of-below}
use Rattle.bitblast.proofs.Growth.{grows_then, grows_within}
use Rattle.bitblast.proofs.SumLaws.{below_width}
use Rattle.bitblast.proofs.ShiftSteps.{top_high, top_low}

-- a word is in the upper half exactly where s says so
abbrev IsSign : ℕ → ℕ → Bool → Type 0
IsSign m x s = (s ≡ false → x + x < m) × (s ≡ true → m ≤ x + x)

sign_test : (m x : ℕ) (s : Bool) → IsSign m x s → nat_lt (x + x) m ≡ not s
sign_test m x true h = let l = h.1 refl in grind (arith, nat_tests)
sign_test m x false h = let l = h.0 refl in grind (arith, nat_tests)

size_law : (m x : ℕ) (s : Bool) → x < m → IsSign m x s → (if s then wrap m (neg_ℤ (pos x)) else x) ≡ unsigned_abs (read_signed m x)
size_law m zero true h f = let l = f.1 refl in absurd (omega arith)
size_law m (suc n) true h f =
    let lt : n < m = omega arith in
    let e : m - suc n ≡ suc (m - suc (suc n)) = omega arith in
    wrap_negsuc m n lt ∙ e ∙ sym (ap unsigned_abs (signed_high m (suc n) (f.1 refl)))
size_law m x false h f = sym (ap unsigned_abs (signed_low m x (f.0 refl)))

size_none : (m y : ℕ) → 0 < m → y ≡ 0 → unsigned_abs (read_signed m y) ≡ 0
size_none m y h e = ap (λ k. unsigned_abs (read_signed m k)) e ∙ ap unsigned_abs (signed_low m 0 (omega arith))

size_some : (m y : ℕ) (s : Bool) → y < m → IsSign m y s → y ≢ 0 → unsigned_abs (read_signed m y) ≢ 0
size_some m y true h f ne e =
    let l : suc (m - suc y) ≡ unsigned_abs (read_signed m y) = sym (ap unsigned_abs (signed_high m y (f.1 refl))) in
    omega arith
size_some m y false h f ne e =
    let l : y ≡ unsigned_abs (read_signed m y) = sym (ap unsigned_abs (signed_low m y (f.0 refl))) in
    ne (l ∙ e)

wrap_none : (m : ℕ) → 0 < m → wrap m (neg_ℤ (pos 0)) ≡ 0
wrap_none m h = mod-eq_of_lt h

at_zero_none : (y a b : ℕ) → y ≡ 0 → at_zero y a b ≡ a
at_zero_none y a b e = ap (λ k. at_zero k a b) e

unlike : (s t : Bool) → differ s t ≡ true → not s ≢ not t
unlike true true e f = cc
unlike true false e f = cc
unlike false true e f = cc
unlike false false e f = cc

alike : (s t : Bool) → differ s t ≡ false → s ≡ t
alike true true e = refl
alike true false e = cc
alike false true e = cc
alike false false e = refl

quotient_law : (m x y a b q : ℕ) (s t d : Bool) → x < m → y < m → IsSign m x s → IsSign m y t → d ≡ differ s t
    → a ≡ unsigned_abs (read_signed m x) → b ≡ unsigned_abs (read_signed m y) → q ≡ at_zero b 0 ((a / b) % m)
    → (if d then wrap m (neg_ℤ (pos q)) else q) ≡ at_zero y 0 (wrap m (int_div (read_signed m x) (read_signed m y)))
quotient_law m x zero a b q s t d h i f g k e j l =
    let p : 0 < m = i in
    let b0 : b ≡ 0 = j ∙ size_none m 0 p refl in
    let q0 : q ≡ 0 = l ∙ at_zero_none b 0 ((a / b) % m) b0 in
    zero_both d q0
  where
    zero_both : (d : Bool) → q ≡ 0 → (if d then wrap m (neg_ℤ (pos q)) else q) ≡ 0
    zero_both true e = ap (λ k. wrap m (neg_ℤ (pos k))) e ∙ wrap_none m i
    zero_both false e = e
quotient_law m x (suc n) a b q s t d h i f g k e j l =
    let ne : suc n ≢ 0 = λ z. cc in
    let b1 : b ≢ 0 = λ z. size_some m (suc n) t i g ne (sym j ∙ z) in
    let al : a < m = subst (λ u. u < m) (sym e) (abs_below m x h) in
    let q1 : q ≡ a / b = l ∙ sym (quotient_plain m a b al b1) in
    by_signs d k q1
  where
    by_signs : (d : Bool) → d ≡ differ s t → q ≡ a / b → (if d then wrap m (neg_ℤ (pos q)) else q) ≡ at_zero (suc n) 0 (wrap m (int_div (read_signed m x) (read_signed m (suc n))))
    by_signs true u v =
        quotient_unlike m x (suc n) a b (wrap m (neg_ℤ (pos q))) (not s) (not t) h i (λ z. cc) (sign_test m x s f) (sign_test m (suc n) t g) (unlike s t (sym u)) e j
        (ap (λ k. wrap m (neg_ℤ (pos k))) v)
    by_signs false u v =
        v ∙ quotient_alike m x (suc n) a b (not s) h i (λ z. cc) (sign_test m x s f) (sign_test m (suc n) t g ∙ ap not (sym (alike s t (sym u)))) e j

remainder_law : (m x y a b r : ℕ) (s t : Bool) → x < m → y < m → IsSign m x s → IsSign m y t
    → a ≡ unsigned_abs (read_signed m x) → b ≡ unsigned_abs (read_signed m y) → r ≡ at_zero b 0 ((a % b) % m)
    → (if s then wrap m (neg_ℤ (pos r)) else r) ≡ at_zero y 0 (wrap m (int_rem (read_signed m x) (read_signed m y)))
remainder_law m x zero a b r s t h i f g e j l =
    let b0 : b ≡ 0 = j ∙ size_none m 0 i refl in
    let r0 : r ≡ 0 = l ∙ at_zero_none b 0 ((a % b) % m) b0 in
    zero_both s r0
  where
    zero_both : (d : Bool) → r ≡ 0 → (if d then wrap m (neg_ℤ (pos r)) else r) ≡ 0
    zero_both true e = ap (λ k. wrap m (neg_ℤ (pos k))) e ∙ wrap_none m i
    zero_both false e = e
remainder_law m x (suc n) a b r true t h i f g e j l =
    let ne : suc n ≢ 0 = λ z. cc in
    let b1 : b ≢ 0 = λ z. size_some m (suc n) t i g ne (sym j ∙ z) in
    let al : a < m = subst (λ u. u < m) (sym e) (abs_below m x h) in
    let r1 : r ≡ a % b = l ∙ sym (remainder_plain m a b al b1) in
    let parts : a % b ≡ unsigned_abs (read_signed m x) % unsigned_abs (read_signed m (suc n)) = ap (λ k. k % b) e ∙ ap (λ k. unsigned_abs (read_signed m x) % k) j in
    ap (λ k. wrap m (neg_ℤ (pos k))) (r1 ∙ parts)
    ∙ sym (ap (wrap m) (rem_down (read_signed m x) (read_signed m (suc n)) (sign_is m x false (sign_test m x true f))))
remainder_law m x (suc n) a b r false t h i f g e j l =
    let ne : suc n ≢ 0 = λ z. cc in
    let b1 : b ≢ 0 = λ z. size_some m (suc n) t i g ne (sym j ∙ z) in
    let al : a < m = subst (λ u. u < m) (sym e) (abs_below m x h) in
    let r1 : r ≡ a % b = l ∙ sym (remainder_plain m a b al b1) in
    r1 ∙ remainder_up m x (suc n) a b h ne (sign_test m x false f) e j

pub size_word : (o m n : List Node) (xs ng gs es : List Edge) (e : Edge) → 0 < length xs → gs ≡ ng
    → MakesWord o m (9 * length xs) (length xs) (λ a. modulo (length xs) (neg_ℤ (pos (number_of a xs)))) ng
    → MakesWord m n (3 * length gs) (length gs) (λ a. if edge_value a (get_or xs (length xs - 1) e) then number_of a gs else number_of a xs) es
    → MakesWord o n (12 * length xs) (length xs) (λ a. unsigned_abs (read_signed (2 ^ length xs) (number_of a xs))) es
size_word o m n xs ng gs es e h i x y =
    let l : length gs ≡ length xs = ap length i ∙ x.bits in
    record {
      grows = grows_within o n (9 * length xs + 3 * length gs) _ (omega arith) (grows_then o m n _ _ x.grows y.grows);
      there = y.there;
      bits = y.bits ∙ l;
      value = λ a v.
          let s = edge_value a (get_or xs (length xs - 1) e) in
          y.value a v ∙ ap (λ u. if s then u else number_of a xs) (ap (number_of a) i ∙ x.value a (y.grows.values a v))
          ∙ size_law (2 ^ length xs) (number_of a xs) s (number_of-below a xs) (top_low a xs e h, top_high a xs e h);
    }

pub signed_quotient : (o i j k l n : List Node) (xs ys fs ft ss st zs zt es : List Edge) (d e p : Edge) → 0 < length xs → length xs ≡ length ys → ft ≡ fs → st ≡ ss → zt ≡ zs
    → MakesWord o i (12 * length xs) (length xs) (λ a. unsigned_abs (read_signed (2 ^ length xs) (number_of a xs))) fs
    → MakesWord i j (12 * length ys) (length ys) (λ a. unsigned_abs (read_signed (2 ^ length ys) (number_of a ys))) ss
    → MakesWord j k (13 * (length ft * length ft) + 2 * length ft) (length ft) (λ a. at_zero (number_of a st) 0 ((number_of a ft / number_of a st) % 2 ^ length ft)) zs
    → MakesEdge k l 3 (λ a. differ (edge_value a (get_or xs (length xs - 1) d)) (edge_value a (get_or ys (length ys - 1) e))) p
    → MakesWord l n (12 * length zt) (length zt) (λ a. if edge_value a p then modulo (length zt) (neg_ℤ (pos (number_of a zt))) else number_of a zt) es
    → MakesWord o n (13 * (length xs * length xs) + 41 * length xs) (length xs) (λ a. at_zero (number_of a ys) 0 (modulo (length xs) (int_div (read_signed (2 ^ length xs) (number_of a xs)) (read_signed (2 ^ length xs) (number_of a ys))))) es
signed_quotient o i j k l n xs ys fs ft ss st zs zt es d e p some w f g h x y z u v =
    let lf : length ft ≡ length xs = ap length f ∙ x.bits in
    let lz : length zt ≡ length xs = ap length h ∙ z.bits ∙ lf in
    let sq : length ft * length ft ≡ length xs * length xs = ap (λ q. q * length ft) lf ∙ ap (λ q. length xs * q) lf in
    let some' : 0 < length ys = omega arith in
    record {
      grows = grows_within o n (12 * length xs + 12 * length ys + (13 * (length ft * length ft) + 2 * length ft) + 3 + 12 * length zt) _ (omega arith)
          (grows_then o l n _ _ (grows_then o k l _ _ (grows_then o j k _ _ (grows_then o i j _ _ x.grows y.grows) z.grows) u.grows) v.grows);
      there = v.there;
      bits = v.bits ∙ lz;
      value = λ a q.
          let q4 = v.grows.values a q in
          let q3 = u.grows.values a q4 in
          let q2 = z.grows.values a q3 in
          let q1 = y.grows.values a q2 in
          let M = 2 ^ length xs in
          let B = number_of a ys in
          let yb : B < M = below_width a ys (length xs) (sym w) in
          let st' : number_of a st ≡ unsigned_abs (read_signed M B) = ap (number_of a) g ∙ y.value a q2 ∙ ap (λ t. unsigned_abs (read_signed (2 ^ t) B)) (sym w) in
          let ft' : number_of a ft ≡ unsigned_abs (read_signed M (number_of a xs)) = ap (number_of a) f ∙ x.value a q1 in
          let zq : number_of a zt ≡ at_zero (number_of a st) 0 ((number_of a ft / number_of a st) % M) =
          ap (number_of a) h ∙ z.value a q3 ∙ ap (λ t. at_zero (number_of a st) 0 ((number_of a ft / number_of a st) % 2 ^ t)) lf in
          v.value a q ∙ ap (λ t. if edge_value a p then modulo t (neg_ℤ (pos (number_of a zt))) else number_of a zt) lz
          ∙ quotient_law M (number_of a xs) B (number_of a ft) (number_of a st) (number_of a zt) (edge_value a (get_or xs (length xs - 1) d)) (edge_value a (get_or ys (length ys - 1) e)) (edge_value a p)
          (number_of-below a xs) yb (top_low a xs d some, top_high a xs d some)
          (λ t. subst (λ c. B + B < 2 ^ c) (sym w) (top_low a ys e some' t), λ t. subst (λ c. 2 ^ c ≤ B + B) (sym w) (top_high a ys e some' t))
          (u.value a q4) ft' st' zq;
    }

pub signed_remainder : (o i j k n : List Node) (xs ys fs ft ss st zs zt es : List Edge) (d : Edge) → 0 < length xs → length xs ≡ length ys → ft ≡ fs → st ≡ ss → zt ≡ zs
    → MakesWord o i (12 * length xs) (length xs) (λ a. unsigned_abs (read_signed (2 ^ length xs) (number_of a xs))) fs
    → MakesWord i j (12 * length ys) (length ys) (λ a. unsigned_abs (read_signed (2 ^ length ys) (number_of a ys))) ss
    → MakesWord j k (13 * (length ft * length ft) + 2 * length ft) (length ft) (λ a. at_zero (number_of a st) 0 ((number_of a ft % number_of a st) % 2 ^ length ft)) zs
    → MakesWord k n (12 * length zt) (length zt) (λ a. if edge_value a (get_or xs (length xs - 1) d) then modulo (length zt) (neg_ℤ (pos (number_of a zt))) else number_of a zt) es
    → MakesWord o n (13 * (length xs * length xs) + 38 * length xs) (length xs) (λ a. at_zero (number_of a ys) 0 (modulo (length xs) (int_rem (read_signed (2 ^ length xs) (number_of a xs)) (read_signed (2 ^ length xs) (number_of a ys))))) es
signed_remainder o i j k n xs ys fs ft ss st zs zt es d some w f g h x y z v =
    let lf : length ft ≡ length xs = ap length f ∙ x.bits in
    let lz : length zt ≡ length xs = ap length h ∙ z.bits ∙ lf in
    let sq : length ft * length ft ≡ length xs * length xs = ap (λ q. q * length ft) lf ∙ ap (λ q. length xs * q) lf in
    let some' : 0 < length ys = omega arith in
    record {
      grows = grows_within o n (12 * length xs + 12 * length ys + (13 * (length ft * length ft) + 2 * length ft) + 12 * length zt) _ (omega arith)
          (grows_then o k n _ _ (grows_then o j k _ _ (grows_then o i j _ _ x.grows y.grows) z.grows) v.grows);
      there = v.there;
      bits = v.bits ∙ lz;
      value = λ a q.
          let q3 = v.grows.values a q in
          let q2 = z.grows.values a q3 in
          let q1 = y.grows.values a q2 in
          let M = 2 ^ length xs in
          let B = number_of a ys in
          let yb : B < M = below_width a ys (length xs) (sym w) in
          let s = edge_value a (get_or xs (length xs - 1) d) in
          let st' : number_of a st ≡ unsigned_abs (read_signed M B) = ap (number_of a) g ∙ y.value a q2 ∙ ap (λ t. unsigned_abs (read_signed (2 ^ t) B)) (sym w) in
          let ft' : number_of a ft ≡ unsigned_abs (read_signed M (number_of a xs)) = ap (number_of a) f ∙ x.value a q1 in
          let zq : number_of a zt ≡ at_zero (number_of a st) 0 ((number_of a ft % number_of a st) % M) =
          ap (number_of a) h ∙ z.value a q3 ∙ ap (λ t. at_zero (number_of a st) 0 ((number_of a ft % number_of a st) % 2 ^ t)) lf in
          v.value a q ∙ ap (λ t. if s then modulo t (neg_ℤ (pos (number_of a zt))) else number_of a zt) lz
          ∙ remainder_law M (number_of a xs) B (number_of a ft) (number_of a st) (number_of a zt) s (edge_value a (get_or ys (length ys - 1) d))
          (number_of-below a xs) yb (top_low a xs d some, top_high a xs d some)
          (λ t. subst (λ c. B + B < 2 ^ c) (sym w) (top_low a ys d some' t), λ t. subst (λ c. 2 ^ c ≤ B + B) (sym w) (top_high a ys d some' t))
          ft' st' zq;
    }
