-- The terms of a select, one function after the other.
use Rattle.std.proofs.Common.{zero, suc, true, false, ℕ, ◌≡◌, ◌+◌, ◌-◌, ◌*◌, ◌/◌, ◌%◌, ◌^◌, ◌<◌, ◌≤◌, Bool, length, refl, sym, ap, ◌∙◌, subst, arith}
use Rattle.std.specs.Prelude.{pos, ◌-ℤ◌, ◌+ℤ◌, if◌then◌else◌, bit_and, bit_or, max}
use Rattle.std.proofs.lemmas.Int.{ints}
use Rattle.std.proofs.lemmas.Nat.{div_below, pow_pos}
use Rattle.std.proofs.Math.Nat.{mod-lt, mod-add-div', div-eq_of_lt, mod-eq_of_lt, div-le_self}
use Rattle.bits_core.specs.Word.{at_zero, Word, word, number, modulo, resized}
use Rattle.bits_core.specs.Ops.{width2, value2}
use Rattle.bits_core.specs.declared.op.Op2.TheVariants.{Add, ShrU}
use Rattle.bits_core.proofs.Laws.{pow_le, halves, signed_low}
use Rattle.bits_core.proofs.Bounds.{join_below}
use Rattle.word_eqs.specs.Gates.{gates2}
use Rattle.word_eqs.specs.Graph.{Graph, IsGraph, IsTyped, width_in}
use Rattle.word_eqs.proofs.Evals.{words_of_terms}
use Rattle.term_steps.specs.Adds.{Adds}
use Rattle.flat_tree.specs.Selects.{bits_read}
use Rattle.select_terms.specs.Shifted.{mixed, place_of}
use Rattle.term_steps.proofs.Adding.{below, chain, weaken, value_of}
use Rattle.select_terms.proofs.Places.{IsPlace, place_is, place_full, too_small, half_is}
use Rattle.select_terms.proofs.Bits.{mixed_is, all_out, all_above}

pub place_made : (g h i j : Graph) (index wide offset t m n b : ℕ) (s : Bool) (k : Word) → k ≡ word m (modulo m (pos (n % 2 ^ m) -ℤ pos (b % 2 ^ m))) →
    Adds g h m (λ v. resized m s (width_in g index) (v.term index).value) 0 1 wide → Adds h i k.width (λ v. k.value) 0 1 offset →
    Adds i j (width2 Add (width_in i wide)) (λ v. value2 Add (width_in i wide) (v.term wide).value (v.term offset).value) (gates2 Add (width_in i wide)) 1 t →
    Adds g j m (λ v. place_of m s (width_in g index) (v.term index).value n b) (10 * m) 3 t
place_made g h i j index wide offset t m n b s k is p q r =
    let w : width_in i wide ≡ m = q.typed.kept wide p.typed.there ∙ p.typed.width in
    let both = chain g h i m k.width 0 0 1 1 wide offset _ _ (λ v. k.value) p q (λ v e. refl) in
    let all = chain g i j k.width (width_in i wide) (0 + 0) (10 * width_in i wide) (1 + 1) 1 offset t _ _ (λ v. place_of m s (width_in g index) (v.term index).value n b) both r
    (λ v e.
    ap (λ w. ((v.term wide).value + (v.term offset).value) % 2 ^ w) w
    ∙ ap (λ x. (x + (v.term offset).value) % 2 ^ m) (value_of g h m 0 1 wide _ p v (q.grown v (r.grown v e)))
    ∙ ap (λ y. (resized m s (width_in g index) (v.term index).value + y) % 2 ^ m) (value_of h i k.width 0 1 offset _ q v (r.grown v e) ∙ ap (λ (x : Word). x.value) is)) in
    weaken g j (width_in i wide) m (0 + 0 + 10 * width_in i wide) (10 * m) (1 + 1 + 1) 3 t _ all w (omega (arith, w)) (omega arith)

-- a shift at a width that has room loses nothing
moved_is : (w n m a p : ℕ) → a < 2 ^ w → w + n ≤ m → (((a * 2 ^ n + 0 % 2 ^ n) % 2 ^ m) / 2 ^ p) % 2 ^ m % 2 ^ n ≡ a * 2 ^ n / 2 ^ p % 2 ^ n
moved_is w n m a p lt le =
    let z : 0 % 2 ^ n ≡ 0 = mod-eq_of_lt (pow_pos n) in
    let e : a * 2 ^ n + 0 % 2 ^ n ≡ a * 2 ^ n = omega (arith, z) in
    let b = join_below w n a 0 lt (pow_pos n) in
    let l = pow_le (w + n) m le in
    let small : a * 2 ^ n < 2 ^ m = omega arith in
    let d = div-le_self (a * 2 ^ n) (2 ^ p) in
    let small2 : a * 2 ^ n / 2 ^ p < 2 ^ m = omega arith in
    ap (λ x. x % 2 ^ m / 2 ^ p % 2 ^ m % 2 ^ n) e ∙ ap (λ x. x / 2 ^ p % 2 ^ m % 2 ^ n) (mod-eq_of_lt small) ∙ ap (λ x. x % 2 ^ n) (mod-eq_of_lt small2)

pub bits_made : (g h i j k l : Graph) (a place n m zeros padded wide moved t : ℕ) (z : Word) → IsGraph l → z ≡ word n (0 % 2 ^ n) → m ≡ width_in g place → a < length g.terms → place < length g.terms → width_in g a + n ≤ width_in g place →
    Adds g h z.width (λ v. z.value) 0 1 zeros → Adds h i (width_in h a + width_in h zeros) (λ v. (v.term a).value * 2 ^ width_in h zeros + (v.term zeros).value) 0 1 padded →
    Adds i j m (λ v. resized m false (width_in i padded) (v.term padded).value) 0 1 wide →
    Adds j k (width2 ShrU (width_in j wide)) (λ v. value2 ShrU (width_in j wide) (v.term wide).value (v.term place).value) (gates2 ShrU (width_in j wide)) 1 moved →
    Adds k l n (λ v. resized n false (width_in k moved) (v.term moved).value) 0 1 t →
    Adds g l n (λ v. (v.term a).value * 2 ^ n / 2 ^ (v.term place).value % 2 ^ n) (40 * width_in g place) 5 t
bits_made g h i j k l a place n m zeros padded wide moved t z proper is me al pl fits p q r s u =
    let wz : width_in h zeros ≡ n = p.typed.width ∙ ap (λ (x : Word). x.width) is in
    let ww : width_in j wide ≡ m = r.typed.width in
    let c1 = chain g h i z.width _ 0 0 1 1 zeros padded _ _ _ p q (λ v e. refl) in
    let c2 = chain g i j _ m (0 + 0) 0 (1 + 1) 1 padded wide _ _ _ c1 r (λ v e. refl) in
    let c3 = chain g j k m _ (0 + 0 + 0) (40 * width_in j wide) (1 + 1 + 1) 1 wide moved _ _ _ c2 s (λ v e. refl) in
    let c0 = chain g k l _ n (0 + 0 + 0 + 40 * width_in j wide) 0 (1 + 1 + 1 + 1) 1 moved t _ _ _ c3 u (λ v e. refl) in
    let c4 = chain g k l _ n (0 + 0 + 0 + 40 * width_in j wide) 0 (1 + 1 + 1 + 1) 1 moved t _ _ (λ v. (v.term a).value * 2 ^ n / 2 ^ (v.term place).value % 2 ^ n) c3 u
    (λ v e.
    let ek = u.grown v e in
    let ej = s.grown v ek in
    let ei = r.grown v ej in
    let eh = q.grown v ei in
    let x = (v.term a).value in
    let y = (v.term place).value in
    ap (λ x. x % 2 ^ n) (value_of j k _ _ 1 moved _ s v ek)
    ∙ ap (λ w. (v.term wide).value / 2 ^ y % 2 ^ w % 2 ^ n) ww
    ∙ ap (λ x. x / 2 ^ y % 2 ^ m % 2 ^ n) (value_of i j m 0 1 wide _ r v ej)
    ∙ ap (λ x. x % 2 ^ m / 2 ^ y % 2 ^ m % 2 ^ n) (value_of h i _ 0 1 padded _ q v ei ∙ ap (λ w. x * 2 ^ w + (v.term zeros).value) wz ∙ ap (λ b. x * 2 ^ n + b) (value_of g h z.width 0 1 zeros _ p v eh ∙ ap (λ (x : Word). x.value) is))
    ∙ moved_is (width_in g a) n m x y (below g l n t v a proper c0.typed e al) (subst (λ m. width_in g a + n ≤ m) (sym me) fits)) in
    weaken g l n n (0 + 0 + 0 + 40 * width_in j wide + 0) (40 * width_in g place) (1 + 1 + 1 + 1 + 1) 5 t _ c4 refl
    (let f : width_in j wide ≡ width_in g place = ww ∙ me in omega (arith, f)) (omega arith)

pub shifted_made : (g h i j k l : Graph) (signal index site place ones read mask t n w m b : ℕ) (s : Bool) (o : Word) → o ≡ word w (2 ^ w - 1 - 0 % 2 ^ w) → n ≡ width_in g site → w ≡ width_in g signal →
    Adds g h m (λ v. place_of m s (width_in g index) (v.term index).value n b) (10 * m) 3 place → Adds h i o.width (λ v. o.value) 0 1 ones →
    Adds i j n (λ v. (v.term signal).value * 2 ^ n / 2 ^ (v.term place).value % 2 ^ n) (40 * width_in i place) 5 read →
    Adds j k n (λ v. (v.term ones).value * 2 ^ n / 2 ^ (v.term place).value % 2 ^ n) (40 * width_in j place) 5 mask →
    Adds k l (width_in k read) (λ v. bit_or (v.term read).value (bit_and (v.term site).value (2 ^ width_in k read - 1 - (v.term mask).value))) (2 * width_in k read) 3 t →
    Adds g l (width_in g site) (λ v. mixed (width_in g site) (width_in g signal) (v.term signal).value (v.term site).value (place_of m s (width_in g index) (v.term index).value (width_in g site) b)) (90 * m + 2 * width_in g site) 17 t
shifted_made g h i j k l signal index site place ones read mask t n w m b s o os ne we p q r u f =
    let wr : width_in k read ≡ n = u.typed.kept read r.typed.there ∙ r.typed.width in
    let wi : width_in i place ≡ m = q.typed.kept place p.typed.there ∙ p.typed.width in
    let pi : place < length i.terms = let a = p.typed.there in let b = q.typed.longer in omega arith in
    let wj : width_in j place ≡ m = r.typed.kept place pi ∙ wi in
    let c1 = chain g h i m o.width (10 * m) 0 3 1 place ones _ _ _ p q (λ v e. refl) in
    let c2 = chain g i j o.width n (10 * m + 0) (40 * width_in i place) (3 + 1) 5 ones read _ _ _ c1 r (λ v e. refl) in
    let c3 = chain g j k n n (10 * m + 0 + 40 * width_in i place) (40 * width_in j place) (3 + 1 + 5) 5 read mask _ _ _ c2 u (λ v e. refl) in
    let c4 = chain g k l n _ (10 * m + 0 + 40 * width_in i place + 40 * width_in j place) (2 * width_in k read) (3 + 1 + 5 + 5) 3 mask t _ _ (λ v. mixed (width_in g site) (width_in g signal) (v.term signal).value (v.term site).value (place_of m s (width_in g index) (v.term index).value (width_in g site) b)) c3 f
    (λ v e.
    let ek = f.grown v e in
    let ej = u.grown v ek in
    let ei = r.grown v ej in
    let eh = q.grown v ei in
    let a = (v.term signal).value in
    let y = (v.term place).value in
    let z = (v.term site).value in
    let x = (v.term index).value in
    let op : (v.term ones).value ≡ 2 ^ w - 1 = value_of h i o.width 0 1 ones _ q v ei ∙ ap (λ (x : Word). x.value) os ∙ (let zero : 0 % 2 ^ w ≡ 0 = mod-eq_of_lt (pow_pos w) in omega (arith, zero)) in
    ap (λ x. bit_or x (bit_and z (2 ^ width_in k read - 1 - (v.term mask).value))) (value_of i j n _ 5 read _ r v ej)
    ∙ ap (λ w. bit_or (a * 2 ^ n / 2 ^ y % 2 ^ n) (bit_and z (2 ^ w - 1 - (v.term mask).value))) wr
    ∙ ap (λ x. bit_or (a * 2 ^ n / 2 ^ y % 2 ^ n) (bit_and z (2 ^ n - 1 - x))) (value_of j k n _ 5 mask _ u v ek ∙ ap (λ x. x * 2 ^ n / 2 ^ y % 2 ^ n) op)
    ∙ ap (mixed n w a z) (value_of g h m _ 3 place _ p v eh)
    ∙ ap (λ n. mixed n w a z (place_of m s (width_in g index) x n b)) ne
    ∙ ap (λ w. mixed (width_in g site) w a z (place_of m s (width_in g index) x (width_in g site) b)) we) in
    weaken g l (width_in k read) (width_in g site) _ (90 * m + 2 * width_in g site) _ 17 t _ c4 (wr ∙ ne) (omega (arith, wi, wj, wr, ne)) (omega arith)

-- where the place stands for what is meant, these are the bits that are read
pub bits_meant : (g l : Graph) (signal index site t m b c : ℕ) (s : Bool) → IsGraph l → signal < length g.terms → index < length g.terms → site < length g.terms →
    ((x : ℕ) → x < 2 ^ width_in g index → IsPlace (width_in g signal + width_in g site) ((number s (width_in g index) x -ℤ pos b) +ℤ pos (width_in g site)) (place_of m s (width_in g index) x (width_in g site) b)) →
    Adds g l (width_in g site) (λ v. mixed (width_in g site) (width_in g signal) (v.term signal).value (v.term site).value (place_of m s (width_in g index) (v.term index).value (width_in g site) b)) c 17 t →
    Adds g l (width_in g site) (λ v. bits_read (width_in g site) (width_in g signal) (v.term signal).value (v.term site).value (number s (width_in g index) (v.term index).value -ℤ pos b)) c 17 t
bits_meant g l signal index site t m b c s proper sl il tl placed a = record {
  grown = a.grown;
  value = λ v e.
      a.value v e
      ∙ ap (word (width_in g site)) (mixed_is (width_in g site) (width_in g signal) (v.term signal).value (v.term site).value (place_of m s (width_in g index) (v.term index).value (width_in g site) b) (number s (width_in g index) (v.term index).value -ℤ pos b)
      (below g l _ t v signal proper a.typed e sl) (below g l _ t v site proper a.typed e tl) (placed (v.term index).value (below g l _ t v index proper a.typed e il)));
  typed = a.typed;
  vars = a.vars;
  cost = a.cost;
  count = a.count;
}

pub reach_made : (g l : Graph) (signal index site t n w v m b : ℕ) (s : Bool) → IsGraph l → n ≡ width_in g site → w ≡ width_in g signal → v ≡ width_in g index → m ≡ max (v + 1) (w + n) →
    0 < w → 0 < n → 0 < v → signal < length g.terms → index < length g.terms → site < length g.terms → b < width_in g site + (if s then 2 ^ (width_in g index - 1) else 2 ^ width_in g index) →
    Adds g l (width_in g site) (λ v. mixed (width_in g site) (width_in g signal) (v.term signal).value (v.term site).value (place_of m s (width_in g index) (v.term index).value (width_in g site) b)) (90 * m + 2 * width_in g site) 17 t →
    Adds g l (width_in g site) (λ v. bits_read (width_in g site) (width_in g signal) (v.term signal).value (v.term site).value (number s (width_in g index) (v.term index).value -ℤ pos b)) (90 * max (width_in g index + 1) (width_in g signal + width_in g site) + 2 * width_in g site) 17 t
reach_made g l signal index site t n w v m b s proper ne we ve me w0 n0 v0 sl il tl reach a =
    let e : m ≡ max (width_in g index + 1) (width_in g signal + width_in g site) = omega (arith, me, ne, we, ve) in
    weaken g l _ (width_in g site) _ _ 17 17 t _
    (bits_meant g l signal index site t m b _ s proper sl il tl (λ x lt. place_is s m (width_in g index) (width_in g signal) (width_in g site) b x lt (omega (arith, v0, ve)) (omega (arith, e)) (omega (arith, w0, we)) (omega (arith, n0, ne)) (omega (arith, e)) reach) a)
    refl (omega (arith, e)) (omega arith)

pub typed_same : (g : Graph) (t : ℕ) → t < length g.terms → IsTyped g g (width_in g t) t
typed_same g t lt = record {
  there = lt;
  width = refl;
  longer = omega arith;
  kept = λ k l. refl;
}

-- where no index of the width names a bit, the site's number stands for all
pub site_kept : (g : Graph) (signal index site n c b : ℕ) (s : Bool) → IsGraph g → 0 < width_in g index → index < length g.terms → site < length g.terms → width_in g site ≡ n →
    n + (if s then 2 ^ (width_in g index - 1) else 2 ^ width_in g index) ≤ b →
    Adds g g n (λ v. bits_read n (width_in g signal) (v.term signal).value (v.term site).value (number s (width_in g index) (v.term index).value -ℤ pos b)) c 19 site
site_kept g signal index site n c b s proper v0 il tl w reach = record {
  grown = λ v r. r;
  value = λ v r.
      let i = words_of_terms v g proper r index il in
      let t = words_of_terms v g proper r site tl in
      let xv : (v.term index).value < 2 ^ width_in g index = subst (λ k. (v.term index).value < 2 ^ k) i.1 i.0.below in
      let sn : (v.term site).value < 2 ^ n = subst (λ k. (v.term site).value < 2 ^ k) (t.1 ∙ w) t.0.below in
      ap (λ k. word k (v.term site).value) (t.1 ∙ w)
      ∙ ap (word n) (sym (too_small s (width_in g index) n b (v.term index).value xv v0 reach (λ p e. all_out n (width_in g signal) (v.term signal).value (v.term site).value p (number s (width_in g index) (v.term index).value -ℤ pos b) sn e)));
  typed = subst (λ k. IsTyped g g k site) w (typed_same g site tl);
  vars = refl;
  cost = omega arith;
  count = omega arith;
}

one_of : (i top : ℕ) → top ≤ i → i < 2 * top → i / top % 2 ≡ 1
one_of i top le lt = on (i / top) refl
  where
    on : (q : ℕ) → i / top ≡ q → i / top % 2 ≡ 1
    on zero e =
        let p : 0 < top = omega arith in
        let s = mod-add-div' i top in
        let m = mod-lt i p in
        let z : i / top * top ≡ 0 = ap (λ k. k * top) e ∙ (let q : 0 * top ≡ 0 = omega arith in q) in
        absurd (omega arith)
    on (suc zero) e = ap (λ k. k % 2) e
    on (suc (suc q)) e =
        let p : 0 < top = omega arith in
        let d = div_below i top 2 p lt in
        absurd (omega arith)

-- an index without sign: its highest bit says that it names no bit
full_is : (m w n a site b i : ℕ) → i < 2 ^ m → 0 < m → site < 2 ^ n → 2 ^ (m - 1) + b + (w + n) ≤ 2 ^ m →
    at_zero (i / 2 ^ (m - 1) % 2) (bits_read n w a site (number true m i -ℤ pos b)) site ≡ bits_read n w a site (number false m i -ℤ pos b)
full_is m w n a site b i lt m0 sn room =
    let hf = half_is m m0 in
    halves (2 ^ m) i
    (λ low.
    let small : i < 2 ^ (m - 1) = omega arith in
    ap (λ q. at_zero (q % 2) (bits_read n w a site (number true m i -ℤ pos b)) site) (div-eq_of_lt small) ∙ ap (λ z. bits_read n w a site (z -ℤ pos b)) (signed_low (2 ^ m) i low))
    (λ high.
    let le : 2 ^ (m - 1) ≤ i = omega arith in
    let two : i < 2 * 2 ^ (m - 1) = omega arith in
    ap (λ q. at_zero q (bits_read n w a site (number true m i -ℤ pos b)) site) (one_of i (2 ^ (m - 1)) le two)
    ∙ sym (all_above n w a site (i - b) (pos i -ℤ pos b) sn (omega (arith, ints)) (omega arith)))

pub full_room : (m b k : ℕ) → m ≡ 128 → b < 2 ^ 33 → k ≤ 128 → 2 ^ (m - 1) + b + k ≤ 2 ^ m
full_room m b k e lb lk = subst (λ m. 2 ^ (m - 1) + b + k ≤ 2 ^ m) (sym e) (omega arith)

pub full_made : (g l : Graph) (signal index site t b : ℕ) → IsGraph l → width_in g index ≡ 128 → b < 2 ^ 33 → 0 < width_in g signal → width_in g signal + width_in g site ≤ 128 → signal < length g.terms → index < length g.terms → site < length g.terms →
    Adds g l (width_in g site) (λ v. mixed (width_in g site) (width_in g signal) (v.term signal).value (v.term site).value (place_of 128 true (width_in g index) (v.term index).value (width_in g site) b)) (90 * 128 + 2 * width_in g site) 17 t →
    Adds g l (width_in g site) (λ v. bits_read (width_in g site) (width_in g signal) (v.term signal).value (v.term site).value (number true (width_in g index) (v.term index).value -ℤ pos b)) (90 * 128 + 2 * width_in g site) 17 t
full_made g l signal index site t b proper e lb w0 fits sl il tl a =
    bits_meant g l signal index site t 128 b _ true proper sl il tl
    (λ x lt. subst (λ m. IsPlace (width_in g signal + width_in g site) ((number true (width_in g index) x -ℤ pos b) +ℤ pos (width_in g site)) (place_of m true (width_in g index) x (width_in g site) b)) e
    (place_full (width_in g index) (width_in g signal) (width_in g site) b x lt (omega (arith, e)) w0 (full_room (width_in g index) b (width_in g signal + width_in g site) e lb fits)))
    a

pub widest_made : (g h i j : Graph) (signal index site read far t b : ℕ) (s : Bool) → s ≡ false → IsGraph j → width_in g index ≡ 128 → b < 2 ^ 33 → width_in g signal + width_in g site ≤ 128 → signal < length g.terms → index < length g.terms → site < length g.terms →
    Adds g h (width_in g site) (λ v. bits_read (width_in g site) (width_in g signal) (v.term signal).value (v.term site).value (number true (width_in g index) (v.term index).value -ℤ pos b)) (90 * 128 + 2 * width_in g site) 17 read →
    Adds h i 1 (λ v. (v.term index).value / 2 ^ (width_in h index - 1) % 2) 0 1 far →
    Adds i j (width_in i site) (λ v. at_zero (v.term far).value (v.term read).value (v.term site).value) (3 * width_in i site) 1 t →
    Adds g j (width_in g site) (λ v. bits_read (width_in g site) (width_in g signal) (v.term signal).value (v.term site).value (number s (width_in g index) (v.term index).value -ℤ pos b)) (90 * 128 + 5 * width_in g site) 19 t
widest_made g h i j signal index site read far t b s unsigned proper e lb fits sl il tl p q r =
    let wi : width_in h index ≡ width_in g index = p.typed.kept index il in
    let ls : site < length h.terms = let l = p.typed.longer in omega arith in
    let ws : width_in i site ≡ width_in g site = q.typed.kept site ls ∙ p.typed.kept site tl in
    let c1 = chain g h i (width_in g site) 1 (90 * 128 + 2 * width_in g site) 0 17 1 read far _ _ _ p q (λ v x. refl) in
    let c0 = chain g i j 1 (width_in i site) (90 * 128 + 2 * width_in g site + 0) (3 * width_in i site) (17 + 1) 1 far t _ _ _ c1 r (λ v x. refl) in
    let c2 = chain g i j 1 (width_in i site) (90 * 128 + 2 * width_in g site + 0) (3 * width_in i site) (17 + 1) 1 far t _ _ (λ v. bits_read (width_in g site) (width_in g signal) (v.term signal).value (v.term site).value (number s (width_in g index) (v.term index).value -ℤ pos b)) c1 r
    (λ v x.
    let ei = r.grown v x in
    ap (λ k. at_zero k (v.term read).value (v.term site).value) (value_of h i 1 0 1 far _ q v ei ∙ ap (λ w. (v.term index).value / 2 ^ (w - 1) % 2) wi)
    ∙ ap (λ k. at_zero ((v.term index).value / 2 ^ (width_in g index - 1) % 2) k (v.term site).value) (value_of g h _ _ 17 read _ p v (q.grown v ei))
    ∙ full_is (width_in g index) (width_in g signal) (width_in g site) (v.term signal).value (v.term site).value b (v.term index).value (below g j _ t v index proper c0.typed x il) (omega (arith, e)) (below g j _ t v site proper c0.typed x tl)
    (full_room (width_in g index) b (width_in g signal + width_in g site) e lb fits)
    ∙ ap (λ s. bits_read (width_in g site) (width_in g signal) (v.term signal).value (v.term site).value (number s (width_in g index) (v.term index).value -ℤ pos b)) (sym unsigned)) in
    weaken g j (width_in i site) (width_in g site) _ (90 * 128 + 5 * width_in g site) _ 19 t _ c2 ws (omega (arith, ws)) (omega arith)
