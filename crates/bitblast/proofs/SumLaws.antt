-- Sums, differences and comparisons of words, by the carry of an adder.
use Rattle.std.proofs.Common.{◌≡◌, ℕ, ◌+◌, ◌-◌, ◌*◌, ◌%◌, ◌^◌, ◌<◌, ◌≤◌, Bool, true, false, not, List, [], ◌∷◌, ◌++◌, length, length-append, take, get_or, replicate, refl, sym, ap, ◌∙◌, subst, arith}
use Rattle.std.specs.Prelude.{pos, ◌-ℤ◌, neg_ℤ, int_lt}
use Rattle.std.proofs.Math.Nat.{add-mul-mod_self_left, mod-eq_of_lt}
use Rattle.std.proofs.lemmas.Nat.{pow_pos}
use Rattle.std.proofs.lemmas.Int.{ints}
use Rattle.std.proofs.Math.Seq.{length-take-le}
use Rattle.std.proofs.lemmas.List.{length-replicate}
use Rattle.bits_core.specs.Word.{bit, modulo, read_signed}
use Rattle.bits_core.specs.Ops.{less}
use Rattle.bits_core.proofs.Laws.{signed_low, signed_high}
use Rattle.bits_core.proofs.Signs.{wrap_is}
use Rattle.gate_net.specs.declared.net.Edge.{Edge}
use Rattle.gate_net.specs.declared.net.Node.{Node}
use Rattle.gate_net.specs.Edge.{edge_value}
use Rattle.gate_net.specs.Net.{IsValuation}
use Rattle.bitblast.specs.Circuit.{MakesEdge, MakesSum, MakesWord, number_of}
use Rattle.bitblast.proofs.Numbers.{number_of-below, number_of-push, number_of-top, number_of-zeros, twice_pow}

pub sum_mod : (m n c t : ℕ) → n < m → n + m * c ≡ t → n ≡ t % m
sum_mod m n c t h e = sym (ap (λ k. k % m) (sym e) ∙ add-mul-mod_self_left n m c ∙ mod-eq_of_lt h)

pub below_width : (a : ℕ → Bool) (es : List Edge) (w : ℕ) → length es ≡ w → number_of a es < 2 ^ w
below_width a es w e = subst (λ k. number_of a es < 2 ^ k) e (number_of-below a es)

-- a sum without its carry
pub sum_word : (o n : List Node) (k w : ℕ) (f g : (ℕ → Bool) → ℕ) (es : List Edge) (c : Edge)
    → MakesSum o n k w f es c → ((a : ℕ → Bool) → IsValuation o a → f a % 2 ^ w ≡ g a) → MakesWord o n k w g es
sum_word o n k w f g es c x h = record {
  grows = x.grows;
  there = x.there;
  bits = x.bits;
  value = λ a r. sum_mod (2 ^ w) (number_of a es) (bit (edge_value a c)) (f a) (below_width a es w x.bits) (x.value a r) ∙ h a (x.grows.values a r);
}

-- the number under a sum is another one under all values of the old net
pub sum_as : (o n : List Node) (k w : ℕ) (f g : (ℕ → Bool) → ℕ) (es : List Edge) (c : Edge)
    → MakesSum o n k w f es c → ((a : ℕ → Bool) → IsValuation o a → f a ≡ g a) → MakesSum o n k w g es c
sum_as o n k w f g es c x h = record {
  grows = x.grows;
  there = x.there;
  carry_there = x.carry_there;
  bits = x.bits;
  value = λ a r. x.value a r ∙ h a (x.grows.values a r);
}

pub no_carry : (x y : ℕ) (z : Bool) (m : ℕ) → z ≡ false → (x + y + bit z) % m ≡ (x + y) % m
no_carry x y z m e = ap (λ k. (x + y + bit k) % m) e ∙ ap (λ k. k % m) (let f : x + y + 0 ≡ x + y = omega arith in f)

pub turned_sum : (x y t m : ℕ) (z : Bool) → z ≡ true → y < m → t ≡ m - 1 - y → x + t + bit z ≡ x + (m - y)
turned_sum x y t m z e h f = ap (λ k. x + t + bit k) e ∙ (let g : x + t + 1 ≡ x + (m - y) = omega arith in g)

pub difference_mod : (w x y : ℕ) → y < 2 ^ w → (x + (2 ^ w - y)) % 2 ^ w ≡ modulo w (pos x -ℤ pos y)
difference_mod w x y h =
    sym (wrap_is (2 ^ w) (x + (2 ^ w - y)) 1 (pos x -ℤ pos y) (pow_pos w) (omega (arith, ints)))

pub minus_zero : (y : ℕ) → pos 0 -ℤ pos y ≡ neg_ℤ (pos y)
minus_zero y = omega (arith, ints)

pub less_carry : (m n x y : ℕ) (c : Bool) → n < m → x < m → y < m → n + m * bit c ≡ x + (m - y) → not c ≡ int_lt (pos x) (pos y)
less_carry m n x y true p q r e = grind (arith, ints)
less_carry m n x y false p q r e = grind (arith, ints)

-- the carry of a difference says which is less
pub less_edge : (o n : List Node) (k w : ℕ) (x y : (ℕ → Bool) → ℕ) (es : List Edge) (c e : Edge)
    → MakesSum o n k w (λ a. x a + (2 ^ w - y a)) es c → e.node ≡ c.node → ((a : ℕ → Bool) → edge_value a e ≡ not (edge_value a c))
    → ((a : ℕ → Bool) → x a < 2 ^ w) → ((a : ℕ → Bool) → y a < 2 ^ w)
    → MakesEdge o n k (λ a. less false w (x a) (y a)) e
less_edge o n k w x y es c e s f g p q = record {
  grows = s.grows;
  there = subst (λ i. i < length n) (sym f) s.carry_there;
  value = λ a r. g a ∙ less_carry (2 ^ w) (number_of a es) (x a) (y a) (edge_value a c) (below_width a es w s.bits) (p a) (q a) (s.value a r);
}

-- two signed words are in the order of the unsigned words that have each other's highest bit
pub less_exchanged : (h x y : ℕ) (s t : Bool) → x < h → y < h → int_lt (pos (x + h * bit t)) (pos (y + h * bit s)) ≡ int_lt (read_signed (2 * h) (x + h * bit s)) (read_signed (2 * h) (y + h * bit t))
less_exchanged h x y true true p q =
    let a : 2 * h ≤ (x + h * 1) + (x + h * 1) = omega arith in
    let b : 2 * h ≤ (y + h * 1) + (y + h * 1) = omega arith in
    simp (signed_high (2 * h) (x + h * 1) a, signed_high (2 * h) (y + h * 1) b) (grind (arith, ints))
less_exchanged h x y true false p q =
    let a : 2 * h ≤ (x + h * 1) + (x + h * 1) = omega arith in
    let b : (y + h * 0) + (y + h * 0) < 2 * h = omega arith in
    simp (signed_high (2 * h) (x + h * 1) a, signed_low (2 * h) (y + h * 0) b) (grind (arith, ints))
less_exchanged h x y false true p q =
    let a : (x + h * 0) + (x + h * 0) < 2 * h = omega arith in
    let b : 2 * h ≤ (y + h * 1) + (y + h * 1) = omega arith in
    simp (signed_low (2 * h) (x + h * 0) a, signed_high (2 * h) (y + h * 1) b) (grind (arith, ints))
less_exchanged h x y false false p q =
    let a : (x + h * 0) + (x + h * 0) < 2 * h = omega arith in
    let b : (y + h * 0) + (y + h * 0) < 2 * h = omega arith in
    simp (signed_low (2 * h) (x + h * 0) a, signed_low (2 * h) (y + h * 0) b) (grind (arith, ints))

-- a sum with the inverse of a word and 1 is a difference
pub difference_sum : (o n : List Node) (k w : ℕ) (xs ys ts ds es : List Edge) (c z : Edge)
    → ds ≡ ts → length ys ≡ w → ((a : ℕ → Bool) → number_of a ts ≡ 2 ^ length ys - 1 - number_of a ys)
    → ((a : ℕ → Bool) → IsValuation o a → edge_value a z ≡ true)
    → MakesSum o n k w (λ a. number_of a xs + number_of a ds + bit (edge_value a z)) es c
    → MakesSum o n k w (λ a. number_of a xs + (2 ^ w - number_of a ys)) es c
difference_sum o n k w xs ys ts ds es c z e l f t s =
    sum_as o n k w _ (λ a. number_of a xs + (2 ^ w - number_of a ys)) es c s
    (λ a r. turned_sum (number_of a xs) (number_of a ys) (number_of a ds) (2 ^ w) (edge_value a z) (t a r) (below_width a ys w l)
    (ap (number_of a) e ∙ f a ∙ ap (λ m. 2 ^ m - 1 - number_of a ys) l))

pub word_as : (o n : List Node) (k w : ℕ) (f g : (ℕ → Bool) → ℕ) (es : List Edge)
    → MakesWord o n k w f es → ((a : ℕ → Bool) → IsValuation o a → f a ≡ g a) → MakesWord o n k w g es
word_as o n k w f g es x h = record {
  grows = x.grows;
  there = x.there;
  bits = x.bits;
  value = λ a r. x.value a r ∙ h a (x.grows.values a r);
}

pub edge_as : (o n : List Node) (k : ℕ) (f g : (ℕ → Bool) → Bool) (e : Edge)
    → MakesEdge o n k f e → ((a : ℕ → Bool) → IsValuation o a → f a ≡ g a) → MakesEdge o n k g e
edge_as o n k f g e x h = record {
  grows = x.grows;
  there = x.there;
  value = λ a r. x.value a r ∙ h a (x.grows.values a r);
}

-- 0 less a word
pub negated_word : (o n : List Node) (word zs rs es : List Edge) (z : Edge)
    → zs ≡ rs → rs ≡ replicate (length word) z → ((a : ℕ → Bool) → IsValuation o a → edge_value a z ≡ false)
    → MakesWord o n (9 * length zs) (length zs) (λ a. modulo (length zs) (pos (number_of a zs) -ℤ pos (number_of a word))) es
    → MakesWord o n (9 * length word) (length word) (λ a. modulo (length word) (neg_ℤ (pos (number_of a word)))) es
negated_word o n word zs rs es z e f h x =
    let l : length zs ≡ length word = ap length (e ∙ f) ∙ length-replicate (length word) z in
    subst (λ k. MakesWord o n (9 * k) k (λ a. modulo k (neg_ℤ (pos (number_of a word)))) es) l
    (word_as o n _ _ _ _ es x
    (λ a r. ap (λ k. modulo (length zs) (pos k -ℤ pos (number_of a word))) (ap (number_of a) (e ∙ f) ∙ number_of-zeros a (length word) z (h a r))
    ∙ ap (modulo (length zs)) (minus_zero (number_of a word))))

exchanged : (a : ℕ → Bool) (xs ds : List Edge) (p : ℕ) (e : Edge) → length xs ≡ p + 1 → ds ≡ take p xs ++ e ∷ [] → number_of a ds ≡ number_of a (take p xs) + 2 ^ p * bit (edge_value a e)
exchanged a xs ds p e l f =
    let h : p ≤ length xs = omega arith in
    ap (number_of a) f ∙ number_of-push a (take p xs) e ∙ ap (λ k. number_of a (take p xs) + 2 ^ k * bit (edge_value a e)) (length-take-le p xs h)

signed_parts : (a : ℕ → Bool) (w p : ℕ) (xs ys ds es : List Edge) (d f : Edge) → w ≡ p + 1 → length xs ≡ w → length ys ≡ w
    → ds ≡ take p xs ++ get_or ys p d ∷ [] → es ≡ take p ys ++ get_or xs p f ∷ []
    → int_lt (pos (number_of a ds)) (pos (number_of a es)) ≡ int_lt (read_signed (2 ^ w) (number_of a xs)) (read_signed (2 ^ w) (number_of a ys))
signed_parts a w p xs ys ds es d f e l m g h =
    let lx : length xs ≡ p + 1 = l ∙ e in
    let ly : length ys ≡ p + 1 = m ∙ e in
    let bx : number_of a (take p xs) < 2 ^ p = take_within a xs p lx in
    let by' : number_of a (take p ys) < 2 ^ p = take_within a ys p ly in
    let s = edge_value a (get_or xs p f) in
    let t = edge_value a (get_or ys p d) in
    let two : 2 ^ w ≡ 2 * 2 ^ p = ap (λ k. 2 ^ k) e ∙ twice_pow p in
    ap (λ k. int_lt (pos k) (pos (number_of a es))) (exchanged a xs ds p (get_or ys p d) lx g)
    ∙ ap (λ k. int_lt (pos (number_of a (take p xs) + 2 ^ p * bit t)) (pos k)) (exchanged a ys es p (get_or xs p f) ly h)
    ∙ less_exchanged (2 ^ p) (number_of a (take p xs)) (number_of a (take p ys)) s t bx by'
    ∙ ap (λ k. int_lt (read_signed (2 * 2 ^ p) k) (read_signed (2 * 2 ^ p) (number_of a (take p ys) + 2 ^ p * bit t))) (sym (number_of-top a xs p f lx))
    ∙ ap (λ k. int_lt (read_signed (2 * 2 ^ p) (number_of a xs)) (read_signed (2 * 2 ^ p) k)) (sym (number_of-top a ys p d ly))
    ∙ ap (λ k. int_lt (read_signed k (number_of a xs)) (read_signed k (number_of a ys))) (sym two)
  where
    take_within : (a : ℕ → Bool) (zs : List Edge) (p : ℕ) → length zs ≡ p + 1 → number_of a (take p zs) < 2 ^ p
    take_within a zs p l = let h : p ≤ length zs = omega arith in below_width a (take p zs) p (length-take-le p zs h)

-- the order of signed words, from that of the words with each other's highest bit
pub signed_edge : (o n : List Node) (xs ys is js ds es : List Edge) (d f e : Edge)
    → 0 < length xs → length xs ≡ length ys → is ≡ ds → js ≡ es
    → ds ≡ take (length xs - 1) xs ++ get_or ys (length xs - 1) d ∷ [] → es ≡ take (length ys - 1) ys ++ get_or xs (length xs - 1) f ∷ []
    → MakesEdge o n (9 * length is) (λ a. less false (length is) (number_of a is) (number_of a js)) e
    → MakesEdge o n (9 * length xs) (λ a. less true (length xs) (number_of a xs) (number_of a ys)) e
signed_edge o n xs ys is js ds es d f e s l i j g h x =
    let p : ℕ = length xs - 1 in
    let q : p + 1 ≡ length xs = omega arith in
    let lp : length (take p xs) ≡ p = length-take-le p xs (omega arith) in
    let lis : length is ≡ length xs = ap length (i ∙ g) ∙ length-append (take p xs) (get_or ys p d ∷ []) ∙ ap (λ k. k + 1) lp ∙ q in
    let h2 : es ≡ take p ys ++ get_or xs p f ∷ [] = h ∙ ap (λ k. take (k - 1) ys ++ get_or xs p f ∷ []) (sym l) in
    subst (λ k. MakesEdge o n (9 * k) (λ a. less true (length xs) (number_of a xs) (number_of a ys)) e) lis
    (edge_as o n _ _ _ e x
    (λ a r. ap (λ k. int_lt (pos (number_of a k)) (pos (number_of a js))) i ∙ ap (λ k. int_lt (pos (number_of a ds)) (pos (number_of a k))) j
    ∙ signed_parts a (length xs) p xs ys ds es d f (sym q) refl (sym l) g h2))
