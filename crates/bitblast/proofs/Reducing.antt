-- Reductions of a word, bit by bit.
use Rattle.std.proofs.Common.{◌≡◌, ℕ, ◌+◌, ◌-◌, ◌*◌, ◌%◌, ◌^◌, ◌<◌, Bool, true, false, not, ◌&&◌, ◌||◌, ◌⊎◌, inl, inr, List, length, take, get_or, refl, sym, ap, ◌∙◌, subst, arith}
use Rattle.std.specs.Prelude.{nat_eq, nat_lt, count_ones}
use lib.Count.{ones}
use Rattle.std.proofs.lemmas.Bool.Decides.{nat_tests}
use Rattle.std.proofs.lemmas.Nat.{pow_pos, ones_cat}
use Rattle.bits_core.specs.Word.{bit}
use Rattle.gate_net.specs.declared.net.Edge.{Edge}
use Rattle.gate_net.specs.declared.net.Node.{Node}
use Rattle.gate_net.specs.Edge.{edge_value}
use Rattle.bitblast.specs.Circuit.{MakesEdge, differ, number_of}
use Rattle.bitblast.proofs.Numbers.{number_of-below, number_of-take_more}
use Rattle.bitblast.proofs.Growth.{grows_then}
use Rattle.bitblast.proofs.Steps.{take_below}

-- one more gate over an edge that was made
pub edge_step : (o m n : List Node) (c d k : ℕ) (f h x : (ℕ → Bool) → Bool) (op : Bool → Bool → Bool) (s e : Edge)
    → c + d ≡ k → MakesEdge o m c f s → MakesEdge m n d (λ a. op (edge_value a s) (x a)) e → ((a : ℕ → Bool) → op (f a) (x a) ≡ h a) → MakesEdge o n k h e
edge_step o m n c d k f h x op s e t y z g =
    subst (λ i. MakesEdge o n i h e) t
    (record {
      grows = grows_then o m n c d y.grows z.grows;
      there = z.there;
      value = λ a r. z.value a r ∙ ap (λ b. op b (x a)) (y.value a (z.grows.values a r)) ∙ g a;
    })

some-push : (k x : ℕ) (p : Bool) → (nat_lt 0 x || p) ≡ nat_lt 0 (x + 2 ^ k * bit p)
some-push k x true = let h = pow_pos k in grind (arith, nat_tests)
some-push k x false = grind (arith, nat_tests)

equal-push : (k x y : ℕ) (p q : Bool) → x < 2 ^ k → y < 2 ^ k → (nat_eq x y && not (differ p q)) ≡ nat_eq (x + 2 ^ k * bit p) (y + 2 ^ k * bit q)
equal-push k x y true true h i = grind (arith, nat_tests)
equal-push k x y true false h i = grind (arith, nat_tests)
equal-push k x y false true h i = grind (arith, nat_tests)
equal-push k x y false false h i = grind (arith, nat_tests)

pub halved : (m : ℕ) → (m % 2 ≡ 0) ⊎ (m % 2 ≡ 1)
halved m = grind arith

odd-add : (m : ℕ) (p : Bool) → differ (nat_eq (m % 2) 1) p ≡ nat_eq ((bit p + m) % 2) 1
odd-add m true = elim (halved m) [
  | inl e ↦ let f : (1 + m) % 2 ≡ 1 = omega arith in rw (e, f) refl
  | inr e ↦ let f : (1 + m) % 2 ≡ 0 = omega arith in rw (e, f) refl
]
odd-add m false = elim (halved m) [
  | inl e ↦ let f : (0 + m) % 2 ≡ 0 = omega arith in rw (e, f) refl
  | inr e ↦ let f : (0 + m) % 2 ≡ 1 = omega arith in rw (e, f) refl
]

one_count : (p : Bool) → count_ones (bit p) ≡ bit p
unfolding ones
one_count true = refl
one_count false = refl

odd-push : (k x : ℕ) (p : Bool) → x < 2 ^ k → differ (nat_eq (count_ones x % 2) 1) p ≡ nat_eq (count_ones (x + 2 ^ k * bit p) % 2) 1
odd-push k x p h =
    let t : x + 2 ^ k * bit p ≡ bit p * 2 ^ k + x = omega arith in
    odd-add (count_ones x) p
    ∙ ap (λ i. nat_eq (i % 2) 1) (ap (λ i. i + count_ones x) (sym (one_count p)) ∙ sym (ones_cat k (bit p) x h) ∙ ap count_ones (sym t))

pub some_step : (o m n : List Node) (xs : List Edge) (s e d : Edge) (i : ℕ) → i < length xs
    → MakesEdge o m i (λ a. nat_lt 0 (number_of a (take i xs))) s → MakesEdge m n 1 (λ a. edge_value a s || edge_value a (get_or xs i d)) e
    → MakesEdge o n (i + 1) (λ a. nat_lt 0 (number_of a (take (i + 1) xs))) e
some_step o m n xs s e d i l x y =
    edge_step o m n _ _ _ _ _ (λ a. edge_value a (get_or xs i d)) (λ p q. p || q) s e refl x y
    (λ a. some-push i (number_of a (take i xs)) (edge_value a (get_or xs i d)) ∙ ap (nat_lt 0) (sym (number_of-take_more a xs i d l)))

pub odd_step : (o m n : List Node) (xs : List Edge) (s e d : Edge) (i : ℕ) → i < length xs
    → MakesEdge o m (3 * i) (λ a. nat_eq (count_ones (number_of a (take i xs)) % 2) 1) s → MakesEdge m n 3 (λ a. differ (edge_value a s) (edge_value a (get_or xs i d))) e
    → MakesEdge o n (3 * (i + 1)) (λ a. nat_eq (count_ones (number_of a (take (i + 1) xs)) % 2) 1) e
odd_step o m n xs s e d i l x y =
    edge_step o m n _ _ _ _ _ (λ a. edge_value a (get_or xs i d)) differ s e (omega arith) x y
    (λ a. odd-push i (number_of a (take i xs)) (edge_value a (get_or xs i d)) (take_below a xs i (omega arith))
    ∙ ap (λ k. nat_eq (count_ones k % 2) 1) (sym (number_of-take_more a xs i d l)))

pub equal_step : (o m n k : List Node) (xs ys : List Edge) (s t u e d f : Edge) (i : ℕ) → i < length xs → length xs ≡ length ys
    → MakesEdge o m (4 * i) (λ a. nat_eq (number_of a (take i xs)) (number_of a (take i ys))) s
    → MakesEdge m n 3 (λ a. differ (edge_value a (get_or xs i d)) (edge_value a (get_or ys i f))) t
    → ((a : ℕ → Bool) → edge_value a u ≡ not (edge_value a t))
    → MakesEdge n k 1 (λ a. edge_value a s && edge_value a u) e
    → MakesEdge o k (4 * (i + 1)) (λ a. nat_eq (number_of a (take (i + 1) xs)) (number_of a (take (i + 1) ys))) e
equal_step o m n k xs ys s t u e d f i l w x y v z =
    let j : i < length ys = omega arith in
    subst (λ q. MakesEdge o k q (λ a. nat_eq (number_of a (take (i + 1) xs)) (number_of a (take (i + 1) ys))) e) (let c : 4 * i + 3 + 1 ≡ 4 * (i + 1) = omega arith in c)
    (record {
      grows = grows_then o n k (4 * i + 3) 1 (grows_then o m n (4 * i) 3 x.grows y.grows) z.grows;
      there = z.there;
      value = λ a r.
          let r1 = z.grows.values a r in
          z.value a r ∙ ap (λ b. b && edge_value a u) (x.value a (y.grows.values a r1))
          ∙ ap (λ b. nat_eq (number_of a (take i xs)) (number_of a (take i ys)) && b) (v a ∙ ap not (y.value a r1))
          ∙ equal-push i (number_of a (take i xs)) (number_of a (take i ys)) (edge_value a (get_or xs i d)) (edge_value a (get_or ys i f)) (take_below a xs i (omega arith)) (take_below a ys i (omega arith))
          ∙ ap (λ q. nat_eq q (number_of a (take i ys) + 2 ^ i * bit (edge_value a (get_or ys i f)))) (sym (number_of-take_more a xs i d l))
          ∙ ap (λ q. nat_eq (number_of a (take (i + 1) xs)) q) (sym (number_of-take_more a ys i f j));
    })

all-set : (m x : ℕ) → x < m → not (nat_lt 0 (m - 1 - x)) ≡ nat_eq x (m - 1)
all-set m x h = grind (arith, nat_tests)

pub all_edge : (o n : List Node) (xs ds ts : List Edge) (s e : Edge) → ds ≡ ts → length ts ≡ length xs → ((a : ℕ → Bool) → number_of a ts ≡ 2 ^ length xs - 1 - number_of a xs)
    → e.node ≡ s.node → ((a : ℕ → Bool) → edge_value a e ≡ not (edge_value a s))
    → MakesEdge o n (length ds) (λ a. nat_lt 0 (number_of a ds)) s → MakesEdge o n (length xs) (λ a. nat_eq (number_of a xs) (2 ^ length xs - 1)) e
all_edge o n xs ds ts s e t l f g h x =
    subst (λ k. MakesEdge o n k (λ a. nat_eq (number_of a xs) (2 ^ length xs - 1)) e) (ap length t ∙ l)
    (record {
      grows = x.grows;
      there = subst (λ k. k < length n) (sym g) x.there;
      value = λ a r. h a ∙ ap not (x.value a r ∙ ap (nat_lt 0) (ap (number_of a) t ∙ f a)) ∙ all-set (2 ^ length xs) (number_of a xs) (number_of-below a xs);
    })
