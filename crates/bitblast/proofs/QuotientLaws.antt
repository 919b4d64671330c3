-- Restoring division.
use Rattle.std.proofs.Common.{◌≡◌, ℕ, zero, suc, ◌+◌, ◌-◌, ◌*◌, ◌/◌, ◌%◌, ◌^◌, ◌<◌, ◌≤◌, Bool, true, false, ◌||◌, List, [], ◌∷◌, ◌++◌, length, take, drop, get_or, replicate, sym, ap, ◌∙◌, subst, arith}
use Rattle.std.specs.Prelude.{nat_lt, if◌then◌else◌}
use Rattle.std.proofs.Math.Seq.{drop-length}
use Rattle.std.proofs.lemmas.Bool.Decides.{nat_tests}
use Rattle.std.proofs.lemmas.List.{length-replicate}
use Rattle.std.proofs.lemmas.List.Elements.{All-cons, All-nil, All-replicate}
use Rattle.std.proofs.lemmas.Nat.{div-mul-add, mod-mul-add}
use Rattle.bits_core.specs.Word.{at_zero, bit}
use Rattle.bits_core.proofs.Laws.{quotient_plain, remainder_plain}
use Rattle.gate_net.specs.declared.net.Edge.{Edge}
use Rattle.gate_net.specs.declared.net.Node.{Node}
use Rattle.gate_net.specs.Edge.{edge_value}
use Rattle.gate_net.specs.Net.{IsValuation}
use Rattle.bitblast.specs.Circuit.{AreBelow, MakesEdge, MakesSum, MakesWord, number_of}
use Rattle.bitblast.specs.Quotients.{MakesDivision, MakesStep}
use Rattle.bitblast.proofs.Numbers.{number_of-below, number_of-zeros}
use Rattle.bitblast.proofs.Growth.{are_below_more, grows_none, grows_then, grows_within}
use Rattle.bitblast.proofs.SumLaws.{below_width}
use Rattle.bitblast.proofs.ProductLaws.{number_of-drop}

step_law : (m r b d s l : ℕ) (t c : Bool) → r < d → d < m → s < m → l < m → b ≤ 1 → s + m * bit t ≡ 2 * r + b → l + m * bit c ≡ s + (m - d)
    → (2 * r + b ≡ bit (t || c) * d + (if t || c then l else s)) × ((if t || c then l else s) < d)
step_law m r b d s l true true p q u v w e f = (omega arith, omega arith)
step_law m r b d s l true false p q u v w e f = (omega arith, omega arith)
step_law m r b d s l false true p q u v w e f = (omega arith, omega arith)
step_law m r b d s l false false p q u v w e f = (omega arith, omega arith)

bit_small : (b : Bool) → bit b ≤ 1
bit_small true = omega arith
bit_small false = omega arith

pub taken_step : (o m n k : List Node) (rest divisor sw ds less ls ss r : List Edge) (next out carry f : Edge)
    → length rest ≡ length divisor → length sw ≡ length rest → ds ≡ sw → ls ≡ less → ss ≡ sw
    → ((a : ℕ → Bool) → number_of a sw + 2 ^ length rest * bit (edge_value a out) ≡ 2 * number_of a rest + bit (edge_value a next))
    → MakesSum o m (9 * length ds) (length ds) (λ a. number_of a ds + (2 ^ length ds - number_of a divisor)) less carry
    → MakesEdge m n 1 (λ a. edge_value a out || edge_value a carry) f
    → MakesWord n k (3 * length ls) (length ls) (λ a. if edge_value a f then number_of a ls else number_of a ss) r
    → 0 < length rest
    → MakesStep o k rest next divisor r f
taken_step o m n k rest divisor sw ds less ls ss r next out carry f l h i j p v x y z some =
    let w : length ds ≡ length rest = ap length i ∙ h in
    let wl : length ls ≡ length rest = ap length j ∙ x.bits ∙ w in
    record {
      grows = grows_within o k (9 * length ds + 1 + 3 * length ls) _ (omega arith) (grows_then o n k _ _ (grows_then o m n _ _ x.grows y.grows) z.grows);
      there = z.there;
      fits_there = let t = y.there in let g = z.grows.longer in omega arith;
      bits = z.bits ∙ wl;
      value = λ a q b.
          let q1 = z.grows.values a q in
          let q2 = y.grows.values a q1 in
          let T = edge_value a out in
          let C = edge_value a carry in
          let S = number_of a sw in
          let L = number_of a less in
          let fe : edge_value a f ≡ (T || C) = y.value a q1 in
          let re : number_of a r ≡ (if T || C then L else S) =
          z.value a q ∙ ap (λ u. if u then number_of a ls else number_of a ss) fe ∙ ap (λ u. if T || C then u else number_of a ss) (ap (number_of a) j) ∙ ap (λ u. if T || C then L else u) (ap (number_of a) p) in
          let se : L + 2 ^ length rest * bit C ≡ S + (2 ^ length rest - number_of a divisor) =
          ap (λ u. L + 2 ^ u * bit C) (sym w) ∙ x.value a q2 ∙ ap (λ u. u + (2 ^ length ds - number_of a divisor)) (ap (number_of a) i) ∙ ap (λ u. S + (2 ^ u - number_of a divisor)) w in
          let law = step_law (2 ^ length rest) (number_of a rest) (bit (edge_value a next)) (number_of a divisor) S L T C b
          (below_width a divisor (length rest) (sym l)) (below_width a sw (length rest) h) (below_width a less (length rest) (x.bits ∙ w)) (bit_small (edge_value a next)) (v a) se in (
            law.0 ∙ ap (λ u. bit u * number_of a divisor + (if T || C then L else S)) (sym fe) ∙ ap (λ u. bit (edge_value a f) * number_of a divisor + u) (sym re),
            subst (λ u. u < number_of a divisor) (sym re) law.1,
          );
    }

pub division_start : (o : List Node) (xs ys q r : List Edge) (z : Edge) → q ≡ [] → r ≡ replicate (length ys) z → z.node < length o
    → ((a : ℕ → Bool) → IsValuation o a → edge_value a z ≡ false)
    → MakesDivision o o (13 * (length xs * (length xs - length xs))) (length xs - length xs) (λ a. number_of a (drop (length xs) xs)) ys q r
division_start o xs ys q r z e f h g =
    let none : length xs - length xs ≡ 0 = omega arith in
    record {
      grows = grows_within o o 0 _ (omega arith) (grows_none o);
      there = subst (AreBelow (length o)) (sym e) (All-nil (λ (i : Edge). i.node < length o));
      left_there = subst (AreBelow (length o)) (sym f) (All-replicate (λ (i : Edge). i.node < length o) (length ys) z h);
      bits = ap length e ∙ sym none;
      left_bits = ap length f ∙ length-replicate (length ys) z;
      value = λ a v d.
          let left : number_of a r ≡ 0 = ap (number_of a) f ∙ number_of-zeros a (length ys) z (g a v) in (
            ap (number_of a) (drop-length xs) ∙ (let t : 0 ≡ 0 * number_of a ys + 0 = omega arith in t) ∙ ap (λ k. number_of a k * number_of a ys + 0) (sym e) ∙ ap (λ k. number_of a q * number_of a ys + k) (sym left),
            subst (λ k. k < number_of a ys) (sym left) d,
          );
    }

quotient_law : (x b q d r f s : ℕ) → x ≡ q * d + r → 2 * r + b ≡ f * d + s → b + 2 * x ≡ (f + 2 * q) * d + s
quotient_law x b q d r f s e g = omega arith

pub division_step : (o m n : List Node) (xs ys q r rs q1 r1 : List Edge) (e f : Edge) (i : ℕ) → 0 < i → i ≤ length xs → length xs ≡ length ys → rs ≡ r → q1 ≡ take 0 q ++ f ∷ drop 0 q
    → MakesDivision o m (13 * (length xs * (length xs - i))) (length xs - i) (λ a. number_of a (drop i xs)) ys q r
    → MakesStep m n rs (get_or xs (i - 1) e) ys r1 f
    → MakesDivision o n (13 * (length xs * (length xs - (i - 1)))) (length xs - (i - 1)) (λ a. number_of a (drop (i - 1) xs)) ys q1 r1
division_step o m n xs ys q r rs q1 r1 e f i p l w h t x y =
    let lr : length rs ≡ length xs = ap length h ∙ x.left_bits ∙ sym w in
    let j : i - 1 + 1 ≡ i = omega arith in
    let k : length xs - (i - 1) ≡ (length xs - i) + 1 = omega arith in
    let c : length xs * (length xs - (i - 1)) ≡ length xs * ((length xs - i) + 1) = ap (λ u. length xs * u) k in
    let lt : i - 1 < length xs = omega arith in
    record {
      grows = grows_within o n (13 * (length xs * (length xs - i)) + 13 * length rs) _ (omega arith) (grows_then o m n _ _ x.grows y.grows);
      there = subst (AreBelow (length n)) (sym t) (All-cons (λ (u : Edge). u.node < length n) f q y.fits_there (are_below_more (length m) (length n) q y.grows.longer x.there));
      left_there = y.there;
      bits = ap length t ∙ (let u : suc (length q) ≡ length q + 1 = omega arith in u) ∙ ap (λ u. u + 1) x.bits ∙ sym k;
      left_bits = y.bits ∙ lr ∙ w;
      value = λ a v d.
          let old = x.value a (y.grows.values a v) d in
          let D = number_of a ys in
          let b = bit (edge_value a (get_or xs (i - 1) e)) in
          let new = y.value a v (subst (λ u. number_of a u < D) (sym h) old.1) in (
            number_of-drop a xs (i - 1) e lt ∙ ap (λ u. b + 2 * number_of a (drop u xs)) j
                ∙ quotient_law (number_of a (drop i xs)) b (number_of a q) D (number_of a r) (bit (edge_value a f)) (number_of a r1) old.0 (ap (λ u. 2 * number_of a u + b) (sym h) ∙ new.0)
                ∙ ap (λ u. number_of a u * D + number_of a r1) (sym t),
            new.1,
          );
    }

masked_quotient : (m x q d r : ℕ) → x < m → (0 < d → (x ≡ q * d + r) × (r < d)) → bit (nat_lt 0 d) * q ≡ at_zero d 0 ((x / d) % m)
masked_quotient m x q zero r h f = let e : nat_lt 0 0 ≡ false = grind (arith, nat_tests) in ap (λ k. bit k * q) e ∙ (let t : 0 * q ≡ 0 = omega arith in t)
masked_quotient m x q (suc d) r h f =
    let g = f (omega arith) in
    let e : nat_lt 0 (suc d) ≡ true = grind (arith, nat_tests) in
    ap (λ k. bit k * q) e ∙ (let t : 1 * q ≡ q = omega arith in t) ∙ sym (ap (λ k. k / suc d) g.0 ∙ div-mul-add q (suc d) r g.1) ∙ quotient_plain m x (suc d) h (λ z. cc)

masked_remainder : (m x q d r : ℕ) → x < m → (0 < d → (x ≡ q * d + r) × (r < d)) → bit (nat_lt 0 d) * r ≡ at_zero d 0 ((x % d) % m)
masked_remainder m x q zero r h f = let e : nat_lt 0 0 ≡ false = grind (arith, nat_tests) in ap (λ k. bit k * r) e ∙ (let t : 0 * r ≡ 0 = omega arith in t)
masked_remainder m x q (suc d) r h f =
    let g = f (omega arith) in
    let e : nat_lt 0 (suc d) ≡ true = grind (arith, nat_tests) in
    ap (λ k. bit k * r) e ∙ (let t : 1 * r ≡ r = omega arith in t) ∙ sym (ap (λ k. k % suc d) g.0 ∙ mod-mul-add q (suc d) r g.1) ∙ remainder_plain m x (suc d) h (λ z. cc)

pub unsigned_quotient : (o m n k : List Node) (xs ys q r qs es : List Edge) (p : Edge) → length xs ≡ length ys → qs ≡ q
    → MakesDivision o m (13 * (length xs * length xs)) (length xs) (λ a. number_of a xs) ys q r
    → MakesEdge m n (length ys) (λ a. nat_lt 0 (number_of a ys)) p
    → MakesWord n k (length qs) (length qs) (λ a. bit (edge_value a p) * number_of a qs) es
    → MakesWord o k (13 * (length xs * length xs) + 2 * length xs) (length xs) (λ a. at_zero (number_of a ys) 0 ((number_of a xs / number_of a ys) % 2 ^ length xs)) es
unsigned_quotient o m n k xs ys q r qs es p l h x y z =
    let lq : length qs ≡ length xs = ap length h ∙ x.bits in
    record {
      grows = grows_within o k (13 * (length xs * length xs) + length ys + length qs) _ (omega arith) (grows_then o n k _ _ (grows_then o m n _ _ x.grows y.grows) z.grows);
      there = z.there;
      bits = z.bits ∙ lq;
      value = λ a v.
          let v1 = z.grows.values a v in
          z.value a v ∙ ap (λ u. bit u * number_of a qs) (y.value a v1) ∙ ap (λ u. bit (nat_lt 0 (number_of a ys)) * number_of a u) h
          ∙ masked_quotient (2 ^ length xs) (number_of a xs) (number_of a q) (number_of a ys) (number_of a r) (number_of-below a xs) (x.value a (y.grows.values a v1));
    }

pub unsigned_remainder : (o m n k : List Node) (xs ys q r rs es : List Edge) (p : Edge) → length xs ≡ length ys → rs ≡ r
    → MakesDivision o m (13 * (length xs * length xs)) (length xs) (λ a. number_of a xs) ys q r
    → MakesEdge m n (length ys) (λ a. nat_lt 0 (number_of a ys)) p
    → MakesWord n k (length rs) (length rs) (λ a. bit (edge_value a p) * number_of a rs) es
    → MakesWord o k (13 * (length xs * length xs) + 2 * length xs) (length xs) (λ a. at_zero (number_of a ys) 0 ((number_of a xs % number_of a ys) % 2 ^ length xs)) es
unsigned_remainder o m n k xs ys q r rs es p l h x y z =
    let lr : length rs ≡ length xs = ap length h ∙ x.left_bits ∙ sym l in
    record {
      grows = grows_within o k (13 * (length xs * length xs) + length ys + length rs) _ (omega arith) (grows_then o n k _ _ (grows_then o m n _ _ x.grows y.grows) z.grows);
      there = z.there;
      bits = z.bits ∙ lr;
      value = λ a v.
          let v1 = z.grows.values a v in
          z.value a v ∙ ap (λ u. bit u * number_of a rs) (y.value a v1) ∙ ap (λ u. bit (nat_lt 0 (number_of a ys)) * number_of a u) h
          ∙ masked_remainder (2 ^ length xs) (number_of a xs) (number_of a q) (number_of a ys) (number_of a r) (number_of-below a xs) (x.value a (y.grows.values a v1));
    }
