-- Products, from the highest bit down.
use Rattle.std.proofs.Common.{◌≡◌, ℕ, suc, ◌+◌, ◌-◌, ◌*◌, ◌/◌, ◌%◌, ◌^◌, ◌<◌, ◌≤◌, Bool, false, List, [], ◌∷◌, length, take, drop, get_or, sym, ap, ◌∙◌, subst, arith, drop-cons}
use Rattle.std.proofs.Math.Nat.{add-mul-mod_self_left, mod-add-div'}
use Rattle.std.proofs.Math.Seq.{length-take-le}
use Rattle.std.proofs.lemmas.List.Elements.{All-nil}
use Rattle.bits_core.specs.Word.{bit}
use Rattle.gate_net.specs.declared.net.Edge.{Edge}
use Rattle.gate_net.specs.declared.net.Node.{Node}
use Rattle.gate_net.specs.Edge.{edge_value}
use Rattle.gate_net.specs.Net.{IsValuation}
use Rattle.bitblast.specs.Circuit.{AreBelow, MakesWord, number_of}
use Rattle.bitblast.proofs.Numbers.{number_of-take_more, twice_pow}
use Rattle.bitblast.proofs.Growth.{grows_none, grows_then, grows_within}

-- the number of a word from a place on
pub number_of-drop : (a : ℕ → Bool) (xs : List Edge) (i : ℕ) (d : Edge) → i < length xs → number_of a (drop i xs) ≡ bit (edge_value a (get_or xs i d)) + 2 * number_of a (drop (i + 1) xs)
number_of-drop a xs i d h =
    ap (number_of a) (drop-cons xs i d h) ∙ ap (λ k. bit (edge_value a (get_or xs i d)) + 2 * number_of a (drop k xs)) (let e : suc i ≡ i + 1 = omega arith in e)

-- the sum of twice a word and another, where the word stands with a 0 on its right
pub doubled_word : (o m n : List Node) (word more part twice ds es made : List Edge) (c z : Edge)
    → length more ≡ length word + 1 → twice ≡ z ∷ word → ds ≡ twice → es ≡ part
    → ((a : ℕ → Bool) → IsValuation m a → edge_value a z ≡ false)
    → MakesWord o m (length more) (length more) (λ a. bit (edge_value a c) * number_of a more) part
    → MakesWord m n (9 * length ds) (length ds) (λ a. (number_of a ds + number_of a es) % 2 ^ length ds) made
    → MakesWord o n (10 * length more) (length more) (λ a. (2 * number_of a word + bit (edge_value a c) * number_of a more) % 2 ^ length more) made
doubled_word o m n word more part twice ds es made c z l k s t f x y =
    let long : length twice ≡ length word + 1 = ap length k ∙ (let e : suc (length word) ≡ length word + 1 = omega arith in e) in
    let w : length ds ≡ length more = ap length s ∙ long ∙ sym l in
    record {
      grows = grows_within o n (length more + 9 * length ds) (10 * length more) (omega (arith, w)) (grows_then o m n _ _ x.grows y.grows);
      there = y.there;
      bits = y.bits ∙ w;
      value = λ a r.
          let r1 = y.grows.values a r in
          let zero : bit (edge_value a z) ≡ 0 = ap bit (f a r1) in
          let twice_is : number_of a ds ≡ 2 * number_of a word = ap (number_of a) (s ∙ k) ∙ ap (λ b. b + 2 * number_of a word) zero ∙ (let e : 0 + 2 * number_of a word ≡ 2 * number_of a word = omega arith in e) in
          y.value a r ∙ ap (λ q. (number_of a ds + number_of a es) % 2 ^ q) w
          ∙ ap (λ q. (q + number_of a es) % 2 ^ length more) twice_is
          ∙ ap (λ q. (2 * number_of a word + q) % 2 ^ length more) (ap (number_of a) t ∙ x.value a r1);
    }

-- one bit more of both factors: the product so far needs to be known modulo p alone
product_mod : (m p x y t r b : ℕ) → x ≡ y + p * t → m ≡ 2 * p → (2 * ((y * r) % p) + b * x) % m ≡ (x * (b + 2 * r)) % m
product_mod m p x y t r b h e =
    let split = mod-add-div' (y * r) p in
    let q = y * r / p + t * r in
    let parts : (y + p * t) * (b + 2 * r) ≡ (2 * ((y * r) % p) + b * (y + p * t)) + 2 * p * (y * r / p + t * r) = omega (arith, split) in
    let g : x * (b + 2 * r) ≡ (2 * ((y * r) % p) + b * x) + m * q =
    ap (λ z. z * (b + 2 * r)) h ∙ parts ∙ ap (λ z. (2 * ((y * r) % p) + b * z) + 2 * p * q) (sym h) ∙ ap (λ z. (2 * ((y * r) % p) + b * x) + z * q) (sym e) in
    sym (ap (λ k. k % m) g ∙ add-mul-mod_self_left (2 * ((y * r) % p) + b * x) m q)

-- the product of the lowest k bits of a word and the bits of another from i on, modulo 2^k
abbrev pub MakesProduct : (old new : List Node) (xs ys : List Edge) (i k : ℕ) (es : List Edge) → Type 0
MakesProduct o n xs ys i k es = MakesWord o n (10 * (k * k)) k (λ a. (number_of a (take k xs) * number_of a (drop i ys)) % 2 ^ k) es

pub product_start : (o : List Node) (xs ys zs : List Edge) → length xs ≡ length ys → zs ≡ [] → MakesProduct o o xs ys (length ys) (length xs - length ys) zs
product_start o xs ys zs l e =
    let none : length xs - length ys ≡ 0 = omega (arith, l) in
    subst (λ k. MakesProduct o o xs ys (length ys) k zs) (sym none)
    (record {
      grows = grows_none o;
      there = subst (AreBelow (length o)) (sym e) (All-nil (λ (i : Edge). i.node < length o));
      bits = ap length e;
      value = λ a r. ap (number_of a) e ∙ (let p : 0 ≡ (0 * number_of a (drop (length ys) ys)) % 1 = omega arith in p);
    })

square : (k : ℕ) → 10 * (k * k) + 10 * (k + 1) ≤ 10 * ((k + 1) * (k + 1))
square k = omega arith

product_more : (o m n : List Node) (xs ys ps ds ms es : List Edge) (d : Edge) (i k : ℕ) → 0 < i → i ≤ length ys → k < length xs → ds ≡ ps → ms ≡ take (k + 1) xs
    → MakesProduct o m xs ys i k ps
    → MakesWord m n (10 * length ms) (length ms) (λ a. (2 * number_of a ds + bit (edge_value a (get_or ys (i - 1) d)) * number_of a ms) % 2 ^ length ms) es
    → MakesProduct o n xs ys (i - 1) (k + 1) es
product_more o m n xs ys ps ds ms es d i k p q l s t x y =
    let some : k + 1 ≤ length xs = omega arith in
    let w : length ms ≡ k + 1 = ap length t ∙ length-take-le (k + 1) xs some in
    let j : i - 1 + 1 ≡ i = omega arith in
    let lt : i - 1 < length ys = omega arith in
    record {
      grows = grows_within o n (10 * (k * k) + 10 * length ms) _ (omega (arith, w, square k)) (grows_then o m n _ _ x.grows y.grows);
      there = y.there;
      bits = y.bits ∙ w;
      value = λ a r.
          let b = bit (edge_value a (get_or ys (i - 1) d)) in
          y.value a r
          ∙ ap (λ e. (2 * number_of a ds + b * number_of a ms) % 2 ^ e) w
          ∙ ap (λ e. (2 * e + b * number_of a ms) % 2 ^ (k + 1)) (ap (number_of a) s ∙ x.value a (y.grows.values a r))
          ∙ ap (λ e. (2 * ((number_of a (take k xs) * number_of a (drop i ys)) % 2 ^ k) + b * number_of a e) % 2 ^ (k + 1)) t
          ∙ product_mod (2 ^ (k + 1)) (2 ^ k) (number_of a (take (k + 1) xs)) (number_of a (take k xs)) (bit (edge_value a (get_or xs k d))) (number_of a (drop i ys)) b (number_of-take_more a xs k d l) (twice_pow k)
          ∙ ap (λ e. (number_of a (take (k + 1) xs) * e) % 2 ^ (k + 1)) (sym (number_of-drop a ys (i - 1) d lt ∙ ap (λ e. b + 2 * number_of a (drop e ys)) j));
    }

pub product_step : (o m n : List Node) (xs ys ps ds ms es : List Edge) (d : Edge) (i : ℕ) → length xs ≡ length ys → 0 < i → i ≤ length ys → ds ≡ ps → ms ≡ take (length xs - (i - 1)) xs
    → MakesProduct o m xs ys i (length xs - i) ps
    → MakesWord m n (10 * length ms) (length ms) (λ a. (2 * number_of a ds + bit (edge_value a (get_or ys (i - 1) d)) * number_of a ms) % 2 ^ length ms) es
    → MakesProduct o n xs ys (i - 1) (length xs - (i - 1)) es
product_step o m n xs ys ps ds ms es d i e p q s t x y =
    let j : length xs - (i - 1) ≡ (length xs - i) + 1 = omega (arith, e) in
    let l : length xs - i < length xs = omega (arith, e) in
    subst (λ k. MakesProduct o n xs ys (i - 1) k es) (sym j)
    (product_more o m n xs ys ps ds ms es d i (length xs - i) p q l s (t ∙ ap (λ k. take k xs) j) x y)
