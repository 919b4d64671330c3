-- One more bit of a word, in loops over the bits of two words.
use Rattle.std.proofs.Common.{◌≡◌, ℕ, not, ◌&&◌, refl, ◌+◌, ◌*◌, ◌^◌, ◌<◌, ◌≤◌, Bool, List, [], ◌∷◌, ◌++◌, length, length-append, take, get_or, sym, ap, ◌∙◌, subst, arith}
use Rattle.std.proofs.lemmas.List.Elements.{All-push}
use Rattle.std.proofs.Math.Seq.{length-take-le}
use Rattle.std.specs.Prelude.{if◌then◌else◌}
use Rattle.bits_core.specs.Word.{bit}
use Rattle.gate_net.specs.declared.net.Edge.{Edge}
use Rattle.gate_net.specs.declared.net.Node.{Node}
use Rattle.gate_net.specs.Edge.{edge_value}
use Rattle.bitblast.specs.declared.bitwise.Bitwise.{Bitwise}
use Rattle.bitblast.specs.Bitwise.{bit_gates, bit_result, word_result}
use Rattle.bitblast.specs.Circuit.{AreBelow, AddsBits, MakesEdge, MakesSum, MakesWord, number_of}
use Rattle.bitblast.proofs.Numbers.{number_of-below, number_of-push, number_of-take_more}
use Rattle.bitblast.proofs.Growth.{word_step, sum_step}
use Rattle.bitblast.proofs.BitLaws.{IsInverted, bit-not, inverted-push, word_result-push, masked-push, choose-push, adder-push}

pub take_below : (a : ℕ → Bool) (xs : List Edge) (i : ℕ) → i ≤ length xs → number_of a (take i xs) < 2 ^ i
take_below a xs i h = subst (λ k. number_of a (take i xs) < 2 ^ k) (length-take-le i xs h) (number_of-below a (take i xs))

pub bit_by_bit_step : (op : Bitwise) (o m n : List Node) (xs ys es items : List Edge) (e d f : Edge) (i : ℕ)
    → i < length xs → length xs ≡ length ys → items ≡ es ++ e ∷ []
    → MakesWord o m (bit_gates op * i) i (λ a. word_result op (number_of a (take i xs)) (number_of a (take i ys))) es
    → MakesEdge m n (bit_gates op) (λ a. bit_result op (edge_value a (get_or xs i d)) (edge_value a (get_or ys i f))) e
    → MakesWord o n (bit_gates op * (i + 1)) (i + 1) (λ a. word_result op (number_of a (take (i + 1) xs)) (number_of a (take (i + 1) ys))) items
bit_by_bit_step op o m n xs ys es items e d f i l s t x y =
    let j : i < length ys = omega arith in
    let li : i ≤ length xs = omega arith in
    let lj : i ≤ length ys = omega arith in
    word_step o m n _ _ _ i _ _ _ es items e t (omega arith) x y
    (λ a r. ap (λ k. word_result op k (number_of a (take (i + 1) ys))) (number_of-take_more a xs i d l)
    ∙ ap (word_result op (number_of a (take i xs) + 2 ^ i * bit (edge_value a (get_or xs i d)))) (number_of-take_more a ys i f j)
    ∙ word_result-push op i (number_of a (take i xs)) (number_of a (take i ys)) (edge_value a (get_or xs i d)) (edge_value a (get_or ys i f)) (take_below a xs i li) (take_below a ys i lj))

pub masked_step : (o m n : List Node) (xs es items : List Edge) (e d q : Edge) (i : ℕ)
    → i < length xs → items ≡ es ++ e ∷ []
    → MakesWord o m i i (λ a. bit (edge_value a q) * number_of a (take i xs)) es
    → MakesEdge m n 1 (λ a. edge_value a (get_or xs i d) && edge_value a q) e
    → MakesWord o n (i + 1) (i + 1) (λ a. bit (edge_value a q) * number_of a (take (i + 1) xs)) items
masked_step o m n xs es items e d q i l t x y =
    word_step o m n _ _ _ i _ _ _ es items e t refl x y
    (λ a r. ap (λ k. bit (edge_value a q) * k) (number_of-take_more a xs i d l)
    ∙ masked-push i (number_of a (take i xs)) (edge_value a (get_or xs i d)) (edge_value a q))

pub choose_step : (o m n : List Node) (xs ys es items : List Edge) (e d f c : Edge) (i : ℕ)
    → i < length xs → length xs ≡ length ys → items ≡ es ++ e ∷ []
    → MakesWord o m (3 * i) i (λ a. if edge_value a c then number_of a (take i xs) else number_of a (take i ys)) es
    → MakesEdge m n 3 (λ a. if edge_value a c then edge_value a (get_or xs i d) else edge_value a (get_or ys i f)) e
    → MakesWord o n (3 * (i + 1)) (i + 1) (λ a. if edge_value a c then number_of a (take (i + 1) xs) else number_of a (take (i + 1) ys)) items
choose_step o m n xs ys es items e d f c i l s t x y =
    let j : i < length ys = omega arith in
    word_step o m n _ _ _ i _ _ _ es items e t (omega arith) x y
    (λ a r. ap (λ k. if edge_value a c then k else number_of a (take (i + 1) ys)) (number_of-take_more a xs i d l)
    ∙ ap (λ k. if edge_value a c then number_of a (take i xs) + 2 ^ i * bit (edge_value a (get_or xs i d)) else k) (number_of-take_more a ys i f j)
    ∙ choose-push i (number_of a (take i xs)) (number_of a (take i ys)) (edge_value a c) (edge_value a (get_or xs i d)) (edge_value a (get_or ys i f)))

pub add_step : (o m n : List Node) (xs ys es items : List Edge) (d f j r s t : Edge) (i : ℕ)
    → i < length xs → length xs ≡ length ys → items ≡ es ++ s ∷ []
    → MakesSum o m (9 * i) i (λ a. number_of a (take i xs) + number_of a (take i ys) + bit (edge_value a j)) es r
    → AddsBits m n (get_or xs i d) (get_or ys i f) r s t
    → MakesSum o n (9 * (i + 1)) (i + 1) (λ a. number_of a (take (i + 1) xs) + number_of a (take (i + 1) ys) + bit (edge_value a j)) items t
add_step o m n xs ys es items d f j r s t i l u v x y =
    let k : i < length ys = omega arith in
    sum_step o m n _ _ i _ _ es items (get_or xs i d) (get_or ys i f) r s t v (omega arith) x y
    (λ a z e g. adder-push i z (number_of a (take i xs)) (number_of a (take i ys)) _ _ (bit (edge_value a j)) _ (bit (edge_value a (get_or xs i d))) (bit (edge_value a (get_or ys i f))) e g
    ∙ ap (λ q. q + (number_of a (take i ys) + 2 ^ i * bit (edge_value a (get_or ys i f))) + bit (edge_value a j)) (sym (number_of-take_more a xs i d l))
    ∙ ap (λ q. number_of a (take (i + 1) xs) + q + bit (edge_value a j)) (sym (number_of-take_more a ys i f k)))

pub inverted_step : (xs es items : List Edge) (e d : Edge) (i : ℕ)
    → i < length xs → items ≡ es ++ e ∷ [] → e.node ≡ (get_or xs i d).node → ((a : ℕ → Bool) → edge_value a e ≡ not (edge_value a (get_or xs i d)))
    → IsInverted xs i es → IsInverted xs (i + 1) items
inverted_step xs es items e d i l t u v x = record {
  bits = ap length t ∙ length-append es (e ∷ []) ∙ ap (λ k. k + 1) x.bits;
  there = λ n b. subst (AreBelow n) (sym t) (All-push (λ k. k.node < n) es e (x.there n b) (subst (λ k. k < n) (sym u) (b i d l)));
  value = λ a.
      ap (λ k. number_of a k + number_of a (take (i + 1) xs) + 1) t
      ∙ ap (λ k. k + number_of a (take (i + 1) xs) + 1) (number_of-push a es e)
      ∙ ap (λ k. (number_of a es + 2 ^ k * bit (edge_value a e)) + number_of a (take (i + 1) xs) + 1) x.bits
      ∙ ap (λ k. (number_of a es + 2 ^ i * bit (edge_value a e)) + k + 1) (number_of-take_more a xs i d l)
      ∙ inverted-push i (number_of a es) (number_of a (take i xs)) _ _ (x.value a) (bit-not _ (edge_value a (get_or xs i d)) (v a));
}
