-- Words made of the edges of others.
use Rattle.std.proofs.Common.{◌≡◌, ℕ, ◌+◌, ◌*◌, ◌^◌, ◌<◌, Bool, List, [], ◌∷◌, ◌++◌, length, length-append, take, get_or, sym, ap, ◌∙◌, subst, arith}
use Rattle.std.proofs.lemmas.List.Elements.{All-push}
use Rattle.bits_core.specs.Word.{bit}
use Rattle.gate_net.specs.declared.net.Edge.{Edge}
use Rattle.gate_net.specs.Edge.{edge_value}
use Rattle.bitblast.specs.Circuit.{AreBelow, number_of}
use Rattle.bitblast.proofs.Numbers.{number_of-push, number_of-take_more, twice_pow}

-- so many bits of a word shifted to the left, with an edge put in
pub record IsShiftedIn (xs : List Edge) (low : Edge) (i : ℕ) (ys : List Edge) (out : Edge) : Type 0 where
  pub bits : length ys ≡ i
  pub there : (nodes : ℕ) → AreBelow nodes xs → low.node < nodes → AreBelow nodes ys
  pub out_there : (nodes : ℕ) → AreBelow nodes xs → low.node < nodes → out.node < nodes
  pub value : (a : ℕ → Bool) → number_of a ys + 2 ^ i * bit (edge_value a out) ≡ 2 * number_of a (take i xs) + bit (edge_value a low)

shifted-push : (k y x o l p : ℕ) → y + 2 ^ k * o ≡ 2 * x + l → (y + 2 ^ k * o) + 2 ^ (k + 1) * p ≡ 2 * (x + 2 ^ k * p) + l
shifted-push k y x o l p e =
    let g : 2 ^ (k + 1) * p ≡ 2 * 2 ^ k * p = ap (λ m. m * p) (twice_pow k) in
    omega (arith, g)

pub shifted_step : (xs ys items : List Edge) (low out d : Edge) (i : ℕ) → i < length xs → items ≡ ys ++ out ∷ [] → IsShiftedIn xs low i ys out → IsShiftedIn xs low (i + 1) items (get_or xs i d)
shifted_step xs ys items low out d i l t x = record {
  bits = ap length t ∙ length-append ys (out ∷ []) ∙ ap (λ k. k + 1) x.bits;
  there = λ n b h. subst (AreBelow n) (sym t) (All-push (λ k. k.node < n) ys out (x.there n b h) (x.out_there n b h));
  out_there = λ n b h. b i d l;
  value = λ a.
      ap (λ k. number_of a k + 2 ^ (i + 1) * bit (edge_value a (get_or xs i d))) t
      ∙ ap (λ k. k + 2 ^ (i + 1) * bit (edge_value a (get_or xs i d))) (number_of-push a ys out)
      ∙ ap (λ k. (number_of a ys + 2 ^ k * bit (edge_value a out)) + 2 ^ (i + 1) * bit (edge_value a (get_or xs i d))) x.bits
      ∙ shifted-push i (number_of a ys) (number_of a (take i xs)) _ (bit (edge_value a low)) _ (x.value a)
      ∙ ap (λ k. 2 * k + bit (edge_value a low)) (sym (number_of-take_more a xs i d l));
}
