-- How nets grow, step after step.
use Rattle.std.proofs.Common.{◌≡◌, ℕ, zero, suc, ◌+◌, ◌*◌, ◌^◌, ◌<◌, ◌≤◌, Bool, true, Some, None, refl, append_assoc, append-nil, List, [], ◌∷◌, ◌++◌, length, length-append, subst, sym, ap, ◌∙◌, arith}
use Rattle.std.proofs.lemmas.List.Elements.{All-push}
use Rattle.bits_core.specs.Word.{bit}
use Rattle.gate_net.specs.declared.net.Edge.{Edge}
use Rattle.gate_net.specs.declared.net.Node.{Node}
use Rattle.gate_net.specs.Edge.{edge_value}
use Rattle.gate_net.specs.Net.{Extends, IsValuation, is_gate}
use Rattle.std.specs.List.{list_all, slice_get}
use Rattle.std.proofs.lemmas.Bool.{and_parts, and_from}
use Rattle.bitblast.specs.Circuit.{Grows, AddsBits, MakesEdge, MakesSum, MakesWord, AreBelow, number_of}
use Rattle.bitblast.proofs.Numbers.{number_of-push}

extends_then : (o m n : List Node) → Extends o m → Extends m n → Extends o n
extends_then o m n x y = record {
  more = x.more ++ y.more;
  all = y.all ∙ ap (λ l. l ++ y.more) x.all ∙ append_assoc o x.more y.more;
  gates = all_both x.more y.more x.gates y.gates;
}
  where
    all_both : (xs ys : List Node) → list_all is_gate xs ≡ true → list_all is_gate ys ≡ true → list_all is_gate (xs ++ ys) ≡ true
    all_both [] ys e f = f
    all_both (x ∷ xs) ys e f = let p = and_parts _ _ e in and_from _ _ p.0 (all_both xs ys p.1 f)

extends_none : (o : List Node) → Extends o o
extends_none o = record { more = []; all = sym (append-nil o); gates = refl }

pub old_node : (xs ys : List Node) (i : ℕ) (x : Node) → slice_get xs i ≡ Some x → slice_get (xs ++ ys) i ≡ Some x
old_node [] ys i x e = absurd (no_node x e)
  where
    no_node : (x : Node) → None ≡ Some x → ⊥
    no_node x e = cc
old_node (z ∷ zs) ys zero x e = e
old_node (z ∷ zs) ys (suc i) x e = old_node zs ys i x e

-- a net that was extended by so many gates grew
pub grows_by : (o n : List Node) (c : ℕ) → length n ≤ length o + c → Extends o n → Grows o n c
grows_by o n c l x = record {
  extends = x;
  longer = let e : length n ≡ length o + length x.more = ap length x.all ∙ length-append o x.more in omega arith;
  cost = l;
  values = λ a v i z e. v i z (subst (λ (g : List Node). slice_get g i ≡ Some z) (sym x.all) (old_node o x.more i z e));
}

pub grows_then : (o m n : List Node) (c d : ℕ) → Grows o m c → Grows m n d → Grows o n (c + d)
grows_then o m n c d g h = record {
  extends = extends_then o m n g.extends h.extends;
  longer = let l = g.longer in let k = h.longer in omega arith;
  cost = let l = g.cost in let k = h.cost in omega arith;
  values = λ a v. g.values a (h.values a v);
}

pub grows_none : (o : List Node) → Grows o o 0
grows_none o = record { extends = extends_none o; longer = omega arith; cost = omega arith; values = λ a v. v }

pub grows_within : (o n : List Node) (c d : ℕ) → c ≤ d → Grows o n c → Grows o n d
grows_within o n c d l g = record {
  extends = g.extends;
  longer = g.longer;
  cost = let k = g.cost in omega arith;
  values = g.values;
}

pub are_below_more : (m n : ℕ) (es : List Edge) → m ≤ n → AreBelow m es → AreBelow n es
are_below_more m n es l h k d lt = let b = h k d lt in omega arith

-- one more edge on the left of a word
pub word_push : (o m n : List Node) (c d w : ℕ) (f h : (ℕ → Bool) → ℕ) (g : (ℕ → Bool) → Bool) (es : List Edge) (e : Edge)
    → MakesWord o m c w f es → MakesEdge m n d g e → ((a : ℕ → Bool) → IsValuation n a → h a ≡ f a + 2 ^ w * bit (g a))
    → MakesWord o n (c + d) (w + 1) h (es ++ e ∷ [])
word_push o m n c d w f h g es e x y z = record {
  grows = grows_then o m n c d x.grows y.grows;
  there = All-push (λ i. i.node < length n) es e (are_below_more (length m) (length n) es y.grows.longer x.there) y.there;
  bits = length-append es (e ∷ []) ∙ ap (λ i. i + 1) x.bits;
  value = λ a r.
      number_of-push a es e ∙ ap (λ i. i + 2 ^ length es * bit (edge_value a e)) (x.value a (y.grows.values a r))
      ∙ ap (λ i. f a + 2 ^ i * bit (edge_value a e)) x.bits ∙ ap (λ i. f a + 2 ^ w * bit i) (y.value a r) ∙ sym (z a r);
}

-- the same, with the list and the cost as the code has them
pub word_step : (o m n : List Node) (c d k w : ℕ) (f h : (ℕ → Bool) → ℕ) (g : (ℕ → Bool) → Bool) (es items : List Edge) (e : Edge)
    → items ≡ es ++ e ∷ [] → c + d ≡ k
    → MakesWord o m c w f es → MakesEdge m n d g e → ((a : ℕ → Bool) → IsValuation n a → h a ≡ f a + 2 ^ w * bit (g a))
    → MakesWord o n k (w + 1) h items
word_step o m n c d k w f h g es items e s t x y z =
    subst (λ i. MakesWord o n i (w + 1) h items) t
    (subst (λ i. MakesWord o n (c + d) (w + 1) h i) (sym s) (word_push o m n c d w f h g es e x y z))

-- one more bit of a sum
pub sum_step : (o m n : List Node) (c k w : ℕ) (f h : (ℕ → Bool) → ℕ) (es items : List Edge) (p q r s t : Edge)
    → items ≡ es ++ s ∷ [] → c + 9 ≡ k
    → MakesSum o m c w f es r → AddsBits m n p q r s t
    → ((a : ℕ → Bool) → (l : ℕ) → l + 2 ^ w * bit (edge_value a r) ≡ f a → bit (edge_value a s) + 2 * bit (edge_value a t) ≡ bit (edge_value a p) + bit (edge_value a q) + bit (edge_value a r) → (l + 2 ^ w * bit (edge_value a s)) + 2 ^ (w + 1) * bit (edge_value a t) ≡ h a)
    → MakesSum o n k (w + 1) h items t
sum_step o m n c k w f h es items p q r s t i j x y z = record {
  grows = subst (λ l. Grows o n l) j (grows_then o m n c 9 x.grows y.grows);
  there = subst (AreBelow (length n)) (sym i) (All-push (λ l. l.node < length n) es s (are_below_more (length m) (length n) es y.grows.longer x.there) y.sum_there);
  carry_there = y.carry_there;
  bits = ap length i ∙ length-append es (s ∷ []) ∙ ap (λ l. l + 1) x.bits;
  value = λ a l.
      ap (λ v. number_of a v + 2 ^ (w + 1) * bit (edge_value a t)) i
      ∙ ap (λ v. v + 2 ^ (w + 1) * bit (edge_value a t)) (number_of-push a es s)
      ∙ ap (λ v. (number_of a es + 2 ^ v * bit (edge_value a s)) + 2 ^ (w + 1) * bit (edge_value a t)) x.bits
      ∙ z a (number_of a es) (x.value a (y.grows.values a l)) (y.value a l);
}
