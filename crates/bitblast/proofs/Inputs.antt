-- The inputs of nets.
use Rattle.std.proofs.Common.{◌≡◌, ℕ, zero, suc, ◌+◌, ◌<◌, ◌≤◌, Bool, true, false, List, [], ◌∷◌, ◌++◌, length, replicate, Some, refl, sym, ap, ◌∙◌, subst, arith, append-nil}
use Rattle.std.specs.List.{list_all, slice_get}
use Rattle.std.proofs.lemmas.List.{length-replicate, replicate_more}
use Rattle.std.proofs.lemmas.List.Elements.{All-cons, All-nil}
use Rattle.gate_net.specs.declared.net.Edge.{Edge}
use Rattle.gate_net.specs.declared.net.Node.{Node}
use Rattle.gate_net.specs.declared.net.Node.TheVariants.{One, Input, And}
use Rattle.gate_net.specs.Net.{IsValuation, is_gate}
use Rattle.bitblast.specs.Circuit.{AreBelow, Grows}
use Rattle.bitblast.specs.Blasted.{inputs, inputs_from}
use Rattle.bitblast.proofs.Growth.{old_node}

inputs_then : (k n m : ℕ) (x : Node) (xs ys : List Node) → n ≡ m → inputs_from (suc k) (xs ++ ys) ≡ inputs_from (suc k) xs ++ inputs_from n ys → inputs_from k ((x ∷ xs) ++ ys) ≡ inputs_from k (x ∷ xs) ++ inputs_from m ys
inputs_then k n m One xs ys e h = h ∙ ap (λ n. inputs_from (suc k) xs ++ inputs_from n ys) e
inputs_then k n m Input xs ys e h = ap (λ l. record { node = k; negated = false } ∷ l) (h ∙ ap (λ n. inputs_from (suc k) xs ++ inputs_from n ys) e)
inputs_then k n m (And g) xs ys e h = h ∙ ap (λ n. inputs_from (suc k) xs ++ inputs_from n ys) e

pub inputs_from-append : (k : ℕ) (xs ys : List Node) → inputs_from k (xs ++ ys) ≡ inputs_from k xs ++ inputs_from (k + length xs) ys
inputs_from-append k [] ys = ap (λ n. inputs_from n ys) (let e : k ≡ k + 0 = omega arith in e)
inputs_from-append k (x ∷ xs) ys = inputs_then k (suc k + length xs) (k + suc (length xs)) x xs ys (omega arith) (inputs_from-append (suc k) xs ys)

inputs_of_gates : (k : ℕ) (xs : List Node) → list_all is_gate xs ≡ true → inputs_from k xs ≡ []
inputs_of_gates k [] e = refl
inputs_of_gates k (One ∷ xs) e = cc
inputs_of_gates k (Input ∷ xs) e = cc
inputs_of_gates k (And g ∷ xs) e = inputs_of_gates (suc k) xs e

-- a net that grew has the inputs that it had
pub inputs_kept : (o n : List Node) (c : ℕ) → Grows o n c → inputs n ≡ inputs o
inputs_kept o n c g =
    ap inputs g.extends.all ∙ inputs_from-append 0 o g.extends.more
    ∙ ap (λ l. inputs o ++ l) (inputs_of_gates (0 + length o) g.extends.more g.extends.gates) ∙ append-nil (inputs o)

pub inputs_added : (o : List Node) (w : ℕ) → inputs (o ++ replicate w Input) ≡ inputs o ++ inputs_from (length o) (replicate w Input)
inputs_added o w = inputs_from-append 0 o (replicate w Input) ∙ ap (λ k. inputs o ++ inputs_from k (replicate w Input)) (let e : 0 + length o ≡ length o = omega arith in e)

pub length-new_inputs : (k w : ℕ) → length (inputs_from k (replicate w Input)) ≡ w
length-new_inputs k zero = refl
length-new_inputs k (suc w) = ap suc (length-new_inputs (suc k) w)

pub below_new_inputs : (k w n : ℕ) → k + w ≤ n → AreBelow n (inputs_from k (replicate w Input))
below_new_inputs k zero n l = All-nil (λ (e : Edge). e.node < n)
below_new_inputs k (suc w) n l = All-cons (λ (e : Edge). e.node < n) (record { node = k; negated = false }) (inputs_from (suc k) (replicate w Input)) (omega arith) (below_new_inputs (suc k) w n (omega arith))

-- one input more
pub new_inputs_more : (k w : ℕ) → inputs_from k (replicate (w + 1) Input) ≡ inputs_from k (replicate w Input) ++ record { node = k + w; negated = false } ∷ []
new_inputs_more k w =
    ap (inputs_from k) (sym (replicate_more w Input)) ∙ inputs_from-append k (replicate w Input) (Input ∷ [])
    ∙ ap (λ n. inputs_from k (replicate w Input) ++ record { node = n; negated = false } ∷ []) (ap (λ n. k + n) (length-replicate w Input))

-- values of a net are values of the nodes that it begins with
pub values_of_first : (o more n : List Node) (a : ℕ → Bool) → n ≡ o ++ more → IsValuation n a → IsValuation o a
values_of_first o more n a e v = λ i z at. v i z (subst (λ (g : List Node). slice_get g i ≡ Some z) (sym e) (old_node o more i z at))
