-- What stays as a net grows. For callers.
use Rattle.std.proofs.Common.{◌≡◌, ℕ, suc, zero, ◌≤◌, Bool, true, List, [], ◌∷◌, ◌++◌, length, Some, None, refl, sym, ap, ◌∙◌, subst, arith, length-append}
use Rattle.std.specs.List.{slice_get, list_all}
use Rattle.std.proofs.lemmas.Bool.{and_parts, and_from}
use Rattle.std.proofs.lemmas.List.{append_assoc, append-nil}
use Rattle.gate_net.specs.declared.net.Node.{Node}
use Rattle.gate_net.specs.declared.net.Node.TheVariants.{Input}
use Rattle.gate_net.specs.Net.{IsValuation, Extends, is_gate}

None-Some : (x : Node) → None ≡ Some x → ⊥
None-Some x e = cc

pub slice_get-more : (old more : List Node) (i : ℕ) (x : Node) → slice_get old i ≡ Some x → slice_get (old ++ more) i ≡ Some x
slice_get-more [] more i x e = absurd (None-Some x e)
slice_get-more (y ∷ ys) more zero x e = e
slice_get-more (y ∷ ys) more (suc i) x e = slice_get-more ys more i x e

-- values of the longer net are values of the shorter one
pub valuation-front : (old more : List Node) (a : ℕ → Bool) → IsValuation (old ++ more) a → IsValuation old a
valuation-front old more a v i x e = v i x (slice_get-more old more i x e)

pub valuation-old : (old new : List Node) (a : ℕ → Bool) → Extends old new → IsValuation new a → IsValuation old a
valuation-old old new a h v = valuation-front old h.more a (subst (λ (n : List Node). IsValuation n a) h.all v)

pub length-extends : (old new : List Node) → Extends old new → length old ≤ length new
length-extends old new h = omega (arith, ap length h.all, length-append old h.more)

pub extends-same : (net : List Node) → Extends net net
extends-same net = record { more = []; all = sym (append-nil net); gates = refl }

list_all-append : (xs ys : List Node) → list_all is_gate xs ≡ true → list_all is_gate ys ≡ true → list_all is_gate (xs ++ ys) ≡ true
list_all-append [] ys h g = g
list_all-append (x ∷ xs) ys h g = let w = and_parts _ _ h in and_from _ _ w.0 (list_all-append xs ys w.1 g)

pub extends-both : (a b c : List Node) → Extends a b → Extends b c → Extends a c
extends-both a b c h g =
    record {
      more = h.more ++ g.more;
      all = g.all ∙ ap (λ (x : List Node). x ++ g.more) h.all ∙ append_assoc a h.more g.more;
      gates = list_all-append h.more g.more h.gates g.gates;
    }

no-input : (more : List Node) (i : ℕ) → list_all is_gate more ≡ true → slice_get more i ≡ Some Input → ⊥
no-input [] i h e = None-Some Input e
no-input (x ∷ xs) zero h e = let w = and_parts _ _ h in gate-not_input (subst (λ (n : Node). is_gate n ≡ true) (node-is x Input e) w.0)
  where
    node-is : (x y : Node) → Some x ≡ Some y → x ≡ y
    node-is x y e = cc

    gate-not_input : is_gate Input ≡ true → ⊥
    gate-not_input e = cc
no-input (x ∷ xs) (suc i) h e = let w = and_parts _ _ h in no-input xs i w.1 e

input-front : (old more : List Node) (i : ℕ) → list_all is_gate more ≡ true → slice_get (old ++ more) i ≡ Some Input → slice_get old i ≡ Some Input
input-front [] more i h e = absurd (no-input more i h e)
input-front (x ∷ xs) more zero h e = e
input-front (x ∷ xs) more (suc i) h e = input-front xs more i h e

-- the inputs of a net that was extended are those that it had
pub input-old : (old new : List Node) (i : ℕ) → Extends old new → slice_get new i ≡ Some Input → slice_get old i ≡ Some Input
input-old old new i h e = input-front old h.more i h.gates (ap (λ (n : List Node). slice_get n i) (sym h.all) ∙ e)
