-- The first offence of groups in their order.
use Rattle.std.proofs.Common.{◌≡◌, ℕ, ◌<◌, zero, suc, List, [], ◌∷◌, ◌++◌, length, false, refl, ap, ◌∙◌, inl, inr, arith}
use Rattle.std.specs.Prelude.{Option, Some, None, ◌⊎◌, All, Contains, get_or}
use Rattle.std.specs.Option.{option_or}
use Rattle.offence_order.specs.declared.Offence.{Offence}
use Rattle.offence_order.specs.Order.{is_before, first_of, leading, IsHead}
use Rattle.std.proofs.lemmas.List.Elements.{All-nil, All-cons, All-contains}
use Rattle.offence_order.proofs.Firsts.{IsFirst, first_some, first_none}

-- groups one after another: the first of the later ones only where the earlier ones have none
pub leading-append : (a b : List (List Offence)) → leading (a ++ b) ≡ option_or (leading a) (leading b)
leading-append [] b = refl
leading-append (g ∷ a) b = pick (first_of None g) (leading-append a b)
  where
    pick : (o : Option Offence) → leading (a ++ b) ≡ option_or (leading a) (leading b) → option_or o (leading (a ++ b)) ≡ option_or (option_or o (leading a)) (leading b)
    pick None h = h
    pick (Some o) h = refl

no_group : (i : ℕ) (x : Offence) → Contains (get_or [] i []) x → ⊥
no_group i x h = absurd (omega (arith, h.1))

no_member : (g : List Offence) (x : Offence) → g ≡ [] → Contains g x → ⊥
no_member g x e h = let k : length g ≡ 0 = ap length e in absurd (omega (arith, h.1, k))

-- no group has an offence
pub leading_none : (groups : List (List Offence)) → leading groups ≡ None → All (λ g. g ≡ []) groups
leading_none [] h = All-nil (λ g. g ≡ [])
leading_none (g ∷ rest) h = pick (first_of None g) refl h (leading_none rest)
  where
    pick : (o : Option Offence) → first_of None g ≡ o → option_or o (leading rest) ≡ None → (leading rest ≡ None → All (λ g. g ≡ []) rest) → All (λ g. g ≡ []) (g ∷ rest)
    pick None e k go = All-cons (λ g. g ≡ []) g rest (first_none g e) (go k)
    pick (Some o) e k go = cc

one_on : (k i : ℕ) (x o : Offence) → (k < i) ⊎ ((k ≡ i) × (is_before x o ≡ false)) → (suc k < suc i) ⊎ ((suc k ≡ suc i) × (is_before x o ≡ false))
one_on k i x o (inl l) = inl (omega arith)
one_on k i x o (inr e) = inr (ap suc e.0, e.1)

later : (g : List Offence) (rest : List (List Offence)) (o : Offence) → g ≡ [] → IsHead rest o → IsHead (g ∷ rest) o
later g rest o none h = record { group = suc h.group; there = h.there; least = least }
  where
    least : (i : ℕ) (x : Offence) → Contains (get_or (g ∷ rest) i []) x → (suc h.group < i) ⊎ ((suc h.group ≡ i) × (is_before x o ≡ false))
    least zero x c = absurd (no_member g x none c)
    least (suc i) x c = one_on h.group i x o (h.least i x c)

here : (g : List Offence) (rest : List (List Offence)) (o : Offence) → IsFirst g o → IsHead (g ∷ rest) o
here g rest o h = record { group = zero; there = h.there; least = least }
  where
    least : (i : ℕ) (x : Offence) → Contains (get_or (g ∷ rest) i []) x → (zero < i) ⊎ ((zero ≡ i) × (is_before x o ≡ false))
    least zero x c = inr (refl, All-contains (λ y. is_before y o ≡ false) g x h.first c)
    least (suc i) x c = inl (omega arith)

pub leading_head : (groups : List (List Offence)) (o : Offence) → leading groups ≡ Some o → IsHead groups o
leading_head [] o h = cc
leading_head (g ∷ rest) o h = pick (first_of None g) refl h (leading_head rest o)
  where
    pick : (f : Option Offence) → first_of None g ≡ f → option_or f (leading rest) ≡ Some o → (leading rest ≡ Some o → IsHead rest o) → IsHead (g ∷ rest) o
    pick None e k go = later g rest o (first_none g e) (go k)
    pick (Some f) e k go = let same : f ≡ o = cc in here g rest o (first_some g o (e ∙ ap Some same))

-- one group alone
pub leading_one : (group : List Offence) → leading (group ∷ []) ≡ first_of None group
leading_one group = pick (first_of None group)
  where
    pick : (o : Option Offence) → option_or o None ≡ o
    pick None = refl
    pick (Some o) = refl
