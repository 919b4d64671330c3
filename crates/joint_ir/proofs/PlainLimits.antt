-- Limits that are told by the names of their functions.
use Rattle.std.proofs.Common.{◌≡◌, ◌<◌, ◌+◌, ◌∙◌, Bool, true, false, ℕ, List, length, get_or, refl, sym, ap, ⊎_elim, arith}
use Rattle.std.proofs.lemmas.List.{get_or_default}
use Rattle.std.proofs.lemmas.Bool.{cases_lt}
use mathlib.Core.Bool.{beq, not}

same : (a b : Bool) → not (beq a b) ≡ false → a ≡ b
same true true e = refl
same false false e = refl
same true false e = e
same false true e = sym e

-- what holds of each element below `i`, and of the one there, which is read from an equal list
pub told_more : {X : Type 0} (f g : X → Bool) (xs ys : List X) (i : ℕ) (z : X) (a b : Bool) → ys ≡ xs →
    ((k : ℕ) (d : X) → k < i → f (get_or xs k d) ≡ g (get_or xs k d)) → i < length ys →
    a ≡ f (get_or ys i z) → b ≡ g (get_or ys i z) → not (beq a b) ≡ false →
    (k : ℕ) (d : X) → k < i + 1 → f (get_or xs k d) ≡ g (get_or xs k d)
told_more f g xs ys i z a b items before within is_a is_b last k d less = ⊎_elim
    (λ (lt : k < i). before k d lt)
    (λ le.
    let is : k ≡ i = omega arith in
    let at = ap (λ l. get_or l k d) (sym items) ∙ ap (λ n. get_or ys n d) is ∙ get_or_default ys i d z within in
    ap f at ∙ sym is_a ∙ same a b last ∙ is_b ∙ ap g (sym at))
    (cases_lt k i)
