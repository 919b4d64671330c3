-- The values of a loop's variable.
use Rattle.std.proofs.Common.{◌≡◌, ℕ, zero, suc, ◌+◌, ◌-◌, ◌<◌, ◌≤◌, List, [], ◌∷◌, ◌++◌, Bool, true, false, refl, sym, ap, ◌∙◌, append_assoc, append-nil, arith}
use Rattle.std.specs.Prelude.{cond}
use Rattle.bits_core.specs.Word.{Word}
use Rattle.elab_loops.specs.Loops.{loop_values}

-- the values of a loop's variable, one by one
pub values_stop : (holds : Word → Bool) (step : Word → Word) (most : ℕ) (v : Word) → holds v ≡ false → loop_values holds step most v ≡ []
unfolding loop_values
values_stop holds step zero v h = refl
values_stop holds step (suc most) v h = ap (λ b. cond b (v ∷ loop_values holds step most (step v)) []) h

pub values_more : (holds : Word → Bool) (step : Word → Word) (most : ℕ) (v : Word) → holds v ≡ true → loop_values holds step (suc most) v ≡ v ∷ loop_values holds step most (step v)
unfolding loop_values
values_more holds step most v h = ap (λ b. cond b (v ∷ loop_values holds step most (step v)) []) h

pub values_none : (holds : Word → Bool) (step : Word → Word) (v : Word) → loop_values holds step 0 v ≡ []
unfolding loop_values
values_none holds step v = refl

pub values_end : (holds : Word → Bool) (step : Word → Word) (most : ℕ) (first : Word) (i : ℕ) (v : Word) (values : List Word) → most ≤ i →
    loop_values holds step most first ≡ values ++ loop_values holds step (most - i) v → values ≡ loop_values holds step most first
values_end holds step most first i v values end h =
    let e : most - i ≡ 0 = omega arith in
    sym (h ∙ ap (λ m. values ++ loop_values holds step m v) e ∙ ap (λ l. values ++ l) (values_none holds step v) ∙ append-nil values)

pub values_ended : (holds : Word → Bool) (step : Word → Word) (most : ℕ) (first : Word) (i : ℕ) (v : Word) (values : List Word) (b : Bool) →
    loop_values holds step most first ≡ values ++ loop_values holds step (most - i) v → b ≡ holds v → b ≡ false → values ≡ loop_values holds step most first
values_ended holds step most first i v values b h is e =
    sym (h ∙ ap (λ l. values ++ l) (values_stop holds step (most - i) v (sym is ∙ e)) ∙ append-nil values)

pub values_next : (holds : Word → Bool) (step : Word → Word) (most : ℕ) (first : Word) (i : ℕ) (v w : Word) (values more : List Word) (b : Bool) → i < most →
    loop_values holds step most first ≡ values ++ loop_values holds step (most - i) v → b ≡ holds v → b ≡ true → more ≡ values ++ v ∷ [] → w ≡ step v →
    loop_values holds step most first ≡ more ++ loop_values holds step (most - (i + 1)) w
values_next holds step most first i v w values more b lt h is e is_more is_w =
    let left : most - i ≡ suc (most - (i + 1)) = omega arith in
    h ∙ ap (λ m. values ++ loop_values holds step m v) left
    ∙ ap (λ l. values ++ l) (values_more holds step (most - (i + 1)) v (sym is ∙ e))
    ∙ sym (append_assoc values (v ∷ []) (loop_values holds step (most - (i + 1)) (step v)))
    ∙ ap (λ l. l ++ loop_values holds step (most - (i + 1)) (step v)) (sym is_more)
    ∙ ap (λ x. more ++ loop_values holds step (most - (i + 1)) x) (sym is_w)
