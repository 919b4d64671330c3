-- What holds of each item of a short list.
use Rattle.std.proofs.Common.{◌≡◌, ℕ, zero, suc, ◌<◌, [], ◌∷◌, subst, arith}
use Rattle.std.specs.Prelude.{Some, slice_get, All}

pub all_none : {X : Type 0} (P : X → Type 0) → All P []
all_none P k d h = absurd (omega arith)

pub all_one : {X : Type 0} (P : X → Type 0) (x : X) → P x → All P (x ∷ [])
all_one P x h zero d lt = h
all_one P x h (suc k) d lt = absurd (omega arith)

pub all_two : {X : Type 0} (P : X → Type 0) (x y : X) → P x → P y → All P (x ∷ y ∷ [])
all_two P x y hx hy zero d lt = hx
all_two P x y hx hy (suc zero) d lt = hy
all_two P x y hx hy (suc (suc k)) d lt = absurd (omega arith)

pub all_three : {X : Type 0} (P : X → Type 0) (x y z : X) → P x → P y → P z → All P (x ∷ y ∷ z ∷ [])
all_three P x y z hx hy hz zero d lt = hx
all_three P x y z hx hy hz (suc zero) d lt = hy
all_three P x y z hx hy hz (suc (suc zero)) d lt = hz
all_three P x y z hx hy hz (suc (suc (suc k))) d lt = absurd (omega arith)

pub all_four : {X : Type 0} (P : X → Type 0) (w x y z : X) → P w → P x → P y → P z → All P (w ∷ x ∷ y ∷ z ∷ [])
all_four P w x y z hw hx hy hz zero d lt = hw
all_four P w x y z hw hx hy hz (suc zero) d lt = hx
all_four P w x y z hw hx hy hz (suc (suc zero)) d lt = hy
all_four P w x y z hw hx hy hz (suc (suc (suc zero))) d lt = hz
all_four P w x y z hw hx hy hz (suc (suc (suc (suc k)))) d lt = absurd (omega arith)

-- what is there is one of those that are
pub among_none : {X : Type 0} (P : ℕ → X → Type 0) (y : X) (i : ℕ) → slice_get [] i ≡ Some y → P i y
among_none P y i is = absurd (cc)

pub among_one : {X : Type 0} (P : ℕ → X → Type 0) (a y : X) (i : ℕ) → slice_get (a ∷ []) i ≡ Some y → P 0 a → P i y
among_one P a y zero is h = subst (P 0) (cc) h
among_one P a y (suc i) is h = absurd (cc)

pub among_two : {X : Type 0} (P : ℕ → X → Type 0) (a b y : X) (i : ℕ) → slice_get (a ∷ b ∷ []) i ≡ Some y → P 0 a → P 1 b → P i y
among_two P a b y zero is ha hb = subst (P 0) (cc) ha
among_two P a b y (suc i) is ha hb = among_one (λ n. P (suc n)) b y i is hb

pub among_three : {X : Type 0} (P : ℕ → X → Type 0) (a b c y : X) (i : ℕ) → slice_get (a ∷ b ∷ c ∷ []) i ≡ Some y → P 0 a → P 1 b → P 2 c → P i y
among_three P a b c y zero is ha hb hc = subst (P 0) (cc) ha
among_three P a b c y (suc i) is ha hb hc = among_two (λ n. P (suc n)) b c y i is hb hc

pub below_one : (P : ℕ → Type 0) → P 0 → (i : ℕ) → i < 1 → P i
below_one P h zero lt = h
below_one P h (suc i) lt = absurd (omega arith)

pub below_two : (P : ℕ → Type 0) → P 0 → P 1 → (i : ℕ) → i < 2 → P i
below_two P h h' zero lt = h
below_two P h h' (suc zero) lt = h'
below_two P h h' (suc (suc i)) lt = absurd (omega arith)

pub below_three : (P : ℕ → Type 0) → P 0 → P 1 → P 2 → (i : ℕ) → i < 3 → P i
below_three P h h' h'' zero lt = h
below_three P h h' h'' (suc zero) lt = h'
below_three P h h' h'' (suc (suc zero)) lt = h''
below_three P h h' h'' (suc (suc (suc i))) lt = absurd (omega arith)
