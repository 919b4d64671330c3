-- Shifts, one after another.
use Rattle.std.proofs.Common.{◌≡◌, ℕ, ◌+◌, ◌-◌, ◌*◌, ◌/◌, ◌%◌, ◌^◌, ◌<◌, ◌≤◌, Bool, false, inl, inr, List, ◌++◌, length, take, drop, replicate, sym, ap, ◌∙◌, subst, arith}
use Rattle.std.specs.Prelude.{min}
use Rattle.std.proofs.Math.Nat.{le_refl, mod-lt, min-eq_left, min-eq_right, mod-eq_of_lt, div-eq_of_lt, add-mul-mod_self_left, div-le_self}
use Rattle.std.proofs.Math.Seq.{length-take-le}
use Rattle.std.proofs.lemmas.Bool.{cases_lt}
use Rattle.std.proofs.lemmas.List.{length-replicate}
use Rattle.std.proofs.lemmas.Nat.{pow_pos, pow-add, mul-mod_first, shr-shr, div-mul-add}
use Rattle.bits_core.proofs.Laws.{pow_le, shl_out}
use Rattle.gate_net.specs.declared.net.Edge.{Edge}
use Rattle.gate_net.specs.Edge.{edge_value}
use Rattle.bitblast.specs.declared.shifts.Direction.{Direction}
use Rattle.bitblast.specs.declared.shifts.Direction.TheVariants.{Left, Right}
use Rattle.bitblast.specs.Circuit.{number_of}
use Rattle.bitblast.specs.Shifts.{shifted}
use Rattle.bitblast.proofs.Numbers.{number_of-append, number_of-below, number_of-split, number_of-zeros}

pub shifted-none : (d : Direction) (w x : ℕ) → x < 2 ^ w → shifted d w x 0 ≡ x
shifted-none Left w x h = ap (λ k. k % 2 ^ w) (let e : x * 2 ^ 0 ≡ x = omega arith in e) ∙ mod-eq_of_lt h
shifted-none Right w x h = grind arith

pub shifted-again : (d : Direction) (w x j k : ℕ) → shifted d w (shifted d w x j) k ≡ shifted d w x (j + k)
shifted-again Left w x j k =
    mul-mod_first (x * 2 ^ j) (2 ^ k) (2 ^ w) ∙ ap (λ i. i % 2 ^ w) (let e : x * 2 ^ j * 2 ^ k ≡ x * (2 ^ j * 2 ^ k) = omega arith in e ∙ ap (λ i. x * i) (sym (pow-add 2 j k)))
shifted-again Right w x j k = shr-shr x j k

pub shifted-out : (d : Direction) (w x y : ℕ) → x < 2 ^ w → w ≤ y → shifted d w x y ≡ 0
shifted-out Left w x y h l = sym (shl_out x y w l)
shifted-out Right w x y h l = let p = pow_le w y l in div-eq_of_lt (omega arith)

pub shifted-below : (d : Direction) (w x y : ℕ) → x < 2 ^ w → shifted d w x y < 2 ^ w
shifted-below Left w x y h = mod-lt (x * 2 ^ y) (pow_pos w)
shifted-below Right w x y h = let l = div-le_self x (2 ^ y) in omega arith

-- an amount past the width is as good as the width
pub shifted-min : (d : Direction) (w x y : ℕ) → x < 2 ^ w → shifted d w x (min y w) ≡ shifted d w x y
shifted-min d w x y h = elim (cases_lt y w) [
  | inl l ↦ (let k : y ≤ w = omega arith in ap (shifted d w x) (min-eq_left k))
  | inr l ↦ ap (shifted d w x) (min-eq_right l) ∙ shifted-out d w x w h (le_refl w) ∙ sym (shifted-out d w x y h l)
]

moved_left_number : (a : ℕ → Bool) (xs : List Edge) (s : ℕ) (z : Edge) → s ≤ length xs → edge_value a z ≡ false
    → number_of a (replicate s z ++ take (length xs - s) xs) ≡ (number_of a xs * 2 ^ s) % 2 ^ length xs
moved_left_number a xs s z h e =
    let n : ℕ = length xs - s in
    let t : number_of a (take n xs) < 2 ^ n = subst (λ k. number_of a (take n xs) < 2 ^ k) (length-take-le n xs (omega arith)) (number_of-below a (take n xs)) in
    let w : length xs ≡ s + n = omega arith in
    let m : 2 ^ length xs ≡ 2 ^ s * 2 ^ n = ap (λ k. 2 ^ k) w ∙ pow-add 2 s n in
    let split = number_of-split a xs n (omega arith) in
    let low : 2 ^ s * number_of a (take n xs) < 2 ^ length xs = subst (λ k. 2 ^ s * number_of a (take n xs) < k) (sym m) (mul_lt (2 ^ s) _ _ (pow_pos s) t) in
    let whole : number_of a xs * 2 ^ s ≡ 2 ^ s * number_of a (take n xs) + 2 ^ length xs * number_of a (drop n xs) =
    ap (λ k. k * 2 ^ s) split ∙ (let q : (number_of a (take n xs) + 2 ^ n * number_of a (drop n xs)) * 2 ^ s ≡ 2 ^ s * number_of a (take n xs) + 2 ^ s * 2 ^ n * number_of a (drop n xs) = omega arith in q) ∙ ap (λ k. 2 ^ s * number_of a (take n xs) + k * number_of a (drop n xs)) (sym m) in
    let left : number_of a (replicate s z ++ take n xs) ≡ 2 ^ s * number_of a (take n xs) =
    number_of-append a (replicate s z) (take n xs) ∙ ap (λ k. k + 2 ^ length (replicate s z) * number_of a (take n xs)) (number_of-zeros a s z e)
    ∙ ap (λ k. 0 + 2 ^ k * number_of a (take n xs)) (length-replicate s z) ∙ (let q : 0 + 2 ^ s * number_of a (take n xs) ≡ 2 ^ s * number_of a (take n xs) = omega arith in q) in
    left ∙ sym (ap (λ k. k % 2 ^ length xs) whole ∙ add-mul-mod_self_left (2 ^ s * number_of a (take n xs)) (2 ^ length xs) (number_of a (drop n xs)) ∙ mod-eq_of_lt low)
  where
    mul_lt : (m x y : ℕ) → 0 < m → x < y → m * x < m * y
    mul_lt m x y h l = grind arith

moved_right_number : (a : ℕ → Bool) (xs : List Edge) (s : ℕ) (z : Edge) → s ≤ length xs → edge_value a z ≡ false
    → number_of a (drop s xs ++ replicate s z) ≡ number_of a xs / 2 ^ s
moved_right_number a xs s z h e =
    let t : number_of a (take s xs) < 2 ^ s = subst (λ k. number_of a (take s xs) < 2 ^ k) (length-take-le s xs h) (number_of-below a (take s xs)) in
    let whole : number_of a xs ≡ number_of a (drop s xs) * 2 ^ s + number_of a (take s xs) =
    number_of-split a xs s h ∙ (let q : number_of a (take s xs) + 2 ^ s * number_of a (drop s xs) ≡ number_of a (drop s xs) * 2 ^ s + number_of a (take s xs) = omega arith in q) in
    number_of-append a (drop s xs) (replicate s z) ∙ ap (λ k. number_of a (drop s xs) + 2 ^ length (drop s xs) * k) (number_of-zeros a s z e)
    ∙ (let q : number_of a (drop s xs) + 2 ^ length (drop s xs) * 0 ≡ number_of a (drop s xs) = omega arith in q)
    ∙ sym (ap (λ k. k / 2 ^ s) whole ∙ div-mul-add (number_of a (drop s xs)) (2 ^ s) (number_of a (take s xs)) t)

pub moved_left_value : (d : Direction) (xs ys : List Edge) (s : ℕ) (z : Edge) → d ≡ Left → s ≤ length xs → ys ≡ replicate s z ++ take (length xs - s) xs
    → (a : ℕ → Bool) → edge_value a z ≡ false → number_of a ys ≡ shifted d (length xs) (number_of a xs) s
moved_left_value d xs ys s z e h f a g =
    ap (number_of a) f ∙ moved_left_number a xs s z h g ∙ ap (λ (k : Direction). shifted k (length xs) (number_of a xs) s) (sym e)

pub moved_right_value : (d : Direction) (xs ys : List Edge) (s : ℕ) (z : Edge) → d ≡ Right → s ≤ length xs → ys ≡ drop s xs ++ replicate s z
    → (a : ℕ → Bool) → edge_value a z ≡ false → number_of a ys ≡ shifted d (length xs) (number_of a xs) s
moved_right_value d xs ys s z e h f a g =
    ap (number_of a) f ∙ moved_right_number a xs s z h g ∙ ap (λ (k : Direction). shifted k (length xs) (number_of a xs) s) (sym e)
