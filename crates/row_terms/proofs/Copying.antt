-- Copies of a number side by side.
use Rattle.std.proofs.Common.{◌≡◌, ℕ, zero, suc, ◌+◌, ◌-◌, ◌*◌, ◌/◌, ◌%◌, ◌^◌, ◌<◌, ◌≤◌, length, refl, sym, ap, ◌∙◌, arith}
use Rattle.std.proofs.lemmas.Nat.{pow-add}
use Rattle.flat_tree.specs.Operators.{repeated}
use Rattle.operand_contexts.proofs.Steps.{restate, kept}
use Rattle.term_steps.specs.Adds.{Adds}
use Rattle.term_steps.proofs.Adding.{chain, value_of}
use Rattle.word_eqs.specs.Graph.{Graph, IsGraph, width_in}
use Rattle.word_eqs.specs.Meaning.{Values}

repeated_add : (m n l x : ℕ) → repeated (m + n) l x ≡ repeated m l x * 2 ^ (n * l) + repeated n l x
repeated_add zero n l x = let z : zero + n ≡ n = omega arith in let e = ap (λ k. repeated k l x) z in omega (arith, e)
repeated_add (suc m) n l x =
    let p : 2 ^ ((m + n) * l) ≡ 2 ^ (m * l) * 2 ^ (n * l) = (let e : (m + n) * l ≡ m * l + n * l = omega arith in ap (λ k. 2 ^ k) e ∙ pow-add 2 (m * l) (n * l)) in
    (let z : suc m + n ≡ suc (m + n) = omega arith in ap (λ k. repeated k l x) z) ∙ ap (λ k. x * 2 ^ ((m + n) * l) + k) (repeated_add m n l x) ∙ ap (λ k. x * k + (repeated m l x * 2 ^ (n * l) + repeated n l x)) p ∙ omega arith

repeated_one : (l x : ℕ) → repeated 1 l x ≡ x
repeated_one l x = let z : 0 * l ≡ 0 = omega arith in let e : repeated 1 l x ≡ x * 1 = ap (λ k. x * 2 ^ k + 0) z ∙ omega arith in omega (arith, e)

pub one_copy : (g : Graph) (x count bits : ℕ) → count ≡ 1 → IsGraph g → x < length g.terms → Adds g g (count * width_in g x) (λ v. repeated count (width_in g x) (v.term x).value) 0 (2 * bits) x
one_copy g x count bits e proper lt =
    restate g g (width_in g x) (count * width_in g x) 0 0 0 (2 * bits) x _ _ (kept g x proper lt) (omega (arith, ap (λ k. k * width_in g x) e)) (λ v r. sym (ap (λ k. repeated k (width_in g x) (v.term x).value) e ∙ repeated_one (width_in g x) (v.term x).value)) (omega arith) (omega arith)

pub twice : (g h i : Graph) (x d w n half both : ℕ) → w ≡ width_in g x → Adds g h (d * w) (λ v. repeated d w (v.term x).value) 0 n half →
    Adds h i (width_in h half + width_in h half) (λ v. (v.term half).value * 2 ^ width_in h half + (v.term half).value) 0 1 both →
    Adds g i ((d + d) * w) (λ v. repeated (d + d) w (v.term x).value) 0 (n + 1) both
twice g h i x d w n half both e a b =
    let width = a.typed.width in
    restate g i (width_in h half + width_in h half) ((d + d) * w) 0 0 (n + 1) (n + 1) both _ _
    (chain g h i (d * w) (width_in h half + width_in h half) 0 0 n 1 half both _ _ (λ v. repeated (d + d) w (v.term x).value) a b
    (λ v r.
    let f = value_of g h (d * w) 0 n half _ a v (b.grown v r) in
    ap (λ k. k * 2 ^ width_in h half + k) f ∙ ap (λ k. repeated d w (v.term x).value * 2 ^ k + repeated d w (v.term x).value) width ∙ sym (repeated_add d d w (v.term x).value)))
    (omega (arith, width)) (λ v r. refl) (omega arith) (omega arith)

pub once_more : (g i j : Graph) (x d w n both t : ℕ) → w ≡ width_in g x → x < length g.terms → Adds g i (d * w) (λ v. repeated d w (v.term x).value) 0 n both →
    Adds i j (width_in i both + width_in i x) (λ v. (v.term both).value * 2 ^ width_in i x + (v.term x).value) 0 1 t →
    Adds g j ((d + 1) * w) (λ v. repeated (d + 1) w (v.term x).value) 0 (n + 1) t
once_more g i j x d w n both t e lt a b =
    let width = a.typed.width in
    let wx : width_in i x ≡ w = a.typed.kept x lt ∙ sym e in
    restate g j (width_in i both + width_in i x) ((d + 1) * w) 0 0 (n + 1) (n + 1) t _ _
    (chain g i j (d * w) (width_in i both + width_in i x) 0 0 n 1 both t _ _ (λ v. repeated (d + 1) w (v.term x).value) a b
    (λ v r.
    let f = value_of g i (d * w) 0 n both _ a v (b.grown v r) in
    ap (λ k. k * 2 ^ width_in i x + (v.term x).value) f
    ∙ ap (λ k. repeated d w (v.term x).value * 2 ^ k + (v.term x).value) wx
    ∙ (let one : 1 * w ≡ w = omega arith in ap (λ k. repeated d w (v.term x).value * 2 ^ k + (v.term x).value) (sym one))
    ∙ ap (λ k. repeated d w (v.term x).value * 2 ^ (1 * w) + k) (sym (repeated_one w (v.term x).value))
    ∙ sym (repeated_add d 1 w (v.term x).value)))
    (omega (arith, width, wx)) (λ v r. refl) (omega arith) (omega arith)

-- the same for a number of copies that is that
pub so_many : (g h : Graph) (x d count w n m t : ℕ) → d ≡ count → n ≤ m → Adds g h (d * w) (λ v. repeated d w (v.term x).value) 0 n t → Adds g h (count * w) (λ v. repeated count w (v.term x).value) 0 m t
so_many g h x d count w n m t e le a = restate g h (d * w) (count * w) 0 0 n m t _ _ a (ap (λ k. k * w) e) (λ v r. ap (λ k. repeated k w (v.term x).value) e) (omega arith) le

-- a half
pub half_below : (c b : ℕ) → 0 < c → c < 2 ^ b → c / 2 < 2 ^ (b - 1)
half_below c zero p q = let e : c < 1 = q in omega (arith, p, e)
half_below c (suc b) p q = let z : suc b ≡ 1 + b = omega arith in let e : 2 ^ suc b ≡ 2 * 2 ^ b = ap (λ k. 2 ^ k) z ∙ pow-add 2 1 b in let y : suc b - 1 ≡ b = omega arith in let f = ap (λ k. 2 ^ k) y in omega (arith, q, e, f)

pub some_bits : (c b : ℕ) → 0 < c → c < 2 ^ b → 1 ≤ b
some_bits c zero p q = let e : c < 1 = q in omega (arith, p, e)
some_bits c (suc b) p q = omega arith

pub even : (c : ℕ) → c % 2 ≡ 0 → c / 2 + c / 2 ≡ c
even c e = omega (arith, e)

pub odd : (c : ℕ) → (c % 2 ≡ 0 → ⊥) → c / 2 + c / 2 + 1 ≡ c
odd c e = omega (arith, e)

pub half_within : (c w : ℕ) → c * w ≤ 128 → c / 2 * w + c / 2 * w ≤ 128
half_within c w p =
    let e : c ≡ c / 2 + c / 2 + c % 2 = omega arith in
    let f : c * w ≡ c / 2 * w + c / 2 * w + c % 2 * w = ap (λ k. k * w) e ∙ omega arith in
    omega (arith, f, p)

pub odd_within : (c w : ℕ) → (c % 2 ≡ 0 → ⊥) → c * w ≤ 128 → c / 2 * w + c / 2 * w + w ≤ 128
odd_within c w odd p =
    let e : c ≡ c / 2 + c / 2 + 1 = omega (arith, odd) in
    let f : c * w ≡ c / 2 * w + c / 2 * w + w = ap (λ k. k * w) e ∙ omega arith in
    omega (arith, f, p)

-- two halves are the whole, or lack one copy
pub even_copies : (g h i : Graph) (x c b half both : ℕ) → 0 < c → c < 2 ^ b → c % 2 ≡ 0 → Adds g h (c / 2 * width_in g x) (λ v. repeated (c / 2) (width_in g x) (v.term x).value) 0 (2 * (b - 1)) half →
    Adds h i (width_in h half + width_in h half) (λ v. (v.term half).value * 2 ^ width_in h half + (v.term half).value) 0 1 both →
    Adds g i (c * width_in g x) (λ v. repeated c (width_in g x) (v.term x).value) 0 (2 * b) both
even_copies g h i x c b half both some lt e p q =
    so_many g i x (c / 2 + c / 2) c (width_in g x) (2 * (b - 1) + 1) (2 * b) both (even c e) (let n = some_bits c b some lt in omega (arith, n)) (twice g h i x (c / 2) (width_in g x) (2 * (b - 1)) half both refl p q)

pub odd_copies : (g h i j : Graph) (x c b half both t : ℕ) → x < length g.terms → 0 < c → c < 2 ^ b → (c % 2 ≡ 0 → ⊥) →
    Adds g h (c / 2 * width_in g x) (λ v. repeated (c / 2) (width_in g x) (v.term x).value) 0 (2 * (b - 1)) half →
    Adds h i (width_in h half + width_in h half) (λ v. (v.term half).value * 2 ^ width_in h half + (v.term half).value) 0 1 both →
    Adds i j (width_in i both + width_in i x) (λ v. (v.term both).value * 2 ^ width_in i x + (v.term x).value) 0 1 t →
    Adds g j (c * width_in g x) (λ v. repeated c (width_in g x) (v.term x).value) 0 (2 * b) t
odd_copies g h i j x c b half both t there some lt e p q r =
    so_many g j x (c / 2 + c / 2 + 1) c (width_in g x) (2 * (b - 1) + 1 + 1) (2 * b) t (odd c e) (let n = some_bits c b some lt in omega (arith, n))
    (once_more g i j x (c / 2 + c / 2) (width_in g x) (2 * (b - 1) + 1) both t refl there (twice g h i x (c / 2) (width_in g x) (2 * (b - 1)) half both refl p q) r)

-- the widths of what is joined
pub halves_width : (g h : Graph) (x c n half : ℕ) (f : Values → ℕ) → c * width_in g x ≤ 128 → Adds g h (c / 2 * width_in g x) f 0 n half → width_in h half + width_in h half ≤ 128
halves_width g h x c n half f le p = let w = p.typed.width in let m = half_within c (width_in g x) le in omega (arith, w, m)

pub both_width : (g h i : Graph) (x c n m half both : ℕ) (f k : Values → ℕ) → x < length g.terms → (c % 2 ≡ 0 → ⊥) → c * width_in g x ≤ 128 → Adds g h (c / 2 * width_in g x) f 0 n half → Adds h i (width_in h half + width_in h half) k 0 m both →
    width_in i both + width_in i x ≤ 128
both_width g h i x c n m half both f k there odd le p q =
    let w = p.typed.width in
    let b = q.typed.width in
    let l = p.typed.longer in
    let here : x < length h.terms = omega (arith, l, there) in
    let wx = q.typed.kept x here ∙ p.typed.kept x there in
    let m = odd_within c (width_in g x) odd le in
    omega (arith, w, b, wx, m)
