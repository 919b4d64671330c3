-- Numbers after one variable more.
use Rattle.std.proofs.Common.{◌≡◌, ℕ, suc, zero, ◌+◌, ◌<◌, [], ◌∷◌, length, take, get_or, refl, ap, ◌∙◌, arith}
use Rattle.clause_arena.specs.Clause.{Clause}
use Rattle.cdcl.specs.Numbers.{Numbers, gained, all_gained}
use Rattle.cdcl.proofs.Back.{zero_lit}

pub gained-none : (n : Numbers) → n ≡ all_gained n []
unfolding all_gained
gained-none n = refl

pub gained-more : (n : Numbers) (c : Clause) (i : ℕ) → i < length c → all_gained n (take (i + 1) c) ≡ gained (all_gained n (take i c)) (get_or c i zero_lit).var
unfolding all_gained
gained-more n [] i l = absurd (omega arith)
gained-more n (x ∷ xs) zero l = refl
gained-more n (x ∷ xs) (suc i) l =
    let e : suc i + 1 ≡ suc (i + 1) = omega arith in
    ap (λ (k : ℕ). all_gained n (take k (x ∷ xs))) e ∙ gained-more (gained n x.var) xs i (omega arith)
