-- What an activation adds to the measure of a walk, which falls where it enters a function.
use Rattle.std.proofs.Common.{◌≡◌, ◌+◌, ◌-◌, ◌*◌, ◌<◌, ◌≤◌, ℕ, zero, suc, List, [], ◌∷◌, sym, ap, subst, arith}
use Rattle.std.specs.Prelude.{Option, Some, None, slice_get}
use denote.Param.Weighed.{most}
use Rattle.joint_ir.specs.declared.program.Function.{Function}
use Rattle.joint_ir.specs.declared.stmt.TStmt.{TStmt, size-TStmt}
use Rattle.joint_ir.proofs.Sizes.{body_size}

-- more than three times the size of any function's body, and more
abbrev pub stride : List Function → ℕ
stride functions = 3 * most (λ (f : Function). body_size f.body) functions + 6

abbrev function_or : Function → Option Function → Function
function_or d None = d
function_or d (Some fn) = fn

abbrev is_function : Option Function → Type 0
is_function None = ⊥
is_function (Some fn) = Unit {0}

one_at_most : (fns : List Function) (f : ℕ) (fn : Function) → slice_get fns f ≡ Some fn → body_size fn.body ≤ most (λ (g : Function). body_size g.body) fns
one_at_most [] f fn is = absurd (subst is_function (sym is) tt)
one_at_most (g ∷ fns) zero fn is =
    let same : body_size g.body ≡ body_size fn.body = ap (λ (o : Option Function). body_size (function_or fn o).body) is in
    omega arith
one_at_most (g ∷ fns) (suc f) fn is = let le = one_at_most fns f fn is in omega arith

less_by : (left s m : ℕ) → 0 < left → s ≤ m → (left - 1) * (3 * m + 6) + (3 * s + 6) < left * (3 * m + 6) + 1
less_by zero s m lt le = absurd (omega arith)
less_by (suc n) s m lt le =
    let less : suc n - 1 ≡ n = omega arith in
    let times : suc n * (3 * m + 6) ≡ (3 * m + 6) + n * (3 * m + 6) = grind arith in
    let same : (suc n - 1) * (3 * m + 6) ≡ n * (3 * m + 6) = ap (λ (x : ℕ). x * (3 * m + 6)) less in
    omega (arith, times, same, le)

pub enter_falls : (fns : List Function) (left f : ℕ) (fn : Function) (body : TStmt) → 0 < left → slice_get fns f ≡ Some fn → fn.body ≡ Some body →
    (left - 1) * stride fns + (3 * size-TStmt body + 6) < left * stride fns + 1
enter_falls fns left f fn body lt is some =
    let le : size-TStmt body ≤ most (λ (g : Function). body_size g.body) fns =
    subst (λ (o : Option TStmt). body_size o ≤ most (λ (g : Function). body_size g.body) fns) some (one_at_most fns f fn is) in
    less_by left (size-TStmt body) (most (λ (g : Function). body_size g.body) fns) lt le
