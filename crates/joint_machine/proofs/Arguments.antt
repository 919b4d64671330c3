-- The values of arguments, one after another.
use Rattle.std.proofs.Common.{◌≡◌, ℕ, ◌+◌, ◌<◌, List, [], ◌∷◌, ◌++◌, length, drop, take, refl, sym, ap, subst, ◌∙◌}
use Rattle.std.specs.Prelude.{ℤ, get_or, map}
use Rattle.std.proofs.lemmas.List.{append_assoc, drop_more, take_more, map-append}
use Rattle.joint_ir.specs.declared.ctype.IntType.{IntType}
use Rattle.joint_ir.specs.declared.expr.TExpr.{TExpr}
use Rattle.joint_ir.specs.declared.program.PropId.{PropId}
use Rattle.joint_ir.specs.Values.{Answer, Value, Fault, Rows, value_of}
use Rattle.joint_ir.specs.Types.{InRange}
use Rattle.joint_ir.specs.WellFormed.{Scope, FitsArgs}
use Rattle.joint_machine.specs.Moments.{InTypes, AreParams}
use Rattle.joint_ir.specs.Effects.{Effect, with_value, with_values, broken}

value_same : (a : Answer) (c : List ℕ) (f g : ℤ → Effect) → ((n : ℤ) → f n ≡ g n) → with_value a c f ≡ with_value a c g
value_same (Value n) c f g h = h n
value_same (Fault p) c f g h = refl

pub values_same : (rows : Rows) (es : List TExpr) (c : List ℕ) (f g : List ℤ → Effect) → ((ns : List ℤ) → f ns ≡ g ns) → with_values rows es c f ≡ with_values rows es c g
values_same rows [] c f g h = h []
values_same rows (e ∷ es) c f g h =
    value_same (value_of rows e) c (λ n. with_values rows es c (λ ns. f (n ∷ ns))) (λ n. with_values rows es c (λ ns. g (n ∷ ns)))
    (λ n. values_same rows es c (λ ns. f (n ∷ ns)) (λ ns. g (n ∷ ns)) (λ ns. h (n ∷ ns)))

-- one more is known
pub values_more : (rows : Rows) (es : List TExpr) (i : ℕ) (e : TExpr) (done : List ℤ) (n : ℤ) (c : List ℕ) (go : List ℤ → Effect) → i < length es →
    value_of rows (get_or es i e) ≡ Value n →
    with_values rows (drop i es) c (λ ns. go (done ++ ns)) ≡ with_values rows (drop (i + 1) es) c (λ ns. go ((done ++ n ∷ []) ++ ns))
values_more rows es i e done n c go within is =
    ap (λ xs. with_values rows xs c (λ ns. go (done ++ ns))) (drop_more es i e within)
    ∙ ap (λ a. with_value a c (λ m. with_values rows (drop (i + 1) es) c (λ ns. go (done ++ m ∷ ns)))) is
    ∙ values_same rows (drop (i + 1) es) c (λ ns. go (done ++ n ∷ ns)) (λ ns. go ((done ++ n ∷ []) ++ ns)) (λ ns. ap go (sym (append_assoc done (n ∷ []) ns)))

-- one breaks
pub values_broken : (rows : Rows) (es : List TExpr) (i : ℕ) (e : TExpr) (p : PropId) (c : List ℕ) (go : List ℤ → Effect) → i < length es →
    value_of rows (get_or es i e) ≡ Fault p → with_values rows (drop i es) c go ≡ broken p c
values_broken rows es i e p c go within is =
    ap (λ xs. with_values rows xs c go) (drop_more es i e within)
    ∙ ap (λ a. with_value a c (λ m. with_values rows (drop (i + 1) es) c (λ ns. go (m ∷ ns)))) is

pub types_more : (ts : List IntType) (ns : List ℤ) (t : IntType) (n : ℤ) → InTypes ts ns → InRange t n → InTypes (ts ++ t ∷ []) (ns ++ n ∷ [])
types_more [] [] t n h r = (r, tt)
types_more [] (m ∷ ns) t n h r = absurd h
types_more (u ∷ ts) [] t n h r = absurd h
types_more (u ∷ ts) (m ∷ ns) t n h r = (h.0, types_more ts ns t n h.1 r)

-- the types of one argument more
pub types_next : (es : List TExpr) (i : ℕ) (e : TExpr) (ns : List ℤ) (n : ℤ) → i < length es → InTypes (map (λ e. e.ty) (take i es)) ns →
    InRange (get_or es i e).ty n → InTypes (map (λ e. e.ty) (take (i + 1) es)) (ns ++ n ∷ [])
types_next es i e ns n lt h r =
    subst (λ ts. InTypes ts (ns ++ n ∷ [])) (sym (ap (map (λ (e : TExpr). e.ty)) (take_more es i e lt) ∙ map-append (λ (e : TExpr). e.ty) (take i es) (get_or es i e ∷ [])))
    (types_more (map (λ e. e.ty) (take i es)) ns (get_or es i e).ty n h r)

-- arguments are of the types of their parameters
pub params_from : (c : Scope) (x : ℕ) (es : List TExpr) (ns : List ℤ) → FitsArgs c x es → InTypes (map (λ e. e.ty) es) ns → AreParams c.program x ns
params_from c x [] [] fits h = tt
params_from c x [] (n ∷ ns) fits h = absurd h
params_from c x (e ∷ es) [] fits h = tt
params_from c x (e ∷ es) (n ∷ ns) fits h = (subst (λ t. InRange t n) fits.0.0 h.0, params_from c (x + 1) es ns fits.1 h.1)
