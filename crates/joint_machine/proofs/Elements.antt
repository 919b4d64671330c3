-- Arrays and parameters, element after element; and updates, part after part.
use Rattle.std.proofs.Common.{◌≡◌, ℕ, suc, ◌+◌, ◌-◌, ◌<◌, ◌≤◌, List, [], ◌∷◌, length, drop, refl, sym, ap, subst, ◌∙◌, arith}
use Rattle.std.specs.Prelude.{ℤ, pos, Option, Some, None, slice_index_or, get_or}
use Rattle.std.proofs.lemmas.List.{drop_more, drop-drop}
use Rattle.joint_ir.specs.declared.ctype.IntType.{IntType}
use Rattle.joint_ir.specs.declared.expr.TExpr.{TExpr}
use Rattle.joint_ir.specs.declared.expr.Slot.TheVariants.{Local}
use Rattle.joint_ir.specs.declared.program.CProgram.{CProgram}
use Rattle.joint_ir.specs.declared.stmt.TTarget.{TTarget}
use Rattle.joint_ir.specs.declared.stmt.TUpdate.{TUpdate}
use Rattle.joint_ir.specs.Types.{converted}
use Rattle.joint_ir.specs.Values.{binary_value}
use Rattle.joint_ir.specs.States.{JointState}
use Rattle.joint_ir.specs.Effects.{Onward, Goes, preceded, then_do, with_value, draw}
use Rattle.joint_ir.specs.declared.way.Way.TheVariants.{Next}
use Rattle.joint_ir.specs.Steps.{Setting, rows_in, store_at, free_elements, set_elements, first_value, slot_type, element_of, right_value, with_index, within_bounds, update_effect}
use Rattle.joint_ir.specs.Statements.{set_params}
use Rattle.joint_view.specs.declared.halt.Halt.{Halt}
use Rattle.joint_machine.specs.declared.machine.Machine.{Machine}
use Rattle.joint_view.specs.Halts.{unmeasured}
use Rattle.joint_machine.specs.Moments.{state_of, left_of, told_of, Halts, from_here, AreParams}
use Rattle.joint_machine.proofs.Flow.{then_passes, then_halts, nothing_done}

count_more : (n i : ℕ) → i < n → n - i ≡ suc (n - (i + 1))
count_more n i lt = omega arith

none_more : (n i : ℕ) → n ≤ i → n - i ≡ 0
none_more n i le = omega arith

-- ---- any values

pub free_drawn : (old mid : Machine) (line x : ℕ) (t : IntType) (count i : ℕ) (v : ℤ) → i < count →
    ((go : ℤ → Onward) → from_here old (λ s c. draw t.bits c (λ n rest. go (converted t (pos n)) s rest)) ≡ from_here mid (go v)) →
    from_here old (free_elements line x t (count - i) i) ≡
    from_here mid (λ s c. then_do (store_at line (Local x) (Some i) v s c) (free_elements line x t (count - (i + 1)) (i + 1)))
free_drawn old mid line x t count i v lt found =
    ap (λ n. from_here old (free_elements line x t n i)) (count_more count i lt)
    ∙ found (λ v s c. then_do (store_at line (Local x) (Some i) v s c) (free_elements line x t (count - (i + 1)) (i + 1)))

pub free_step : (old mid new : Machine) (line x : ℕ) (t : IntType) (count i : ℕ) (v : ℤ) → i < count →
    ((go : ℤ → Onward) → from_here old (λ s c. draw t.bits c (λ n rest. go (converted t (pos n)) s rest)) ≡ from_here mid (go v)) →
    from_here mid (store_at line (Local x) (Some i) v) ≡ Goes Next (state_of new) (told_of new) (left_of new) →
    from_here old (free_elements line x t (count - i) i) ≡ from_here new (free_elements line x t (count - (i + 1)) (i + 1))
free_step old mid new line x t count i v lt found stored =
    free_drawn old mid line x t count i v lt found
    ∙ then_passes mid new (store_at line (Local x) (Some i) v) (free_elements line x t (count - (i + 1)) (i + 1)) stored

pub free_halts : (h : Halt) (old new : Machine) (line x : ℕ) (t : IntType) (count i : ℕ) → i < count →
    ((go : ℤ → Onward) → Halts h new (from_here old (λ s c. draw t.bits c (λ n rest. go (converted t (pos n)) s rest)))) →
    Halts h new (from_here old (free_elements line x t (count - i) i))
free_halts h old new line x t count i lt found =
    subst (λ n. Halts h new (from_here old (free_elements line x t n i))) (sym (count_more count i lt))
    (found (λ v s c. then_do (store_at line (Local x) (Some i) v s c) (free_elements line x t (count - (i + 1)) (i + 1))))

pub free_unstored : (h : Halt) (old mid new : Machine) (line x : ℕ) (t : IntType) (count i : ℕ) (v : ℤ) → i < count →
    ((go : ℤ → Onward) → from_here old (λ s c. draw t.bits c (λ n rest. go (converted t (pos n)) s rest)) ≡ from_here mid (go v)) →
    Halts h new (from_here mid (store_at line (Local x) (Some i) v)) → Halts h new (from_here old (free_elements line x t (count - i) i))
free_unstored h old mid new line x t count i v lt found stored =
    subst (λ e. Halts h new e) (sym (free_drawn old mid line x t count i v lt found))
    (then_halts h mid new (store_at line (Local x) (Some i) v) (free_elements line x t (count - (i + 1)) (i + 1)) stored)

pub free_done : (m : Machine) (line x : ℕ) (t : IntType) (count i : ℕ) → count ≤ i →
    from_here m (free_elements line x t (count - i) i) ≡ Goes Next (state_of m) (told_of m) (left_of m)
free_done m line x t count i le = ap (λ n. from_here m (free_elements line x t n i)) (none_more count i le) ∙ nothing_done m

-- ---- values of expressions, and then 0

drop_next : (i : ℕ) (es : List TExpr) → drop 1 (drop i es) ≡ drop (i + 1) es
drop_next i es = drop-drop 1 i es

set_next : (k : Setting) (line x n i : ℕ) (es : List TExpr) (s : JointState) (c : List ℕ) →
    set_elements k line x (suc n) i es s c ≡
    with_value (first_value (rows_in k s) es) c (λ v. then_do (store_at line (Local x) (Some i) v s c) (set_elements k line x n (i + 1) (drop 1 es)))
set_next k line x n i [] s c = refl
set_next k line x n i (e ∷ es) s c = refl

pub set_found : (m : Machine) (k : Setting) (line x count i : ℕ) (es : List TExpr) → i < count →
    from_here m (set_elements k line x (count - i) i (drop i es)) ≡
    from_here m (λ s c. with_value (first_value (rows_in k s) (drop i es)) c (λ v. then_do (store_at line (Local x) (Some i) v s c) (set_elements k line x (count - (i + 1)) (i + 1) (drop (i + 1) es))))
set_found m k line x count i es lt =
    ap (λ n. from_here m (set_elements k line x n i (drop i es))) (count_more count i lt)
    ∙ ap (λ e. preceded (told_of m) (unmeasured e)) (set_next k line x (count - (i + 1)) i (drop i es) (state_of m) (left_of m))
    ∙ ap (λ rest. from_here m (λ s c. with_value (first_value (rows_in k s) (drop i es)) c (λ v. then_do (store_at line (Local x) (Some i) v s c) (set_elements k line x (count - (i + 1)) (i + 1) rest)))) (drop_next i es)

pub set_step : (m new : Machine) (k : Setting) (line x count i : ℕ) (es : List TExpr) (v : ℤ) → i < count →
    ((go : ℤ → Onward) → from_here m (λ s c. with_value (first_value (rows_in k s) (drop i es)) c (λ n. go n s c)) ≡ from_here m (go v)) →
    from_here m (store_at line (Local x) (Some i) v) ≡ Goes Next (state_of new) (told_of new) (left_of new) →
    from_here m (set_elements k line x (count - i) i (drop i es)) ≡ from_here new (set_elements k line x (count - (i + 1)) (i + 1) (drop (i + 1) es))
set_step m new k line x count i es v lt found stored =
    set_found m k line x count i es lt
    ∙ found (λ v s c. then_do (store_at line (Local x) (Some i) v s c) (set_elements k line x (count - (i + 1)) (i + 1) (drop (i + 1) es)))
    ∙ then_passes m new (store_at line (Local x) (Some i) v) (set_elements k line x (count - (i + 1)) (i + 1) (drop (i + 1) es)) stored

pub set_halts : (h : Halt) (m new : Machine) (k : Setting) (line x count i : ℕ) (es : List TExpr) → i < count →
    ((go : ℤ → Onward) → Halts h new (from_here m (λ s c. with_value (first_value (rows_in k s) (drop i es)) c (λ n. go n s c)))) →
    Halts h new (from_here m (set_elements k line x (count - i) i (drop i es)))
set_halts h m new k line x count i es lt found =
    subst (λ e. Halts h new e) (sym (set_found m k line x count i es lt))
    (found (λ v s c. then_do (store_at line (Local x) (Some i) v s c) (set_elements k line x (count - (i + 1)) (i + 1) (drop (i + 1) es))))

pub set_unstored : (h : Halt) (m new : Machine) (k : Setting) (line x count i : ℕ) (es : List TExpr) (v : ℤ) → i < count →
    ((go : ℤ → Onward) → from_here m (λ s c. with_value (first_value (rows_in k s) (drop i es)) c (λ n. go n s c)) ≡ from_here m (go v)) →
    Halts h new (from_here m (store_at line (Local x) (Some i) v)) → Halts h new (from_here m (set_elements k line x (count - i) i (drop i es)))
set_unstored h m new k line x count i es v lt found stored =
    subst (λ e. Halts h new e)
    (sym (set_found m k line x count i es lt
    ∙ found (λ v s c. then_do (store_at line (Local x) (Some i) v s c) (set_elements k line x (count - (i + 1)) (i + 1) (drop (i + 1) es)))))
    (then_halts h m new (store_at line (Local x) (Some i) v) (set_elements k line x (count - (i + 1)) (i + 1) (drop (i + 1) es)) stored)

pub set_done : (m : Machine) (k : Setting) (line x count i : ℕ) (es : List TExpr) → count ≤ i →
    from_here m (set_elements k line x (count - i) i (drop i es)) ≡ Goes Next (state_of m) (told_of m) (left_of m)
set_done m k line x count i es le = ap (λ n. from_here m (set_elements k line x n i (drop i es))) (none_more count i le) ∙ nothing_done m

-- ---- parameters

pub param_step : (m new : Machine) (line x i : ℕ) (args : List ℤ) → i < length args →
    from_here m (store_at line (Local x) None (get_or args i (pos 0))) ≡ Goes Next (state_of new) (told_of new) (left_of new) →
    from_here m (set_params line x (drop i args)) ≡ from_here new (set_params line (x + 1) (drop (i + 1) args))
param_step m new line x i args lt stored =
    ap (λ ns. from_here m (set_params line x ns)) (drop_more args i (pos 0) lt)
    ∙ then_passes m new (store_at line (Local x) None (get_or args i (pos 0))) (set_params line (x + 1) (drop (i + 1) args)) stored

pub param_halts : (h : Halt) (m new : Machine) (line x i : ℕ) (args : List ℤ) → i < length args →
    Halts h new (from_here m (store_at line (Local x) None (get_or args i (pos 0)))) → Halts h new (from_here m (set_params line x (drop i args)))
param_halts h m new line x i args lt stored =
    subst (λ ns. Halts h new (from_here m (set_params line x ns))) (sym (drop_more args i (pos 0) lt))
    (then_halts h m new (store_at line (Local x) None (get_or args i (pos 0))) (set_params line (x + 1) (drop (i + 1) args)) stored)

pub params_left : (p : CProgram) (x i : ℕ) (args : List ℤ) → i < length args → AreParams p x (drop i args) →
    AreParams p x (get_or args i (pos 0) ∷ drop (i + 1) args)
params_left p x i args lt h = subst (λ ns. AreParams p x ns) (drop_more args i (pos 0) lt) h

-- ---- updates

-- an update behind its index, where the old value is known
abbrev pub update_rest : Setting → TTarget → TUpdate → Option ℕ → ℤ → Onward
update_rest k target u place old s c =
    with_value (right_value (rows_in k s) u.right) c (λ y.
    with_value (binary_value u.op u.ty u.division u.other old y) c (λ n.
    store_at target.place.line target.slot place (converted (slot_type k.pair.program target.slot) n) s c))

abbrev pub old_in : Setting → TTarget → TUpdate → Option ℕ → JointState → ℤ
old_in k target u place s = converted u.ty (slice_index_or (rows_in k s target.slot) (element_of place) (pos 0))

abbrev pub update_at : Setting → TTarget → TUpdate → Option ℕ → Onward
update_at k target u place s c = update_rest k target u place (old_in k target u place s) s c

abbrev pub update_within : Setting → TTarget → TUpdate → Option ℤ → Onward
update_within k target u i s c = within_bounds k target i s c (λ place. update_at k target u place s c)

pub update_indexed : (m : Machine) (k : Setting) (target : TTarget) (u : TUpdate) (i : Option ℤ) →
    ((go : Option ℤ → Onward) → from_here m (λ s c. with_index k target.index s c (λ i. go i s c)) ≡ from_here m (go i)) →
    from_here m (update_effect k target u) ≡ from_here m (update_within k target u i)
update_indexed m k target u i found = found (λ i. update_within k target u i)

pub update_placed : (m : Machine) (k : Setting) (target : TTarget) (u : TUpdate) (i : Option ℤ) (place : Option ℕ) (old : ℤ) →
    ((go : Option ℕ → Onward) → from_here m (λ s c. within_bounds k target i s c (λ p. go p s c)) ≡ from_here m (go place)) →
    old ≡ old_in k target u place (state_of m) →
    from_here m (update_within k target u i) ≡ from_here m (update_rest k target u place old)
update_placed m k target u i place old found is =
    found (λ place. update_at k target u place)
    ∙ ap (λ o. from_here m (update_rest k target u place o)) (sym is)

pub update_computed : (m : Machine) (k : Setting) (target : TTarget) (u : TUpdate) (place : Option ℕ) (old n v : ℤ) →
    ((go : ℤ → Onward) → from_here m (λ s c. with_value (right_value (rows_in k s) u.right) c (λ y. with_value (binary_value u.op u.ty u.division u.other old y) c (λ n. go n s c))) ≡ from_here m (go n)) →
    v ≡ converted (slot_type k.pair.program target.slot) n →
    from_here m (update_rest k target u place old) ≡ from_here m (store_at target.place.line target.slot place v)
update_computed m k target u place old n v found is =
    found (λ n s c. store_at target.place.line target.slot place (converted (slot_type k.pair.program target.slot) n) s c)
    ∙ ap (λ v. from_here m (store_at target.place.line target.slot place v)) (sym is)
