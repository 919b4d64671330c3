-- A caller's objects are as they were, once those of the function that it called are back.
use Rattle.std.proofs.Common.{◌≡◌, ℕ, ◌+◌, ◌-◌, ◌<◌, ◌≤◌, List, ◌++◌, length, take, drop, min, ◌⊎◌, inl, inr, le_refl, refl, sym, ap, subst, ◌∙◌, arith}
use Rattle.std.specs.Prelude.{ℤ, Some, slice_get, Result, Ok, Err, IfOk}
use Rattle.std.proofs.lemmas.Bool.{cases_lt}
use Rattle.std.proofs.lemmas.List.{take-take, take-append-drop, take_all, drop_all, append-nil, append_assoc, length-take, length-drop}
use Rattle.joint_ir.specs.declared.bounds.Bounds.{Bounds}
use Rattle.joint_ir.specs.declared.pair.Pair.{Pair}
use Rattle.joint_ir.specs.declared.program.Function.{Function}
use Rattle.joint_ir.specs.declared.stmt.TStmt.{TStmt}
use Rattle.joint_ir.specs.States.{JointState, Store}
use Rattle.joint_ir.specs.Effects.{Effect, Onward, Goes, Stops, TooFew}
use Rattle.joint_ir.specs.declared.way.Way.TheVariants.{Next}
use Rattle.joint_ir.specs.Statements.{after, set_params, calls_at}
use Rattle.joint_ir.specs.WellFormed.{IsWellFormed}
use Rattle.joint_value.specs.Elements.{part_of, replaced}
use Rattle.joint_value.specs.Evaluable.{KeepsTypes}
use Rattle.joint_view.specs.Halts.{unmeasured}
use Rattle.joint_view.specs.declared.halt.Halt.{Halt}
use Rattle.joint_machine.specs.declared.machine.Machine.{Machine}
use Rattle.joint_ir.specs.declared.way.Way.{Way}
use Rattle.joint_ir.specs.declared.way.Way.TheVariants as way_to
use Rattle.joint_machine.specs.Moments.{state_of, left_of, told_of, IsReady, from_here}
use Rattle.joint_lists.specs.Own.{own_end, KeepsOthers, GoesWith, Keeps}
use Rattle.joint_lists.proofs.Keeping.{preceded_keeps, params_keep, own_keeps, params_before}
use Rattle.joint_step.specs.Parts.{Takes}
use Rattle.joint_step.proofs.Inits.{body_fits}

-- ---- rows

module _ (rows : List (List ℤ)) (first end : ℕ) (le : first ≤ end) (there : first ≤ length rows) where
  part_count : length (part_of first end rows) ≡ min end (length rows) - first
  part_count = length-drop first (take end rows) ∙ ap (λ n. n - first) (length-take end rows)

  up_to : first + length (part_of first end rows) ≡ min end (length rows)
  up_to = omega (arith, part_count)

  pub part_room : first + length (part_of first end rows) ≤ length rows
  part_room = omega (arith, up_to)

  module _ (s : JointState) (h : KeepsOthers first end rows s) where
    rest_same : drop (min end (length rows)) s.store.locals ≡ drop (min end (length rows)) rows
    rest_same = by_length (cases_lt end (length rows))
      where
        by_length : (end < length rows) ⊎ (length rows ≤ end) → drop (min end (length rows)) s.store.locals ≡ drop (min end (length rows)) rows
        by_length (inl long) =
            let same : min end (length rows) ≡ end = omega arith in
            ap (λ n. drop n s.store.locals) same ∙ h.behind ∙ ap (λ n. drop n rows) (sym same)
        by_length (inr short) =
            let count : length s.store.locals ≡ length rows = h.count in
            drop_all (min end (length rows)) s.store.locals (omega (arith, count)) ∙ sym (drop_all (min end (length rows)) rows (omega arith))

    whole : take end rows ++ drop (min end (length rows)) rows ≡ rows
    whole = by_length (cases_lt end (length rows))
      where
        by_length : (end < length rows) ⊎ (length rows ≤ end) → take end rows ++ drop (min end (length rows)) rows ≡ rows
        by_length (inl long) =
            let same : min end (length rows) ≡ end = omega arith in
            ap (λ n. take end rows ++ drop n rows) same ∙ take-append-drop end rows
        by_length (inr short) =
            ap (λ x. x ++ drop (min end (length rows)) rows) (take_all end rows short)
            ∙ ap (λ x. rows ++ x) (drop_all (min end (length rows)) rows (omega arith)) ∙ append-nil rows

    pub rows_restored : replaced first (part_of first end rows) s.store.locals ≡ rows
    rows_restored =
        let part = part_of first end rows in
        ap (λ x. x ++ (part ++ drop (first + length part) s.store.locals)) (h.before ∙ sym (take-take first end rows le))
        ∙ ap (λ x. take first (take end rows) ++ (part ++ x)) (ap (λ n. drop n s.store.locals) up_to ∙ rest_same)
        ∙ sym (append_assoc (take first (take end rows)) part (drop (min end (length rows)) rows))
        ∙ ap (λ x. x ++ drop (min end (length rows)) rows) (take-append-drop first (take end rows))
        ∙ whole

-- ---- what a machine went on with

unmeasured_keeps : (P : JointState → Type 0) (e : Effect) → GoesWith P e → GoesWith P (unmeasured e)
unmeasured_keeps P (Goes way s told c) h = h
unmeasured_keeps P (Stops o told c) h = tt
unmeasured_keeps P TooFew h = tt

went_with : (P : JointState → Type 0) (w : Way) (old new : Machine) (f : Onward) → Keeps P f → P (state_of old) →
    from_here old f ≡ Goes w (state_of new) (told_of new) (left_of new) → P (state_of new)
went_with P w old new f keeps h is =
    subst (λ (e : Effect). GoesWith P e) is
    (preceded_keeps P (told_of old) (unmeasured (f (state_of old) (left_of old)))
    (unmeasured_keeps P (f (state_of old) (left_of old)) (keeps (state_of old) (left_of old) h)))

-- ---- a call

module _ (p : Pair) (b : Bounds) (w : IsWellFormed p) (f : ℕ) (fn : Function) (is : slice_get p.program.functions f ≡ Some fn) (body : TStmt) (some : fn.body ≡ Some body) where
  pub own_from : fn.first ≤ own_end fn body
  own_from = let le = params_before fn body (body_fits p f fn w is body some).3 in omega (arith, le)

  module _ (line : ℕ) (args : List ℤ) (taken : Takes p.program fn args) (old mid new : Machine) (ready : IsReady p old)
      (begun : from_here old (set_params line fn.first args) ≡ Goes Next (state_of mid) (told_of mid) (left_of mid))
      (left : ℕ) (standing : List ℕ) (way : Way)
      (done : from_here mid (after (record { pair = p; bounds = b; here = f }) (calls_at p b left standing) body.place body.node) ≡ Goes way (state_of new) (told_of new) (left_of new)) where
    others : KeepsOthers fn.first (own_end fn body) old.store.locals (state_of new)
    others =
        let fits = body_fits p f fn w is body some in
        let end = own_end fn body in
        let P = KeepsOthers fn.first end old.store.locals in
        let le = params_before fn body fits.3 in
        let count = taken.count in
        let first : P (state_of mid) = went_with P way_to.Next old mid (set_params line fn.first args)
        (params_keep fn.first end old.store.locals line fn.first args (le_refl fn.first) (omega (arith, le, count)))
        (record { count = refl; before = refl; behind = refl }) begun in
        went_with P way mid new (after (record { pair = p; bounds = b; here = f }) (calls_at p b left standing) body.place body.node)
        (own_keeps p b left standing old.store.locals f fn body fits) first done

    first_there : fn.first ≤ length old.store.locals
    first_there =
        let fits = body_fits p f fn w is body some in
        let count = ready.held.count in
        let le = fits.0 in
        omega (arith, count, le)

    pub call_room : fn.first + length (part_of fn.first (own_end fn body) old.store.locals) ≤ length new.store.locals
    call_room =
        let count = others.count in
        let room = part_room old.store.locals fn.first (own_end fn body) own_from first_there in
        omega (arith, count, room)

    pub call_restored : replaced fn.first (part_of fn.first (own_end fn body) old.store.locals) new.store.locals ≡ old.store.locals
    call_restored = rows_restored old.store.locals fn.first (own_end fn body) own_from first_there (state_of new) others

-- a machine that left the function is ready
pub ok_ready : {A : Type 0} (r : Result A Halt) (p : Pair) (first : ℕ) (saved : List (List ℤ)) (new left old : Machine) →
    IfOk r (λ _. (pair : Pair) (caller : Store) → IsReady pair new → KeepsTypes pair.program caller → replaced first saved new.store.locals ≡ caller.locals → IsReady pair left) →
    IsReady p new → IsReady p old → replaced first saved new.store.locals ≡ old.store.locals → IfOk r (λ _. IsReady p left)
ok_ready (Ok x) p first saved new left old h ready before same = h p old.store ready before.held same
ok_ready (Err e) p first saved new left old h ready before same = tt
