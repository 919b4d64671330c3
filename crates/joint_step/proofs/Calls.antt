-- Calls, and the bodies that they enter.
use Rattle.std.proofs.Common.{◌≡◌, ◌-◌, ◌<◌, ℕ, zero, suc, Bool, true, false, List, [], ◌∷◌, ◌++◌, refl, sym, ap, subst, ◌∙◌, arith}
use Rattle.std.specs.Prelude.{ℤ, Option, Some, None, slice_get, eqb}
use Rattle.std.proofs.lemmas.Bool.{false≢true}
use Rattle.std.proofs.lemmas.List.{append-nil}
use Rattle.joint_ir.specs.declared.bounds.Bounds.{Bounds}
use Rattle.joint_ir.specs.declared.ctype.IntType.{IntType}
use Rattle.joint_ir.specs.declared.event.Event.{Event}
use Rattle.joint_ir.specs.declared.pair.Pair.{Pair}
use Rattle.joint_ir.specs.declared.program.Function.{Function}
use Rattle.joint_ir.specs.declared.stmt.TStmt.{TStmt}
use Rattle.src_text.specs.declared.refusal.Place.{Place}
use Rattle.joint_ir.specs.Effects.{Effect, Onward, Told, nothing, joined, Goes, Stops, TooFew, preceded, then_do, broken}
use Rattle.joint_ir.specs.declared.way.Way.TheVariants.{Next, Breaking, Continuing, Returning}
use Rattle.joint_ir.specs.Steps.{Calls, with_locals}
use Rattle.joint_ir.specs.Statements.{after, after_body, closing, set_params, any_result, body_effect, entered_body, entered_function, is_below_limit, recursion_prop, calls_at, no_calls}
use Rattle.joint_view.specs.Halts.{only_seen, unmeasured}
use Rattle.joint_view.specs.declared.halt.Halt.{Halt}
use Rattle.joint_view.specs.declared.halt.Halt.TheVariants as halt
use Rattle.joint_machine.specs.declared.machine.Machine.{Machine}
use Rattle.joint_ir.specs.declared.way.Way.{Way}
use Rattle.joint_machine.specs.Moments.{state_of, left_of, told_of, Halts, from_here}
use Rattle.joint_machine.proofs.Flow.{then_passes, then_halts, unmeasured_behind, unmeasured_law}
use Rattle.joint_step.specs.Parts.{may_stand}

-- more may stand where one may
pub stands_left : (left : ℕ) (below : Bool) → may_stand left below ≡ true → 0 < left
stands_left zero below h = absurd (false≢true h)
stands_left (suc left) below h = omega arith

module _ (p : Pair) (b : Bounds) (f : ℕ) (place : Place) (args : List ℤ) where
  pub calls_none : (left : ℕ) (standing : List ℕ) → slice_get p.program.functions f ≡ None → calls_at p b left standing place f args ≡ (λ s c. Goes Next s nothing c)
  calls_none zero standing is = ap (λ (o : Option Function). entered_function p b (λ fn. false) no_calls f o place args) is
  calls_none (suc left) standing is =
      ap (λ (o : Option Function). entered_function p b (is_below_limit p b standing f) (calls_at p b left (standing ++ f ∷ [])) f o place args) is

  module _ (fn : Function) (left : ℕ) (standing : List ℕ) (is : slice_get p.program.functions f ≡ Some fn) where
    pub calls_bodiless : fn.body ≡ None → calls_at p b left standing place f args ≡ any_result fn.result
    calls_bodiless none = by_left left
      where
        by_left : (left : ℕ) → calls_at p b left standing place f args ≡ any_result fn.result
        by_left zero =
            ap (λ (o : Option Function). entered_function p b (λ fn. false) no_calls f o place args) is
            ∙ ap (λ (o : Option TStmt). entered_body p b false no_calls f fn o place args) none
        by_left (suc left) =
            ap (λ (o : Option Function). entered_function p b (is_below_limit p b standing f) (calls_at p b left (standing ++ f ∷ [])) f o place args) is
            ∙ ap (λ (o : Option TStmt). entered_body p b (is_below_limit p b standing f fn) (calls_at p b left (standing ++ f ∷ [])) f fn o place args) none

    module _ (body : TStmt) (some : fn.body ≡ Some body) where
      pub calls_refused : may_stand left (is_below_limit p b standing f fn) ≡ false →
          calls_at p b left standing place f args ≡ (λ s c. broken (recursion_prop p.program fn) c)
      calls_refused may = by_left left may
        where
          by_left : (left : ℕ) → may_stand left (is_below_limit p b standing f fn) ≡ false → calls_at p b left standing place f args ≡ (λ s c. broken (recursion_prop p.program fn) c)
          by_left zero may' =
              ap (λ (o : Option Function). entered_function p b (λ fn. false) no_calls f o place args) is
              ∙ ap (λ (o : Option TStmt). entered_body p b false no_calls f fn o place args) some
          by_left (suc left) may' =
              ap (λ (o : Option Function). entered_function p b (is_below_limit p b standing f) (calls_at p b left (standing ++ f ∷ [])) f o place args) is
              ∙ ap (λ (o : Option TStmt). entered_body p b (is_below_limit p b standing f fn) (calls_at p b left (standing ++ f ∷ [])) f fn o place args) some
              ∙ ap (λ (x : Bool). entered_body p b x (calls_at p b left (standing ++ f ∷ [])) f fn (Some body) place args) may'

      pub calls_entered : may_stand left (is_below_limit p b standing f fn) ≡ true →
          calls_at p b left standing place f args ≡ body_effect p b (calls_at p b (left - 1) (standing ++ f ∷ [])) f fn body place args
      calls_entered may = by_left left may
        where
          by_left : (left : ℕ) → may_stand left (is_below_limit p b standing f fn) ≡ true →
              calls_at p b left standing place f args ≡ body_effect p b (calls_at p b (left - 1) (standing ++ f ∷ [])) f fn body place args
          by_left zero may' = absurd (false≢true may')
          by_left (suc left) may' =
              let less : suc left - 1 ≡ left = omega arith in
              ap (λ (o : Option Function). entered_function p b (is_below_limit p b standing f) (calls_at p b left (standing ++ f ∷ [])) f o place args) is
              ∙ ap (λ (o : Option TStmt). entered_body p b (is_below_limit p b standing f fn) (calls_at p b left (standing ++ f ∷ [])) f fn o place args) some
              ∙ ap (λ (x : Bool). entered_body p b x (calls_at p b left (standing ++ f ∷ [])) f fn (Some body) place args) may'
              ∙ ap (λ (n : ℕ). body_effect p b (calls_at p b n (standing ++ f ∷ [])) f fn body place args) (sym less)

-- ---- the end of a body

-- what closes a body, behind what was seen of it
behind : (es : List Event) (told : Told) (e : Effect) → preceded (only_seen es) (unmeasured (preceded told e)) ≡ unmeasured (preceded (joined (only_seen es) (only_seen told.events)) e)
behind es told e =
    unmeasured_behind (only_seen es) told e
    ∙ sym (unmeasured_law (joined (only_seen es) (only_seen told.events)) e)

module _ (is_main : Bool) (ty : Option IntType) (locals : List (List ℤ)) where
  body_law : (es : List Event) (e : Effect) →
      preceded (only_seen es) (unmeasured (after_body is_main ty locals e)) ≡ unmeasured (after_body is_main ty locals (preceded (only_seen es) (unmeasured e)))
  body_law es (Goes Returning s told c) = refl
  body_law es (Goes Next s told c) = behind es told (closing is_main ty (with_locals s locals) c)
  body_law es (Goes Breaking s told c) = behind es told (closing is_main ty (with_locals s locals) c)
  body_law es (Goes Continuing s told c) = behind es told (closing is_main ty (with_locals s locals) c)
  body_law es (Stops o told c) = refl
  body_law es TooFew = refl

  halts_body : (h : Halt) (m : Machine) (e : Effect) → Halts h m e → Halts h m (unmeasured (after_body is_main ty locals e))
  halts_body (halt.Stop o) m e p = ap (λ (x : Effect). unmeasured (after_body is_main ty locals x)) p
  halts_body halt.TooFew m e p = ap (λ (x : Effect). unmeasured (after_body is_main ty locals x)) p
  halts_body halt.Memory m e p = p

  -- an activation that came to its end, and its leave
  pub body_left : (w : Way) (m : Machine) → unmeasured (after_body is_main ty locals (Goes w (state_of m) (told_of m) (left_of m))) ≡
      from_here m (λ s c. after_body is_main ty locals (Goes w s nothing c))
  body_left w m =
      ap (λ (es : List Event). unmeasured (after_body is_main ty locals (Goes w (state_of m) (only_seen es) (left_of m)))) (sym (append-nil m.events.items))
      ∙ sym (body_law m.events.items (Goes w (state_of m) nothing (left_of m)))

-- ---- a body that is entered

module _ (p : Pair) (b : Bounds) (inner : Calls) (f : ℕ) (fn : Function) (body : TStmt) (place : Place) (args : List ℤ) (old mid : Machine) where
  abbrev beginning : Onward
  beginning s c = set_params place.line fn.first args s c

  abbrev going : Onward
  going = after (record { pair = p; bounds = b; here = f }) inner body.place body.node

  pub begin_halts : (h : Halt) → Halts h mid (from_here old beginning) → Halts h mid (from_here old (body_effect p b inner f fn body place args))
  begin_halts h e =
      subst (λ (x : Effect). Halts h mid x)
      (sym (body_law (eqb f p.program.main) fn.result old.store.locals old.events.items (then_do (beginning (state_of old) (left_of old)) going)))
      (halts_body (eqb f p.program.main) fn.result old.store.locals h mid (from_here old (λ s c. then_do (beginning s c) going)) (then_halts h old mid beginning going e))

  module _ (begun : from_here old beginning ≡ Goes Next (state_of mid) (told_of mid) (left_of mid)) where
    entered_is : from_here old (body_effect p b inner f fn body place args) ≡ unmeasured (after_body (eqb f p.program.main) fn.result old.store.locals (from_here mid going))
    entered_is =
        body_law (eqb f p.program.main) fn.result old.store.locals old.events.items (then_do (beginning (state_of old) (left_of old)) going)
        ∙ ap (λ (x : Effect). unmeasured (after_body (eqb f p.program.main) fn.result old.store.locals x)) (then_passes old mid beginning going begun)

    pub going_halts : (h : Halt) (new : Machine) → Halts h new (from_here mid going) → Halts h new (from_here old (body_effect p b inner f fn body place args))
    going_halts h new e = subst (λ (x : Effect). Halts h new x) (sym entered_is) (halts_body (eqb f p.program.main) fn.result old.store.locals h new (from_here mid going) e)

    pub going_done : (w : Way) (new : Machine) → from_here mid going ≡ Goes w (state_of new) (told_of new) (left_of new) →
        from_here old (body_effect p b inner f fn body place args) ≡
        from_here new (λ s c. after_body (eqb f p.program.main) fn.result old.store.locals (Goes w s nothing c))
    going_done w new e =
        entered_is ∙ ap (λ (x : Effect). unmeasured (after_body (eqb f p.program.main) fn.result old.store.locals x)) e ∙ body_left (eqb f p.program.main) fn.result old.store.locals w new
