-- The machine without limits does what calls and runs do; so nothing breaks without the limits where no run breaks.
use Rattle.std.proofs.Common.{◌≡◌, ℕ, zero, suc, ◌%◌, ◌^◌, Bool, true, false, List, [], ◌∷◌, ◌++◌, refl, sym, ap, ◌∙◌, subst}
use Rattle.std.specs.Prelude.{◌-◌, ℤ, Option, Some, None, slice_get, eqb}
use Rattle.std.proofs.lemmas.Bool.{false≢true}
use Rattle.src_text.specs.declared.refusal.Place.{Place}
use Rattle.joint_ir.specs.declared.bounds.Bounds.{Bounds}
use Rattle.joint_ir.specs.declared.ctype.IntType.{IntType}
use Rattle.joint_ir.specs.declared.event.Event.TheVariants.{Frame}
use Rattle.joint_ir.specs.declared.event.Outcome.TheVariants.{Ended, Cut, OutOfFrames, Broken}
use Rattle.joint_ir.specs.declared.module.Role.TheVariants.{Input}
use Rattle.joint_ir.specs.declared.pair.Pair.{Pair}
use Rattle.joint_ir.specs.declared.program.Function.{Function}
use Rattle.joint_ir.specs.declared.program.PropId.{PropId}
use Rattle.joint_ir.specs.declared.stmt.TStmt.{TStmt}
use Rattle.joint_ir.specs.Views.{widths_of, site_widths, shown}
use Rattle.joint_ir.specs.States.{JointState}
use Rattle.joint_ir.specs.Effects.{Effect, Told, drew, seen, preceded, Goes, Stops, TooFew, draw, draw_all}
use Rattle.joint_ir.specs.declared.way.Way.TheVariants.{Next, Breaking, Continuing, Returning}
use Rattle.joint_ir.specs.Steps.{Calls, with_locals}
use Rattle.joint_ir.specs.Statements.{ACTIVATIONS, set_params, closing, after, after_body, entered_body, entered_function, is_below_limit, no_calls, calls_at, any_result}
use Rattle.joint_ir.specs.Runs.{draw_registers, body_of, main_effect, ended, run_of}
use Rattle.joint_ir.specs.Machine.{Task, Do, BodyEnd, Configuration, At, Over, IsBroken, Lacks, onward, enter, enter_body, step, steps, setting_in, main_tasks, first_configuration}
use Rattle.joint_ir.specs.WellFormed.{IsWellFormed, FitsBody, FitsStmt, scope_of}
use Rattle.nothing_lost.specs.NothingLost.{NothingLost}
use Rattle.nothing_lost.proofs.Ways.{CallsNext, GoesBy, params_next, calls_next, stmt_by, then_by, only_by}
use Rattle.nothing_lost.proofs.Arriving.{Reaches, here, next, Arrives, reaches_then, arrives_from, arrives_next, arrives_onward, arrives_preceded, then_only}
use Rattle.nothing_lost.proofs.Simulating.{CallsArrive, stmt_comes}

-- what is told doesn't change where an effect goes
onward_preceded : (tasks : List Task) (told : Told) (e : Effect) → onward tasks (preceded told e) ≡ onward tasks e
onward_preceded tasks told (Goes Next s more c) = refl
onward_preceded tasks told (Goes Breaking s more c) = refl
onward_preceded tasks told (Goes Continuing s more c) = refl
onward_preceded tasks told (Goes Returning s more c) = refl
onward_preceded tasks told (Stops o more c) = refl
onward_preceded tasks told TooFew = refl

module _ (pair : Pair) (b : Bounds) (well : IsWellFormed pair) where
  -- the closing brace
  body_arrives : (f : ℕ) (result : Option IntType) (locals : List (List ℤ)) (tasks : List Task) (x : Configuration) (e : Effect) → GoesBy true false false e → Arrives pair b (BodyEnd f result locals ∷ tasks) x e →
      Arrives pair b tasks x (after_body (eqb f pair.program.main) result locals e)
  body_arrives f result locals tasks x (Goes Returning s told c) by h = h
  body_arrives f result locals tasks x (Goes Next s told c) by h =
      arrives_preceded pair b tasks x told (closing (eqb f pair.program.main) result (with_locals s locals) c)
      (arrives_from pair b tasks x (At (BodyEnd f result locals ∷ tasks) s c) _ h
      (arrives_next pair b tasks (At (BodyEnd f result locals ∷ tasks) s c) _ (arrives_onward pair b tasks (closing (eqb f pair.program.main) result (with_locals s locals) c))))
  body_arrives f result locals tasks x (Goes Breaking s told c) by h = absurd (false≢true by)
  body_arrives f result locals tasks x (Goes Continuing s told c) by h = absurd (false≢true by)
  body_arrives f result locals tasks x (Stops Ended told c) by h = h
  body_arrives f result locals tasks x (Stops Cut told c) by h = h
  body_arrives f result locals tasks x (Stops OutOfFrames told c) by h = h
  body_arrives f result locals tasks x (Stops (Broken p) told c) by h = tt
  body_arrives f result locals tasks x TooFew by h = h

  fits_body : (f : ℕ) (fn : Function) (o : Option TStmt) (body : TStmt) → o ≡ Some body → FitsBody pair.program f fn o → FitsStmt (scope_of pair.program f fn) body.node
  fits_body f fn None body e h = cc
  fits_body f fn (Some s) body e h = let is : s ≡ body = cc in subst (λ (t : TStmt). FitsStmt (scope_of pair.program f fn) t.node) is h.2

  module _ (inner : Calls) (arrive : CallsArrive pair b inner) (nexts : CallsNext inner) (at f : ℕ) (fn : Function) (found : slice_get pair.program.functions f ≡ Some fn) where
    entered_arrives : (may : Bool) (o : Option TStmt) → fn.body ≡ o → (p : Place) (args : List ℤ) (s : JointState) (c : List ℕ) (tasks : List Task) →
        Arrives pair b tasks (enter_body (setting_in pair b at) f fn o p args tasks s c) (entered_body pair b may inner f fn o p args s c)
    entered_arrives may None is p args s c tasks = arrives_onward pair b tasks (any_result fn.result s c)
    entered_arrives false (Some body) is p args s c tasks = tt
    entered_arrives true (Some body) is p args s c tasks =
        let fit : FitsStmt (scope_of pair.program f fn) body.node = fits_body f fn fn.body body is (well.program.functions f fn found).body in
        let end : List Task = BodyEnd f fn.result s.store.locals ∷ tasks in
        let behind : List Task = Do f body.place body.node ∷ end in
        let e : Effect = set_params p.line fn.first args s c in
        body_arrives f fn.result s.store.locals tasks (onward behind e) _
        (then_by true false false e (after (setting_in pair b f) inner body.place body.node) (only_by true false false e (params_next p.line fn.first args s c))
        (λ s' c'. stmt_by (setting_in pair b f) inner nexts (scope_of pair.program f fn) body.place body.node fit s' c'))
        (then_only pair b behind end (onward behind e) e (after (setting_in pair b f) inner body.place body.node) (params_next p.line fn.first args s c) (arrives_onward pair b behind e)
        (stmt_comes pair b f inner arrive nexts (scope_of pair.program f fn) refl body.place body.node fit end))

  function_arrives : (inner : Calls) → CallsArrive pair b inner → CallsNext inner → (may : Function → Bool) (at f : ℕ) (o : Option Function) → slice_get pair.program.functions f ≡ o → (p : Place) (args : List ℤ) (s : JointState) (c : List ℕ) (tasks : List Task) →
      Arrives pair b tasks (enter (setting_in pair b at) f o p args tasks s c) (entered_function pair b may inner f o p args s c)
  function_arrives inner arrive nexts may at f None found p args s c tasks = here _ _ refl
  function_arrives inner arrive nexts may at f (Some fn) found p args s c tasks = entered_arrives inner arrive nexts at f fn found (may fn) fn.body refl p args s c tasks

  -- calls within the limits
  calls_arrive : (left : ℕ) (standing : List ℕ) → CallsArrive pair b (calls_at pair b left standing)
  calls_arrive zero standing at p f args s c tasks = last_arrives at f (slice_get pair.program.functions f) p args s c tasks
    where
      none_arrive : (at f : ℕ) (fn : Function) (o : Option TStmt) (p : Place) (args : List ℤ) (s : JointState) (c : List ℕ) (tasks : List Task) →
          Arrives pair b tasks (enter_body (setting_in pair b at) f fn o p args tasks s c) (entered_body pair b false no_calls f fn o p args s c)
      none_arrive at f fn None p args s c tasks = arrives_onward pair b tasks (any_result fn.result s c)
      none_arrive at f fn (Some body) p args s c tasks = tt

      last_arrives : (at f : ℕ) (o : Option Function) (p : Place) (args : List ℤ) (s : JointState) (c : List ℕ) (tasks : List Task) →
          Arrives pair b tasks (enter (setting_in pair b at) f o p args tasks s c) (entered_function pair b (λ fn. false) no_calls f o p args s c)
      last_arrives at f None p args s c tasks = here _ _ refl
      last_arrives at f (Some fn) p args s c tasks = none_arrive at f fn fn.body p args s c tasks
  calls_arrive (suc left) standing at p f args s c tasks =
      function_arrives (calls_at pair b left (standing ++ f ∷ [])) (calls_arrive left (standing ++ f ∷ [])) (calls_next pair b left (standing ++ f ∷ [])) (is_below_limit pair b standing f) at f (slice_get pair.program.functions f) refl p args s c tasks

  -- the end of `main`
  ended_arrives : (x : Configuration) (e : Effect) → Arrives pair b [] x e → Arrives pair b [] x (ended e)
  ended_arrives x (Goes Next s told c) h = reaches_then pair b x (At [] s c) Over h (next (At [] s c) Over (here _ _ refl))
  ended_arrives x (Goes Breaking s told c) h = reaches_then pair b x (At [] s c) Over h (next (At [] s c) Over (here _ _ refl))
  ended_arrives x (Goes Continuing s told c) h = reaches_then pair b x (At [] s c) Over h (next (At [] s c) Over (here _ _ refl))
  ended_arrives x (Goes Returning s told c) h = h
  ended_arrives x (Stops Ended told c) h = h
  ended_arrives x (Stops Cut told c) h = h
  ended_arrives x (Stops OutOfFrames told c) h = h
  ended_arrives x (Stops (Broken p) told c) h = tt
  ended_arrives x TooFew h = h

  main_found : (o : Option Function) (fn : Function) → o ≡ Some fn → body_of o ≡ fn.body
  main_found None fn e = cc
  main_found (Some g) fn e = let is : g ≡ fn = cc in ap (λ (h : Function). h.body) is

  main_arrives : (o : Option TStmt) → body_of (slice_get pair.program.functions pair.program.main) ≡ o → (s : JointState) (c : List ℕ) → Arrives pair b [] (At (main_tasks pair o) s c) (main_effect pair b o s c)
  main_arrives None e s c = here _ _ refl
  main_arrives (Some body) e s c =
      let m = well.program.main in
      let fit : FitsStmt (scope_of pair.program pair.program.main m.0) body.node = fits_body pair.program.main m.0 m.0.body body (sym (main_found (slice_get pair.program.functions pair.program.main) m.0 m.1) ∙ e) (well.program.functions pair.program.main m.0 m.1).body in
      stmt_comes pair b pair.program.main (calls_at pair b (ACTIVATIONS - 1) (pair.program.main ∷ [])) (calls_arrive (ACTIVATIONS - 1) (pair.program.main ∷ [])) (calls_next pair b (ACTIVATIONS - 1) (pair.program.main ∷ [])) (scope_of pair.program pair.program.main m.0) refl body.place body.node fit [] s c

  -- what goes on from draws
  draw_along : (tasks : List Task) (bits : ℕ) (c : List ℕ) (f g : ℕ → List ℕ → Effect) → ((n : ℕ) (rest : List ℕ) → Arrives pair b [] (onward tasks (f n rest)) (g n rest)) → Arrives pair b [] (onward tasks (draw bits c f)) (draw bits c g)
  draw_along tasks bits [] f g h = here _ _ refl
  draw_along tasks bits (n ∷ c) f g h =
      let m = n % 2 ^ bits in
      subst (λ x. Arrives pair b [] x (preceded (drew bits) (g m c))) (sym (onward_preceded tasks (drew bits) (f m c))) (arrives_preceded pair b [] (onward tasks (f m c)) (drew bits) (g m c) (h m c))

  draws_along : (tasks : List Task) (widths c : List ℕ) (f g : List ℕ → List ℕ → Effect) → ((ns rest : List ℕ) → Arrives pair b [] (onward tasks (f ns rest)) (g ns rest)) → Arrives pair b [] (onward tasks (draw_all widths c f)) (draw_all widths c g)
  draws_along tasks [] c f g h = h [] c
  draws_along tasks (w ∷ widths) c f g h = draw_along tasks w c _ _ (λ n rest. draws_along tasks widths rest (λ ns. f (n ∷ ns)) (λ ns. g (n ∷ ns)) (λ ns. h (n ∷ ns)))

  registers_along : (tasks : List Task) (firsts : List (Option ℕ)) (widths c : List ℕ) (f g : List ℕ → List ℕ → Effect) → ((ns rest : List ℕ) → Arrives pair b [] (onward tasks (f ns rest)) (g ns rest)) → Arrives pair b [] (onward tasks (draw_registers firsts widths c f)) (draw_registers firsts widths c g)
  registers_along tasks [] widths c f g h = h [] c
  registers_along tasks (first ∷ firsts) [] c f g h = h [] c
  registers_along tasks (Some n ∷ firsts) (w ∷ widths) c f g h = registers_along tasks firsts widths c (λ ns. f (n ∷ ns)) (λ ns. g (n ∷ ns)) (λ ns. h (n ∷ ns))
  registers_along tasks (None ∷ firsts) (w ∷ widths) c f g h = draw_along tasks w c _ _ (λ n rest. registers_along tasks firsts widths rest (λ ns. f (n ∷ ns)) (λ ns. g (n ∷ ns)) (λ ns. h (n ∷ ns)))

  pub run_arrives : (choices : List ℕ) → Arrives pair b [] (first_configuration pair choices) (run_of pair b choices)
  run_arrives choices =
      let body = body_of (slice_get pair.program.functions pair.program.main) in
      let tasks : List Task = main_tasks pair body in
      registers_along tasks pair.module.firsts _ choices _ _ (λ registers c'.
      draws_along tasks (widths_of Input pair.module.signals) c' _ _ (λ inputs c''.
      draws_along tasks (site_widths pair.module.settle_sites) c'' _ _ (λ unknown rest.
      ended_arrives (At tasks _ rest) _ (arrives_preceded pair b [] (At tasks _ rest) (seen (Frame 0 (shown pair.module _))) _ (main_arrives body refl _ rest)))))

-- an end stays
over_stays : (pair : Pair) (b : Bounds) (n : ℕ) → steps pair b n Over ≡ Over
over_stays pair b zero = refl
over_stays pair b (suc n) = over_stays pair b n

lacks_stays : (pair : Pair) (b : Bounds) (n : ℕ) → steps pair b n Lacks ≡ Lacks
lacks_stays pair b zero = refl
lacks_stays pair b (suc n) = lacks_stays pair b n

broken_stays : (pair : Pair) (b : Bounds) (p : PropId) (n : ℕ) → steps pair b n (IsBroken p) ≡ IsBroken p
broken_stays pair b p zero = refl
broken_stays pair b p (suc n) = broken_stays pair b p n

-- a configuration comes to one end alone
one_end : (pair : Pair) (b : Bounds) (x y : Configuration) (p : PropId) → ((n : ℕ) → steps pair b n y ≡ y) → Reaches pair b x y → (n : ℕ) → steps pair b n x ≡ IsBroken p → y ≡ IsBroken p
one_end pair b x y p stays (here _ _ e) n is = sym (stays n) ∙ ap (steps pair b n) (sym e) ∙ is
one_end pair b x y p stays (next _ _ r) zero is = one_end pair b (step pair b x) y p stays r 0 (ap (step pair b) is)
one_end pair b x y p stays (next _ _ r) (suc n) is = one_end pair b (step pair b x) y p stays r n is

over_broken : (p : PropId) → Over ≡ IsBroken p → ⊥
over_broken p e = cc

lacks_broken : (p : PropId) → Lacks ≡ IsBroken p → ⊥
lacks_broken p e = cc

pub nothing_is_lost : NothingLost
nothing_is_lost pair b well none p f = by (run_of pair b f.choices) refl (run_arrives pair b well f.choices)
  where
    over : Reaches pair b (first_configuration pair f.choices) Over → ⊥
    over r = over_broken p (one_end pair b (first_configuration pair f.choices) Over p (over_stays pair b) r f.count f.fails)

    by : (e : Effect) → run_of pair b f.choices ≡ e → Arrives pair b [] (first_configuration pair f.choices) e → ⊥
    by (Goes Next s told c) is h = over (reaches_then pair b (first_configuration pair f.choices) (At [] s c) Over h (next (At [] s c) Over (here _ _ refl)))
    by (Goes Breaking s told c) is h = over (reaches_then pair b (first_configuration pair f.choices) (At [] s c) Over h (next (At [] s c) Over (here _ _ refl)))
    by (Goes Continuing s told c) is h = over (reaches_then pair b (first_configuration pair f.choices) (At [] s c) Over h (next (At [] s c) Over (here _ _ refl)))
    by (Goes Returning s told c) is h = over h
    by (Stops Ended told c) is h = over h
    by (Stops Cut told c) is h = over h
    by (Stops OutOfFrames told c) is h = over h
    by (Stops (Broken q) told c) is h = none q (record { choices = f.choices; told = told; rest = c; breaks = is })
    by TooFew is h = lacks_broken p (one_end pair b (first_configuration pair f.choices) Lacks p (lacks_stays pair b) h f.count f.fails)
