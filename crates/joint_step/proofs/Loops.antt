-- A loop, turn by turn.
use Rattle.std.proofs.Common.{◌≡◌, ◌+◌, ◌-◌, ◌<◌, ◌≤◌, ℕ, suc, Bool, true, false, refl, sym, ap, subst, ◌∙◌, arith}
use Rattle.std.specs.Prelude.{Some, None, if◌then◌else◌}
use Rattle.joint_ir.specs.declared.event.Outcome.TheVariants.{Broken}
use Rattle.joint_ir.specs.declared.program.PropId.{PropId}
use Rattle.joint_ir.specs.declared.stmt.TLoop.{TLoop, out-TLoop}
use Rattle.joint_ir.specs.Values.{Answer, is_zero}
use Rattle.joint_ir.specs.States.{JointState}
use Rattle.joint_ir.specs.Effects.{Effect, Onward, nothing, Goes, then_do, after_turn, with_value}
use Rattle.joint_ir.specs.declared.way.Way.TheVariants.{Next}
use Rattle.joint_ir.specs.Steps.{Setting, Calls, rows_in, limit_of}
use Rattle.joint_ir.specs.Statements.{after, after_loop, loop_effect, turns, tested, condition_value}
use Rattle.joint_view.specs.declared.halt.Halt.{Halt}
use Rattle.joint_view.specs.declared.halt.Halt.TheVariants as halt
use Rattle.joint_machine.specs.declared.machine.Machine.{Machine}
use Rattle.joint_ir.specs.declared.way.Way.{Way}
use Rattle.joint_ir.specs.declared.way.Way.TheVariants as way
use Rattle.joint_machine.specs.Moments.{state_of, left_of, told_of, Halts, from_here}
use Rattle.joint_machine.proofs.Flow.{onward, turn_law, then_passes, then_halts, halts_turn, nothing_done}
use Rattle.joint_lists.specs.Lists.{after_items, after_option}
use Rattle.joint_lists.proofs.Rows.{after-loop}
use Rattle.joint_step.specs.Parts.{turn_left, other_way, first_tested}
use Rattle.joint_step.proofs.Flows.{is_there, way_or, then_leaves, passes_next}
use Rattle.joint_step.proofs.Turns.{loop_turns}

-- ---- ways behind a turn

turn_goes : (w : Way) (m new : Machine) (f go : Onward) → turn_left w ≡ None → from_here m f ≡ Goes w (state_of new) (told_of new) (left_of new) →
    from_here m (λ s c. after_turn (f s c) go) ≡ from_here new go
turn_goes way.Next m new f go stays e = turn_law (told_of m) (f (state_of m) (left_of m)) go ∙ ap (λ (x : Effect). after_turn x (onward go)) e
turn_goes way.Continuing m new f go stays e = turn_law (told_of m) (f (state_of m) (left_of m)) go ∙ ap (λ (x : Effect). after_turn x (onward go)) e
turn_goes way.Breaking m new f go stays e = absurd (subst is_there stays tt)
turn_goes way.Returning m new f go stays e = absurd (subst is_there stays tt)

turn_leaves : (w v : Way) (m new : Machine) (f go : Onward) → turn_left w ≡ Some v → from_here m f ≡ Goes w (state_of new) (told_of new) (left_of new) →
    from_here m (λ s c. after_turn (f s c) go) ≡ Goes v (state_of new) (told_of new) (left_of new)
turn_leaves way.Next v m new f go leaves e = absurd (subst is_there (sym leaves) tt)
turn_leaves way.Continuing v m new f go leaves e = absurd (subst is_there (sym leaves) tt)
turn_leaves way.Breaking v m new f go leaves e =
    turn_law (told_of m) (f (state_of m) (left_of m)) go ∙ ap (λ (x : Effect). after_turn x (onward go)) e
    ∙ ap (λ (u : Way). Goes u (state_of new) (told_of new) (left_of new)) (ap (way_or v) leaves)
turn_leaves way.Returning v m new f go leaves e =
    turn_law (told_of m) (f (state_of m) (left_of m)) go ∙ ap (λ (x : Effect). after_turn x (onward go)) e
    ∙ ap (λ (u : Way). Goes u (state_of new) (told_of new) (left_of new)) (ap (way_or v) leaves)

turn_halts : (h : Halt) (m new : Machine) (f go : Onward) → Halts h new (from_here m f) → Halts h new (from_here m (λ s c. after_turn (f s c) go))
turn_halts h m new f go p = subst (λ (x : Effect). Halts h new x) (sym (turn_law (told_of m) (f (state_of m) (left_of m)) go)) (halts_turn h new (from_here m f) (onward go) p)

-- ---- the beginning

first_is : (t : Bool) (n : ℕ) (test : JointState → Answer) (body step : Onward) (p : PropId) →
    loop_effect t n test body step p ≡ (λ s c. first_tested t (test s) c (λ b. if b then Goes Next s nothing c else turns n test body step p s c))
first_is true n test body step p = refl
first_is false n test body step p = refl

module _ (k : Setting) (calls : Calls) (l : TLoop) where
  abbrev test_of : JointState → Answer
  test_of s = condition_value (rows_in k s) (out-TLoop l).cond

  abbrev body_of : Onward
  body_of = after k calls (out-TLoop l).body.place (out-TLoop l).body.node

  abbrev step_of : Onward
  step_of = after_option k calls (out-TLoop l).step

  abbrev all_turns : Onward
  all_turns = loop_turns k calls l (limit_of k.bounds (out-TLoop l).unwind)

  -- what is left behind a test, which tells whether the loop stops
  abbrev pub unless : Bool → (n : ℕ) → Onward
  unless b n s c = if b then Goes Next s nothing c else loop_turns k calls l n s c

  module _ (old mid : Machine) where
    abbrev whole : Onward
    whole = loop_effect (out-TLoop l).tests_first (limit_of k.bounds (out-TLoop l).unwind) test_of body_of step_of (out-TLoop l).unwind

    pub heads_leave : (w v : Way) → other_way w ≡ Some v → from_here old (after_items k calls (out-TLoop l).heads) ≡ Goes w (state_of mid) (told_of mid) (left_of mid) →
        from_here old (after_loop k calls l) ≡ Goes v (state_of mid) (told_of mid) (left_of mid)
    heads_leave w v other e = ap (from_here old) (after-loop k calls l) ∙ then_leaves w v old mid (after_items k calls (out-TLoop l).heads) whole other e

    pub heads_halt : (h : Halt) → Halts h mid (from_here old (after_items k calls (out-TLoop l).heads)) → Halts h mid (from_here old (after_loop k calls l))
    heads_halt h p =
        subst (λ (x : Effect). Halts h mid x) (sym (ap (from_here old) (after-loop k calls l))) (then_halts h old mid (after_items k calls (out-TLoop l).heads) whole p)

    module _ (w : Way) (next : other_way w ≡ None) (e : from_here old (after_items k calls (out-TLoop l).heads) ≡ Goes w (state_of mid) (told_of mid) (left_of mid)) where
      heads_pass : from_here old (after_loop k calls l) ≡
          from_here mid (λ s c. first_tested (out-TLoop l).tests_first (test_of s) c (λ b. unless b (limit_of k.bounds (out-TLoop l).unwind) s c))
      heads_pass =
          ap (from_here old) (after-loop k calls l)
          ∙ then_passes old mid (after_items k calls (out-TLoop l).heads) whole (passes_next w old mid (after_items k calls (out-TLoop l).heads) next e)
          ∙ ap (from_here mid) (first_is (out-TLoop l).tests_first (limit_of k.bounds (out-TLoop l).unwind) test_of body_of step_of (out-TLoop l).unwind)

      pub loop_begins : (b : Bool) → b ≡ false →
          ((go : Bool → Onward) → from_here mid (λ s c. first_tested (out-TLoop l).tests_first (test_of s) c (λ b. go b s c)) ≡ from_here mid (go b)) →
          from_here old (after_loop k calls l) ≡ from_here mid all_turns
      loop_begins b goes found =
          heads_pass ∙ found (λ b. unless b (limit_of k.bounds (out-TLoop l).unwind)) ∙ ap (λ (x : Bool). from_here mid (unless x (limit_of k.bounds (out-TLoop l).unwind))) goes

      pub loop_stops : (b : Bool) → b ≡ true →
          ((go : Bool → Onward) → from_here mid (λ s c. first_tested (out-TLoop l).tests_first (test_of s) c (λ b. go b s c)) ≡ from_here mid (go b)) →
          from_here old (after_loop k calls l) ≡ Goes Next (state_of mid) (told_of mid) (left_of mid)
      loop_stops b stops found =
          heads_pass ∙ found (λ b. unless b (limit_of k.bounds (out-TLoop l).unwind)) ∙ ap (λ (x : Bool). from_here mid (unless x (limit_of k.bounds (out-TLoop l).unwind))) stops
          ∙ nothing_done mid

      pub loop_unbegun : (h : Halt) →
          ((go : Bool → Onward) → Halts h mid (from_here mid (λ s c. first_tested (out-TLoop l).tests_first (test_of s) c (λ b. go b s c)))) →
          Halts h mid (from_here old (after_loop k calls l))
      loop_unbegun h found = subst (λ (x : Effect). Halts h mid x) (sym heads_pass) (found (λ b. unless b (limit_of k.bounds (out-TLoop l).unwind)))

  -- ---- a turn

  module _ (old m : Machine) (n i : ℕ) (lt : i < n) (so_far : from_here old (after_loop k calls l) ≡ from_here m (loop_turns k calls l (n - i))) where
    abbrev behind : Onward
    behind s c = then_do (step_of s c) (tested test_of (loop_turns k calls l (n - (i + 1))))

    more : n - i ≡ suc (n - (i + 1))
    more = omega arith

    turn_now : from_here old (after_loop k calls l) ≡ from_here m (λ s c. after_turn (body_of s c) behind)
    turn_now = so_far ∙ ap (λ (j : ℕ). from_here m (loop_turns k calls l j)) more

    pub body_halts : (h : Halt) (new : Machine) → Halts h new (from_here m body_of) → Halts h new (from_here old (after_loop k calls l))
    body_halts h new p = subst (λ (x : Effect). Halts h new x) (sym turn_now) (turn_halts h m new body_of behind p)

    pub body_leaves : (w v : Way) (new : Machine) → turn_left w ≡ Some v → from_here m body_of ≡ Goes w (state_of new) (told_of new) (left_of new) →
        from_here old (after_loop k calls l) ≡ Goes v (state_of new) (told_of new) (left_of new)
    body_leaves w v new leaves e = turn_now ∙ turn_leaves w v m new body_of behind leaves e

    module _ (w : Way) (mid : Machine) (stays : turn_left w ≡ None) (e : from_here m body_of ≡ Goes w (state_of mid) (told_of mid) (left_of mid)) where
      body_done : from_here old (after_loop k calls l) ≡ from_here mid behind
      body_done = turn_now ∙ turn_goes w m mid body_of behind stays e

      pub step_halts : (h : Halt) (new : Machine) → Halts h new (from_here mid step_of) → Halts h new (from_here old (after_loop k calls l))
      step_halts h new p =
          subst (λ (x : Effect). Halts h new x) (sym body_done) (then_halts h mid new step_of (tested test_of (loop_turns k calls l (n - (i + 1)))) p)

      pub step_leaves : (v u : Way) (new : Machine) → other_way v ≡ Some u → from_here mid step_of ≡ Goes v (state_of new) (told_of new) (left_of new) →
          from_here old (after_loop k calls l) ≡ Goes u (state_of new) (told_of new) (left_of new)
      step_leaves v u new other f = body_done ∙ then_leaves v u mid new step_of (tested test_of (loop_turns k calls l (n - (i + 1)))) other f

      module _ (v : Way) (new : Machine) (next : other_way v ≡ None) (f : from_here mid step_of ≡ Goes v (state_of new) (told_of new) (left_of new)) where
        step_done : from_here old (after_loop k calls l) ≡ from_here new (tested test_of (loop_turns k calls l (n - (i + 1))))
        step_done = body_done ∙ then_passes mid new step_of (tested test_of (loop_turns k calls l (n - (i + 1)))) (passes_next v mid new step_of next f)

        pub turn_done : (b : Bool) → b ≡ false →
            ((go : Bool → Onward) → from_here new (λ s c. with_value (test_of s) c (λ n. go (is_zero n) s c)) ≡ from_here new (go b)) →
            from_here old (after_loop k calls l) ≡ from_here new (loop_turns k calls l (n - (i + 1)))
        turn_done b goes found =
            step_done ∙ found (λ b. unless b (n - (i + 1))) ∙ ap (λ (x : Bool). from_here new (unless x (n - (i + 1)))) goes

        pub turn_stops : (b : Bool) → b ≡ true →
            ((go : Bool → Onward) → from_here new (λ s c. with_value (test_of s) c (λ n. go (is_zero n) s c)) ≡ from_here new (go b)) →
            from_here old (after_loop k calls l) ≡ Goes Next (state_of new) (told_of new) (left_of new)
        turn_stops b stops found =
            step_done ∙ found (λ b. unless b (n - (i + 1))) ∙ ap (λ (x : Bool). from_here new (unless x (n - (i + 1)))) stops ∙ nothing_done new

        pub test_halts : (h : Halt) →
            ((go : Bool → Onward) → Halts h new (from_here new (λ s c. with_value (test_of s) c (λ n. go (is_zero n) s c)))) →
            Halts h new (from_here old (after_loop k calls l))
        test_halts h found = subst (λ (x : Effect). Halts h new x) (sym step_done) (found (λ b. unless b (n - (i + 1))))

  -- past its last turn it breaks its property
  pub turns_over : (old m : Machine) (n i : ℕ) → n ≤ i → from_here old (after_loop k calls l) ≡ from_here m (loop_turns k calls l (n - i)) →
      Halts (halt.Stop (Broken (out-TLoop l).unwind)) m (from_here old (after_loop k calls l))
  turns_over old m n i le so_far = so_far ∙ ap (λ (j : ℕ). from_here m (loop_turns k calls l j)) none
    where
      none : n - i ≡ 0
      none = omega arith
