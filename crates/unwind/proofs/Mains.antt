-- The body of `main`, and the whole list.
use Rattle.std.proofs.Common.{◌≡◌, ℕ, ◌-◌, List, [], ◌∷◌, refl, sym, ap, ◌∙◌, subst}
use Rattle.std.specs.Prelude.{Option, Some, None, slice_get}
use Rattle.word_eqs.specs.Graph.{Graph}
use Rattle.joint_ir.specs.declared.ctype.IntType.{IntType}
use Rattle.joint_ir.specs.declared.pair.Pair.{Pair}
use Rattle.joint_ir.specs.declared.program.Function.{Function}
use Rattle.joint_ir.specs.declared.stmt.TStmt.{TStmt}
use Rattle.joint_ir.specs.declared.bounds.Bounds.{Bounds}
use Rattle.joint_ir.specs.Runs.{body_of, main_effect}
use Rattle.joint_ir.specs.Statements.{ACTIVATIONS, after, calls_at}
use Rattle.joint_ir.specs.States.{JointState}
use Rattle.joint_ir.specs.Steps.{type_or_int, result_of}
use Rattle.joint_ir.specs.Weights.{weight_of}
use Rattle.joint_ir.specs.WellFormed.{IsWellFormed, FitsBody, FitsStmt, scope_of, places_from}
use Rattle.sized_terms.specs.declared.SizedTerm.{SizedTerm}
use Rattle.sized_terms.specs.Sized.{Has}
use Rattle.unrolled.specs.declared.Unrolled.{Unrolled}
use Rattle.trails.specs.Following.{goes}
use Rattle.unwind_state.specs.declared.state.Flow.{Flow}
use Rattle.unwind_state.specs.declared.state.Guard.TheVariants.{Always}
use Rattle.unwind_state.specs.declared.state.State.{State}
use Rattle.unwind_state.specs.Images.{IsState, IsSettled, IsBehind}
use Rattle.unwind_state.specs.Unwinding.{Unwinds}
use Rattle.unwind_state.specs.Writing.{HasObjects, HasResult}
use Rattle.unwind_state.proofs.Stretches.{unwinds_as}
use Rattle.unwind_simple.specs.declared.simple.Activation.{Activation}
use Rattle.unwind_simple.specs.Simple.{MayRun}
use Rattle.unwind_module.specs.Starting.{Begins}
use Rattle.unwind_module.proofs.Starts.{main_runs}
use Rattle.unwound.specs.Covers.{CoversRuns}
use Rattle.unwind.specs.Whole.{IsMainUnwound, IsWithin}

-- the term of the result is one of what the function returns, if it returns something
result_has : (o : Option IntType) (g : Graph) (x : SizedTerm) → Has g x → x.width ≡ (type_or_int o).bits → HasResult o g x
result_has None g x h e = tt
result_has (Some t) g x h e = (h, e)

module _ (p : Pair) (well : IsWellFormed p) (fn : Function) (body : TStmt) (at : slice_get p.program.functions p.program.main ≡ Some fn) (is : fn.body ≡ Some body) where
  pub main_fits : FitsStmt (scope_of p.program p.program.main fn) body.node
  main_fits = (subst (FitsBody p.program p.program.main fn) is (well.program.functions p.program.main fn at).body).2

  -- `main` has no parameters
  none_declared : places_from fn.first fn.params ≡ []
  none_declared =
      let m = well.program.main in
      let d : Some fn ≡ Some m.0 = sym at ∙ m.1 in
      let same : fn ≡ m.0 = cc in
      ap (λ (x : Function). places_from x.first x.params) same ∙ ap (places_from m.0.first) m.3

  pub main_requires : (a : Activation) (n : Unrolled) (s : State) → a.pair.now ≡ p → a.here ≡ p.program.main → Begins p n s → MayRun a n s Always (λ c. FitsStmt c body.node)
  main_requires a n s ep here B = record {
    well = subst IsWellFormed (sym ep) well;
    scope = scope_of p.program p.program.main fn;
    program = (ap (λ (q : Pair). q.program) (sym ep), sym here);
    fits = main_fits;
    objects = subst (λ (q : Pair). HasObjects q.program n.terms s.objects) (sym ep) B.objects;
    result = subst (λ (q : Pair). HasResult (result_of (slice_get q.program.functions a.here)) n.terms s.result) (sym ep)
        (subst (λ i. HasResult (result_of (slice_get p.program.functions i)) n.terms s.result) (sym here)
        (result_has (result_of (slice_get p.program.functions p.program.main)) n.terms s.result B.result B.wide));
    guard = tt;
  }

  -- what is done in the first activation is what `main` does
  main_is : (b : Bounds) (s : JointState) (c : List ℕ) → after (record { pair = p; bounds = b; here = p.program.main }) (calls_at p b (ACTIVATIONS - 1) (p.program.main ∷ [])) body.place body.node s c ≡ main_effect p b (body_of (slice_get p.program.functions p.program.main)) s c
  main_is b s c = sym (ap (λ o. main_effect p b (body_of o) s c) at ∙ ap (λ o. main_effect p b o s c) is)

  pub main_made : (b : Bounds) (n1 n2 : Unrolled) (s1 s2 : State) (f : Flow) (visible : List ℕ) →
      Unwinds (IsSettled p) n1 n2 s1 s2 (λ v. after (record { pair = p; bounds = b; here = p.program.main }) (calls_at p b (ACTIVATIONS - 1) (p.program.main ∷ [])) body.place body.node) Always f
      (IsState p (places_from fn.first fn.params)) (IsBehind p visible (result_of (slice_get p.program.functions p.program.main))) goes → IsMainUnwound p b n1 n2 s1 s2
  main_made b n1 n2 s1 s2 f visible U = record {
    flow = f;
    visible = visible;
    does = unwinds_as (IsSettled p) n1 n2 s1 s2 (λ v. after (record { pair = p; bounds = b; here = p.program.main }) (calls_at p b (ACTIVATIONS - 1) (p.program.main ∷ [])) body.place body.node)
        (λ v. main_effect p b (body_of (slice_get p.program.functions p.program.main))) Always f (IsState p (places_from fn.first fn.params)) (IsState p [])
        (IsBehind p visible (result_of (slice_get p.program.functions p.program.main))) (IsBehind p visible (result_of (slice_get p.program.functions p.program.main))) goes goes
        (λ x s h. subst (λ l. IsState p l x s) (sym none_declared) h) (λ v r s h c. main_is b s c) (λ way x s h. h) (λ way s c. refl) U;
  }

pub whole : (p : Pair) (b : Bounds) (n1 n2 : Unrolled) (s1 s2 : State) → Begins p n1 s1 → IsMainUnwound p b n1 n2 s1 s2 → IsWithin n2.terms n2.list (weight_of p b) → CoversRuns p b n2.terms n2.list
whole p b n1 n2 s1 s2 B M W = main_runs p b n1 n2 s1 s2 M.flow M.visible (result_of (slice_get p.program.functions p.program.main)) B M.does W.ordered W.small.narrow W.small.few
