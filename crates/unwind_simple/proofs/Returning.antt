-- What a body returns.
use Rattle.std.proofs.Common.{◌≡◌, ℕ, List, [], ◌∷◌, Bool, true, false, Option, Some, None, refl, sym, ap, ◌∙◌, subst}
use Rattle.std.specs.Prelude.{ℤ, pos, slice_get}
use Rattle.bits_core.specs.Word.{number, at_zero}
use Rattle.word_eqs.specs.Graph.{Graph, IsGraph}
use Rattle.word_eqs.specs.Meaning.{Values, Respects}
use Rattle.joint_ir.specs.declared.ctype.IntType.{IntType}
use Rattle.joint_ir.specs.declared.expr.TExpr.{TExpr}
use Rattle.joint_ir.specs.declared.program.CProgram.{CProgram}
use Rattle.joint_ir.specs.declared.program.Function.{Function}
use Rattle.joint_ir.specs.declared.stmt.SNode.{Return}
use Rattle.joint_ir.specs.declared.stmt.TCall.{TCall}
use Rattle.joint_ir.specs.declared.stmt.TInit.{TInit}
use Rattle.joint_ir.specs.declared.stmt.TInit.TheVariants.{Free, Values as Exprs, Called}
use Rattle.joint_ir.specs.declared.way.Way.TheVariants.{Next, Breaking, Continuing, Returning}
use Rattle.joint_ir.specs.Effects.{Effect, nothing, Goes, Onward, then_do, with_value, draw}
use Rattle.joint_ir.specs.States.{JointState}
use Rattle.joint_ir.specs.Statements.{any_result}
use Rattle.joint_ir.specs.Steps.{call_effect, result_of, return_effect, returning, rows_in, type_or_int, with_init}
use Rattle.joint_ir.specs.Types.{IsType, converted}
use Rattle.joint_ir.specs.Values.{Value, value_of}
use Rattle.joint_ir.specs.WellFormed.{Scope, FitsAs, FitsInit, FitsReturn, FitsStmt, IsWellFormed}
use Rattle.sized_terms.specs.declared.SizedTerm.{SizedTerm}
use Rattle.sized_terms.specs.Sized.{bits}
use Rattle.checked_terms.specs.Checked.{IsChecked, plain, stands}
use Rattle.unrolled.specs.declared.Unrolled.{Unrolled}
use Rattle.trails.specs.Following.{goes}
use Rattle.unwind_state.specs.declared.state.Flow.{Flow}
use Rattle.unwind_state.specs.declared.state.Guard.{Guard}
use Rattle.unwind_state.specs.declared.state.State.{State}
use Rattle.unwind_state.specs.Guards.{bit_at, HasGuard, HasFlow, flow_at, Adds}
use Rattle.unwind_state.specs.Images.{Image, look, HasReturned}
use Rattle.unwind_state.specs.Unwinding.{Grows, IsDrawn, Changes}
use Rattle.unwind_state.specs.Writing.{HasResult, IsChosen}
use Rattle.unwind_state.proofs.Gates.{adds_built, adds_none}
use Rattle.unwind_state.proofs.Pieces.{changed, drawn}
use Rattle.unwind_state.proofs.Stretches.{unwinds_as}
use Rattle.unwind_simple.specs.declared.simple.Activation.{Activation}
use Rattle.unwind_simple.specs.Obtaining.{Obtains, IsObtained, IsOpen}
use Rattle.unwind_simple.specs.Simple.{setting_of, calls_in, result_in, is_in, MayAsk, MayRun, IsValued, IsDone}
use Rattle.unwind_simple.proofs.Obtaining.{obtain, obtains_as, obtains_asked, obtains_drawn, open_call, drawn_number}
use Rattle.unwind_simple.proofs.Statements.{fixed, state, behind, stays, grown_guard, grown_objects, grown_result, grows_then, next_flow}
use Rattle.unwind_simple.proofs.Types.{result_typed}

-- an expression, where one stands for an initializer

same_one : (e x : TExpr) → e ∷ [] ≡ x ∷ [] → e ≡ x
same_one e x p = cc

pub one_fits : (c : Scope) (free : Bool) (t : IntType) (es : List TExpr) (x : TExpr) → es ≡ x ∷ [] → FitsInit c free t (Exprs es) → FitsAs c t x
one_fits c free t es x is (e, q, h) = subst (FitsAs c t) (same_one e x (sym q ∙ is)) h

-- what may not be left open fits where it may be
pub fits_free : (c : Scope) (t : IntType) (init : TInit) → FitsInit c false t init → FitsInit c true t init
fits_free c t Free h = let d : false ≡ true = h in cc
fits_free c t (Exprs es) h = h
fits_free c t (Called call) h = h

-- a state with another result
abbrev pub with_result : State → SizedTerm → State
with_result s x = record { objects = s.objects; registers = s.registers; inputs = s.inputs; unknown = s.unknown; wires = s.wires; edges = s.edges; result = x }

grows_adds : (n m : Unrolled) → Adds n m → Grows n.terms m.terms
grows_adds n m A = record { grown = A.grown; kept = A.kept; proper = A.proper }

grows_none : (g : Graph) → IsGraph g → Grows g g
grows_none g p = record { grown = λ v r. r; kept = λ x k. k; proper = p }

returning_flow : (g : Graph) (guard : Guard) → HasGuard g guard → HasFlow g (flow_at Returning guard)
returning_flow g guard h Next = tt
returning_flow g guard h Breaking = tt
returning_flow g guard h Continuing = tt
returning_flow g guard h Returning = h

module _ (a : Activation) where
  -- another value returned last is no matter to the words
  pub returns_state : (xs : List ℕ) (n : ℤ) (x : Image) (s : JointState) → state a xs x s → state a xs x (returning s n)
  returns_state xs n x s h = record {
    globals = h.globals;
    locals = h.locals;
    members = h.members;
    global_count = h.global_count;
    local_count = h.local_count;
    member_count = h.member_count;
    local_lengths = h.local_lengths;
    registers = h.registers;
    inputs = h.inputs;
    wires = h.wires;
    edges = h.edges;
  }

  -- the terms of what is obtained

  pub obtained_free : (n0 n1 : Unrolled) (st : State) (ty : IntType) (g : Guard) (t : SizedTerm) → IsType ty → IsDrawn n0 n1 ty.bits g t → IsObtained a n0 n1 st ty Free g t
  obtained_free n0 n1 st ty g t typed D = record {
    grows = D.pushed.grows;
    has = D.has;
    width = D.width;
    obtains = λ c inside fits.
        obtains_drawn (fixed a) n0 n1 n1 st ty ty.bits (λ n. converted ty (pos n)) (λ n s. s) g t t (state a c.locals) D (adds_none n1 D.pushed.grows.proper)
        (λ v r few. sym (drawn_number ty typed (bits v t) few)) (λ n x s h. h);
  }

  pub obtained_one : (n0 n1 : Unrolled) (st : State) (ty : IntType) (es : List TExpr) (e : TExpr) (g : Guard) (t : SizedTerm) (c : Scope) → FitsInit c true ty (Exprs es) → es ≡ e ∷ [] → IsValued a n0 n1 st e g t → IsObtained a n0 n1 st ty (Exprs es) g t
  obtained_one n0 n1 st ty es e g t d fit is V =
      let same : e.ty ≡ ty = (one_fits d true ty es e is fit).0 in
      subst (λ (l : List TExpr). IsObtained a n0 n1 st ty (Exprs l) g t) (sym is) (record {
        grows = V.grows;
        has = V.has;
        width = V.width ∙ ap (λ (u : IntType). u.bits) same;
        obtains = λ c inside fits.
            let f : FitsAs c ty e = one_fits c true ty (e ∷ []) e refl fits in
            subst (λ (u : IntType). Obtains (fixed a) n0 n1 st u (λ s choices go. with_value (value_of (rows_in (setting_of a) s) e) choices (λ m. go m s choices)) g t (state a c.locals)) f.0
            (obtains_asked (fixed a) n0 n1 st e.ty (λ s. value_of (rows_in (setting_of a) s) e) g t (state a c.locals) (V.asks c inside f.1));
      })

  pub one_asks : (n : Unrolled) (st : State) (ty : IntType) (es : List TExpr) (e : TExpr) (g : Guard) → es ≡ e ∷ [] → MayRun a n st g (λ c. FitsInit c true ty (Exprs es)) → MayAsk a n st e g
  one_asks n st ty es e g is M = record { scope = M.scope; program = M.program; fits = (one_fits M.scope true ty es e is M.fits).1; objects = M.objects; guard = M.guard }

  -- the types of results

  pub open_typed : (call : TCall) (t : IntType) → IsWellFormed a.pair.now → IsOpen a call t → IsType t
  open_typed call t well O = result_typed a.pair.now well call.function O.function t O.found O.result

  pub own_typed : (t : IntType) → IsWellFormed a.pair.now → result_in a ≡ Some t → IsType t
  own_typed t well is = by_function (slice_get a.pair.now.program.functions a.here) refl is
    where
      by_function : (o : Option Function) → slice_get a.pair.now.program.functions a.here ≡ o → result_of o ≡ Some t → IsType t
      by_function None at e = let d : None ≡ Some t = e in cc
      by_function (Some fn) at e = result_typed a.pair.now well a.here fn t at e

  same_value : (m n : ℤ) → Value m ≡ Value n → m ≡ n
  same_value m n e = cc

  pub obtained_call : (n0 n1 n2 : Unrolled) (st : State) (ty from : IntType) (call : TCall) (g : Guard) (d t : SizedTerm) (gates : ℕ) → IsType from → IsOpen a call from → IsDrawn n0 n1 from.bits g d →
      IsChecked n1.terms n2.terms ty gates 1 (plain t) (λ v. Value (converted ty (stands from v d))) → n2.list ≡ n1.list → IsObtained a n0 n2 st ty (Called call) g t
  obtained_call n0 n1 n2 st ty from call g d t gates typed O D M same =
      let adds = adds_built n1 n2 M.made 1 M.builds same in
      record {
        grows = grows_then a n0.terms n1.terms n2.terms D.pushed.grows (grows_adds n1 n2 adds);
        has = M.has;
        width = M.width;
        obtains = λ c inside fits.
            let run : JointState → List ℕ → (ℤ → Onward) → Effect = λ s choices go. draw from.bits choices (λ m rest. go (converted ty (converted from (pos m))) (returning s (converted from (pos m))) rest) in
            let A = obtains_drawn (fixed a) n0 n1 n2 st ty from.bits (λ n. converted ty (converted from (pos n))) (λ n s. returning s (converted from (pos n))) g d t (state a c.locals) D adds
            (λ v r few. same_value _ _ (M.gives v r) ∙ ap (converted ty) (sym (drawn_number from typed (bits v d) few))) (λ n x s h. returns_state c.locals (converted from (pos n)) x s h) in
            obtains_as (fixed a) n0 n2 st ty run (λ s choices go. with_init (setting_of a) (calls_in a) ty (Called call) s choices go) g t (state a c.locals) (λ s choices go. sym (called s choices go)) A;
      }
    where
      called : (s : JointState) (choices : List ℕ) (go : ℤ → Onward) →
          with_init (setting_of a) (calls_in a) ty (Called call) s choices go ≡ draw from.bits choices (λ m rest. go (converted ty (converted from (pos m))) (returning s (converted from (pos m))) rest)
      called s choices go = ap (λ (e : Effect). then_do e (λ s' rest. go (converted ty s'.returned) s' rest)) (open_call a call from O s choices) ∙ by_choices choices
        where
          by_choices : (l : List ℕ) → then_do (any_result (Some from) s l) (λ s' rest. go (converted ty s'.returned) s' rest) ≡ draw from.bits l (λ m rest. go (converted ty (converted from (pos m))) (returning s (converted from (pos m))) rest)
          by_choices [] = refl
          by_choices (n ∷ l) = refl

  -- `return` with a value

  pub own_fits : (c : Scope) (ty : IntType) (init : TInit) → is_in a c → result_in a ≡ Some ty → FitsStmt c (Return (Some init)) → FitsInit c false ty init
  own_fits c ty init inside is (fn, at, h) =
      let own : fn.result ≡ Some ty = sym (ap result_of at) ∙ ap (λ (p : CProgram). result_of (slice_get p.functions c.here)) inside.0 ∙ ap (λ i. result_of (slice_get a.pair.now.program.functions i)) inside.1 ∙ is in
      subst (λ (r : Option IntType). FitsReturn c r (Some init)) own h

  pub value_obtains : (n : Unrolled) (st : State) (ty : IntType) (init : TInit) (g : Guard) → result_in a ≡ Some ty → MayRun a n st g (λ c. FitsStmt c (Return (Some init))) → MayRun a n st g (λ c. FitsInit c true ty init)
  value_obtains n st ty init g own M =
      record { well = M.well; scope = M.scope; program = M.program; fits = fits_free M.scope ty init (own_fits M.scope ty init M.program own M.fits); objects = M.objects; result = M.result; guard = M.guard }

  pub done_value : (n0 n1 n2 : Unrolled) (st : State) (ty : IntType) (init : TInit) (g : Guard) (t new : SizedTerm) (f : Flow) → f ≡ flow_at Returning g → result_in a ≡ Some ty → MayRun a n0 st g (λ c. FitsStmt c (Return (Some init))) → IsObtained a n0 n1 st ty init g t →
      IsChosen n1 n2 t.width new (λ v. at_zero (bit_at v g) (bits v st.result) (bits v t)) →
      (c : Scope) → is_in a c → FitsStmt c (Return (Some init)) → IsDone a n0 n2 st (with_result st new) g f c.locals c.locals (return_effect (setting_of a) (calls_in a) (Some init))
  done_value n0 n1 n2 st ty init g t new f is own M V C c inside fits =
      let k = setting_of a in
      let xs = c.locals in
      let all = grows_then a n0.terms n1.terms n2.terms V.grows (grows_adds n1 n2 C.adds) in
      let number_in : IntType → Values → ℤ = λ u v. number u.signed u.bits (bits v t) in
      let K : ℤ → Onward = λ n s c. Goes Returning (returning s n) nothing c in
      let returned : (v : Values) → Respects v n2.terms → bit_at v g ≡ 1 → (s : JointState) → (r : Option IntType) → r ≡ Some ty → HasReturned r Returning (look v (with_result st new)) (returning s (number_in ty v)) = λ v r l s o e.
      subst (λ (o : Option IntType). HasReturned o Returning (look v (with_result st new)) (returning s (number_in ty v))) (sym e)
      (ap (number ty.signed ty.bits) (sym (C.value v r ∙ ap (λ b. at_zero b (bits v st.result) (bits v t)) l))) in
      let D : Changes (fixed a) n1 n2 st (with_result st new) g (state a xs) (behind a xs Returning) (λ v s. returning s (number_in ty v)) = record {
        grown = C.adds.grown;
        list = C.adds.list;
        settled = λ v r x. x;
        kept = λ v r o x. ap (λ m. with_number (look v st) m) (C.value v r ∙ ap (λ b. at_zero b (bits v st.result) (bits v t)) o);
        changed = λ v r l x s h. record { state = back xs v new (number_in ty v) s h; returned = returned v r l s (result_in a) own };
      } in
      let B = changed (fixed a) n1 n2 st (with_result st new) Returning g (state a xs) (behind a xs Returning) (λ v s. returning s (number_in ty v)) (λ v s. nothing) (behind a xs) (λ v s. refl) (λ x s h. h) D in
      let E = obtain (fixed a) n0 n1 n2 st (with_result st new) ty (λ s choices go. with_init k (calls_in a) ty init s choices go) K g t (flow_at Returning g) (state a xs) (behind a xs) goes (V.obtains c inside (fits_free c ty init (own_fits c ty init inside own fits))) B in
      subst (λ (h : Flow). IsDone a n0 n2 st (with_result st new) g h xs xs (return_effect k (calls_in a) (Some init))) (sym is) (record {
        grows = all;
        objects = grown_objects a n0 n2 st.objects all M.objects;
        result = λ h. subst (λ (o : Option IntType). HasResult o n2.terms new) (sym own) (C.has, C.width ∙ V.width);
        flow = returning_flow n2.terms g (grown_guard a n0 n2 g all M.guard);
        does = unwinds_as (fixed a) n0 n2 st (with_result st new) (λ v s c. with_init k (calls_in a) ty init s c K) (λ v. return_effect k (calls_in a) (Some init)) g (flow_at Returning g) (state a xs) (state a xs) (behind a xs) (behind a xs) goes goes
            (λ x s h. h) (λ v r s h c. ap (λ (u : IntType). with_init k (calls_in a) u init s c K) (sym (ap type_or_int own))) (λ w x s h. h) (λ w s c. refl) E;
      })
    where
      with_number : Image → ℕ → Image
      with_number x m = record { globals = x.globals; locals = x.locals; members = x.members; registers = x.registers; inputs = x.inputs; unknown = x.unknown; wires = x.wires; edges = x.edges; result = m }

      back : (xs : List ℕ) (v : Values) (new : SizedTerm) (n : ℤ) (s : JointState) → state a xs (look v st) s → state a xs (look v (with_result st new)) (returning s n)
      back xs v new n s h = record {
        globals = h.globals;
        locals = h.locals;
        members = h.members;
        global_count = h.global_count;
        local_count = h.local_count;
        member_count = h.member_count;
        local_lengths = h.local_lengths;
        registers = h.registers;
        inputs = h.inputs;
        wires = h.wires;
        edges = h.edges;
      }

  -- `return` without a value, in a function that has no result
  pub done_nothing : (n : Unrolled) (st : State) (g : Guard) (f : Flow) → f ≡ flow_at Returning g → IsGraph n.terms → MayRun a n st g (λ c. FitsStmt c (Return None)) →
      (c : Scope) → is_in a c → FitsStmt c (Return None) → IsDone a n n st st g f c.locals c.locals (return_effect (setting_of a) (calls_in a) None)
  done_nothing n st g f is proper M c inside (fn, at, h) =
      let xs = c.locals in
      let none : result_in a ≡ None = sym (ap (λ (p : CProgram). result_of (slice_get p.functions c.here)) inside.0 ∙ ap (λ i. result_of (slice_get a.pair.now.program.functions i)) inside.1) ∙ ap result_of at ∙ no_result fn.result h in
      let D : Changes (fixed a) n n st st g (state a xs) (behind a xs Returning) (λ v s. returning s (pos 0)) = record {
        grown = λ v r. r;
        list = refl;
        settled = λ v r x. x;
        kept = λ v r o x. refl;
        changed = λ v r l x s h. record {
          state = returns_state xs (pos 0) (look v st) s h;
          returned = subst (λ (o : Option IntType). HasReturned o Returning (look v st) (returning s (pos 0))) (sym none) tt;
        };
      } in
      subst (λ (h : Flow). IsDone a n n st st g h xs xs (return_effect (setting_of a) (calls_in a) None)) (sym is) (record {
        grows = grows_none n.terms proper;
        objects = M.objects;
        result = λ h. h;
        flow = returning_flow n.terms g M.guard;
        does = changed (fixed a) n n st st Returning g (state a xs) (behind a xs Returning) (λ v s. returning s (pos 0)) (λ v s. nothing) (behind a xs) (λ v s. refl) (λ x s h. h) D;
      })
    where
      no_result : (r : Option IntType) → FitsReturn c r None → r ≡ None
      no_result None h = refl
      no_result (Some t) h = absurd h

  -- a call that is a statement
  pub done_call : (n0 n1 : Unrolled) (st : State) (ty : IntType) (call : TCall) (g : Guard) (t : SizedTerm) (f : Flow) (Fits : Scope → Type 0) → f ≡ flow_at Next g → MayRun a n0 st g Fits → IsOpen a call ty → IsDrawn n0 n1 ty.bits g t → (c : Scope) → is_in a c →
      IsDone a n0 n1 st st g f c.locals c.locals (call_effect (setting_of a) (calls_in a) call)
  done_call n0 n1 st ty call g t f Fits is M O D c inside =
      let xs = c.locals in
      let all = D.pushed.grows in
      let K : ℕ → Onward = λ n s rest. Goes Next (returning s (converted ty (pos n))) nothing rest in
      let C : Changes (fixed a) n1 n1 st st g (state a xs) (state a xs) (λ v s. returning s (converted ty (pos (bits v t)))) = record {
        grown = λ v r. r;
        list = refl;
        settled = λ v r x. x;
        kept = λ v r o x. refl;
        changed = λ v r l x s h. returns_state xs (converted ty (pos (bits v t))) (look v st) s h;
      } in
      let B = changed (fixed a) n1 n1 st st Next g (state a xs) (state a xs) (λ v s. returning s (converted ty (pos (bits v t)))) (λ v s. nothing) (behind a xs) (λ v s. refl) (stays a xs) C in
      let E = drawn (fixed a) n0 n1 n1 st st ty.bits K g t (flow_at Next g) (state a xs) (behind a xs) goes D B in
      subst (λ (h : Flow). IsDone a n0 n1 st st g h xs xs (call_effect (setting_of a) (calls_in a) call)) (sym is) (record {
        grows = all;
        objects = grown_objects a n0 n1 st.objects all M.objects;
        result = grown_result a n0.terms n1.terms st.result all;
        flow = next_flow a n1.terms g (grown_guard a n0 n1 g all M.guard);
        does = unwinds_as (fixed a) n0 n1 st st (λ v s c. draw ty.bits c (λ n rest. K n s rest)) (λ v. call_effect (setting_of a) (calls_in a) call) g (flow_at Next g) (state a xs) (state a xs) (behind a xs) (behind a xs) goes goes
            (λ x s h. h) (λ v r s h c. sym (open_call a call ty O s c)) (λ w x s h. h) (λ w s c. refl) E;
      })
