-- A call is unwound: its arguments, its parameters, its body, the caller's rows put back, and the closing brace; or it breaks its property.
use Rattle.std.proofs.Common.{◌≡◌, ℕ, zero, suc, ◌+◌, ◌<◌, ◌≤◌, List, [], ◌∷◌, ◌++◌, true, false, Some, length, refl, sym, ap, ◌∙◌, subst, le_refl, ◌⊎◌, inl, inr, arith}
use Rattle.std.specs.Prelude.{ℤ, pos, Bool, nat_lt, ◌&&◌, eqb, slice_get, Contains}
use Rattle.std.proofs.lemmas.Bool.{false≢true}
use Rattle.std.proofs.lemmas.Bool.Decides.{nat_tests}
use Rattle.std.proofs.lemmas.List.{length-map}
use Rattle.std.proofs.lemmas.List.Elements.{All-weaker}
use Rattle.bits_core.specs.Word.{number, at_zero}
use Rattle.word_eqs.specs.declared.list.Act.TheVariants.{Prop}
use Rattle.word_eqs.specs.Meaning.{Values, Respects}
use Rattle.joint_ir.specs.declared.ctype.IntType.{IntType}
use Rattle.joint_ir.specs.declared.expr.TExpr.{TExpr}
use Rattle.joint_ir.specs.declared.pair.Pair.{Pair}
use Rattle.joint_ir.specs.declared.program.Function.{Function}
use Rattle.joint_ir.specs.declared.stmt.TCall.{TCall}
use Rattle.joint_ir.specs.declared.stmt.TStmt.{TStmt}
use Rattle.joint_ir.specs.Effects.{Effect, Onward, then_do, with_values}
use Rattle.joint_ir.specs.States.{JointState}
use Rattle.joint_ir.specs.Statements.{after, after_body, body_effect, calls_at, is_below_limit, recursion_prop, set_params}
use Rattle.joint_ir.specs.Steps.{Setting, Calls, rows_in, result_of, type_or_int}
use Rattle.joint_ir.specs.Values.{is_zero}
use Rattle.joint_ir.specs.WellFormed.{Scope, FitsBody, FitsCall, FitsCallee, FitsStmt, IsWellFormed, declared_behind, places_from, scope_of, with_scope_locals}
use Rattle.joint_lists.specs.Own.{own_end, KeepsOthers, GoesWith}
use Rattle.joint_lists.proofs.Keeping.{params_before, params_keep, own_keeps}
use Rattle.sized_terms.specs.declared.SizedTerm.{SizedTerm}
use Rattle.sized_terms.specs.Sized.{Has, bits}
use Rattle.trails.specs.Following.{goes}
use Rattle.unrolled.specs.declared.Objects.{Objects}
use Rattle.unrolled.specs.declared.Unrolled.{Unrolled}
use Rattle.unwind_state.specs.declared.state.Flow.{Flow}
use Rattle.unwind_state.specs.declared.state.Guard.{Guard}
use Rattle.unwind_state.specs.declared.state.State.{State}
use Rattle.unwind_state.specs.Guards.{Adds}
use Rattle.unwind_state.specs.Images.{Image, look, IsState, IsSettled, IsBehind}
use Rattle.unwind_state.specs.Unwinding.{Grows, Unwinds, IsPushed}
use Rattle.unwind_state.specs.Writing.{HasObjects, with_objects}
use Rattle.unwind_simple.specs.declared.simple.Activation.{Activation}
use Rattle.unwind_simple.specs.Obtaining.{Valuing}
use Rattle.unwind_simple.specs.Simple.{calls_in, is_in, setting_of}
use Rattle.unwind_simple.proofs.Returning.{with_result}
use Rattle.unwind_simple.proofs.Statements.{grown_objects, zero_number}
use Rattle.unwind_calls.specs.Arguments.{AreArguments, AreSet, numbers_at, params_at, with_params}
use Rattle.unwind_calls.specs.Calls.{Returns, IsCalled, IsRefused, may_enter, IsClosing, call_value, handed}
use Rattle.unwind_calls.specs.Rows.{IsBack}
use Rattle.unwind_calls.proofs.Called.{called}
use Rattle.unwind_calls.proofs.Declared.{own_within}
use Rattle.unwind_calls.proofs.Entering.{params_within, before_within, behind_within, args_fit, callee_fits, numbers_params, then_values, calls_entered, calls_refused, rows_there, objects_back}
use Rattle.unwind_calls.proofs.Listing.{comes_as, returns_listed, returns_broken}
use Rattle.unwind_calls.proofs.Params.{at_count}
use Rattle.unwind_calls.proofs.Wider.{wide_stmt}

-- the same, in other words
returns_as : (fixed : Image → Type 0) (n0 n1 : Unrolled) (s0 s1 : State) (t : IntType) (run run' : Values → Valuing) (g : Guard) (x : SizedTerm) (before behind : Image → JointState → Type 0) →
    ((v : Values) (s : JointState) (c : List ℕ) (go : ℤ → Onward) → run v s c go ≡ run' v s c go) → Returns fixed n0 n1 s0 s1 t run g x before behind → Returns fixed n0 n1 s0 s1 t run' g x before behind
returns_as fixed n0 n1 s0 s1 t run run' g x before behind e R = record {
  grown = R.grown;
  more = R.more;
  list = R.list;
  settled = R.settled;
  passes = R.passes;
  kept = R.kept;
  live = λ v r l q s h. comes_as (run v s) (run' v s) _ _ (behind (look v s1)) (λ c go. e v s c go) (R.live v r l q s h);
}

grows_on : (n0 n1 n2 : Unrolled) → Grows n0.terms n1.terms → Grows n1.terms n2.terms → Grows n0.terms n2.terms
grows_on n0 n1 n2 p q = record { grown = λ v r. p.grown v (q.grown v r); kept = λ x h. q.kept x (p.kept x h); proper = q.proper }

grows_by : (n0 n1 : Unrolled) → Adds n0 n1 → Grows n0.terms n1.terms
grows_by n0 n1 a = record { grown = a.grown; kept = a.kept; proper = a.proper }

-- terms more behind arguments
arguments_on : (a : Activation) (n0 n1 n2 : Unrolled) (s : State) (es : List TExpr) (g : Guard) (ts : List SizedTerm) → AreArguments a n0 n1 s es g ts → Adds n1 n2 → AreArguments a n0 n2 s es g ts
arguments_on a n0 n1 n2 s es g ts A adds = record {
  grows = grows_on n0 n1 n2 A.grows (grows_by n1 n2 adds);
  has = All-weaker (Has n1.terms) (Has n2.terms) adds.kept ts A.has;
  widths = A.widths;
  asks = λ c inside fits.
      let K = A.asks c inside fits in
      record { grown = λ v r. K.grown v (adds.grown v r); more = K.more; list = adds.list ∙ K.list; idle = λ v r. K.idle v (adds.grown v r); live = λ v r. K.live v (adds.grown v r) };
}

-- a word of a number 0 is 0
nought_word : (s : Bool) (w n : ℕ) → number s w n ≡ pos 0 → n ≡ 0
nought_word s w n h = by_case n (sym (zero_number s w n) ∙ ap is_zero h)
  where
    by_case : (m : ℕ) → at_zero m true false ≡ true → m ≡ 0
    by_case zero e = refl
    by_case (suc m) e = absurd (false≢true e)

some_left : (n : ℕ) → 0 < n → nat_lt 0 n ≡ true
some_left n h = grind (arith, nat_tests)

-- what keeps a call from beginning an activation
no_more : (left : ℕ) (below : Bool) → (nat_lt 0 left && below) ≡ false → (left ≡ 0) ⊎ (below ≡ false)
no_more zero below h = inl refl
no_more (suc left) below h = inr (ap (λ b. b && below) (sym (some_left (suc left) (omega arith))) ∙ h)

module _ (a : Activation) (call : TCall) (fn : Function) (body : TStmt) (found : slice_get a.pair.now.program.functions call.function ≡ Some fn) (some : fn.body ≡ Some body) where
  -- what a call does at its arguments
  abbrev at_arguments : List ℤ → Valuing
  at_arguments ns s c go = then_do (calls_in a call.place call.function ns s c) (λ s' rest. go (handed fn.result s') s' rest)

  behind_arguments : (v : Values) (s : JointState) (c : List ℕ) (go : ℤ → Onward) →
      with_values (rows_in (setting_of a) s) call.args c (λ ns. at_arguments ns s c go) ≡ call_value (setting_of a) (calls_in a) fn.result call s c go
  behind_arguments v s c go = sym (then_values (rows_in (setting_of a) s) call.args c (λ ns. calls_in a call.place call.function ns s c) (λ s' rest. go (handed fn.result s') s' rest))

  -- the arguments fit, wherever the call does
  fitting : (c : Scope) → is_in a c → FitsCall c call → FitsCallee c call.args fn
  fitting c inside fits = callee_fits c a.pair.now.program call fn inside.0 found fits

  -- no activation is left, or the function has as many as it may: its property breaks
  pub call_refused : (n0 n1 n2 : Unrolled) (s : State) (g : Guard) (ts : List SizedTerm) (z x : SizedTerm) → (a.left ≡ 0) ⊎ (is_below_limit a.pair.now a.bounds.now a.standing.now call.function fn ≡ false) →
      HasObjects a.pair.now.program n0.terms s.objects → AreArguments a n0 n1 s call.args g ts → IsPushed n1 n2 g (Prop (recursion_prop a.pair.now.program fn).0 z.term) → ((v : Values) → Respects v n2.terms → bits v z ≡ 0) →
      Has n2.terms x → x.width ≡ (type_or_int fn.result).bits → IsCalled a n0 n2 s s call fn.result g x
  call_refused n0 n1 n2 s g ts z x may H A P zero_is has width =
      let p = a.pair.now in
      let grows = grows_on n0 n1 n2 A.grows P.grows in
      record {
        grows = grows;
        objects = grown_objects a n0 n2 s.objects grows H;
        outer = refl;
        has = has;
        width = width;
        returns = λ c inside fits.
            let args = A.asks c inside (args_fit c fn.first call.args (fitting c inside fits).1) in
            returns_as (IsSettled p) n0 n2 s s (type_or_int fn.result) (λ v s c go. with_values (rows_in (setting_of a) s) call.args c (λ ns. at_arguments ns s c go)) (λ v. call_value (setting_of a) (calls_in a) fn.result call) g x (IsState p c.locals) (IsState p c.locals) behind_arguments
            (returns_listed (IsSettled p) n0 n1 n2 s s (type_or_int fn.result) (λ z. rows_in (setting_of a) z) call.args (λ v. numbers_at v call.args ts) at_arguments g x (IsState p c.locals) (IsState p c.locals) args
            (returns_broken (IsSettled p) n1 n2 s (type_or_int fn.result) (recursion_prop p.program fn) z (λ v. at_arguments (numbers_at v call.args ts)) g x (IsState p c.locals) (IsState p c.locals) P zero_is
            (λ v s c go. ap (λ e. then_do e (λ s' rest. go (handed fn.result s') s' rest)) (calls_refused p a.bounds.now call.function call.place (numbers_at v call.args ts) fn body a.standing.now found some a.left s c may))));
      }

  -- the same, as it is made
  pub refused_called : (n0 n1 n2 : Unrolled) (s : State) (g : Guard) (ts : List SizedTerm) (x : SizedTerm) → may_enter a call.function fn ≡ false → HasObjects a.pair.now.program n0.terms s.objects → AreArguments a n0 n1 s call.args g ts → IsRefused a n1 n2 fn g x →
      IsCalled a n0 n2 s s call fn.result g x
  refused_called n0 n1 n2 s g ts x may H A R =
      let ty = type_or_int fn.result in
      let Z = R.nought in
      let P = R.pushed in
      call_refused n0 R.mid n2 s g ts x x (no_more a.left (is_below_limit a.pair.now a.bounds.now a.standing.now call.function fn) may) H (arguments_on a n0 n1 R.mid s call.args g ts A Z.adds) P
      (λ v r. nought_word ty.signed ty.bits (bits v x) (Z.value v (P.grows.grown v r))) (P.grows.kept x Z.has) Z.width

  module _ (left : ℕ) (left_is : a.left ≡ suc left) (may : is_below_limit a.pair.now a.bounds.now a.standing.now call.function fn ≡ true) where
    -- what the body runs in, and what calls in it do
    abbrev pub within_body : Setting
    within_body = record { pair = a.pair.now; bounds = a.bounds.now; here = call.function }

    abbrev pub calls_within : Calls
    calls_within = calls_at a.pair.now a.bounds.now left (a.standing.now ++ call.function ∷ [])

    entered : (ns : List ℤ) (s : JointState) (c : List ℕ) → calls_in a call.place call.function ns s c ≡ body_effect a.pair.now a.bounds.now calls_within call.function fn body call.place ns s c
    entered ns s c =
        ap (λ l. calls_at a.pair.now a.bounds.now l a.standing.now call.place call.function ns s c) left_is
        ∙ calls_entered a.pair.now a.bounds.now call.function call.place ns fn body a.standing.now found some left s c may

    -- the body is entered
    pub call_entered : (n0 n1 n2 n3 n4 n5 : Unrolled) (s0 s2 s3 : State) (o1 : Objects) (g : Guard) (ts : List SizedTerm) (z : SizedTerm) (ways : Flow) (x : SizedTerm) → IsWellFormed a.pair.now → HasObjects a.pair.now.program n0.terms s0.objects →
        AreArguments a n0 n1 s0 call.args g ts → AreSet a.pair.now n1 n2 s0.objects o1 fn.first ts g → Adds n2 n3 →
        Grows n3.terms n4.terms → HasObjects a.pair.now.program n4.terms s2.objects →
        ((d : Scope) → (d.program ≡ a.pair.now.program) × (d.here ≡ call.function) → FitsStmt d body.node →
        Unwinds (IsSettled a.pair.now) n3 n4 (with_result (with_objects s0 o1) z) s2 (λ v. after within_body calls_within body.place body.node) g ways (IsState a.pair.now d.locals) (IsBehind a.pair.now (declared_behind body.node d.locals) (result_of (slice_get a.pair.now.program.functions call.function))) goes) →
        IsBack fn.first (own_end fn body) s0 s2 s3 → IsClosing n4 n5 (eqb call.function a.pair.now.program.main) fn.result ways s2.result x → IsCalled a n0 n5 s0 s3 call fn.result g x
    call_entered n0 n1 n2 n3 n4 n5 s0 s2 s3 o1 g ts z ways x well H A S adds grows_body H2 unwound K C = record {
      grows = grows_on n0 n1 n5 A.grows (grows_on n1 n2 n5 (grows_by n1 n2 S.adds) (grows_on n2 n3 n5 (grows_by n2 n3 adds) (grows_on n3 n4 n5 grows_body C.grows)));
      objects = objects_back p.program n5.terms s0.objects s2.objects s3.objects fn.first end le within objects0 (grown_objects a n4 n5 s2.objects C.grows H2) K.globals K.locals K.members;
      outer = K.result;
      has = C.has;
      width = C.width;
      returns = λ c inside fits.
          returns_as (IsSettled p) n0 n5 s0 s3 (type_or_int fn.result) (λ v s c go. with_values (rows_in (setting_of a) s) call.args c (λ ns. at_arguments ns s c go)) (λ v. call_value (setting_of a) (calls_in a) fn.result call) g x (IsState p c.locals) (IsState p c.locals) behind_arguments
          (returns_listed (IsSettled p) n0 n1 n5 s0 s3 (type_or_int fn.result) (λ z. rows_in (setting_of a) z) call.args (λ v. numbers_at v call.args ts) at_arguments g x (IsState p c.locals) (IsState p c.locals) (A.asks c inside (args_fit c fn.first call.args (fitting c inside fits).1))
          (ran c inside (fitting c inside fits)));
    }
      where
        p : Pair
        p = a.pair.now

        end : ℕ
        end = own_end fn body

        fits_body : FitsBody a.pair.now.program call.function fn (Some body)
        fits_body = subst (FitsBody a.pair.now.program call.function fn) some (well.program.functions call.function fn found).body

        le : fn.first ≤ own_end fn body
        le = let before = params_before fn body fits_body.3 in omega (arith, before)

        within : own_end fn body ≤ length a.pair.now.program.locals
        within = own_within a.pair.now.program call.function fn body fits_body

        objects0 : HasObjects a.pair.now.program n5.terms s0.objects
        objects0 = grown_objects a n0 n5 s0.objects (grows_on n0 n1 n5 A.grows (grows_on n1 n2 n5 (grows_by n1 n2 S.adds) (grows_on n2 n3 n5 (grows_by n2 n3 adds) (grows_on n3 n4 n5 grows_body C.grows)))) H

        few : fn.first ≤ length s0.objects.locals.items
        few = let there = rows_there a.pair.now.program n0.terms s0.objects H in let in_program = within in let before = le in omega (arith, there, in_program, before)

        count : length ts ≡ length call.args
        count = sym (length-map ts (λ (t : SizedTerm). t.width)) ∙ ap length A.widths ∙ length-map call.args (λ (e : TExpr). e.ty.bits)

        params : Values → Onward
        params v = set_params call.place.line fn.first (params_at a.pair.now.program v fn.first ts)

        params_own : (n : length ts ≡ fn.params) (v : Values) (s : JointState) (c : List ℕ) → GoesWith (KeepsOthers fn.first (own_end fn body) s.store.locals) (set_params call.place.line fn.first (params_at a.pair.now.program v fn.first ts) s c)
        params_own n v s c =
            let all : length (params_at a.pair.now.program v fn.first ts) ≡ length ts = at_count a.pair.now.program v fn.first ts in
            let before : fn.first + fn.params ≤ own_end fn body = params_before fn body fits_body.3 in
            params_keep fn.first (own_end fn body) s.store.locals call.place.line fn.first (params_at a.pair.now.program v fn.first ts) (le_refl fn.first) (omega (arith, all, before, n)) s c (record { count = refl; before = refl; behind = refl })

        ran : (c : Scope) → is_in a c → FitsCallee c call.args fn → Returns (IsSettled a.pair.now) n1 n5 s0 s3 (type_or_int fn.result) (λ v. at_arguments (numbers_at v call.args ts)) g x (IsState a.pair.now c.locals) (IsState a.pair.now c.locals)
        ran c inside callee =
            let entered_locals = with_params fn.first c.locals (length ts) in
            let inner = declared_behind body.node entered_locals in
            let scope = with_scope_locals (scope_of a.pair.now.program call.function fn) entered_locals in
            let all : length ts ≡ fn.params = count ∙ callee.0 in
            let here : FitsStmt scope body.node =
            wide_stmt (scope_of a.pair.now.program call.function fn) entered_locals body.node
            (λ i h. params_within fn.first c.locals (length ts) i (subst (λ n. Contains (places_from fn.first n) i) (sym all) h)) fits_body.2 in
            let B = subst (λ o. Unwinds (IsSettled a.pair.now) n3 n4 (with_result (with_objects s0 o1) z) s2 (λ v. after within_body calls_within body.place body.node) g ways (IsState a.pair.now entered_locals) (IsBehind a.pair.now inner o) goes)
            (ap result_of found) (unwound scope (refl, refl) here) in
            returns_as (IsSettled a.pair.now) n1 n5 s0 s3 (type_or_int fn.result)
            (λ v s c go. then_do (after_body (eqb call.function a.pair.now.program.main) fn.result s.store.locals (then_do (set_params call.place.line fn.first (params_at a.pair.now.program v fn.first ts) s c) (after within_body calls_within body.place body.node))) (λ s' rest. go (handed fn.result s') s' rest))
            (λ v. at_arguments (numbers_at v call.args ts)) g x (IsState a.pair.now c.locals) (IsState a.pair.now c.locals)
            (λ v s e go. ap (λ (q : Effect). then_do q (λ s' rest. go (handed fn.result s') s' rest))
            (sym (entered (numbers_at v call.args ts) s e
            ∙ ap (λ ns. body_effect a.pair.now a.bounds.now calls_within call.function fn body call.place ns s e) (numbers_params c v fn.first call.args ts count callee.1 ∙ ap (λ q. params_at q v fn.first ts) inside.0))))
            (called a.pair.now fn.first (own_end fn body) le c.locals entered_locals inner (λ i h. behind_within body.node entered_locals i (before_within fn.first c.locals (length ts) i h)) (eqb call.function a.pair.now.program.main) fn.result n1 n2 n3 n4 n5 s0 (with_objects s0 o1) (with_result (with_objects s0 o1) z) s2 s3
            (λ v. set_params call.place.line fn.first (params_at a.pair.now.program v fn.first ts)) (after within_body calls_within body.place body.node) g ways x
            (S.sets s0 call.place.line c.locals) (λ v r. (adds.grown v r, (bits v z, refl))) adds.list B K (C.closes s2 refl) (params_own all)
            (λ rows s e h. own_keeps a.pair.now a.bounds.now left (a.standing.now ++ call.function ∷ []) rows call.function fn body fits_body s e h) few)
