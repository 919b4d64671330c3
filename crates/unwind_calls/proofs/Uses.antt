-- What a call that was unwound is good for: as a statement, and as what an object is set to.
use Rattle.std.proofs.Common.{◌≡◌, ℕ, List, ◌++◌, Some, refl, sym, ap, ◌∙◌, subst}
use Rattle.std.specs.Prelude.{ℤ}
use Rattle.bits_core.specs.Word.{number}
use Rattle.word_eqs.specs.Meaning.{Values, Respects}
use Rattle.joint_ir.specs.declared.ctype.IntType.{IntType}
use Rattle.joint_ir.specs.declared.stmt.TCall.{TCall}
use Rattle.joint_ir.specs.declared.way.Way.{Way}
use Rattle.joint_ir.specs.declared.way.Way.TheVariants.{Next, Breaking, Continuing, Returning}
use Rattle.joint_ir.specs.Effects.{Effect, Onward, Goes, Stops, TooFew, preceded, then_do}
use Rattle.joint_ir.specs.States.{JointState}
use Rattle.joint_ir.specs.Steps.{call_effect}
use Rattle.joint_ir.specs.Types.{converted}
use Rattle.joint_ir.specs.WellFormed.{Scope, FitsCall}
use Rattle.sized_terms.specs.declared.SizedTerm.{SizedTerm}
use Rattle.sized_terms.specs.Sized.{Has, bits}
use Rattle.unrolled.specs.declared.Unrolled.{Unrolled}
use Rattle.trails.specs.Following.{IsAt, goes, Follows}
use Rattle.trails.specs.Trails.{Trail, Through, Halts, values_of, trail}
use Rattle.trails.proofs.Ways.{joined_nothing}
use Rattle.unwind_state.specs.declared.state.Guard.{Guard}
use Rattle.unwind_state.specs.declared.state.State.{State}
use Rattle.unwind_state.specs.Guards.{Adds, HasGuard, bit_at, bits_of, flow_at}
use Rattle.unwind_state.specs.Images.{look}
use Rattle.unwind_state.specs.Unwinding.{Grows}
use Rattle.unwind_state.specs.Writing.{HasResult}
use Rattle.unwind_simple.specs.declared.simple.Activation.{Activation}
use Rattle.unwind_simple.specs.Obtaining.{ComesTo}
use Rattle.unwind_simple.specs.Simple.{calls_in, is_in, result_in, setting_of, IsDone}
use Rattle.unwind_simple.proofs.Statements.{grown_guard, grown_objects, grown_result, grows_then, next_flow, stays}
use Rattle.unwind_calls.specs.Calls.{IsCalled, IsReceived, call_value}

-- ---- a call as a statement

then_goes : (e : Effect) → then_do e (goes Next) ≡ e
then_goes (Goes Next s told c) = ap (λ t. Goes Next s t c) (joined_nothing told)
then_goes (Goes Breaking s told c) = refl
then_goes (Goes Continuing s told c) = refl
then_goes (Goes Returning s told c) = refl
then_goes (Stops o told c) = refl
then_goes TooFew = refl

-- a run that comes to a number follows the list, whatever the number is
comes_follows : (run : List ℕ → (ℤ → Onward) → Effect) (stretch : List ℕ → Effect) (t : Trail) (n : ℤ) (mid : JointState → Type 0) (guards : Way → ℕ) (holds : Way → JointState → Type 0) → ((c : List ℕ) → run c (λ m. goes Next) ≡ stretch c) → IsAt guards Next →
    ((s : JointState) → mid s → holds Next s) → ComesTo run t n mid → Follows stretch t guards holds goes
comes_follows run stretch (Through reads) n mid guards holds is at to h = record {
  way = Next;
  state = h.state;
  told = h.told;
  at = at;
  held = to h.state h.held;
  widths = h.widths;
  runs = λ rest. sym (is (values_of reads ++ rest)) ∙ h.runs (λ m. goes Next) rest;
}
comes_follows run stretch (Halts reads stop) n mid guards holds is at to h =
    let k = h (λ m. goes Next) in
    record { outcome = k.outcome; told = k.told; broken = k.broken; widths = k.widths; runs = λ rest. sym (is (values_of reads ++ rest)) ∙ k.runs rest }

next_off : (v : Values) (g : Guard) → bit_at v g ≡ 0 → (way : Way) → bits_of v (flow_at Next g) way ≡ 0
next_off v g o Next = o
next_off v g o Breaking = refl
next_off v g o Continuing = refl
next_off v g o Returning = refl

next_on : (v : Values) (g : Guard) → bit_at v g ≡ 1 → IsAt (bits_of v (flow_at Next g)) Next
next_on v g l Next = l
next_on v g l Breaking = refl
next_on v g l Continuing = refl
next_on v g l Returning = refl

module _ (a : Activation) where
  -- a call that is a statement
  pub called_done : (n0 n1 : Unrolled) (s0 s1 : State) (call : TCall) (result : _) (g : Guard) (t : SizedTerm) (c : Scope) → is_in a c → FitsCall c call → HasGuard n0.terms g → IsCalled a n0 n1 s0 s1 call result g t →
      IsDone a n0 n1 s0 s1 g (flow_at Next g) c.locals c.locals (call_effect (setting_of a) (calls_in a) call)
  called_done n0 n1 s0 s1 call result g t c inside fits has K =
      let R = K.returns c inside fits in
      record {
        grows = K.grows;
        objects = K.objects;
        result = λ h. subst (HasResult (result_in a) n1.terms) (sym K.outer) (grown_result a n0.terms n1.terms s0.result K.grows h);
        flow = next_flow a n1.terms g (grown_guard a n0 n1 g K.grows has);
        does = record {
          grown = R.grown;
          more = R.more;
          list = R.list;
          settled = R.settled;
          idle = λ v r o q. record { passes = R.passes v r o q; off = next_off v g o; kept = R.kept v r o q };
          live = λ v r l q s h.
              comes_follows (λ e go. call_value (setting_of a) (calls_in a) result call s e go) (call_effect (setting_of a) (calls_in a) call s) (trail v R.more) _ _ (bits_of v (flow_at Next g)) _ (λ e. then_goes (call_effect (setting_of a) (calls_in a) call s e)) (next_on v g l)
              (λ s' m. stays a c.locals (look v s1) s' m) (R.live v r l q s h);
        };
      }

-- ---- a call that an object is set to

-- a number that is made of another one
comes_mapped : (run : List ℕ → (ℤ → Onward) → Effect) (t : Trail) (n m : ℤ) (h : ℤ → ℤ) (mid : JointState → Type 0) → m ≡ h n → ComesTo run t n mid → ComesTo (λ c go. run c (λ k. go (h k))) t m mid
comes_mapped run (Through reads) n m h mid is K = record {
  state = K.state;
  told = K.told;
  held = K.held;
  widths = K.widths;
  runs = λ go rest. K.runs (λ k. go (h k)) rest ∙ ap (λ k. preceded K.told (go k K.state rest)) (sym is);
}
comes_mapped run (Halts reads stop) n m h mid is K = λ go. K (λ k. go (h k))

module _ (a : Activation) where
  -- what a call hands on, and its conversion
  pub received : (n0 n1 n2 : Unrolled) (s0 s1 : State) (from ty : IntType) (call : TCall) (g : Guard) (t u : SizedTerm) → IsCalled a n0 n1 s0 s1 call (Some from) g t → Adds n1 n2 → Has n2.terms u → u.width ≡ ty.bits →
      ((v : Values) → Respects v n2.terms → number ty.signed ty.bits (bits v u) ≡ converted ty (number from.signed from.bits (bits v t))) → IsReceived a n0 n2 s0 s1 ty call g u
  received n0 n1 n2 s0 s1 from ty call g t u K adds has width is =
      let grows : Grows n1.terms n2.terms = record { grown = adds.grown; kept = adds.kept; proper = adds.proper } in
      record {
        grows = grows_then a n0.terms n1.terms n2.terms K.grows grows;
        objects = grown_objects a n1 n2 s1.objects grows K.objects;
        outer = K.outer;
        has = has;
        width = width;
        receives = λ c inside fits.
            let R = K.returns c inside fits in
            record {
              grown = λ v r. R.grown v (adds.grown v r);
              more = R.more;
              list = adds.list ∙ R.list;
              settled = λ v r. R.settled v (adds.grown v r);
              passes = λ v r. R.passes v (adds.grown v r);
              kept = λ v r. R.kept v (adds.grown v r);
              live = λ v r l q s h.
                  comes_mapped (λ e go. call_value (setting_of a) (calls_in a) (Some from) call s e go) (trail v R.more) (number from.signed from.bits (bits v t)) (number ty.signed ty.bits (bits v u)) (converted ty) _ (is v r) (R.live v (adds.grown v r) l q s h);
            };
      }
