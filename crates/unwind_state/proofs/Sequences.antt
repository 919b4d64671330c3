-- Stretches one after another: a value that hangs on terms made before, a check and what stands behind it, and a second
-- stretch behind one that only goes on.
use Rattle.std.proofs.Common.{◌≡◌, ℕ, zero, suc, List, [], ◌∷◌, ◌++◌, refl, sym, ap, ◌∙◌, subst, append_assoc, append-nil}
use Rattle.std.specs.Prelude.{ℤ, Bool, true, false, if◌then◌else◌}
use Rattle.bits_core.specs.Word.{at_zero, number}
use Rattle.word_eqs.specs.declared.list.Act.TheVariants.{Prop}
use Rattle.word_eqs.specs.declared.list.Step.{Step}
use Rattle.word_eqs.specs.declared.term.TermId.{TermId}
use Rattle.word_eqs.specs.Guarded.{AtProp}
use Rattle.word_eqs.specs.Meaning.{Values, Respects}
use Rattle.joint_ir.specs.declared.ctype.IntType.{IntType}
use Rattle.joint_ir.specs.declared.program.PropId.{PropId}
use Rattle.joint_ir.specs.declared.way.Way.{Way}
use Rattle.joint_ir.specs.declared.way.Way.TheVariants.{Next, Breaking, Continuing, Returning}
use Rattle.joint_ir.specs.Effects.{Effect, Told, Onward, preceded, with_value, broken}
use Rattle.joint_ir.specs.States.{JointState}
use Rattle.joint_ir.specs.Values.{Answer}
use Rattle.sized_terms.specs.declared.SizedTerm.{SizedTerm}
use Rattle.sized_terms.specs.Sized.{bits}
use Rattle.unrolled.specs.declared.Unrolled.{Unrolled}
use Rattle.trails.specs.Following.{way_bit, IsAt, Follows}
use Rattle.trails.specs.Trails.{Trail, Through, Halts, trail_then, act_trail, trail}
use Rattle.trails.proofs.Walking.{then_nothing, trail-append}
use Rattle.trails.proofs.Ways.{bind_follows, stays_follows}
use Rattle.unwind_state.specs.declared.state.Flow.{Flow}
use Rattle.unwind_state.specs.declared.state.Guard.{Guard}
use Rattle.unwind_state.specs.declared.state.State.{State}
use Rattle.unwind_state.specs.Guards.{bit_at, bits_of, flow_at}
use Rattle.unwind_state.specs.Images.{Image, look}
use Rattle.unwind_state.specs.Unwinding.{Unwinds, Asks, AsksIn, IsPushed, Changes}
use Rattle.unwind_state.proofs.Pieces.{isnt_zero, ask_follows, broken_follows}
use Rattle.unwind_state.proofs.Stretches.{only_off, only_at}

-- a check, and what stands behind it
checked_follows : (n : ℕ) (p : PropId) (t : Trail) (K : List ℕ → Effect) (guards : Way → ℕ) (holds : Way → JointState → Type 0) (out : Way → Onward) → Follows K t guards holds out →
    Follows (λ c. if isnt_zero n then K c else broken p c) (trail_then (at_zero n (Halts [] (AtProp p.0)) (Through [])) t) guards holds out
checked_follows zero p t K guards holds out h = broken_follows p guards holds out
checked_follows (suc n) p t K guards holds out h = subst (λ t. Follows K t guards holds out) (sym (then_nothing t)) h

-- a stretch that only goes on goes no other way
not_on : (way : Way) → 1 ≡ way_bit Next way → way ≡ Next
not_on Next e = refl
not_on Breaking e = let d : 1 ≡ 0 = e in cc
not_on Continuing e = let d : 1 ≡ 0 = e in cc
not_on Returning e = let d : 1 ≡ 0 = e in cc

module _ (fixed : Image → Type 0) where
  -- fewer states are asked for
  pub asks_less : (n0 n1 : Unrolled) (st : State) (ty : IntType) (answer : Values → JointState → Answer) (g : Guard) (t : SizedTerm) (before before' : Image → JointState → Type 0) → ((x : Image) (s : JointState) → before' x s → before x s) →
      AsksIn fixed n0 n1 st ty answer g t before → AsksIn fixed n0 n1 st ty answer g t before'
  asks_less n0 n1 st ty answer g t before before' sub A = record {
    grown = A.grown;
    more = A.more;
    list = A.list;
    idle = A.idle;
    live = λ v r l x s h. A.live v r l x s (sub (look v st) s h);
  }

  pub asks_any : (n0 n1 : Unrolled) (st : State) (ty : IntType) (answer : JointState → Answer) (g : Guard) (t : SizedTerm) (before : Image → JointState → Type 0) →
      Asks fixed n0 n1 st ty answer g t before → AsksIn fixed n0 n1 st ty (λ v. answer) g t before
  asks_any n0 n1 st ty answer g t before A = record { grown = A.grown; more = A.more; list = A.list; idle = A.idle; live = A.live }

  -- an expression, and what is done with its value, both of which may hang on terms made before
  pub ask_in : (n0 n1 n2 : Unrolled) (s0 s1 : State) (ty : IntType) (answer : Values → JointState → Answer) (K : Values → ℤ → Onward) (g : Guard) (t : SizedTerm) (f : Flow) (before : Image → JointState → Type 0) (behind : Way → Image → JointState → Type 0) (out : Way → Onward) →
      AsksIn fixed n0 n1 s0 ty answer g t before → Unwinds fixed n1 n2 s0 s1 (λ v. K v (number ty.signed ty.bits (bits v t))) g f before behind out →
      Unwinds fixed n0 n2 s0 s1 (λ v s c. with_value (answer v s) c (λ n. K v n s c)) g f before behind out
  ask_in n0 n1 n2 s0 s1 ty answer K g t f before behind out A B = record {
    grown = λ v r. A.grown v (B.grown v r);
    more = A.more ++ B.more;
    list = B.list ∙ ap (λ l. l ++ B.more) A.list ∙ append_assoc n0.list A.more B.more;
    settled = B.settled;
    idle = λ v r o x.
        let b = B.idle v r o x in
        record {
          passes = trail-append v A.more B.more ∙ ap (λ t. trail_then t (trail v B.more)) (A.idle v (B.grown v r) o x) ∙ then_nothing (trail v B.more) ∙ b.passes;
          off = b.off;
          kept = b.kept;
        };
    live = λ v r l x s h.
        subst (λ t. Follows (λ c. with_value (answer v s) c (λ n. K v n s c)) t (bits_of v f) (λ w. behind w (look v s1)) out) (sym (trail-append v A.more B.more))
        (ask_follows ty (answer v s) (trail v A.more) (trail v B.more) (bits v t) (λ n. K v n s) (bits_of v f) (λ w. behind w (look v s1)) out (A.live v (B.grown v r) l x s h) (B.live v r l x s h));
  }

  -- a check of a property, and what stands behind it
  pub checked : (n0 n1 n2 : Unrolled) (s0 s1 : State) (p : PropId) (t : TermId) (K : Values → Onward) (g : Guard) (f : Flow) (before : Image → JointState → Type 0) (behind : Way → Image → JointState → Type 0) (out : Way → Onward) →
      IsPushed n0 n1 g (Prop p.0 t) → Unwinds fixed n1 n2 s0 s1 K g f before behind out →
      Unwinds fixed n0 n2 s0 s1 (λ v s c. if isnt_zero (v.term t.0).value then K v s c else broken p c) g f before behind out
  checked n0 n1 n2 s0 s1 p t K g f before behind out P B =
      let st : Step = record { guard = P.guard; act = Prop p.0 t } in
      record {
        grown = λ v r. P.grows.grown v (B.grown v r);
        more = st ∷ B.more;
        list = B.list ∙ ap (λ l. l ++ B.more) P.list ∙ append_assoc n0.list (st ∷ []) B.more;
        settled = B.settled;
        idle = λ v r o x.
            let b = B.idle v r o x in
            record {
              passes = ap (λ n. trail_then (at_zero n (Through []) (act_trail v (Prop p.0 t))) (trail v B.more)) (P.value v (B.grown v r) ∙ o) ∙ then_nothing (trail v B.more) ∙ b.passes;
              off = b.off;
              kept = b.kept;
            };
        live = λ v r l x s h.
            subst (λ n. Follows (λ c. if isnt_zero (v.term t.0).value then K v s c else broken p c) (trail_then (at_zero n (Through []) (act_trail v (Prop p.0 t))) (trail v B.more)) (bits_of v f) (λ w. behind w (look v s1)) out)
            (sym (P.value v (B.grown v r) ∙ l))
            (checked_follows (v.term t.0).value p (trail v B.more) (K v s) (bits_of v f) (λ w. behind w (look v s1)) out (B.live v r l x s h));
      }

  -- a stretch that only goes on, and one behind it
  pub seq : (n0 n1 n2 : Unrolled) (s0 s1 s2 : State) (run : Values → Onward) (g : Guard) (f : Flow) (before mid : Image → JointState → Type 0) (between behind : Way → Image → JointState → Type 0) (out1 out2 : Way → Onward) →
      ((x : Image) (s : JointState) → between Next x s → mid x s) → Unwinds fixed n0 n1 s0 s1 run g (flow_at Next g) before between out1 → Unwinds fixed n1 n2 s1 s2 (λ v. out1 Next) g f mid behind out2 →
      Unwinds fixed n0 n2 s0 s2 run g f before behind out2
  seq n0 n1 n2 s0 s1 s2 run g f before mid between behind out1 out2 into A B = record {
    grown = λ v r. A.grown v (B.grown v r);
    more = A.more ++ B.more;
    list = B.list ∙ ap (λ l. l ++ B.more) A.list ∙ append_assoc n0.list A.more B.more;
    settled = λ v r x. B.settled v r (A.settled v (B.grown v r) x);
    idle = λ v r o x.
        let r1 = B.grown v r in
        let a = A.idle v r1 o x in
        let b = B.idle v r o (A.settled v r1 x) in
        record {
          passes = trail-append v A.more B.more ∙ ap (λ t. trail_then t (trail v B.more)) a.passes ∙ then_nothing (trail v B.more) ∙ b.passes;
          off = b.off;
          kept = b.kept ∙ a.kept;
        };
    live = λ v r l x s h.
        let r1 = B.grown v r in
        subst (λ t. Follows (run v s) t (bits_of v f) (λ w. behind w (look v s2)) out2) (sym (trail-append v A.more B.more))
        (bind_follows (run v s) (trail v A.more) (trail v B.more) (bits_of v (flow_at Next g)) (bits_of v f) (λ w. between w (look v s1)) (λ w. behind w (look v s2)) out1 out2 (A.live v r1 l x s h)
        (λ way at s' q.
        let e : way ≡ Next = not_on way (sym l ∙ at Next) in
        subst (λ w. Follows (out1 w s') (trail v B.more) (bits_of v f) (λ w. behind w (look v s2)) out2) (sym e)
        (B.live v r l (A.settled v r1 x) s' (into (look v s1) s' (subst (λ w. between w (look v s1) s') e q)))));
  }

  -- the state is another, something is told, and the run goes on
  pub changed_then : (n0 n1 : Unrolled) (s0 s1 : State) (g : Guard) (before after : Image → JointState → Type 0) (next : Values → JointState → JointState) (told : Values → JointState → Told) (go : Onward) → ((v : Values) (s : JointState) → (told v s).widths ≡ []) →
      Changes fixed n0 n1 s0 s1 g before after next → Unwinds fixed n0 n1 s0 s1 (λ v s c. preceded (told v s) (go (next v s) c)) g (flow_at Next g) before (λ way. after) (λ way. go)
  changed_then n0 n1 s0 s1 g before after next told go none C = record {
    grown = C.grown;
    more = [];
    list = C.list ∙ sym (append-nil n0.list);
    settled = C.settled;
    idle = λ v r o q. record { passes = refl; off = λ w. only_off v Next w g o; kept = C.kept v r o q };
    live = λ v r l q s h. record {
      way = Next;
      state = next v s;
      told = told v s;
      at = λ w. only_at v Next w g l;
      held = C.changed v r l q s h;
      widths = none v s;
      runs = λ rest. refl;
    };
  }

  -- nothing is done, and the run goes on, in a state of these terms
  pub begun_at : (n : Unrolled) (st : State) (way : Way) (g : Guard) (before : Image → JointState → Type 0) (behind : Way → Image → JointState → Type 0) (out : Way → Onward) → ((v : Values) (s : JointState) → before (look v st) s → behind way (look v st) s) →
      Unwinds fixed n n st st (λ v. out way) g (flow_at way g) before behind out
  begun_at n st way g before behind out post = record {
    grown = λ v r. r;
    more = [];
    list = sym (append-nil n.list);
    settled = λ v r x. x;
    idle = λ v r o x. record { passes = refl; off = λ w. only_off v way w g o; kept = refl };
    live = λ v r l x s h. stays_follows way s (bits_of v (flow_at way g)) (λ way'. behind way' (look v st)) out (λ w. only_at v way w g l) (post v s h);
  }
