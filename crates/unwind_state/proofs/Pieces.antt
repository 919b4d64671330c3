-- Stretches that are made of an expression, a draw, a check or a write.
use Rattle.std.proofs.Common.{◌≡◌, ℕ, zero, suc, ◌%◌, ◌^◌, ◌<◌, List, [], ◌∷◌, ◌++◌, refl, sym, ap, ◌∙◌, subst, append_assoc, append-nil}
use Rattle.std.specs.Prelude.{bit_or, bit_and, None, ℤ, Bool, true, false, not, if◌then◌else◌}
use Rattle.std.proofs.Math.Nat.{mod-eq_of_lt}
use Rattle.bits_core.specs.Word.{Word, at_zero, bit, number}
use Rattle.word_eqs.specs.declared.list.Act.{Act}
use Rattle.word_eqs.specs.declared.list.Act.TheVariants.{Free, Cut, Prop}
use Rattle.word_eqs.specs.declared.list.Step.{Step}
use Rattle.word_eqs.specs.declared.term.TermId.{TermId}
use Rattle.word_eqs.specs.Guarded.{AtCut, AtProp}
use Rattle.word_eqs.specs.Meaning.{Values, Respects, IsWordOf}
use Rattle.joint_ir.specs.declared.ctype.IntType.{IntType}
use Rattle.joint_ir.specs.declared.event.Event.TheVariants.{Broke}
use Rattle.joint_ir.specs.declared.event.Outcome.{Outcome}
use Rattle.joint_ir.specs.declared.event.Outcome.TheVariants.{Broken}
use Rattle.joint_ir.specs.declared.program.PropId.{PropId}
use Rattle.joint_ir.specs.declared.way.Way.{Way}
use Rattle.joint_ir.specs.declared.way.Way.TheVariants.{Next}
use Rattle.joint_ir.specs.Effects.{Effect, Told, nothing, seen, drew, joined, Goes, Stops, Onward, preceded, with_value, broken, draw}
use Rattle.joint_ir.specs.States.{JointState}
use Rattle.joint_ir.specs.Values.{Answer, Value, Fault}
use Rattle.sized_terms.specs.declared.SizedTerm.{SizedTerm}
use Rattle.sized_terms.specs.Sized.{bits}
use Rattle.unrolled.specs.declared.Unrolled.{Unrolled}
use Rattle.unwound.specs.Covers.{broken_by}
use Rattle.trails.specs.Following.{IsAt, goes, Follows}
use Rattle.trails.specs.Trails.{Trail, Through, Halts, values_of, widths_of, trail_then, act_trail, trail}
use Rattle.trails.proofs.Walking.{then_nothing, nothing_then, trail-append, trail_one}
use Rattle.trails.proofs.Ways.{stays_follows, follows_as, joined_nothing, preceded_twice}
use Rattle.unwind_state.specs.declared.state.Flow.{Flow}
use Rattle.unwind_state.specs.declared.state.Guard.{Guard}
use Rattle.unwind_state.specs.declared.state.Guard.TheVariants.{Never}
use Rattle.unwind_state.specs.declared.state.Sides.{Sides}
use Rattle.unwind_state.specs.declared.state.State.{State}
use Rattle.unwind_state.specs.Guards.{bit_at, bits_of, flow_at, IsFlow, AreSides}
use Rattle.unwind_state.specs.Images.{Image, look}
use Rattle.unwind_state.specs.Unwinding.{Unwinds, Gives, Asks, IsPushed, IsDrawn, Changes}
use Rattle.unwind_state.proofs.Stretches.{only_off, only_at, and_off, and_on, either_bit, bit_either}

-- in one valuation

-- a property breaks
pub broken_follows : (p : PropId) (guards : Way → ℕ) (holds : Way → JointState → Type 0) (out : Way → Onward) → Follows (λ c. broken p c) (Halts [] (AtProp p.0)) guards holds out
broken_follows p guards holds out = record { outcome = Broken p; told = seen (Broke p); broken = refl; widths = refl; runs = λ rest. refl }

-- an expression, and what is done with its value
pub ask_follows : (ty : IntType) (a : Answer) (t1 t2 : Trail) (n : ℕ) (K : ℤ → List ℕ → Effect) (guards : Way → ℕ) (holds : Way → JointState → Type 0) (out : Way → Onward) → Gives ty a t1 n → Follows (K (number ty.signed ty.bits n)) t2 guards holds out →
    Follows (λ c. with_value a c (λ m. K m c)) (trail_then t1 t2) guards holds out
ask_follows ty (Value m) t1 t2 n K guards holds out (e, d) h =
    subst (λ t. Follows (K m) t guards holds out) (sym (ap (λ t. trail_then t t2) e ∙ then_nothing t2)) (subst (λ (z : ℤ). Follows (K z) t2 guards holds out) d h)
ask_follows ty (Fault p) t1 t2 n K guards holds out e h = subst (λ t. Follows (λ c. broken p c) t guards holds out) (sym (ap (λ t. trail_then t t2) e)) (broken_follows p guards holds out)

-- a word that is drawn, and what is done with it
draw_follows : (a : Word) (w : ℕ) (t2 : Trail) (K : ℕ → List ℕ → Effect) (guards : Way → ℕ) (holds : Way → JointState → Type 0) (out : Way → Onward) → IsWordOf w a → Follows (K a.value) t2 guards holds out →
    Follows (λ c. draw w c K) (trail_then (Through (a ∷ [])) t2) guards holds out
draw_follows a w (Through r) K guards holds out is k = record {
  way = k.way;
  state = k.state;
  told = joined (drew w) k.told;
  at = k.at;
  held = k.held;
  widths = ap (λ l. w ∷ l) k.widths ∙ ap (λ n. n ∷ widths_of r) (sym is.width);
  runs = λ rest.
      ap (λ n. preceded (drew w) (K n (values_of r ++ rest))) (mod-eq_of_lt is.below) ∙ ap (preceded (drew w)) (k.runs rest) ∙ preceded_twice (drew w) k.told (out k.way k.state rest);
}
draw_follows a w (Halts r stop) K guards holds out is k = record {
  outcome = k.outcome;
  told = joined (drew w) k.told;
  broken = k.broken;
  widths = ap (λ l. w ∷ l) k.widths ∙ ap (λ n. n ∷ widths_of r) (sym is.width);
  runs = λ rest. ap (λ n. preceded (drew w) (K n (values_of r ++ rest))) (mod-eq_of_lt is.below) ∙ ap (preceded (drew w)) (k.runs rest);
}

-- whether a number isn't 0
abbrev pub isnt_zero : ℕ → Bool
isnt_zero n = at_zero n false true

-- a check
prop_follows : (n : ℕ) (p : PropId) (s : JointState) (guards : Way → ℕ) (holds : Way → JointState → Type 0) (out : Way → Onward) → IsAt guards Next → holds Next s →
    Follows (λ c. if isnt_zero n then out Next s c else broken p c) (at_zero n (Halts [] (AtProp p.0)) (Through [])) guards holds out
prop_follows zero p s guards holds out at h = broken_follows p guards holds out
prop_follows (suc n) p s guards holds out at h = stays_follows Next s guards holds out at h

cut_follows : (n : ℕ) (o : Outcome) → broken_by o ≡ None → (s : JointState) (guards : Way → ℕ) (holds : Way → JointState → Type 0) (out : Way → Onward) → IsAt guards Next → holds Next s →
    Follows (λ c. if isnt_zero n then out Next s c else Stops o nothing c) (at_zero n (Halts [] AtCut) (Through [])) guards holds out
cut_follows zero o is s guards holds out at h = record { outcome = o; told = nothing; broken = is; widths = refl; runs = λ rest. refl }
cut_follows (suc n) o is s guards holds out at h = stays_follows Next s guards holds out at h

module _ (fixed : Image → Type 0) where
  pub ask : (n0 n1 n2 : Unrolled) (s0 s1 : State) (ty : IntType) (answer : JointState → Answer) (K : ℤ → Onward) (g : Guard) (t : SizedTerm) (f : Flow) (before : Image → JointState → Type 0) (behind : Way → Image → JointState → Type 0) (out : Way → Onward) →
      Asks fixed n0 n1 s0 ty answer g t before → Unwinds fixed n1 n2 s0 s1 (λ v. K (number ty.signed ty.bits (bits v t))) g f before behind out →
      Unwinds fixed n0 n2 s0 s1 (λ v s c. with_value (answer s) c (λ n. K n s c)) g f before behind out
  ask n0 n1 n2 s0 s1 ty answer K g t f before behind out A B = record {
    grown = λ v r. A.grown v (B.grown v r);
    more = A.more ++ B.more;
    list = B.list ∙ ap (λ l. l ++ B.more) A.list ∙ append_assoc n0.list A.more B.more;
    settled = B.settled;
    idle = λ v r o x.
        let b = B.idle v r o x in
        record {
          passes = trail-append v A.more B.more ∙ ap (λ t. trail_then t (trail v B.more)) (A.idle v (B.grown v r) o x) ∙ then_nothing (trail v B.more) ∙ b.passes;
          off = b.off;
          kept = b.kept;
        };
    live = λ v r l x s h.
        subst (λ t. Follows (λ c. with_value (answer s) c (λ n. K n s c)) t (bits_of v f) (λ w. behind w (look v s1)) out) (sym (trail-append v A.more B.more))
        (ask_follows ty (answer s) (trail v A.more) (trail v B.more) (bits v t) (λ n. K n s) (bits_of v f) (λ w. behind w (look v s1)) out (A.live v (B.grown v r) l x s h) (B.live v r l x s h));
  }

  pub drawn : (n0 n1 n2 : Unrolled) (s0 s1 : State) (w : ℕ) (K : ℕ → Onward) (g : Guard) (t : SizedTerm) (f : Flow) (before : Image → JointState → Type 0) (behind : Way → Image → JointState → Type 0) (out : Way → Onward) →
      IsDrawn n0 n1 w g t → Unwinds fixed n1 n2 s0 s1 (λ v. K (bits v t)) g f before behind out → Unwinds fixed n0 n2 s0 s1 (λ v s c. draw w c (λ n rest. K n s rest)) g f before behind out
  drawn n0 n1 n2 s0 s1 w K g t f before behind out D B =
      let P = D.pushed in
      let x = D.variable in
      let st : Step = record { guard = P.guard; act = Free x } in
      record {
        grown = λ v r. P.grows.grown v (B.grown v r);
        more = st ∷ B.more;
        list = B.list ∙ ap (λ l. l ++ B.more) P.list ∙ append_assoc n0.list (st ∷ []) B.more;
        settled = B.settled;
        idle = λ v r o q.
            let b = B.idle v r o q in
            record {
              passes = ap (λ n. trail_then (at_zero n (Through []) (act_trail v (Free x))) (trail v B.more)) (P.value v (B.grown v r) ∙ o) ∙ then_nothing (trail v B.more) ∙ b.passes;
              off = b.off;
              kept = b.kept;
            };
        live = λ v r l q s h.
            let r1 = B.grown v r in
            subst (λ n. Follows (λ c. draw w c (λ n rest. K n s rest)) (trail_then (at_zero n (Through []) (act_trail v (Free x))) (trail v B.more)) (bits_of v f) (λ w. behind w (look v s1)) out) (sym (P.value v r1 ∙ l))
            (draw_follows (v.var x.0) w (trail v B.more) (λ n. K n s) (bits_of v f) (λ w. behind w (look v s1)) out (D.word v r1)
            (subst (λ n. Follows (K n s) (trail v B.more) (bits_of v f) (λ w. behind w (look v s1)) out) (D.value v r1) (B.live v r l q s h)));
      }

  -- a step, behind which the run goes on
  stepped : (n0 n1 : Unrolled) (st : State) (run : Values → Onward) (g : Guard) (act : Act) (before : Image → JointState → Type 0) (behind : Way → Image → JointState → Type 0) (out : Way → Onward) → ((x : Image) (s : JointState) → before x s → behind Next x s) →
      ((v : Values) → Respects v n1.terms → (s : JointState) (guards : Way → ℕ) (holds : Way → JointState → Type 0) → IsAt guards Next → holds Next s → Follows (run v s) (act_trail v act) guards holds out) → IsPushed n0 n1 g act →
      Unwinds fixed n0 n1 st st run g (flow_at Next g) before behind out
  stepped n0 n1 st run g act before behind out post acts P =
      let one : Step = record { guard = P.guard; act = act } in
      record {
        grown = P.grows.grown;
        more = one ∷ [];
        list = P.list;
        settled = λ v r q. q;
        idle = λ v r o q. record { passes = trail_one v one ∙ ap (λ n. at_zero n (Through []) (act_trail v act)) (P.value v r ∙ o); off = λ w. only_off v Next w g o; kept = refl };
        live = λ v r l q s h.
            subst (λ t. Follows (run v s) t (bits_of v (flow_at Next g)) (λ w. behind w (look v st)) out) (sym (trail_one v one ∙ ap (λ n. at_zero n (Through []) (act_trail v act)) (P.value v r ∙ l)))
            (acts v r s (bits_of v (flow_at Next g)) (λ w. behind w (look v st)) (λ w. only_at v Next w g l) (post (look v st) s h));
      }

  -- a check breaks a property
  pub asserted : (n0 n1 : Unrolled) (st : State) (p : PropId) (g : Guard) (t : TermId) (before : Image → JointState → Type 0) (behind : Way → Image → JointState → Type 0) (out : Way → Onward) → ((x : Image) (s : JointState) → before x s → behind Next x s) →
      IsPushed n0 n1 g (Prop p.0 t) → Unwinds fixed n0 n1 st st (λ v s c. if isnt_zero (v.term t.0).value then out Next s c else broken p c) g (flow_at Next g) before behind out
  asserted n0 n1 st p g t before behind out post P =
      stepped n0 n1 st (λ v s c. if isnt_zero (v.term t.0).value then out Next s c else broken p c) g (Prop p.0 t) before behind out post (λ v r s guards holds at h. prop_follows (v.term t.0).value p s guards holds out at h) P

  -- an assumption ends a run
  pub assumed : (n0 n1 : Unrolled) (st : State) (o : Outcome) → broken_by o ≡ None → (g : Guard) (t : TermId) (before : Image → JointState → Type 0) (behind : Way → Image → JointState → Type 0) (out : Way → Onward) →
      ((x : Image) (s : JointState) → before x s → behind Next x s) → IsPushed n0 n1 g (Cut t) →
      Unwinds fixed n0 n1 st st (λ v s c. if isnt_zero (v.term t.0).value then out Next s c else Stops o nothing c) g (flow_at Next g) before behind out
  assumed n0 n1 st o is g t before behind out post P =
      stepped n0 n1 st (λ v s c. if isnt_zero (v.term t.0).value then out Next s c else Stops o nothing c) g (Cut t) before behind out post (λ v r s guards holds at h. cut_follows (v.term t.0).value o is s guards holds out at h) P

  -- the state is another, and the run goes on
  pub changed : (n0 n1 : Unrolled) (s0 s1 : State) (way : Way) (g : Guard) (before after : Image → JointState → Type 0) (next : Values → JointState → JointState) (told : Values → JointState → Told) (behind : Way → Image → JointState → Type 0) →
      ((v : Values) (s : JointState) → (told v s).widths ≡ []) → ((x : Image) (s : JointState) → after x s → behind way x s) → Changes fixed n0 n1 s0 s1 g before after next →
      Unwinds fixed n0 n1 s0 s1 (λ v s c. Goes way (next v s) (told v s) c) g (flow_at way g) before behind goes
  changed n0 n1 s0 s1 way g before after next told behind none post C = record {
    grown = C.grown;
    more = [];
    list = C.list ∙ sym (append-nil n0.list);
    settled = C.settled;
    idle = λ v r o q. record { passes = refl; off = λ w. only_off v way w g o; kept = C.kept v r o q };
    live = λ v r l q s h. record {
      way = way;
      state = next v s;
      told = told v s;
      at = λ w. only_at v way w g l;
      held = post (look v s1) (next v s) (C.changed v r l q s h);
      widths = none v s;
      runs = λ rest. ap (λ t. Goes way (next v s) t rest) (sym (joined_nothing (told v s)));
    };
  }

  -- a write, and then what goes on from the state behind it
  pub then_changed : (n0 n1 n2 : Unrolled) (s0 s1 s2 : State) (g : Guard) (f : Flow) (run : Onward) (before after : Image → JointState → Type 0) (next : Values → JointState → JointState) (behind : Way → Image → JointState → Type 0) (out : Way → Onward) →
      Changes fixed n0 n1 s0 s1 g before after next → Unwinds fixed n1 n2 s1 s2 (λ v. run) g f after behind out → Unwinds fixed n0 n2 s0 s2 (λ v s c. run (next v s) c) g f before behind out
  then_changed n0 n1 n2 s0 s1 s2 g f run before after next behind out C B = record {
    grown = λ v r. C.grown v (B.grown v r);
    more = B.more;
    list = B.list ∙ ap (λ l. l ++ B.more) C.list;
    settled = λ v r x. B.settled v r (C.settled v (B.grown v r) x);
    idle = λ v r o x.
        let r1 = B.grown v r in
        let b = B.idle v r o (C.settled v r1 x) in
        record { passes = b.passes; off = b.off; kept = b.kept ∙ C.kept v r1 o x };
    live = λ v r l x s h. let r1 = B.grown v r in B.live v r l (C.settled v r1 x) (next v s) (C.changed v r1 l x s h);
  }

  -- one of two stretches
  pub branch : (n0 n1 n2 n3 n4 : Unrolled) (s0 s1 s2 : State) (set : SizedTerm) (test : Values → Bool) (ra rb : Values → Onward) (g : Guard) (sides : Sides) (fa fb f : Flow) (before : Image → JointState → Type 0) (behind : Way → Image → JointState → Type 0) (out : Way → Onward) →
      ((v : Values) → Respects v n0.terms → bits v set ≡ bit (test v)) → AreSides n0 n1 set g sides → Unwinds fixed n1 n2 s0 s1 ra sides.taken fa before behind out → Unwinds fixed n2 n3 s1 s2 rb sides.other fb before behind out → IsFlow n3 n4 f (λ v way. bit_or (bits_of v fa way) (bits_of v fb way)) →
      Unwinds fixed n0 n4 s0 s2 (λ v s c. if test v then ra v s c else rb v s c) g f before behind out
  branch n0 n1 n2 n3 n4 s0 s1 s2 set test ra rb g sides fa fb f before behind out is S A B J = record {
    grown = λ v r. S.adds.grown v (r1 v r);
    more = A.more ++ B.more;
    list = J.adds.list ∙ B.list ∙ ap (λ l. l ++ B.more) (A.list ∙ ap (λ l. l ++ A.more) S.adds.list) ∙ append_assoc n0.list A.more B.more;
    settled = λ v r x. B.settled v (r3 v r) (A.settled v (r2 v r) x);
    idle = λ v r o x.
        let a = A.idle v (r2 v r) (taken v r ∙ and_off (bit_at v g) (test v) o) x in
        let b = B.idle v (r3 v r) (other v r ∙ and_off (bit_at v g) (not (test v)) o) (A.settled v (r2 v r) x) in
        record {
          passes = trail-append v A.more B.more ∙ ap (λ t. trail_then t (trail v B.more)) a.passes ∙ then_nothing (trail v B.more) ∙ b.passes;
          off = λ w. J.ways v r w ∙ ap (λ n. bit_or n (bits_of v fb w)) (a.off w) ∙ ap (bit_or 0) (b.off w);
          kept = b.kept ∙ a.kept;
        };
    live = λ v r l x s h.
        subst (λ t. Follows (λ c. if test v then ra v s c else rb v s c) t (bits_of v f) (λ w. behind w (look v s2)) out) (sym (trail-append v A.more B.more)) (by_test v r l x s h (test v) refl);
  }
    where
      r3 : (v : Values) → Respects v n4.terms → Respects v n3.terms
      r3 v r = J.adds.grown v r

      r2 : (v : Values) → Respects v n4.terms → Respects v n2.terms
      r2 v r = B.grown v (r3 v r)

      r1 : (v : Values) → Respects v n4.terms → Respects v n1.terms
      r1 v r = A.grown v (r2 v r)

      taken : (v : Values) → Respects v n4.terms → bit_at v sides.taken ≡ bit_and (bit_at v g) (bit (test v))
      taken v r = S.taken v (r1 v r) (test v) (is v (S.adds.grown v (r1 v r)))

      other : (v : Values) → Respects v n4.terms → bit_at v sides.other ≡ bit_and (bit_at v g) (bit (not (test v)))
      other v r = S.other v (r1 v r) (test v) (is v (S.adds.grown v (r1 v r)))

      by_test : (v : Values) → Respects v n4.terms → bit_at v g ≡ 1 → fixed (look v s0) → (s : JointState) → before (look v s0) s → (b : Bool) → test v ≡ b →
          Follows (λ c. if b then ra v s c else rb v s c) (trail_then (trail v A.more) (trail v B.more)) (bits_of v f) (λ w. behind w (look v s2)) out
      by_test v r l x s h true e =
          let on : bit_at v sides.taken ≡ 1 = taken v r ∙ and_on (bit_at v g) (test v) l ∙ ap bit e in
          let b = B.idle v (r3 v r) (other v r ∙ and_on (bit_at v g) (not (test v)) l ∙ ap (λ t. bit (not t)) e) (A.settled v (r2 v r) x) in
          subst (λ t. Follows (ra v s) t (bits_of v f) (λ w. behind w (look v s2)) out) (sym (ap (trail_then (trail v A.more)) b.passes ∙ nothing_then (trail v A.more)))
          (follows_as (ra v s) (ra v s) (trail v A.more) (bits_of v fa) (bits_of v f) (λ w. behind w (look v s1)) (λ w. behind w (look v s2)) out out (λ w. w) (λ c. refl)
          (λ way at w. J.ways v r w ∙ ap (bit_or (bits_of v fa w)) (b.off w) ∙ ap (λ n. bit_or n 0) (at w) ∙ either_bit w way) (λ w s' q. subst (λ y. behind w y s') (sym b.kept) q) (λ w s' c q. refl)
          (A.live v (r2 v r) on x s h))
      by_test v r l x s h false e =
          let a = A.idle v (r2 v r) (taken v r ∙ and_on (bit_at v g) (test v) l ∙ ap bit e) x in
          let on : bit_at v sides.other ≡ 1 = other v r ∙ and_on (bit_at v g) (not (test v)) l ∙ ap (λ t. bit (not t)) e in
          subst (λ t. Follows (rb v s) t (bits_of v f) (λ w. behind w (look v s2)) out) (sym (ap (λ t. trail_then t (trail v B.more)) a.passes ∙ then_nothing (trail v B.more)))
          (follows_as (rb v s) (rb v s) (trail v B.more) (bits_of v fb) (bits_of v f) (λ w. behind w (look v s2)) (λ w. behind w (look v s2)) out out (λ w. w) (λ c. refl)
          (λ way at w. J.ways v r w ∙ ap (λ n. bit_or n (bits_of v fb w)) (a.off w) ∙ ap (bit_or 0) (at w) ∙ bit_either w way) (λ w s' q. q) (λ w s' c q. refl)
          (B.live v (r3 v r) on (A.settled v (r2 v r) x) s (subst (λ y. before y s) (sym a.kept) h)))
