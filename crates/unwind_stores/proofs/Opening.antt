-- Values that are drawn or obtained, and what is done with them.
use Rattle.std.proofs.Common.{ℕ, List, [], ◌∷◌, ◌++◌, refl, sym, ap, ◌∙◌, subst, append_assoc}
use Rattle.std.specs.Prelude.{ℤ}
use Rattle.std.proofs.Math.Nat.{mod-eq_of_lt}
use Rattle.bits_core.specs.Word.{Word, at_zero, number}
use Rattle.word_eqs.specs.declared.list.Act.TheVariants.{Free as FreeAct}
use Rattle.word_eqs.specs.declared.list.Step.{Step}
use Rattle.word_eqs.specs.Meaning.{Values, IsWordOf}
use Rattle.joint_ir.specs.declared.ctype.IntType.{IntType}
use Rattle.joint_ir.specs.declared.way.Way.{Way}
use Rattle.joint_ir.specs.declared.way.Way.TheVariants.{Next}
use Rattle.joint_ir.specs.Effects.{Effect, drew, joined, Onward, preceded, draw}
use Rattle.joint_ir.specs.States.{JointState}
use Rattle.sized_terms.specs.declared.SizedTerm.{SizedTerm}
use Rattle.sized_terms.specs.Sized.{bits}
use Rattle.unrolled.specs.declared.Unrolled.{Unrolled}
use Rattle.trails.specs.Following.{way_bit, Follows}
use Rattle.trails.specs.Trails.{Trail, Through, Halts, values_of, widths_of, trail_then, act_trail, trail}
use Rattle.trails.proofs.Walking.{then_nothing, trail-append}
use Rattle.trails.proofs.Ways.{bind_follows, preceded_twice}
use Rattle.unwind_state.specs.declared.state.Flow.{Flow}
use Rattle.unwind_state.specs.declared.state.Guard.{Guard}
use Rattle.unwind_state.specs.declared.state.State.{State}
use Rattle.unwind_state.specs.Guards.{bits_of}
use Rattle.unwind_state.specs.Images.{Image, look}
use Rattle.unwind_state.specs.Unwinding.{Unwinds, IsDrawn}
use Rattle.unwind_simple.specs.Obtaining.{Valuing, ComesTo, Obtains}

-- a word that is drawn, and what is done with it, which may hang on terms made before

draw_follows : (a : Word) (w : ℕ) (t2 : Trail) (K : ℕ → List ℕ → Effect) (guards : Way → ℕ) (holds : Way → JointState → Type 0) (out : Way → Onward) → IsWordOf w a → Follows (K a.value) t2 guards holds out →
    Follows (λ c. draw w c K) (trail_then (Through (a ∷ [])) t2) guards holds out
draw_follows a w (Through r) K guards holds out is k = record {
  way = k.way;
  state = k.state;
  told = joined (drew w) k.told;
  at = k.at;
  held = k.held;
  widths = ap (λ l. w ∷ l) k.widths ∙ ap (λ n. n ∷ widths_of r) (sym is.width);
  runs = λ rest.
      ap (λ n. preceded (drew w) (K n (values_of r ++ rest))) (mod-eq_of_lt is.below) ∙ ap (preceded (drew w)) (k.runs rest) ∙ preceded_twice (drew w) k.told (out k.way k.state rest);
}
draw_follows a w (Halts r stop) K guards holds out is k = record {
  outcome = k.outcome;
  told = joined (drew w) k.told;
  broken = k.broken;
  widths = ap (λ l. w ∷ l) k.widths ∙ ap (λ n. n ∷ widths_of r) (sym is.width);
  runs = λ rest. ap (λ n. preceded (drew w) (K n (values_of r ++ rest))) (mod-eq_of_lt is.below) ∙ ap (preceded (drew w)) (k.runs rest);
}

pub drawn_in : (fixed : Image → Type 0) (n0 n1 n2 : Unrolled) (s0 s1 : State) (w : ℕ) (K : Values → ℕ → Onward) (g : Guard) (t : SizedTerm) (f : Flow) (before : Image → JointState → Type 0) (behind : Way → Image → JointState → Type 0) (out : Way → Onward) →
    IsDrawn n0 n1 w g t → Unwinds fixed n1 n2 s0 s1 (λ v. K v (bits v t)) g f before behind out → Unwinds fixed n0 n2 s0 s1 (λ v s c. draw w c (λ n rest. K v n s rest)) g f before behind out
drawn_in fixed n0 n1 n2 s0 s1 w K g t f before behind out D B =
    let P = D.pushed in
    let x = D.variable in
    let st : Step = record { guard = P.guard; act = FreeAct x } in
    record {
      grown = λ v r. P.grows.grown v (B.grown v r);
      more = st ∷ B.more;
      list = B.list ∙ ap (λ l. l ++ B.more) P.list ∙ append_assoc n0.list (st ∷ []) B.more;
      settled = B.settled;
      idle = λ v r o q.
          let b = B.idle v r o q in
          record {
            passes = ap (λ n. trail_then (at_zero n (Through []) (act_trail v (FreeAct x))) (trail v B.more)) (P.value v (B.grown v r) ∙ o) ∙ then_nothing (trail v B.more) ∙ b.passes;
            off = b.off;
            kept = b.kept;
          };
      live = λ v r l q s h.
          let r1 = B.grown v r in
          subst (λ n. Follows (λ c. draw w c (λ n rest. K v n s rest)) (trail_then (at_zero n (Through []) (act_trail v (FreeAct x))) (trail v B.more)) (bits_of v f) (λ w. behind w (look v s1)) out) (sym (P.value v r1 ∙ l))
          (draw_follows (v.var x.0) w (trail v B.more) (λ n. K v n s) (bits_of v f) (λ w. behind w (look v s1)) out (D.word v r1)
          (subst (λ n. Follows (K v n s) (trail v B.more) (bits_of v f) (λ w. behind w (look v s1)) out) (D.value v r1) (B.live v r l q s h)));
    }

-- a value that is obtained, and what is done with it, which may hang on terms made before

obtained_follows : (run : List ℕ → (ℤ → Onward) → Effect) (t1 t2 : Trail) (n : ℤ) (K : ℤ → Onward) (guards : Way → ℕ) (mid : JointState → Type 0) (holds : Way → JointState → Type 0) (out : Way → Onward) → ComesTo run t1 n mid →
    ((s : JointState) → mid s → Follows (K n s) t2 guards holds out) → Follows (λ c. run c K) (trail_then t1 t2) guards holds out
obtained_follows run t1 t2 n K guards mid holds out C go = bind_follows (λ c. run c K) t1 t2 (λ w. way_bit w Next) guards (λ way. mid) holds (λ way. K n) out (first t1 C) (λ way at s q. go s q)
  where
    first : (t : Trail) → ComesTo run t n mid → Follows (λ c. run c K) t (λ w. way_bit w Next) (λ way. mid) (λ way. K n)
    first (Through reads) h = record { way = Next; state = h.state; told = h.told; at = λ w. refl; held = h.held; widths = h.widths; runs = λ rest. h.runs K rest }
    first (Halts reads stop) h = h K

pub obtain_in : (fixed : Image → Type 0) (n0 n1 n2 : Unrolled) (s0 s1 : State) (ty : IntType) (run : Valuing) (K : Values → ℤ → Onward) (g : Guard) (t : SizedTerm) (f : Flow) (before : Image → JointState → Type 0) (behind : Way → Image → JointState → Type 0) (out : Way → Onward) →
    Obtains fixed n0 n1 s0 ty run g t before → Unwinds fixed n1 n2 s0 s1 (λ v. K v (number ty.signed ty.bits (bits v t))) g f before behind out →
    Unwinds fixed n0 n2 s0 s1 (λ v s c. run s c (K v)) g f before behind out
obtain_in fixed n0 n1 n2 s0 s1 ty run K g t f before behind out A B = record {
  grown = λ v r. A.grown v (B.grown v r);
  more = A.more ++ B.more;
  list = B.list ∙ ap (λ l. l ++ B.more) A.list ∙ append_assoc n0.list A.more B.more;
  settled = B.settled;
  idle = λ v r o x.
      let b = B.idle v r o x in
      record {
        passes = trail-append v A.more B.more ∙ ap (λ t. trail_then t (trail v B.more)) (A.idle v (B.grown v r) o x) ∙ then_nothing (trail v B.more) ∙ b.passes;
        off = b.off;
        kept = b.kept;
      };
  live = λ v r l x s h.
      subst (λ t. Follows (λ c. run s c (K v)) t (bits_of v f) (λ w. behind w (look v s1)) out) (sym (trail-append v A.more B.more))
      (obtained_follows (run s) (trail v A.more) (trail v B.more) (number ty.signed ty.bits (bits v t)) (K v) (bits_of v f) (before (look v s0)) (λ w. behind w (look v s1)) out (A.live v (B.grown v r) l x s h) (λ s' q. B.live v r l x s' q));
}
