-- A value that is asked for, drawn or called for, and what is done with it.
use Rattle.std.proofs.Common.{◌≡◌, ℕ, zero, suc, ◌^◌, ◌<◌, ◌≤◌, Bool, false, List, [], ◌∷◌, ◌++◌, Option, Some, None, refl, sym, ap, ◌∙◌, subst, append_assoc, arith}
use Rattle.std.specs.Prelude.{ℤ, pos}
use Rattle.std.proofs.Math.Nat.{mod-eq_of_lt}
use Rattle.bits_core.specs.Word.{Word, number, at_zero}
use Rattle.word_eqs.specs.declared.list.Act.TheVariants.{Free}
use Rattle.word_eqs.specs.declared.list.Step.{Step}
use Rattle.word_eqs.specs.Meaning.{Values, Respects, IsWordOf}
use Rattle.joint_ir.specs.declared.bounds.Bounds.{Bounds}
use Rattle.joint_ir.specs.declared.ctype.IntType.{IntType}
use Rattle.joint_ir.specs.declared.event.Event.TheVariants.{Broke}
use Rattle.joint_ir.specs.declared.event.Outcome.TheVariants.{Broken}
use Rattle.joint_ir.specs.declared.expr.TExpr.{TExpr}
use Rattle.joint_ir.specs.declared.pair.Pair.{Pair}
use Rattle.joint_ir.specs.declared.program.Function.{Function}
use Rattle.joint_ir.specs.declared.stmt.TCall.{TCall}
use Rattle.joint_ir.specs.declared.stmt.TStmt.{TStmt}
use Rattle.joint_ir.specs.declared.way.Way.{Way}
use Rattle.joint_ir.specs.declared.way.Way.TheVariants.{Next}
use Rattle.joint_ir.specs.Effects.{Effect, nothing, seen, drew, Onward, preceded, with_value, with_values, broken, draw}
use Rattle.joint_ir.specs.States.{JointState}
use Rattle.joint_ir.specs.Statements.{calls_at, any_result, entered_body, entered_function, no_calls, is_below_limit}
use Rattle.joint_ir.specs.Steps.{Calls, call_effect, rows_in}
use Rattle.joint_ir.specs.Types.{IsType, Truth, Byte, Half, Single, Double, converted, truth_of}
use Rattle.joint_ir.specs.Values.{Answer, Value, Fault}
use Rattle.sized_terms.specs.declared.SizedTerm.{SizedTerm}
use Rattle.sized_terms.specs.Sized.{bits}
use Rattle.src_text.specs.declared.refusal.Place.{Place}
use Rattle.unrolled.specs.declared.Unrolled.{Unrolled}
use Rattle.trails.specs.Following.{way_bit, Follows}
use Rattle.trails.specs.Trails.{Trail, Through, Halts, values_of, trail_then, act_trail, trail}
use Rattle.trails.proofs.Walking.{then_nothing, trail-append, trail_one}
use Rattle.trails.proofs.Ways.{bind_follows, preceded_nothing}
use Rattle.unwind_state.specs.declared.state.Flow.{Flow}
use Rattle.unwind_state.specs.declared.state.Guard.{Guard}
use Rattle.unwind_state.specs.declared.state.State.{State}
use Rattle.unwind_state.specs.Guards.{Adds, bits_of}
use Rattle.unwind_state.specs.Images.{Image, look}
use Rattle.unwind_state.specs.Unwinding.{Unwinds, Gives, Asks, IsDrawn}
use Rattle.unwind_simple.specs.declared.simple.Activation.{Activation}
use Rattle.unwind_simple.specs.Simple.{setting_of, calls_in}
use Rattle.unwind_simple.specs.Obtaining.{Valuing, ComesTo, Obtains, IsOpen}

-- in one valuation

obtained_follows : (run : List ℕ → (ℤ → Onward) → Effect) (t1 t2 : Trail) (n : ℤ) (K : ℤ → Onward) (guards : Way → ℕ) (mid : JointState → Type 0) (holds : Way → JointState → Type 0) (out : Way → Onward) → ComesTo run t1 n mid →
    ((s : JointState) → mid s → Follows (K n s) t2 guards holds out) → Follows (λ c. run c K) (trail_then t1 t2) guards holds out
obtained_follows run t1 t2 n K guards mid holds out C go = bind_follows (λ c. run c K) t1 t2 (λ w. way_bit w Next) guards (λ way. mid) holds (λ way. K n) out (first t1 C) (λ way at s q. go s q)
  where
    first : (t : Trail) → ComesTo run t n mid → Follows (λ c. run c K) t (λ w. way_bit w Next) (λ way. mid) (λ way. K n)
    first (Through reads) h = record { way = Next; state = h.state; told = h.told; at = λ w. refl; held = h.held; widths = h.widths; runs = λ rest. h.runs K rest }
    first (Halts reads stop) h = h K

-- the same, in other words
comes_as : (run run' : List ℕ → (ℤ → Onward) → Effect) (t : Trail) (n : ℤ) (mid : JointState → Type 0) → ((c : List ℕ) (go : ℤ → Onward) → run c go ≡ run' c go) → ComesTo run t n mid → ComesTo run' t n mid
comes_as run run' (Through reads) n mid e h = record { state = h.state; told = h.told; held = h.held; widths = h.widths; runs = λ go rest. sym (e (values_of reads ++ rest) go) ∙ h.runs go rest }
comes_as run run' (Halts reads stop) n mid e h = λ go. let k = h go in record { outcome = k.outcome; told = k.told; broken = k.broken; widths = k.widths; runs = λ rest. sym (e (values_of reads ++ rest) go) ∙ k.runs rest }

-- an answer comes to its number
gives_comes : (ty : IntType) (a : Answer) (t : Trail) (n : ℕ) (s : JointState) (mid : JointState → Type 0) → mid s → Gives ty a t n → ComesTo (λ c go. with_value a c (λ m. go m s c)) t (number ty.signed ty.bits n) mid
gives_comes ty (Value m) t n s mid h (e, d) =
    subst (λ t. ComesTo (λ c go. go m s c) t (number ty.signed ty.bits n) mid) (sym e)
    (record { state = s; told = nothing; held = h; widths = refl; runs = λ go rest. ap (λ (z : ℤ). go z s rest) (sym d) ∙ sym (preceded_nothing (go (number ty.signed ty.bits n) s rest)) })
gives_comes ty (Fault p) t n s mid h e =
    subst (λ t. ComesTo (λ c go. broken p c) t (number ty.signed ty.bits n) mid) (sym e)
    (λ go. record { outcome = Broken p; told = seen (Broke p); broken = refl; widths = refl; runs = λ rest. refl })

-- a word that is drawn comes to what is made of it
draw_comes : (a : Word) (w : ℕ) (n : ℤ) (value : ℕ → ℤ) (next : ℕ → JointState) (mid : JointState → Type 0) → IsWordOf w a → mid (next a.value) → n ≡ value a.value →
    ComesTo (λ c go. draw w c (λ m rest. go (value m) (next m) rest)) (Through (a ∷ [])) n mid
draw_comes a w n value next mid is h e = record {
  state = next a.value;
  told = drew w;
  held = h;
  widths = ap (λ m. m ∷ []) (sym is.width);
  runs = λ go rest. ap (λ m. preceded (drew w) (go (value m) (next m) rest)) (mod-eq_of_lt is.below) ∙ ap (λ (z : ℤ). preceded (drew w) (go z (next a.value) rest)) (sym e);
}

-- a word of a type is the number that it is converted to
below_two : (n : ℕ) → n < 2 ^ 1 → truth_of (pos n) ≡ number false 1 n
below_two zero few = refl
below_two (suc zero) few = refl
below_two (suc (suc n)) few = absurd (omega arith)

pub drawn_number : (ty : IntType) → IsType ty → (n : ℕ) → n < 2 ^ ty.bits → converted ty (pos n) ≡ number ty.signed ty.bits n
drawn_number _ Truth n few = below_two n few
drawn_number _ (Byte s) n few = ap (number s 8) (mod-eq_of_lt few)
drawn_number _ (Half s) n few = ap (number s 16) (mod-eq_of_lt few)
drawn_number _ (Single s) n few = ap (number s 32) (mod-eq_of_lt few)
drawn_number _ (Double s) n few = ap (number s 64) (mod-eq_of_lt few)

-- the widths of types
pub some_bits : (ty : IntType) → IsType ty → 0 < ty.bits
some_bits _ Truth = omega arith
some_bits _ (Byte s) = omega arith
some_bits _ (Half s) = omega arith
some_bits _ (Single s) = omega arith
some_bits _ (Double s) = omega arith

pub few_bits : (ty : IntType) → IsType ty → ty.bits ≤ 64
few_bits _ Truth = omega arith
few_bits _ (Byte s) = omega arith
few_bits _ (Half s) = omega arith
few_bits _ (Single s) = omega arith
few_bits _ (Double s) = omega arith

module _ (fixed : Image → Type 0) where
  -- a value, and what is done with it
  pub obtain : (n0 n1 n2 : Unrolled) (s0 s1 : State) (ty : IntType) (run : Valuing) (K : ℤ → Onward) (g : Guard) (t : SizedTerm) (f : Flow) (before : Image → JointState → Type 0) (behind : Way → Image → JointState → Type 0) (out : Way → Onward) →
      Obtains fixed n0 n1 s0 ty run g t before → Unwinds fixed n1 n2 s0 s1 (λ v. K (number ty.signed ty.bits (bits v t))) g f before behind out →
      Unwinds fixed n0 n2 s0 s1 (λ v s c. run s c K) g f before behind out
  obtain n0 n1 n2 s0 s1 ty run K g t f before behind out A B = record {
    grown = λ v r. A.grown v (B.grown v r);
    more = A.more ++ B.more;
    list = B.list ∙ ap (λ l. l ++ B.more) A.list ∙ append_assoc n0.list A.more B.more;
    settled = B.settled;
    idle = λ v r o x.
        let b = B.idle v r o x in
        record {
          passes = trail-append v A.more B.more ∙ ap (λ t. trail_then t (trail v B.more)) (A.idle v (B.grown v r) o x) ∙ then_nothing (trail v B.more) ∙ b.passes;
          off = b.off;
          kept = b.kept;
        };
    live = λ v r l x s h.
        subst (λ t. Follows (λ c. run s c K) t (bits_of v f) (λ w. behind w (look v s1)) out) (sym (trail-append v A.more B.more))
        (obtained_follows (run s) (trail v A.more) (trail v B.more) (number ty.signed ty.bits (bits v t)) K (bits_of v f) (before (look v s0)) (λ w. behind w (look v s1)) out (A.live v (B.grown v r) l x s h) (λ s' q. B.live v r l x s' q));
  }

  -- the same, in other words
  pub obtains_as : (n0 n1 : Unrolled) (st : State) (ty : IntType) (run run' : Valuing) (g : Guard) (t : SizedTerm) (before : Image → JointState → Type 0) → ((s : JointState) (c : List ℕ) (go : ℤ → Onward) → run s c go ≡ run' s c go) →
      Obtains fixed n0 n1 st ty run g t before → Obtains fixed n0 n1 st ty run' g t before
  obtains_as n0 n1 st ty run run' g t before e A = record {
    grown = A.grown;
    more = A.more;
    list = A.list;
    idle = A.idle;
    live = λ v r l x s h. comes_as (run s) (run' s) (trail v A.more) (number ty.signed ty.bits (bits v t)) (before (look v st)) (e s) (A.live v r l x s h);
  }

  -- an expression's value
  pub obtains_asked : (n0 n1 : Unrolled) (st : State) (ty : IntType) (answer : JointState → Answer) (g : Guard) (t : SizedTerm) (before : Image → JointState → Type 0) → Asks fixed n0 n1 st ty answer g t before →
      Obtains fixed n0 n1 st ty (λ s c go. with_value (answer s) c (λ m. go m s c)) g t before
  obtains_asked n0 n1 st ty answer g t before A = record {
    grown = A.grown;
    more = A.more;
    list = A.list;
    idle = A.idle;
    live = λ v r l x s h. gives_comes ty (answer s) (trail v A.more) (bits v t) s (before (look v st)) h (A.live v r l x s h);
  }

  -- a word that is drawn, and a term that is made of it
  pub obtains_drawn : (n0 n1 n2 : Unrolled) (st : State) (ty : IntType) (w : ℕ) (value : ℕ → ℤ) (next : ℕ → JointState → JointState) (g : Guard) (d t : SizedTerm) (before : Image → JointState → Type 0) → IsDrawn n0 n1 w g d → Adds n1 n2 →
      ((v : Values) → Respects v n2.terms → bits v d < 2 ^ w → number ty.signed ty.bits (bits v t) ≡ value (bits v d)) → ((n : ℕ) (x : Image) (s : JointState) → before x s → before x (next n s)) →
      Obtains fixed n0 n2 st ty (λ s c go. draw w c (λ m rest. go (value m) (next m s) rest)) g t before
  obtains_drawn n0 n1 n2 st ty w value next g d t before D A is keeps =
      let P = D.pushed in
      let x = D.variable in
      let one : Step = record { guard = P.guard; act = Free x } in
      record {
        grown = λ v r. P.grows.grown v (A.grown v r);
        more = one ∷ [];
        list = A.list ∙ P.list;
        idle = λ v r o q. trail_one v one ∙ ap (λ n. at_zero n (Through []) (act_trail v (Free x))) (P.value v (A.grown v r) ∙ o);
        live = λ v r l q s h.
            let r1 = A.grown v r in
            let same : bits v d ≡ (v.var x.0).value = D.value v r1 in
            let word = D.word v r1 in
            let few : bits v d < 2 ^ w = subst (λ n. n < 2 ^ w) (sym same) word.below in
            subst (λ t'. ComesTo (λ c go. draw w c (λ m rest. go (value m) (next m s) rest)) t' (number ty.signed ty.bits (bits v t)) (before (look v st))) (sym (trail_one v one ∙ ap (λ n. at_zero n (Through []) (act_trail v (Free x))) (P.value v r1 ∙ l)))
            (draw_comes (v.var x.0) w (number ty.signed ty.bits (bits v t)) value (λ m. next m s) (before (look v st)) word (keeps (v.var x.0).value (look v st) s h) (is v r few ∙ ap value same));
      }

-- a call of a function without body

entered_open : (pair : Pair) (b : Bounds) (may : Function → Bool) (inner : Calls) (f : ℕ) (o : Option Function) (fn : Function) (t : IntType) (p : Place) (args : List ℤ) (s : JointState) (c : List ℕ) → o ≡ Some fn → fn.body ≡ None → fn.result ≡ Some t →
    entered_function pair b may inner f o p args s c ≡ any_result (Some t) s c
entered_open pair b may inner f o fn t p args s c found body result =
    ap (λ (o : Option Function). entered_function pair b may inner f o p args s c) found ∙ ap (λ (x : Option TStmt). entered_as x) body ∙ ap (λ (r : Option IntType). any_result r s c) result
  where
    entered_as : Option TStmt → Effect
    entered_as x = entered_body pair b (may fn) inner f fn x p args s c

pub open_call : (a : Activation) (call : TCall) (t : IntType) → IsOpen a call t → (s : JointState) (c : List ℕ) → call_effect (setting_of a) (calls_in a) call s c ≡ any_result (Some t) s c
open_call a call t O s c = ap (λ (es : List TExpr). with_values (rows_in (setting_of a) s) es c (λ args. calls_in a call.place call.function args s c)) O.alone ∙ at_left a.left
  where
    at_left : (left : ℕ) → calls_at a.pair.now a.bounds.now left a.standing.now call.place call.function [] s c ≡ any_result (Some t) s c
    at_left zero = entered_open a.pair.now a.bounds.now (λ fn. false) no_calls call.function _ O.function t call.place [] s c O.found O.open_ O.result
    at_left (suc left) = entered_open a.pair.now a.bounds.now (is_below_limit a.pair.now a.bounds.now a.standing.now call.function) (calls_at a.pair.now a.bounds.now left (a.standing.now ++ call.function ∷ [])) call.function _ O.function t call.place [] s c O.found O.open_ O.result
