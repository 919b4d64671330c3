-- Arguments, from left to right, and what is done with them.
use Rattle.std.proofs.Common.{◌≡◌, ℕ, List, [], ◌∷◌, ◌++◌, length, map, refl, sym, ap, ◌∙◌, subst, append_assoc, append-nil, arith}
use Rattle.std.specs.Prelude.{ℤ, All}
use Rattle.std.proofs.lemmas.List.{map-append, length-map}
use Rattle.std.proofs.lemmas.List.Elements.{All-nil, All-push, All-weaker}
use Rattle.bits_core.specs.Word.{number, at_zero}
use Rattle.word_eqs.specs.declared.list.Act.TheVariants.{Prop}
use Rattle.word_eqs.specs.declared.list.Step.{Step}
use Rattle.word_eqs.specs.Graph.{IsGraph}
use Rattle.word_eqs.specs.Guarded.{AtProp}
use Rattle.word_eqs.specs.Meaning.{Values, Respects}
use Rattle.joint_ir.specs.declared.ctype.IntType.{IntType}
use Rattle.joint_ir.specs.declared.event.Event.TheVariants.{Broke}
use Rattle.joint_ir.specs.declared.event.Outcome.TheVariants.{Broken}
use Rattle.joint_ir.specs.declared.expr.TExpr.{TExpr}
use Rattle.joint_ir.specs.declared.program.PropId.{PropId}
use Rattle.joint_ir.specs.Effects.{Effect, Onward, seen, with_value, with_values, broken}
use Rattle.joint_ir.specs.States.{JointState}
use Rattle.joint_ir.specs.Steps.{rows_in}
use Rattle.joint_ir.specs.Values.{Answer, Value, Fault, Rows, value_of}
use Rattle.joint_ir.specs.WellFormed.{Scope, FitsExpr}
use Rattle.sized_terms.specs.declared.SizedTerm.{SizedTerm}
use Rattle.sized_terms.specs.Sized.{Has, bits}
use Rattle.checked_terms.specs.Checked.{stands}
use Rattle.unrolled.specs.declared.Unrolled.{Unrolled}
use Rattle.trails.specs.Trails.{Trail, Through, Halts, values_of, trail_then, act_trail, trail}
use Rattle.trails.proofs.Walking.{then_nothing, trail-append, trail_one}
use Rattle.unwind_state.specs.declared.state.Guard.{Guard}
use Rattle.unwind_state.specs.declared.state.State.{State}
use Rattle.unwind_state.specs.Images.{Image, look, IsState, IsSettled}
use Rattle.unwind_state.specs.Unwinding.{Grows, Gives, IsPushed}
use Rattle.unwind_simple.specs.declared.simple.Activation.{Activation}
use Rattle.unwind_simple.specs.Simple.{is_in, setting_of, IsValued}
use Rattle.unwind_simple.specs.Obtaining.{Valuing, ComesTo}
use Rattle.unwind_calls.specs.Arguments.{numbers_at, Lists, AsksAll, AreArguments}
use Rattle.unwind_calls.specs.Calls.{Returns}

pub same_value : (an : Answer) (c : List ℕ) (go go' : ℤ → Effect) → ((n : ℤ) → go n ≡ go' n) → with_value an c go ≡ with_value an c go'
same_value (Value n) c go go' e = e n
same_value (Fault p) c go go' e = refl

-- one expression more
values_snoc : (rows : Rows) (es : List TExpr) (e : TExpr) (c : List ℕ) (go : List ℤ → Effect) → with_values rows (es ++ e ∷ []) c go ≡ with_values rows es c (λ ns. with_value (value_of rows e) c (λ n. go (ns ++ n ∷ [])))
values_snoc rows [] e c go = refl
values_snoc rows (x ∷ es) e c go =
    same_value (value_of rows x) c (λ m. with_values rows (es ++ e ∷ []) c (λ ns. go (m ∷ ns))) (λ m. with_values rows es c (λ ns. with_value (value_of rows e) c (λ n. go (m ∷ ns ++ n ∷ []))))
    (λ m. values_snoc rows es e c (λ ns. go (m ∷ ns)))

numbers_snoc : (v : Values) (es : List TExpr) (ts : List SizedTerm) (e : TExpr) (t : SizedTerm) → length ts ≡ length es → numbers_at v (es ++ e ∷ []) (ts ++ t ∷ []) ≡ numbers_at v es ts ++ stands e.ty v t ∷ []
numbers_snoc v [] [] e t n = refl
numbers_snoc v [] (u ∷ ts) e t n = absurd (omega (arith, n))
numbers_snoc v (x ∷ es) [] e t n = absurd (omega (arith, n))
numbers_snoc v (x ∷ es) (u ∷ ts) e t n = ap (λ l. stands x.ty v u ∷ l) (numbers_snoc v es ts e t (omega (arith, n)))

lists_more : (rows : Rows) (es : List TExpr) (e : TExpr) (an : Answer) (t1 t2 : Trail) (ns : List ℤ) (k : ℕ) → value_of rows e ≡ an → Lists rows es t1 ns → Gives e.ty an t2 k → Lists rows (es ++ e ∷ []) (trail_then t1 t2) (ns ++ number e.ty.signed e.ty.bits k ∷ [])
lists_more rows es e an (Halts reads stop) t2 ns k is (p, none, at, runs) g = (p, none, at, λ c go. values_snoc rows es e c go ∙ runs c (λ ns. with_value (value_of rows e) c (λ n. go (ns ++ n ∷ []))))
lists_more rows es e (Value n) (Through reads) t2 ns k is (none, runs) (through, value) =
    subst (λ t. Lists rows (es ++ e ∷ []) t (ns ++ number e.ty.signed e.ty.bits k ∷ [])) (sym (ap (λ r. trail_then (Through r) t2) none ∙ then_nothing t2 ∙ through)) (
      refl,
      λ c go.
          values_snoc rows es e c go ∙ runs c (λ ns. with_value (value_of rows e) c (λ n. go (ns ++ n ∷ []))) ∙ ap (λ a. with_value a c (λ n. go (ns ++ n ∷ []))) is ∙ ap (λ z. go (ns ++ z ∷ [])) (sym value),
    )
lists_more rows es e (Fault p) (Through reads) t2 ns k is (none, runs) g =
    subst (λ t. Lists rows (es ++ e ∷ []) t (ns ++ number e.ty.signed e.ty.bits k ∷ [])) (sym (ap (λ r. trail_then (Through r) t2) none ∙ then_nothing t2 ∙ g))
    (p, refl, refl, λ c go. values_snoc rows es e c go ∙ runs c (λ ns. with_value (value_of rows e) c (λ n. go (ns ++ n ∷ []))) ∙ ap (λ a. with_value a c (λ n. go (ns ++ n ∷ []))) is)

-- the terms of the first of some arguments, wherever all of them fit
pub record Sofar (a : Activation) (n0 n1 : Unrolled) (s : State) (whole es : List TExpr) (g : Guard) (ts : List SizedTerm) : Type 0 where
  pub grows : Grows n0.terms n1.terms
  pub has : All (Has n1.terms) ts
  pub widths : map (λ (t : SizedTerm). t.width) ts ≡ map (λ (e : TExpr). e.ty.bits) es
  pub asks : (c : Scope) → is_in a c → All (FitsExpr c) whole → AsksAll (IsSettled a.pair.now) n0 n1 s (λ x. rows_in (setting_of a) x) es g (λ v. numbers_at v es ts) (IsState a.pair.now c.locals)

module _ (a : Activation) where
  pub sofar_none : (n : Unrolled) (s : State) (whole : List TExpr) (g : Guard) → IsGraph n.terms → Sofar a n n s whole [] g []
  sofar_none n s whole g proper = record {
    grows = record { grown = λ v r. r; kept = λ x h. h; proper = proper };
    has = All-nil (Has n.terms);
    widths = refl;
    asks = λ c inside fits. record {
      grown = λ v r. r;
      more = [];
      list = sym (append-nil n.list);
      idle = λ v r o q. refl;
      live = λ v r l q x h. (refl, λ c go. refl);
    };
  }

  pub sofar_more : (n0 n1 n2 : Unrolled) (s : State) (whole es : List TExpr) (e : TExpr) (g : Guard) (ts : List SizedTerm) (t : SizedTerm) → ((c : Scope) → is_in a c → All (FitsExpr c) whole → FitsExpr c e) →
      Sofar a n0 n1 s whole es g ts → IsValued a n1 n2 s e g t → Sofar a n0 n2 s whole (es ++ e ∷ []) g (ts ++ t ∷ [])
  sofar_more n0 n1 n2 s whole es e g ts t fit A V =
      let width : SizedTerm → ℕ = λ t. t.width in
      let type : TExpr → ℕ = λ e. e.ty.bits in
      let count : length ts ≡ length es = sym (length-map ts width) ∙ ap length A.widths ∙ length-map es type in
      record {
        grows = record { grown = λ v r. A.grows.grown v (V.grows.grown v r); kept = λ x h. V.grows.kept x (A.grows.kept x h); proper = V.grows.proper };
        has = All-push (Has n2.terms) ts t (All-weaker (Has n1.terms) (Has n2.terms) V.grows.kept ts A.has) V.has;
        widths = map-append width ts (t ∷ []) ∙ ap (λ l. l ++ t.width ∷ []) A.widths ∙ ap (λ w. map type es ++ w ∷ []) V.width ∙ sym (map-append type es (e ∷ []));
        asks = λ c inside fits.
            let P = A.asks c inside fits in
            let Q = V.asks c inside (fit c inside fits) in
            record {
              grown = λ v r. P.grown v (Q.grown v r);
              more = P.more ++ Q.more;
              list = Q.list ∙ ap (λ l. l ++ Q.more) P.list ∙ append_assoc n0.list P.more Q.more;
              idle = λ v r o q. trail-append v P.more Q.more ∙ ap (λ t. trail_then t (trail v Q.more)) (P.idle v (Q.grown v r) o q) ∙ then_nothing (trail v Q.more) ∙ Q.idle v r o q;
              live = λ v r l q x h.
                  subst (λ ns. Lists (rows_in (setting_of a) x) (es ++ e ∷ []) (trail v (P.more ++ Q.more)) ns) (sym (numbers_snoc v es ts e t count))
                  (subst (λ u. Lists (rows_in (setting_of a) x) (es ++ e ∷ []) u (numbers_at v es ts ++ stands e.ty v t ∷ [])) (sym (trail-append v P.more Q.more))
                  (lists_more (rows_in (setting_of a) x) es e (value_of (rows_in (setting_of a) x) e) (trail v P.more) (trail v Q.more) (numbers_at v es ts) (bits v t) refl (P.live v (Q.grown v r) l q x h) (Q.live v r l q x h)));
            };
      }

  pub sofar_all : (n0 n1 : Unrolled) (s : State) (es : List TExpr) (g : Guard) (ts : List SizedTerm) → Sofar a n0 n1 s es es g ts → AreArguments a n0 n1 s es g ts
  sofar_all n0 n1 s es g ts A = record { grows = A.grows; has = A.has; widths = A.widths; asks = A.asks }

-- ---- what is done with arguments

-- the same, in other words
pub comes_as : (run run' : List ℕ → (ℤ → Onward) → Effect) (t : Trail) (n : ℤ) (mid : JointState → Type 0) → ((c : List ℕ) (go : ℤ → Onward) → run c go ≡ run' c go) → ComesTo run t n mid → ComesTo run' t n mid
comes_as run run' (Through reads) n mid e h = record { state = h.state; told = h.told; held = h.held; widths = h.widths; runs = λ go rest. sym (e (values_of reads ++ rest) go) ∙ h.runs go rest }
comes_as run run' (Halts reads stop) n mid e h = λ go. let k = h go in record { outcome = k.outcome; told = k.told; broken = k.broken; widths = k.widths; runs = λ rest. sym (e (values_of reads ++ rest) go) ∙ k.runs rest }

-- a property breaks
pub broken_comes : (p : PropId) (n : ℤ) (mid : JointState → Type 0) (run : List ℕ → (ℤ → Onward) → Effect) → ((c : List ℕ) (go : ℤ → Onward) → run c go ≡ broken p c) → ComesTo run (Halts [] (AtProp p.0)) n mid
broken_comes p n mid run e = λ go. record { outcome = Broken p; told = seen (Broke p); broken = refl; widths = refl; runs = λ rest. e rest go }

comes_listed : (rows : Rows) (es : List TExpr) (t1 t2 : Trail) (ns : List ℤ) (K : List ℤ → List ℕ → (ℤ → Onward) → Effect) (n : ℤ) (mid : JointState → Type 0) → Lists rows es t1 ns → ComesTo (K ns) t2 n mid →
    ComesTo (λ c go. with_values rows es c (λ ns. K ns c go)) (trail_then t1 t2) n mid
comes_listed rows es (Through reads) t2 ns K n mid (none, runs) h =
    subst (λ t. ComesTo (λ c go. with_values rows es c (λ ns. K ns c go)) t n mid) (sym (ap (λ r. trail_then (Through r) t2) none ∙ then_nothing t2))
    (comes_as (K ns) (λ c go. with_values rows es c (λ ns. K ns c go)) t2 n mid (λ c go. sym (runs c (λ ns. K ns c go))) h)
comes_listed rows es (Halts reads stop) t2 ns K n mid (p, none, at, runs) h =
    subst (λ r. ComesTo (λ c go. with_values rows es c (λ ns. K ns c go)) (Halts r stop) n mid) (sym none)
    (subst (λ z. ComesTo (λ c go. with_values rows es c (λ ns. K ns c go)) (Halts [] z) n mid) (sym at)
    (broken_comes p n mid (λ c go. with_values rows es c (λ ns. K ns c go)) (λ c go. runs c (λ ns. K ns c go))))

-- arguments, and a call with them
pub returns_listed : (fixed : Image → Type 0) (n0 n1 n2 : Unrolled) (s0 s1 : State) (ty : IntType) (rows : JointState → Rows) (es : List TExpr) (numbers : Values → List ℤ) (K : List ℤ → Valuing) (g : Guard) (x : SizedTerm) (before behind : Image → JointState → Type 0) →
    AsksAll fixed n0 n1 s0 rows es g numbers before → Returns fixed n1 n2 s0 s1 ty (λ v. K (numbers v)) g x before behind →
    Returns fixed n0 n2 s0 s1 ty (λ v s c go. with_values (rows s) es c (λ ns. K ns s c go)) g x before behind
returns_listed fixed n0 n1 n2 s0 s1 ty rows es numbers K g x before behind A B = record {
  grown = λ v r. A.grown v (B.grown v r);
  more = A.more ++ B.more;
  list = B.list ∙ ap (λ l. l ++ B.more) A.list ∙ append_assoc n0.list A.more B.more;
  settled = B.settled;
  passes = λ v r o q. trail-append v A.more B.more ∙ ap (λ t. trail_then t (trail v B.more)) (A.idle v (B.grown v r) o q) ∙ then_nothing (trail v B.more) ∙ B.passes v r o q;
  kept = B.kept;
  live = λ v r l q s h.
      subst (λ t. ComesTo (λ c go. with_values (rows s) es c (λ ns. K ns s c go)) t (number ty.signed ty.bits (bits v x)) (behind (look v s1))) (sym (trail-append v A.more B.more))
      (comes_listed (rows s) es (trail v A.more) (trail v B.more) (numbers v) (λ ns. K ns s) (number ty.signed ty.bits (bits v x)) (behind (look v s1)) (A.live v (B.grown v r) l q s h) (B.live v r l q s h));
}

-- a property that breaks under a guard, whatever the state is
pub returns_broken : (fixed : Image → Type 0) (n0 n1 : Unrolled) (st : State) (ty : IntType) (p : PropId) (z : SizedTerm) (run : Values → Valuing) (g : Guard) (x : SizedTerm) (before behind : Image → JointState → Type 0) → IsPushed n0 n1 g (Prop p.0 z.term) →
    ((v : Values) → Respects v n1.terms → bits v z ≡ 0) → ((v : Values) (s : JointState) (c : List ℕ) (go : ℤ → Onward) → run v s c go ≡ broken p c) → Returns fixed n0 n1 st st ty run g x before behind
returns_broken fixed n0 n1 st ty p z run g x before behind P zero_is is =
    let one : Step = record { guard = P.guard; act = Prop p.0 z.term } in
    record {
      grown = P.grows.grown;
      more = one ∷ [];
      list = P.list;
      settled = λ v r q. q;
      passes = λ v r o q. trail_one v one ∙ ap (λ n. at_zero n (Through []) (act_trail v (Prop p.0 z.term))) (P.value v r ∙ o);
      kept = λ v r o q. refl;
      live = λ v r l q s h.
          subst (λ t. ComesTo (run v s) t (number ty.signed ty.bits (bits v x)) (behind (look v st)))
          (sym (trail_one v one ∙ ap (λ n. at_zero n (Through []) (act_trail v (Prop p.0 z.term))) (P.value v r ∙ l) ∙ ap (λ n. at_zero n (Halts [] (AtProp p.0)) (Through [])) (zero_is v r)))
          (broken_comes p (number ty.signed ty.bits (bits v x)) (behind (look v st)) (run v s) (is v s));
    }
