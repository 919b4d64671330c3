-- What a function gives at its closing brace.
use Rattle.std.proofs.Common.{◌≡◌, [], ◌∷◌, ◌++◌, Some, None, Bool, true, false, refl, sym, ap, ◌∙◌, subst, append-nil}
use Rattle.std.specs.Prelude.{ℤ, pos, Option, IfSome}
use Rattle.std.proofs.Math.Nat.{mod-eq_of_lt}
use Rattle.bits_core.specs.Word.{number, at_zero}
use Rattle.word_eqs.specs.declared.list.Act.TheVariants.{Free}
use Rattle.word_eqs.specs.declared.list.Step.{Step}
use Rattle.word_eqs.specs.Meaning.{Values, Respects}
use Rattle.joint_ir.specs.declared.ctype.IntType.{IntType}
use Rattle.joint_ir.specs.declared.way.Way.TheVariants.{Next, Returning}
use Rattle.joint_ir.specs.Effects.{nothing, drew, preceded, Goes}
use Rattle.joint_ir.specs.States.{JointState}
use Rattle.joint_ir.specs.Statements.{closing}
use Rattle.joint_ir.specs.Steps.{returning, type_or_int}
use Rattle.joint_ir.specs.Types.{IsType, Single, converted, int}
use Rattle.joint_ir.specs.Values.{Answer, Value, Fault}
use Rattle.sized_terms.specs.declared.SizedTerm.{SizedTerm}
use Rattle.sized_terms.specs.Sized.{Has, bits}
use Rattle.checked_terms.specs.Checked.{IsChecked, plain}
use Rattle.unrolled.specs.declared.Unrolled.{Unrolled}
use Rattle.trails.specs.Following.{way_bit, goes, Follows}
use Rattle.trails.specs.Trails.{Through, act_trail}
use Rattle.trails.proofs.Walking.{trail_one}
use Rattle.unwind_state.specs.declared.state.Flow.{Flow}
use Rattle.unwind_state.specs.declared.state.Guard.{Guard}
use Rattle.unwind_state.specs.declared.state.Guard.TheVariants.{Never, Always, When}
use Rattle.unwind_state.specs.declared.state.State.{State}
use Rattle.unwind_state.specs.Guards.{Adds, HasGuard, IsFlow, bit_at, bits_of, gathered_of}
use Rattle.unwind_state.specs.Images.{look, HasReturned}
use Rattle.unwind_state.specs.Unwinding.{Grows, IsDrawn}
use Rattle.unwind_state.specs.Writing.{IsChosen}
use Rattle.unwind_state.proofs.Gates.{adds_built}
use Rattle.unwind_simple.proofs.Obtaining.{drawn_number}
use Rattle.unwind_calls.specs.Calls.{IsClosed, IsClosing, IsNought, IsEnd, fell_of}

grows_adds : (n0 n1 : Unrolled) → Adds n0 n1 → Grows n0.terms n1.terms
grows_adds n0 n1 a = record { grown = a.grown; kept = a.kept; proper = a.proper }

grows_then : (n0 n1 n2 : Unrolled) → Grows n0.terms n1.terms → Grows n1.terms n2.terms → Grows n0.terms n2.terms
grows_then n0 n1 n2 p q = record { grown = λ v r. p.grown v (q.grown v r); kept = λ x h. q.kept x (p.kept x h); proper = q.proper }

guard_grown : (n0 n1 : Unrolled) (g : Guard) → Grows n0.terms n1.terms → HasGuard n0.terms g → HasGuard n1.terms g
guard_grown n0 n1 Never G h = tt
guard_grown n0 n1 Always G h = tt
guard_grown n0 n1 (When t) G h = (G.kept t h.0, h.1)

abbrev answer_number : Answer → ℤ
answer_number (Value n) = n
answer_number (Fault p) = pos 0

-- a type of a result, or `int`
pub typed_or_int : (o : Option IntType) → IfSome o IsType → IsType (type_or_int o)
typed_or_int None h = Single true
typed_or_int (Some t) h = h

-- a literal 0
pub nought_made : (n0 n1 : Unrolled) (ty : IntType) (t : SizedTerm) → n1.list ≡ n0.list → IsChecked n0.terms n1.terms ty 0 1 (plain t) (λ v. Value (pos 0)) → IsNought n0 n1 ty t
nought_made n0 n1 ty t l P = record { adds = adds_built n0 n1 P.made 1 P.builds l; has = P.has; width = P.width; value = λ v r. ap answer_number (P.gives v r) }

-- what is known of the value at the brace, whatever it is
pub end_grows : (n0 n1 : Unrolled) (is_main : Bool) (ty : IntType) (g : Guard) (t : SizedTerm) → IsEnd n0 n1 is_main ty g t → Grows n0.terms n1.terms
end_grows n0 n1 true ty g t h = grows_adds n0 n1 h.adds
end_grows n0 n1 false ty g t h = h.pushed.grows

pub end_has : (n0 n1 : Unrolled) (is_main : Bool) (ty : IntType) (g : Guard) (t : SizedTerm) → IsEnd n0 n1 is_main ty g t → Has n1.terms t
end_has n0 n1 true ty g t h = h.has
end_has n0 n1 false ty g t h = h.has

pub end_width : (n0 n1 : Unrolled) (is_main : Bool) (ty : IntType) (g : Guard) (t : SizedTerm) → IsEnd n0 n1 is_main ty g t → t.width ≡ ty.bits
end_width n0 n1 true ty g t h = h.width
end_width n0 n1 false ty g t h = h.width

pub end_guard : (n0 n1 : Unrolled) (is_main : Bool) (ty : IntType) (g h : Guard) (t : SizedTerm) → IsEnd n0 n1 is_main ty g t → HasGuard n0.terms h → HasGuard n1.terms h
end_guard n0 n1 is_main ty g h t E = guard_grown n0 n1 h (end_grows n0 n1 is_main ty g t E)

-- a function without a result
none_closes : (is_main : Bool) (n : ℤ) → n ≡ pos 0 → (s : JointState) → Follows (closing is_main None s) (Through []) (λ w. way_bit w Next) (λ way s'. IsClosed None s s' n) goes
none_closes true n e s = record { way = Next; state = returning s (pos 0); told = nothing; at = λ w. refl; held = record { number = pos 0; state = refl; handed = sym e }; widths = refl; runs = λ rest. refl }
none_closes false n e s = record { way = Next; state = returning s (pos 0); told = nothing; at = λ w. refl; held = record { number = pos 0; state = refl; handed = sym e }; widths = refl; runs = λ rest. refl }

pub close_none : (n0 n1 : Unrolled) (is_main : Bool) (ways : Flow) (returned t : SizedTerm) → IsNought n0 n1 int t → IsClosing n0 n1 is_main None ways returned t
close_none n0 n1 is_main ways returned t N = record {
  grows = grows_adds n0 n1 N.adds;
  has = N.has;
  width = N.width;
  closes = λ st e. record {
    grown = N.adds.grown;
    more = [];
    list = N.adds.list ∙ sym (append-nil n0.list);
    passes = λ v r o. refl;
    returned = λ v r o s h. sym (N.value v r);
    live = λ v r l s. none_closes is_main (number int.signed int.bits (bits v t)) (N.value v r) s;
  };
}

module _ (n0 n1 n2 n3 : Unrolled) (ty : IntType) (ways all : Flow) (returned e t : SizedTerm) (G : IsFlow n0 n1 all (λ v. gathered_of (bits_of v ways))) (C : IsChosen n2 n3 e.width t (λ v. at_zero (bit_at v all.next) (bits v returned) (bits v e))) where
  fell_is : (v : Values) → Respects v n1.terms → bit_at v all.next ≡ fell_of (bits_of v ways)
  fell_is v r = G.ways v r Next

  off : (v : Values) → Respects v n1.terms → Respects v n3.terms → fell_of (bits_of v ways) ≡ 0 → bits v t ≡ bits v returned
  off v r1 r o = C.value v r ∙ ap (λ n. at_zero n (bits v returned) (bits v e)) (fell_is v r1 ∙ o)

  on : (v : Values) → Respects v n1.terms → Respects v n3.terms → fell_of (bits_of v ways) ≡ 1 → bits v t ≡ bits v e
  on v r1 r o = C.value v r ∙ ap (λ n. at_zero n (bits v returned) (bits v e)) (fell_is v r1 ∙ o)

  handed_on : (v : Values) (st : State) → st.result ≡ returned → Respects v n1.terms → Respects v n3.terms → fell_of (bits_of v ways) ≡ 0 → (s : JointState) → HasReturned (Some ty) Returning (look v st) s → s.returned ≡ number ty.signed ty.bits (bits v t)
  handed_on v st is r1 r o s h = h ∙ ap (λ (x : SizedTerm). number ty.signed ty.bits (bits v x)) is ∙ ap (number ty.signed ty.bits) (sym (off v r1 r o))

  pub close_main : IsNought n1 n2 ty e → IsClosing n0 n3 true (Some ty) ways returned t
  close_main N =
      let r1 : (v : Values) → Respects v n3.terms → Respects v n1.terms = λ v r. N.adds.grown v (C.adds.grown v r) in
      record {
        grows = grows_then n0 n1 n3 (grows_adds n0 n1 G.adds) (grows_then n1 n2 n3 (grows_adds n1 n2 N.adds) (grows_adds n2 n3 C.adds));
        has = C.has;
        width = C.width ∙ N.width;
        closes = λ st is. record {
          grown = λ v r. G.adds.grown v (r1 v r);
          more = [];
          list = C.adds.list ∙ N.adds.list ∙ G.adds.list ∙ sym (append-nil n0.list);
          passes = λ v r o. refl;
          returned = λ v r o s h. handed_on v st is (r1 v r) r o s h;
          live = λ v r l s.
              let zero_is : number ty.signed ty.bits (bits v t) ≡ pos 0 = ap (number ty.signed ty.bits) (on v (r1 v r) r l) ∙ N.value v (C.adds.grown v r) in
              record { way = Next; state = returning s (pos 0); told = nothing; at = λ w. refl; held = record { number = pos 0; state = refl; handed = sym zero_is }; widths = refl; runs = λ rest. refl };
        };
      }

  pub close_any : IsType ty → IsDrawn n1 n2 ty.bits all.next e → IsClosing n0 n3 false (Some ty) ways returned t
  close_any type D =
      let P = D.pushed in
      let x = D.variable in
      let one : Step = record { guard = P.guard; act = Free x } in
      let r2 : (v : Values) → Respects v n3.terms → Respects v n2.terms = λ v r. C.adds.grown v r in
      let r1 : (v : Values) → Respects v n3.terms → Respects v n1.terms = λ v r. P.grows.grown v (r2 v r) in
      record {
        grows = grows_then n0 n1 n3 (grows_adds n0 n1 G.adds) (grows_then n1 n2 n3 P.grows (grows_adds n2 n3 C.adds));
        has = C.has;
        width = C.width ∙ D.width;
        closes = λ st is. record {
          grown = λ v r. G.adds.grown v (r1 v r);
          more = one ∷ [];
          list = C.adds.list ∙ P.list ∙ ap (λ l. l ++ one ∷ []) G.adds.list;
          passes = λ v r o. trail_one v one ∙ ap (λ n. at_zero n (Through []) (act_trail v (Free x))) (P.value v (r2 v r) ∙ fell_is v (r1 v r) ∙ o);
          returned = λ v r o s h. handed_on v st is (r1 v r) r o s h;
          live = λ v r l s.
              let a = v.var x.0 in
              let word = D.word v (r2 v r) in
              let n = converted ty (pos a.value) in
              let is_number : n ≡ number ty.signed ty.bits (bits v t) = drawn_number ty type a.value word.below ∙ ap (number ty.signed ty.bits) (sym (D.value v (r2 v r)) ∙ sym (on v (r1 v r) r l)) in
              subst (λ t'. Follows (closing false (Some ty) s) t' (λ w. way_bit w Next) (λ way s'. IsClosed (Some ty) s s' (number ty.signed ty.bits (bits v t))) goes)
              (sym (trail_one v one ∙ ap (λ m. at_zero m (Through []) (act_trail v (Free x))) (P.value v (r2 v r) ∙ fell_is v (r1 v r) ∙ l)))
              (record {
                way = Next;
                state = returning s n;
                told = drew ty.bits;
                at = λ w. refl;
                held = record { number = n; state = refl; handed = is_number };
                widths = ap (λ m. m ∷ []) (sym word.width);
                runs = λ rest. ap (λ m. preceded (drew ty.bits) (Goes Next (returning s (converted ty (pos m))) nothing rest)) (mod-eq_of_lt word.below);
              });
        };
      }

  pub close_some : (is_main : Bool) → IsType ty → IsEnd n1 n2 is_main ty all.next e → IsClosing n0 n3 is_main (Some ty) ways returned t
  close_some true type E = close_main E
  close_some false type E = close_any type E
