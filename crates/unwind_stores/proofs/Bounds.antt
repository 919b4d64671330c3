-- The test of an index, and what stands behind it.
use Rattle.std.proofs.Common.{◌≡◌, ℕ, suc, ◌+◌, ◌-◌, ◌^◌, Bool, true, false, List, [], map, length, Option, Some, None, refl, sym, ap, ◌∙◌, subst}
use Rattle.std.specs.Prelude.{ℤ, pos, negsuc, nat_lt, if◌then◌else◌, slice_index_or}
use Rattle.std.proofs.Math.ListN.{get_or-map}
use Rattle.std.proofs.lemmas.List.{length-map}
use Rattle.bits_core.specs.Word.{number, bit}
use Rattle.word_eqs.specs.declared.list.Act.TheVariants.{Prop}
use Rattle.word_eqs.specs.declared.term.TermId.{TermId}
use Rattle.word_eqs.specs.Meaning.{Values}
use Rattle.joint_ir.specs.declared.ctype.IntType.{IntType}
use Rattle.joint_ir.specs.declared.expr.Slot.{Slot}
use Rattle.joint_ir.specs.declared.expr.Slot.TheVariants.{Global, Local, Member, BoundValue}
use Rattle.joint_ir.specs.declared.expr.TExpr.{TExpr}
use Rattle.joint_ir.specs.declared.pair.Pair.{Pair}
use Rattle.joint_ir.specs.declared.program.CProgram.{CProgram}
use Rattle.joint_ir.specs.declared.program.PropId.{PropId}
use Rattle.joint_ir.specs.declared.program.PropKind.{PropKind}
use Rattle.joint_ir.specs.declared.stmt.TTarget.{TTarget}
use Rattle.joint_ir.specs.declared.way.Way.{Way}
use Rattle.joint_ir.specs.Effects.{Effect, Onward, broken, check_then}
use Rattle.joint_ir.specs.States.{JointState, row_at, rows_of}
use Rattle.joint_ir.specs.Steps.{slot_type, is_within, low_part}
use Rattle.joint_ir.specs.WellFormed.{Scope, FitsTarget, FitsIndex, HasProp, is_bound}
use Rattle.sized_terms.specs.declared.SizedTerm.{SizedTerm}
use Rattle.sized_terms.specs.Sized.{bits}
use Rattle.checked_terms.specs.Checked.{stands, check_of}
use Rattle.unrolled.specs.declared.Unrolled.{Unrolled}
use Rattle.unrolled.specs.Elements.{terms_of}
use Rattle.unwind_state.specs.declared.state.Flow.{Flow}
use Rattle.unwind_state.specs.declared.state.Guard.{Guard}
use Rattle.unwind_state.specs.declared.state.State.{State}
use Rattle.unwind_state.specs.Images.{Image, words, words_at, look, numbers, IsState}
use Rattle.unwind_state.specs.Unwinding.{Unwinds, IsPushed}
use Rattle.unwind_state.specs.Writing.{IsDeclared}
use Rattle.unwind_state.proofs.Stretches.{unwinds_as, added_before}
use Rattle.unwind_state.proofs.Pieces.{isnt_zero}
use Rattle.unwind_state.proofs.Sequences.{checked}
use Rattle.unwind_stores.specs.Stores.{IsTested}
use Rattle.unwind_stores.specs.Elements.{IsBounded}

bit_check : (b : Bool) (p : PropId) (c : List ℕ) (x : Effect) → (if isnt_zero (bit b) then x else broken p c) ≡ check_then (Some p) b c x
bit_check true p c x = refl
bit_check false p c x = refl

-- what stands behind a check matters only where it holds
pub same_check : (bounds : Option PropId) (p : PropId) → bounds ≡ Some p → (b : Bool) (c : List ℕ) (x y : Effect) → (b ≡ true → x ≡ y) → check_then bounds b c x ≡ check_then bounds b c y
same_check None p is b c x y e = let d : None ≡ Some p = is in cc
same_check (Some q) p is true c x y e = e refl
same_check (Some q) p is false c x y e = refl

pub bounded_then : (fixed : Image → Type 0) (n0 n1 n2 : Unrolled) (s0 s1 : State) (p : PropId) (bounds : Option PropId) → bounds ≡ Some p → (index : SizedTerm) (from : IntType) (count : ℕ) (K : Values → Onward) (g : Guard) (f : Flow) (before : Image → JointState → Type 0) (behind : Way → Image → JointState → Type 0) (out : Way → Onward) →
    IsBounded n0 n1 bounds index from count g → Unwinds fixed n1 n2 s0 s1 K g f before behind out →
    Unwinds fixed n0 n2 s0 s1 (λ v s c. check_then bounds (is_within count (stands from v index)) c (K v s c)) g f before behind out
bounded_then fixed n0 n1 n2 s0 s1 p bounds is index from count K g f before behind out D B =
    let P : IsPushed D.between n1 g (Prop p.0 D.test.term) = subst (λ o. IsTested D.between n1 g (check_of o D.test)) is D.tested in
    let C = checked fixed D.between n1 n2 s0 s1 p D.test.term K g f before behind out P B in
    let A = added_before fixed n0 D.between n2 s0 s1 (λ v s c. if isnt_zero (bits v D.test) then K v s c else broken p c) g f before behind out D.adds C in
    unwinds_as fixed n0 n2 s0 s1 (λ v s c. if isnt_zero (bits v D.test) then K v s c else broken p c) (λ v s c. check_then bounds (is_within count (stands from v index)) c (K v s c)) g f before before behind behind out out (λ x s h. h)
    (λ v r s h c.
    ap (λ n. if isnt_zero n then K v s c else broken p c) (D.is v (P.grows.grown v (B.grown v r))) ∙ bit_check (is_within count (stands from v index)) p c (K v s c)
    ∙ ap (λ o. check_then o (is_within count (stands from v index)) c (K v s c)) (sym is))
    (λ w x s h. h) (λ w s c. refl) A

-- an index that is within is the number of its bits
pub low_is : (s : Bool) (w n count : ℕ) → is_within count (number s w n) ≡ true → low_part (number s w n) ≡ n
low_is false w n count h = refl
low_is true w n count h = by_half (nat_lt (n + n) (2 ^ w)) h
  where
    by_half : (b : Bool) → is_within count (if b then pos n else negsuc (2 ^ w - suc n)) ≡ true → low_part (if b then pos n else negsuc (2 ^ w - suc n)) ≡ n
    by_half true h = refl
    by_half false h = let d : false ≡ true = h in cc

some_prop : (p : CProgram) (k : PropKind) (o : Option PropId) → HasProp p k true o → (id : PropId) × (o ≡ Some id)
some_prop p k None h = absurd h
some_prop p k (Some id) h = (id, refl)

-- the index of a target, and its property
pub index_fits : (c : Scope) (target : TTarget) (e : TExpr) → target.index ≡ Some e → FitsTarget c target → FitsIndex c (Some e) target.bounds
index_fits c target e is fits = subst (λ o. FitsIndex c o target.bounds) is fits.index

pub index_prop : (c : Scope) (target : TTarget) (e : TExpr) → target.index ≡ Some e → FitsTarget c target → (id : PropId) × (target.bounds ≡ Some id)
index_prop c target e is fits = some_prop c.program _ target.bounds (index_fits c target e is fits).1

row_length : (ty : IntType) (v : Values) (rows : List (List TermId)) (i : ℕ) (row : List ℤ) → numbers ty (words_at (map (words v) rows) i) ≡ row → length row ≡ length (slice_index_or rows i [])
row_length ty v rows i row e =
    sym (ap length e) ∙ length-map (words_at (map (words v) rows) i) (number ty.signed ty.bits) ∙ ap length (get_or-map (words v) rows i []) ∙ length-map (slice_index_or rows i []) (λ (x : TermId). (v.term x.0).value)

-- an object has as many elements as terms
pub row_count : (p : Pair) (visible : List ℕ) (frames : ℕ) (v : Values) (st : State) (s : JointState) (slot : Slot) → IsDeclared visible slot → IsState p visible (look v st) s → is_bound slot ≡ false →
    length (rows_of frames s.store slot) ≡ length (terms_of st.objects slot)
row_count p visible frames v st s (Global i) d h b = row_length (slot_type p.program (Global i)) v st.objects.globals.items i (row_at s.store.globals i) (h.globals i)
row_count p visible frames v st s (Local i) d h b = row_length (slot_type p.program (Local i)) v st.objects.locals.items i (row_at s.store.locals i) (h.locals i d)
row_count p visible frames v st s (Member i) d h b = row_length (slot_type p.program (Member i)) v st.objects.members.items i (row_at s.store.members i) (h.members i)
row_count p visible frames v st s BoundValue d h b = cc
