-- Parameters take arguments, one after another.
use Rattle.std.proofs.Common.{◌≡◌, ℕ, zero, suc, ◌+◌, ◌<◌, List, [], ◌∷◌, ◌++◌, length, get_or, None, refl, sym, ap, ◌∙◌, subst, arith}
use Rattle.std.specs.Prelude.{ℤ, slice_get, Some}
use Rattle.std.proofs.lemmas.List.{length-map}
use Rattle.word_eqs.specs.declared.term.TermId.{TermId}
use Rattle.word_eqs.specs.Graph.{IsGraph}
use Rattle.word_eqs.specs.Meaning.{Values}
use Rattle.joint_ir.specs.declared.event.Event.TheVariants.{Stored}
use Rattle.joint_ir.specs.declared.expr.Slot.TheVariants.{Local}
use Rattle.joint_ir.specs.declared.pair.Pair.{Pair}
use Rattle.joint_ir.specs.declared.program.CProgram.{CProgram}
use Rattle.joint_ir.specs.declared.way.Way.TheVariants.{Next, Breaking, Continuing, Returning}
use Rattle.joint_ir.specs.Effects.{Effect, Onward, Told, nothing, joined, seen, Goes, Stops, TooFew, preceded, then_do}
use Rattle.joint_ir.specs.States.{JointState, element_count, put}
use Rattle.joint_ir.specs.Statements.{set_params}
use Rattle.joint_ir.specs.Steps.{slot_type, store_at, with_store}
use Rattle.joint_ir.specs.Weights.{slot_length}
use Rattle.sized_terms.specs.declared.SizedTerm.{SizedTerm}
use Rattle.sized_terms.specs.Sized.{Has}
use Rattle.word_eqs.specs.Graph.{Graph}
use Rattle.checked_terms.specs.Checked.{stands}
use Rattle.unrolled.specs.declared.Objects.{Objects}
use Rattle.unrolled.specs.declared.Unrolled.{Unrolled}
use Rattle.unrolled.specs.Elements.{terms_of}
use Rattle.trails.proofs.Ways.{preceded_twice, preceded_nothing}
use Rattle.unwind_state.specs.declared.state.Guard.{Guard}
use Rattle.unwind_state.specs.declared.state.State.{State}
use Rattle.unwind_state.specs.Images.{Image, words_at, look, IsState, IsSettled}
use Rattle.unwind_state.specs.Unwinding.{Changes}
use Rattle.unwind_state.specs.Writing.{HasObjects, IsPut, sized, with_objects}
use Rattle.unwind_state.proofs.Firsts.{firsts_none, local_words, first_changes, firsts_all}
use Rattle.unwind_state.proofs.Gates.{adds_none, adds_then}
use Rattle.unwind_state.proofs.Puts.{put_has}
use Rattle.unwind_calls.specs.Arguments.{Sets, AreSet, FitParams, params_at, with_params}

-- a stretch that only goes on, and a change behind it
sets_more : (fixed : Image → Type 0) (n0 n1 n2 : Unrolled) (s0 s1 s2 : State) (run run' : Values → Onward) (g : Guard) (before mid after : Image → JointState → Type 0) (next : Values → JointState → JointState) (told : Values → JointState → Told) →
    ((v : Values) (s : JointState) → (told v s).widths ≡ []) → ((v : Values) (s : JointState) (c : List ℕ) → run' v s c ≡ then_do (run v s c) (λ s' c'. Goes Next (next v s') (told v s') c')) →
    Sets fixed n0 n1 s0 s1 run g before mid → Changes fixed n1 n2 s1 s2 g mid after next → Sets fixed n0 n2 s0 s2 run' g before after
sets_more fixed n0 n1 n2 s0 s1 s2 run run' g before mid after next told none is P C = record {
  grown = λ v r. P.grown v (C.grown v r);
  list = C.list ∙ P.list;
  settled = λ v r q. C.settled v r (P.settled v (C.grown v r) q);
  kept = λ v r o q. C.kept v r o (P.settled v (C.grown v r) q) ∙ P.kept v (C.grown v r) o q;
  next = λ v s. next v (P.next v s);
  told = λ v s. joined (P.told v s) (told v (P.next v s));
  quiet = λ v s. ap (λ l. l ++ (told v (P.next v s)).widths) (P.quiet v s) ∙ none v (P.next v s);
  goes = λ v r l q s h c. is v s c ∙ ap (λ e. then_do e (λ s' c'. Goes Next (next v s') (told v s') c')) (P.goes v (C.grown v r) l q s h c);
  changed = λ v r l q s h. C.changed v r l (P.settled v (C.grown v r) q) (P.next v s) (P.changed v (C.grown v r) l q s h);
}

-- one argument more
then_twice : (e : Effect) (f g : Onward) → then_do (then_do e f) g ≡ then_do e (λ s c. then_do (f s c) g)
then_twice (Goes Next s t c) f g = inner (f s c)
  where
    inner : (e : Effect) → then_do (preceded t e) g ≡ preceded t (then_do e g)
    inner (Goes Next s' t' c') = sym (preceded_twice t t' (g s' c'))
    inner (Goes Breaking s' t' c') = refl
    inner (Goes Continuing s' t' c') = refl
    inner (Goes Returning s' t' c') = refl
    inner (Stops o t' c') = refl
    inner TooFew = refl
then_twice (Goes Breaking s t c) f g = refl
then_twice (Goes Continuing s t c) f g = refl
then_twice (Goes Returning s t c) f g = refl
then_twice (Stops o t c) f g = refl
then_twice TooFew f g = refl

then_same : (e : Effect) (f g : Onward) → ((s : JointState) (c : List ℕ) → f s c ≡ g s c) → then_do e f ≡ then_do e g
then_same (Goes Next s t c) f g h = ap (preceded t) (h s c)
then_same (Goes Breaking s t c) f g h = refl
then_same (Goes Continuing s t c) f g h = refl
then_same (Goes Returning s t c) f g h = refl
then_same (Stops o t c) f g h = refl
then_same TooFew f g h = refl

one_param : (line x : ℕ) (n : ℤ) (s : JointState) (c : List ℕ) → set_params line x (n ∷ []) s c ≡ store_at line (Local x) None n s c
one_param line x n s c = ap (λ t. Goes Next (with_store s (put s.store (Local x) 0 n)) t c) refl

params_snoc : (line x : ℕ) (ns : List ℤ) (n : ℤ) (s : JointState) (c : List ℕ) → set_params line x (ns ++ n ∷ []) s c ≡ then_do (set_params line x ns s c) (store_at line (Local (x + length ns)) None n)
params_snoc line x [] n s c =
    let e : x + 0 ≡ x = omega arith in
    one_param line x n s c ∙ ap (λ y. store_at line (Local y) None n s c) (sym e) ∙ sym (preceded_nothing (store_at line (Local (x + 0)) None n s c))
params_snoc line x (m ∷ ns) n s c =
    let e : (x + 1) + length ns ≡ x + suc (length ns) = omega arith in
    then_same (store_at line (Local x) None m s c) (set_params line (x + 1) (ns ++ n ∷ [])) (λ s' c'. then_do (set_params line (x + 1) ns s' c') (store_at line (Local (x + suc (length ns))) None n))
    (λ s' c'. params_snoc line (x + 1) ns n s' c' ∙ ap (λ y. then_do (set_params line (x + 1) ns s' c') (store_at line (Local y) None n)) e)
    ∙ sym (then_twice (store_at line (Local x) None m s c) (set_params line (x + 1) ns) (store_at line (Local (x + suc (length ns))) None n))

at_snoc : (p : CProgram) (v : Values) (x : ℕ) (ts : List SizedTerm) (t : SizedTerm) → params_at p v x (ts ++ t ∷ []) ≡ params_at p v x ts ++ stands (slot_type p (Local (x + length ts))) v t ∷ []
at_snoc p v x [] t = let e : x ≡ x + 0 = omega arith in ap (λ y. stands (slot_type p (Local y)) v t ∷ []) e
at_snoc p v x (u ∷ ts) t =
    let e : (x + 1) + length ts ≡ x + suc (length ts) = omega arith in
    ap (λ l. stands (slot_type p (Local x)) v u ∷ l) (at_snoc p v (x + 1) ts t ∙ ap (λ y. params_at p v (x + 1) ts ++ stands (slot_type p (Local y)) v t ∷ []) e)

pub at_count : (p : CProgram) (v : Values) (x : ℕ) (ts : List SizedTerm) → length (params_at p v x ts) ≡ length ts
at_count p v x [] = refl
at_count p v x (t ∷ ts) = ap suc (at_count p v (x + 1) ts)

snoc_count : (ts : List SizedTerm) (t : SizedTerm) → length (ts ++ t ∷ []) ≡ suc (length ts)
snoc_count [] t = refl
snoc_count (u ∷ ts) t = ap suc (snoc_count ts t)

-- a local that is no array takes a value, and is declared
declares : (p : Pair) (visible : List ℕ) (x : ℕ) (n0 n1 : Unrolled) (st : State) (o : Objects) (value : SizedTerm) (g : Guard) → 0 < length (terms_of st.objects (Local x)) → length (terms_of o (Local x)) ≡ 1 → IsPut n0 n1 st.objects o (Local x) 0 value g →
    Changes (IsSettled p) n0 n1 st (with_objects st o) g (IsState p visible) (IsState p (x ∷ visible)) (λ v s. with_store s (put s.store (Local x) 0 (stands (slot_type p.program (Local x)) v value)))
declares p visible x n0 n1 st o value g some one P =
    let C = first_changes p visible x n0 n1 st o 0 value g some P in
    record {
      grown = C.grown;
      list = C.list;
      settled = C.settled;
      kept = C.kept;
      changed = λ v r e im s h.
          let len : length (words_at (look v (with_objects st o)).locals x) ≡ 1 = ap length (local_words v (with_objects st o) x) ∙ length-map (terms_of o (Local x)) (λ (u : TermId). (v.term u.0).value) ∙ one in
          firsts_all p visible x 1 (look v (with_objects st o)) _ len (C.changed v r e im s (firsts_none p visible x (look v st) s h));
    }

pub set_none : (p : Pair) (n : Unrolled) (o : Objects) (first : ℕ) (g : Guard) → IsGraph n.terms → HasObjects p.program n.terms o → AreSet p n n o o first [] g
set_none p n o first g proper H = record {
  adds = adds_none n proper;
  objects = H;
  sets = λ s line visible. record {
    grown = λ v r. r;
    list = refl;
    settled = λ v r q. q;
    kept = λ v r o q. refl;
    next = λ v s. s;
    told = λ v s. nothing;
    quiet = λ v s. refl;
    goes = λ v r l q s h c. refl;
    changed = λ v r l q s h. h;
  };
}

pub set_more : (p : Pair) (n0 n1 n2 : Unrolled) (o0 o1 o2 : Objects) (first x : ℕ) (ts : List SizedTerm) (t : SizedTerm) (g : Guard) → x ≡ first + length ts → x < length p.program.locals → slot_length p.program (Local x) ≡ 0 → t.width ≡ (slot_type p.program (Local x)).bits →
    AreSet p n0 n1 o0 o1 first ts g → IsPut n1 n2 o1 o2 (Local x) 0 t g → AreSet p n0 n2 o0 o2 first (ts ++ t ∷ []) g
set_more p n0 n1 n2 o0 o1 o2 first x ts t g at there plain wide A P =
    let H = put_has p.program n1 n2 o1 o2 (Local x) 0 t g wide P A.objects in
    let one : length (terms_of o1 (Local x)) ≡ 1 = A.objects.count (Local x) there ∙ ap element_count plain in
    let one' : length (terms_of o2 (Local x)) ≡ 1 = H.count (Local x) there ∙ ap element_count plain in
    record {
      adds = adds_then n0 n1 n2 A.adds P.adds;
      objects = H;
      sets = λ s line visible.
          let ty = slot_type p.program (Local x) in
          let mid = with_params first visible (length ts) in
          let C = declares p mid x n1 n2 (with_objects s o1) o2 t g (subst (λ n. 0 < n) (sym one) (omega arith)) one' P in
          let more : x ∷ mid ≡ with_params first visible (length (ts ++ t ∷ [])) = ap (λ y. y ∷ mid) at ∙ ap (with_params first visible) (sym (snoc_count ts t)) in
          subst (λ l. Sets (IsSettled p) n0 n2 (with_objects s o0) (with_objects s o2) (λ v. set_params line first (params_at p.program v first (ts ++ t ∷ []))) g (IsState p visible) (IsState p l)) more
          (sets_more (IsSettled p) n0 n1 n2 (with_objects s o0) (with_objects s o1) (with_objects s o2) (λ v. set_params line first (params_at p.program v first ts)) (λ v. set_params line first (params_at p.program v first (ts ++ t ∷ []))) g
          (IsState p visible) (IsState p mid) (IsState p (x ∷ mid)) (λ v z. with_store z (put z.store (Local x) 0 (stands ty v t))) (λ v z. seen (Stored line (Local x) None (stands ty v t))) (λ v z. refl)
          (λ v z c.
          let ns = params_at p.program v first ts in
          let e : first + length ns ≡ x = ap (λ m. first + m) (at_count p.program v first ts) ∙ sym at in
          ap (λ l. set_params line first l z c) (at_snoc p.program v first ts t ∙ ap (λ y. ns ++ stands (slot_type p.program (Local y)) v t ∷ []) (sym at))
          ∙ params_snoc line first ns (stands ty v t) z c ∙ ap (λ y. then_do (set_params line first ns z c) (store_at line (Local y) None (stands ty v t))) e)
          (A.sets s line visible) C);
    }

-- a parameter has the width of its argument, and is no array
pub fit_at : (p : CProgram) (x : ℕ) (ts : List SizedTerm) (i : ℕ) (d : SizedTerm) → i < length ts → FitParams p x ts → ((get_or ts i d).width ≡ (slot_type p (Local (x + i))).bits) × (slot_length p (Local (x + i)) ≡ 0)
fit_at p x [] i d lt h = absurd (omega arith)
fit_at p x (t ∷ ts) zero d lt h =
    let e : x ≡ x + 0 = omega arith in
    (subst (λ y. t.width ≡ (slot_type p (Local y)).bits) e h.0, subst (λ y. slot_length p (Local y) ≡ 0) e h.1)
fit_at p x (t ∷ ts) (suc i) d lt h =
    let e : (x + 1) + i ≡ x + suc i = omega arith in
    let less : i < length ts = omega (arith, lt) in
    let k = fit_at p (x + 1) ts i d less h.2 in
    (subst (λ y. (get_or ts i d).width ≡ (slot_type p (Local y)).bits) e k.0, subst (λ y. slot_length p (Local y) ≡ 0) e k.1)

-- the parameter's one element
pub param_there : (p : CProgram) (g : Graph) (o : Objects) (x : ℕ) → HasObjects p g o → x < length p.locals → slot_length p (Local x) ≡ 0 → 0 < length (terms_of o (Local x))
param_there p g o x H there plain = let one : length (terms_of o (Local x)) ≡ 1 = H.count (Local x) there ∙ ap element_count plain in omega (arith, one)

pub param_old : (p : CProgram) (g : Graph) (o : Objects) (x w : ℕ) → HasObjects p g o → x < length p.locals → w ≡ (slot_type p (Local x)).bits → (u : TermId) → slice_get (terms_of o (Local x)) 0 ≡ Some u → Has g (sized u w)
param_old p g o x w H there wide u at = subst (λ n. Has g (sized u n)) (sym wide) (H.has (Local x) there 0 u at)
