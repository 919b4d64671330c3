-- Answers with their checks, from the steps of the checks and the terms of the values.
use Rattle.std.proofs.Common.{◌≡◌, ℕ, zero, suc, [], ◌∷◌, ◌++◌, Option, Some, None, Bool, true, false, IsTrue, refl, sym, ap, ◌∙◌, subst, append_assoc, append-nil}
use Rattle.std.specs.Prelude.{ℤ, pos}
use Rattle.bits_core.specs.Word.{number, at_zero}
use Rattle.word_eqs.specs.declared.list.Act.TheVariants.{Prop}
use Rattle.word_eqs.specs.declared.list.Step.{Step}
use Rattle.word_eqs.specs.Graph.{Graph, IsGraph}
use Rattle.word_eqs.specs.Guarded.{AtProp}
use Rattle.word_eqs.specs.Meaning.{Values, Respects}
use Rattle.joint_ir.specs.declared.ctype.IntType.{IntType}
use Rattle.joint_ir.specs.declared.expr.BinaryOp.{BinaryOp}
use Rattle.joint_ir.specs.declared.expr.BinaryOp.TheVariants.{Add, Sub, Mul, Div, Rem, Shl, Shr, And, Or, Xor, Eq, Ne, Lt, Le, Gt, Ge}
use Rattle.joint_ir.specs.declared.expr.TExpr.{TExpr}
use Rattle.joint_ir.specs.declared.program.CProgram.{CProgram}
use Rattle.joint_ir.specs.declared.program.PropId.{PropId}
use Rattle.joint_ir.specs.declared.stmt.TUpdate.{TUpdate}
use Rattle.joint_ir.specs.States.{JointState}
use Rattle.joint_ir.specs.Steps.{rows_in, right_value}
use Rattle.joint_ir.specs.Types.{IsType, converted}
use Rattle.joint_ir.specs.Values.{Answer, Value, Fault, and_then, binary_value}
use Rattle.joint_ir.specs.WellFormed.{Scope, FitsBinary, FitsOption, FitsUpdate, is_some, right_type, updates}
use Rattle.sized_terms.specs.declared.SizedTerm.{SizedTerm}
use Rattle.sized_terms.specs.Sized.{Has, bits}
use Rattle.checked_terms.specs.declared.Check.{Check}
use Rattle.checked_terms.specs.declared.Checked.{Checked}
use Rattle.checked_terms.specs.Checked.{stands, test_then, IsChecked, plain}
use Rattle.unrolled.specs.declared.Unrolled.{Unrolled}
use Rattle.trails.specs.Trails.{Trail, Through, Halts, trail_then, act_trail, trail}
use Rattle.trails.proofs.Walking.{then_nothing}
use Rattle.unwind_state.specs.declared.state.Guard.{Guard}
use Rattle.unwind_state.specs.declared.state.State.{State}
use Rattle.unwind_state.specs.Guards.{Adds}
use Rattle.unwind_state.specs.Images.{Image, IsSettled, IsState}
use Rattle.unwind_state.specs.Unwinding.{Grows, Gives, Asks, AsksIn}
use Rattle.unwind_state.proofs.Gates.{adds_built, adds_then}
use Rattle.unwind_simple.specs.declared.simple.Activation.{Activation}
use Rattle.unwind_simple.specs.Simple.{setting_of, IsValued}
use Rattle.unwind_stores.specs.Stores.{IsNumber, IsTested, IsAnswered, IsRight, updated}

pub grows_none : (g : Graph) → IsGraph g → Grows g g
grows_none g p = record { grown = λ v r. r; kept = λ x h. h; proper = p }

pub grows_then : (g h i : Graph) → Grows g h → Grows h i → Grows g i
grows_then g h i p q = record { grown = λ v r. p.grown v (q.grown v r); kept = λ x k. q.kept x (p.kept x k); proper = q.proper }

pub grows_adds : (n0 n1 : Unrolled) → Adds n0 n1 → Grows n0.terms n1.terms
grows_adds n0 n1 a = record { grown = a.grown; kept = a.kept; proper = a.proper }

pub tested_grows : (n0 n1 : Unrolled) (g : Guard) (check : Option Check) → IsGraph n0.terms → IsTested n0 n1 g check → Grows n0.terms n1.terms
tested_grows n0 n1 g None p T = subst (λ (n : Unrolled). Grows n0.terms n.terms) (sym T) (grows_none n0.terms p)
tested_grows n0 n1 g (Some c) p T = T.grows

-- a term without checks has its number
abbrev answer_number : Answer → ℤ
answer_number (Value n) = n
answer_number (Fault p) = pos 0

pub number_made : (n0 n1 : Unrolled) (ty : IntType) (gates most : ℕ) (t : SizedTerm) (number_of : Values → ℤ) → n1.list ≡ n0.list → IsChecked n0.terms n1.terms ty gates most (plain t) (λ v. Value (number_of v)) → IsNumber n0 n1 ty t number_of
number_made n0 n1 ty gates most t number_of l P = record {
  adds = adds_built n0 n1 P.made most P.builds l;
  has = P.has;
  width = P.width;
  value = λ v r. ap answer_number (P.gives v r);
}

pub answered_plain : (n : Unrolled) (ty : IntType) (g : Guard) (x : SizedTerm) → IsGraph n.terms → Has n.terms x → x.width ≡ ty.bits → IsAnswered n n ty g x (λ v. Value (stands ty v x))
answered_plain n ty g x p h w = record {
  grows = grows_none n.terms p;
  has = h;
  width = w;
  more = [];
  list = sym (append-nil n.list);
  idle = λ v r o. refl;
  live = λ v r l. (refl, refl);
}

gives_checked : (ty : IntType) (a : Answer) (p : PropId) (n : ℕ) (t : Trail) (k : ℕ) → Gives ty a t k → Gives ty (at_zero n (Fault p) a) (trail_then (at_zero n (Halts [] (AtProp p.0)) (Through [])) t) k
gives_checked ty a p zero t k h = refl
gives_checked ty a p (suc n) t k h = subst (λ t. Gives ty a t k) (sym (then_nothing t)) h

-- a check before an answer
pub answered_tested : (n0 n1 n2 : Unrolled) (ty : IntType) (g : Guard) (check : Option Check) (x : SizedTerm) (A : Values → Answer) → IsTested n0 n1 g check → IsAnswered n1 n2 ty g x A → IsAnswered n0 n2 ty g x (λ v. test_then v check (A v))
answered_tested n0 n1 n2 ty g None x A T B = subst (λ (n : Unrolled). IsAnswered n n2 ty g x A) T B
answered_tested n0 n1 n2 ty g (Some c) x A P B =
    let st : Step = record { guard = P.guard; act = Prop c.prop.0 c.test.term } in
    record {
      grows = grows_then n0.terms n1.terms n2.terms P.grows B.grows;
      has = B.has;
      width = B.width;
      more = st ∷ B.more;
      list = B.list ∙ ap (λ l. l ++ B.more) P.list ∙ append_assoc n0.list (st ∷ []) B.more;
      idle = λ v r o.
          ap (λ n. trail_then (at_zero n (Through []) (act_trail v (Prop c.prop.0 c.test.term))) (trail v B.more)) (P.value v (B.grows.grown v r) ∙ o) ∙ then_nothing (trail v B.more) ∙ B.idle v r o;
      live = λ v r l.
          subst (λ n. Gives ty (at_zero (bits v c.test) (Fault c.prop) (A v)) (trail_then (at_zero n (Through []) (act_trail v (Prop c.prop.0 c.test.term))) (trail v B.more)) (bits v x)) (sym (P.value v (B.grows.grown v r) ∙ l))
          (gives_checked ty (A v) c.prop (bits v c.test) (trail v B.more) (bits v x) (B.live v r l));
    }

pub answered_as : (n0 n1 : Unrolled) (ty : IntType) (g : Guard) (x : SizedTerm) (A B : Values → Answer) → ((v : Values) → Respects v n1.terms → A v ≡ B v) → IsAnswered n0 n1 ty g x A → IsAnswered n0 n1 ty g x B
answered_as n0 n1 ty g x A B e P = record {
  grows = P.grows;
  has = P.has;
  width = P.width;
  more = P.more;
  list = P.list;
  idle = P.idle;
  live = λ v r l. subst (λ a. Gives ty a (trail v P.more) (bits v x)) (e v r) (P.live v r l);
}

-- terms that stand before an answer
pub answered_behind : (n0 n1 n2 : Unrolled) (ty : IntType) (g : Guard) (x : SizedTerm) (A : Values → Answer) → Adds n0 n1 → IsAnswered n1 n2 ty g x A → IsAnswered n0 n2 ty g x A
answered_behind n0 n1 n2 ty g x A L P = record {
  grows = grows_then n0.terms n1.terms n2.terms (grows_adds n0 n1 L) P.grows;
  has = P.has;
  width = P.width;
  more = P.more;
  list = P.list ∙ ap (λ l. l ++ P.more) L.list;
  idle = P.idle;
  live = P.live;
}

gives_then : (u ty : IntType) (a : Answer) (f : ℤ → ℤ) (t : Trail) (k m : ℕ) → number ty.signed ty.bits m ≡ f (number u.signed u.bits k) → Gives u a t k → Gives ty (and_then a (λ n. Value (f n))) t m
gives_then u ty (Value n) f t k m e h = (h.0, e ∙ ap f h.1)
gives_then u ty (Fault p) f t k m e h = h

-- what is made of an answer's number
pub answered_then : (n0 n1 : Unrolled) (u ty : IntType) (g : Guard) (x y : SizedTerm) (A : Values → Answer) (f : ℤ → ℤ) → Has n1.terms y → y.width ≡ ty.bits → ((v : Values) → Respects v n1.terms → stands ty v y ≡ f (stands u v x)) →
    IsAnswered n0 n1 u g x A → IsAnswered n0 n1 ty g y (λ v. and_then (A v) (λ n. Value (f n)))
answered_then n0 n1 u ty g x y A f h w e P = record {
  grows = P.grows;
  has = h;
  width = w;
  more = P.more;
  list = P.list;
  idle = P.idle;
  live = λ v r l. gives_then u ty (A v) f (trail v P.more) (bits v x) (bits v y) (e v r) (P.live v r l);
}

-- an answer in a state
pub asked : (fixed : Image → Type 0) (n0 n1 : Unrolled) (st : State) (ty : IntType) (g : Guard) (x : SizedTerm) (A : Values → Answer) (before : Image → JointState → Type 0) → IsAnswered n0 n1 ty g x A → AsksIn fixed n0 n1 st ty (λ v s. A v) g x before
asked fixed n0 n1 st ty g x A before P = record {
  grown = P.grows.grown;
  more = P.more;
  list = P.list;
  idle = λ v r o q. P.idle v r o;
  live = λ v r l q s h. P.live v r l;
}

-- the type of an update's operator
operator_type : (p : CProgram) (op : BinaryOp) (t v : IntType) (d o : Option PropId) (right : Bool) → IsTrue (updates op right) → FitsBinary p op t t v d o → IsType t
operator_type p Add t v d o right w h = h.0.type
operator_type p Sub t v d o right w h = h.0.type
operator_type p Mul t v d o right w h = h.0.type
operator_type p Div t v d o right w h = h.0.type
operator_type p Rem t v d o right w h = h.0.type
operator_type p Shl t v d o right w h = h.0.type
operator_type p Shr t v d o right w h = h.0.type
operator_type p And t v d o right w h = h.0.type
operator_type p Or t v d o right w h = h.0.type
operator_type p Xor t v d o right w h = h.0.type
operator_type p Eq t v d o true w h = cc
operator_type p Ne t v d o true w h = cc
operator_type p Lt t v d o true w h = cc
operator_type p Le t v d o true w h = cc
operator_type p Gt t v d o true w h = cc
operator_type p Ge t v d o true w h = cc
operator_type p Eq t v d o false w h = cc
operator_type p Ne t v d o false w h = cc
operator_type p Lt t v d o false w h = cc
operator_type p Le t v d o false w h = cc
operator_type p Gt t v d o false w h = cc
operator_type p Ge t v d o false w h = cc

pub update_type : (c : Scope) (u : TUpdate) → FitsUpdate c u → IsType u.ty
update_type c u h = operator_type c.program u.op u.ty (right_type u.ty u.right) u.division u.other (is_some u.right) h.updates h.operator

-- the new value of an update
pub done_operated : (n0 n1 n2 n3 n4 n5 : Unrolled) (u : TUpdate) (ty : IntType) (gates : ℕ) (g : Guard) (old right x new : SizedTerm) (r : Checked) → IsNumber n0 n1 u.ty x (λ v. converted u.ty (stands ty v old)) → n2.list ≡ n1.list →
    IsChecked n1.terms n2.terms u.ty gates 11 r (λ v. binary_value u.op u.ty u.division u.other (stands u.ty v x) (stands (right_type u.ty u.right) v right)) → IsNumber n2 n3 ty new (λ v. converted ty (stands u.ty v r.value)) →
    IsTested n3 n4 g r.division → IsTested n4 n5 g r.other → IsAnswered n0 n5 ty g new (λ v. updated ty u (stands ty v old) (stands (right_type u.ty u.right) v right))
done_operated n0 n1 n2 n3 n4 n5 u ty gates g old right x new r X l R N T1 T2 =
    let A2 : Adds n1 n2 = adds_built n1 n2 R.made 11 R.builds l in
    let G4 = tested_grows n3 n4 g r.division N.adds.proper T1 in
    let G5 = tested_grows n4 n5 g r.other G4.proper T2 in
    let G = grows_then n3.terms n4.terms n5.terms G4 G5 in
    let rty = right_type u.ty u.right in
    let b0 = answered_plain n5 u.ty g r.value G5.proper (G.kept r.value (N.adds.kept r.value R.has)) R.width in
    let b1 = answered_tested n4 n5 n5 u.ty g r.other r.value (λ v. Value (stands u.ty v r.value)) T2 b0 in
    let b2 = answered_tested n3 n4 n5 u.ty g r.division r.value (λ v. test_then v r.other (Value (stands u.ty v r.value))) T1 b1 in
    let b3 = answered_as n3 n5 u.ty g r.value (λ v. test_then v r.division (test_then v r.other (Value (stands u.ty v r.value)))) (λ v. binary_value u.op u.ty u.division u.other (converted u.ty (stands ty v old)) (stands rty v right))
    (λ v q.
    let q2 = N.adds.grown v (G.grown v q) in
    R.gives v q2 ∙ ap (λ m. binary_value u.op u.ty u.division u.other m (stands rty v right)) (X.value v (A2.grown v q2))) b2 in
    let b4 = answered_then n3 n5 u.ty ty g r.value new (λ v. binary_value u.op u.ty u.division u.other (converted u.ty (stands ty v old)) (stands rty v right)) (converted ty) (G.kept new N.has) N.width (λ v q. N.value v (G.grown v q)) b3 in
    answered_behind n0 n3 n5 ty g new (λ v. updated ty u (stands ty v old) (stands rty v right)) (adds_then n0 n1 n3 X.adds (adds_then n1 n2 n3 A2 N.adds)) b4

-- the right operand of an update

pub right_one : (a : Activation) (n0 n1 : Unrolled) (s : State) (u : TUpdate) (g : Guard) (t : SizedTerm) → u.right ≡ None → IsNumber n0 n1 u.ty t (λ v. pos 1) → IsRight a n0 n1 s u g t
right_one a n0 n1 s u g t e N = record {
  grows = grows_adds n0 n1 N.adds;
  has = N.has;
  width = subst (λ o. t.width ≡ (right_type u.ty o).bits) (sym e) N.width;
  asks = λ c inside fits.
      subst (λ o. Asks (IsSettled a.pair.now) n0 n1 s (right_type u.ty o) (λ x. right_value (rows_in (setting_of a) x) o) g t (IsState a.pair.now c.locals)) (sym e)
      (record {
        grown = N.adds.grown;
        more = [];
        list = N.adds.list ∙ sym (append-nil n0.list);
        idle = λ v r o x. refl;
        live = λ v r o x q h. (refl, N.value v r);
      });
}

pub right_some : (a : Activation) (n0 n1 : Unrolled) (s : State) (u : TUpdate) (g : Guard) (e : TExpr) (t : SizedTerm) → u.right ≡ Some e → IsValued a n0 n1 s e g t → IsRight a n0 n1 s u g t
right_some a n0 n1 s u g e t is V = record {
  grows = V.grows;
  has = V.has;
  width = subst (λ o. t.width ≡ (right_type u.ty o).bits) (sym is) V.width;
  asks = λ c inside fits.
      subst (λ o. Asks (IsSettled a.pair.now) n0 n1 s (right_type u.ty o) (λ x. right_value (rows_in (setting_of a) x) o) g t (IsState a.pair.now c.locals)) (sym is)
      (V.asks c inside (subst (FitsOption c) is fits.right));
}
