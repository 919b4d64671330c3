-- What stands around a call's body: where locals are declared, what a call's run is, and the caller's rows.
use Rattle.std.proofs.Common.{◌≡◌, ℕ, zero, suc, ◌+◌, ◌<◌, ◌≤◌, List, [], ◌∷◌, ◌++◌, Bool, true, false, Option, Some, length, refl, sym, ap, ◌∙◌, subst, ◌⊎◌, inl, inr, arith}
use Rattle.std.specs.Prelude.{ℤ, All, Contains, slice_get, slice_index_or}
use Rattle.std.proofs.lemmas.Bool.{cases_lt}
use Rattle.std.proofs.lemmas.List.Elements.{All-nil, All-cons}
use Rattle.src_text.specs.declared.refusal.Place.{Place}
use Rattle.word_eqs.specs.declared.term.TermId.{TermId}
use Rattle.word_eqs.specs.Graph.{Graph}
use Rattle.word_eqs.specs.Meaning.{Values}
use Rattle.joint_ir.specs.declared.bounds.Bounds.{Bounds}
use Rattle.joint_ir.specs.declared.ctype.IntType.{IntType}
use Rattle.joint_ir.specs.declared.expr.Slot.{Slot}
use Rattle.joint_ir.specs.declared.expr.Slot.TheVariants.{Global, Local, Member, BoundValue}
use Rattle.joint_ir.specs.declared.expr.TExpr.{TExpr}
use Rattle.joint_ir.specs.declared.pair.Pair.{Pair}
use Rattle.joint_ir.specs.declared.program.CProgram.{CProgram}
use Rattle.joint_ir.specs.declared.program.Function.{Function}
use Rattle.joint_ir.specs.declared.stmt.SNode.{SNode, Declare}
use Rattle.joint_ir.specs.declared.stmt.TCall.{TCall}
use Rattle.joint_ir.specs.declared.stmt.TStmt.{TStmt}
use Rattle.joint_ir.specs.Effects.{Effect, Onward, then_do, with_value, with_values, broken}
use Rattle.joint_ir.specs.States.{JointState, element_count}
use Rattle.joint_ir.specs.Statements.{body_effect, entered_body, entered_function, is_below_limit, recursion_prop, calls_at, no_calls}
use Rattle.joint_ir.specs.Steps.{slot_type}
use Rattle.joint_ir.specs.Values.{Answer, Value, Fault, Rows, value_of}
use Rattle.joint_ir.specs.Weights.{slot_length}
use Rattle.joint_ir.specs.WellFormed.{Scope, FitsExpr, FitsArgs, FitsCall, FitsCallee, declared_behind, places_from}
use Rattle.sized_terms.specs.declared.SizedTerm.{SizedTerm}
use Rattle.sized_terms.specs.Sized.{Has}
use Rattle.checked_terms.specs.Checked.{stands}
use Rattle.unrolled.specs.declared.Objects.{Objects}
use Rattle.unrolled.specs.Elements.{terms_of}
use Rattle.unwind_state.specs.Writing.{HasObjects, IsThere, sized}
use Rattle.unwind_calls.specs.Arguments.{numbers_at, params_at, with_params}
use Rattle.unwind_calls.specs.Rows.{rows_part, rows_back}
use Rattle.unwind_calls.proofs.Backs.{back_either, at_end}
use Rattle.unwind_calls.proofs.Listing.{same_value}
use Rattle.unwind_calls.proofs.Wider.{contains_more}

-- ---- where locals are declared

-- the places of parameters
places_bounds : (first n i : ℕ) → Contains (places_from first n) i → (first ≤ i) × (i < first + n)
places_bounds first zero i (k, lt, e) = absurd (omega (arith, lt))
places_bounds first (suc n) i (zero, lt, e) = let same : first ≡ i = e in (omega (arith, same), omega (arith, same))
places_bounds first (suc n) i (suc k, lt, e) =
    let h = places_bounds (suc first) n i (k, omega (arith, lt), e) in
    let low : suc first ≤ i = h.0 in
    let high : i < suc first + n = h.1 in
    (omega (arith, low), omega (arith, high))

in_params : (first : ℕ) (visible : List ℕ) (n i : ℕ) → first ≤ i → i < first + n → Contains (with_params first visible n) i
in_params first visible zero i le lt = absurd (omega arith)
in_params first visible (suc n) i le lt = by_last (λ less. in_params first visible n i le less) (cases_lt i (first + n))
  where
    by_last : (i < first + n → Contains (with_params first visible n) i) → (i < first + n) ⊎ (first + n ≤ i) → Contains ((first + n) ∷ with_params first visible n) i
    by_last before (inl less) = contains_more (first + n) (with_params first visible n) i (before less)
    by_last before (inr more) = let same : first + n ≡ i = omega arith in (zero, omega arith, same)

-- the parameters are declared where they took their arguments, and so is what was declared before
pub params_within : (first : ℕ) (visible : List ℕ) (n i : ℕ) → Contains (places_from first n) i → Contains (with_params first visible n) i
params_within first visible n i h = let b = places_bounds first n i h in in_params first visible n i b.0 b.1

pub before_within : (first : ℕ) (visible : List ℕ) (n i : ℕ) → Contains visible i → Contains (with_params first visible n) i
before_within first visible zero i h = h
before_within first visible (suc n) i h = contains_more (first + n) (with_params first visible n) i (before_within first visible n i h)

pub behind_within : (node : SNode) (xs : List ℕ) (i : ℕ) → Contains xs i → Contains (declared_behind node xs) i
behind_within (Declare x init) xs i h = contains_more x xs i h
behind_within _ xs i h = h

-- ---- arguments that fit

pub args_fit : (c : Scope) (x : ℕ) (es : List TExpr) → FitsArgs c x es → All (FitsExpr c) es
args_fit c x [] h = All-nil (FitsExpr c)
args_fit c x (e ∷ es) h = All-cons (FitsExpr c) e es h.0.1 (args_fit c (x + 1) es h.1)

some_same : {A : Type 0} (x y : A) → Some x ≡ Some y → x ≡ y
some_same x y e = cc

-- the function that is called is the one that was found
pub callee_fits : (c : Scope) (p : CProgram) (call : TCall) (fn : Function) → c.program ≡ p → slice_get p.functions call.function ≡ Some fn → FitsCall c call → FitsCallee c call.args fn
callee_fits c p call fn same found (other, is, callee) =
    subst (λ (h : Function). FitsCallee c call.args h) (some_same other fn (sym is ∙ ap (λ (q : CProgram). slice_get q.functions call.function) same ∙ found)) callee

-- the numbers of arguments are those of the parameters' types
pub numbers_params : (c : Scope) (v : Values) (x : ℕ) (es : List TExpr) (ts : List SizedTerm) → length ts ≡ length es → FitsArgs c x es → numbers_at v es ts ≡ params_at c.program v x ts
numbers_params c v x [] [] n h = refl
numbers_params c v x [] (t ∷ ts) n h = absurd (omega (arith, n))
numbers_params c v x (e ∷ es) [] n h = absurd (omega (arith, n))
numbers_params c v x (e ∷ es) (t ∷ ts) n h =
    ap (λ (ty : IntType). stands ty v t ∷ numbers_at v es ts) h.0.0 ∙ ap (λ l. stands (slot_type c.program (Local x)) v t ∷ l) (numbers_params c v (x + 1) es ts (omega (arith, n)) h.1)

-- ---- the run of a call

then_value : (an : Answer) (c : List ℕ) (K : ℤ → Effect) (go : Onward) → then_do (with_value an c K) go ≡ with_value an c (λ n. then_do (K n) go)
then_value (Value n) c K go = refl
then_value (Fault p) c K go = refl

-- what goes on behind a call goes on behind its arguments
pub then_values : (rows : Rows) (es : List TExpr) (c : List ℕ) (K : List ℤ → Effect) (go : Onward) → then_do (with_values rows es c K) go ≡ with_values rows es c (λ ns. then_do (K ns) go)
then_values rows [] c K go = refl
then_values rows (e ∷ es) c K go =
    then_value (value_of rows e) c (λ n. with_values rows es c (λ ns. K (n ∷ ns))) go
    ∙ same_value (value_of rows e) c (λ n. then_do (with_values rows es c (λ ns. K (n ∷ ns))) go) (λ n. with_values rows es c (λ ns. then_do (K (n ∷ ns)) go)) (λ n. then_values rows es c (λ ns. K (n ∷ ns)) go)

module _ (p : Pair) (b : Bounds) (f : ℕ) (place : Place) (args : List ℤ) (fn : Function) (body : TStmt) (standing : List ℕ) (found : slice_get p.program.functions f ≡ Some fn) (some : fn.body ≡ Some body) where
  -- a call that may have one more activation
  pub calls_entered : (left : ℕ) (s : JointState) (c : List ℕ) → is_below_limit p b standing f fn ≡ true →
      calls_at p b (suc left) standing place f args s c ≡ body_effect p b (calls_at p b left (standing ++ f ∷ [])) f fn body place args s c
  calls_entered left s c may =
      ap (λ (o : Option Function). entered_function p b (is_below_limit p b standing f) (calls_at p b left (standing ++ f ∷ [])) f o place args s c) found
      ∙ ap (λ (o : Option TStmt). entered_body p b (is_below_limit p b standing f fn) (calls_at p b left (standing ++ f ∷ [])) f fn o place args s c) some
      ∙ ap (λ (x : Bool). entered_body p b x (calls_at p b left (standing ++ f ∷ [])) f fn (Some body) place args s c) may

  -- and one that may not
  pub calls_refused : (left : ℕ) (s : JointState) (c : List ℕ) → (left ≡ 0) ⊎ (is_below_limit p b standing f fn ≡ false) →
      calls_at p b left standing place f args s c ≡ broken (recursion_prop p.program fn) c
  calls_refused zero s c h =
      ap (λ (o : Option Function). entered_function p b (λ fn. false) no_calls f o place args s c) found
      ∙ ap (λ (o : Option TStmt). entered_body p b false no_calls f fn o place args s c) some
  calls_refused (suc left) s c (inl e) = absurd (omega (arith, e))
  calls_refused (suc left) s c (inr may) =
      ap (λ (o : Option Function). entered_function p b (is_below_limit p b standing f) (calls_at p b left (standing ++ f ∷ [])) f o place args s c) found
      ∙ ap (λ (o : Option TStmt). entered_body p b (is_below_limit p b standing f fn) (calls_at p b left (standing ++ f ∷ [])) f fn o place args s c) some
      ∙ ap (λ (x : Bool). entered_body p b x (calls_at p b left (standing ++ f ∷ [])) f fn (Some body) place args s c) may

-- ---- rows of objects

some_elements : (n : ℕ) → 0 < element_count n
some_elements zero = omega arith
some_elements (suc n) = omega arith

-- each of the program's locals has a row
pub rows_there : (p : CProgram) (g : Graph) (o : Objects) → HasObjects p g o → length p.locals ≤ length o.locals.items
rows_there p g o H = by_count (cases_lt (length o.locals.items) (length p.locals))
  where
    by_count : (length o.locals.items < length p.locals) ⊎ (length p.locals ≤ length o.locals.items) → length p.locals ≤ length o.locals.items
    by_count (inr le) = le
    by_count (inl lt) =
        let i = length o.locals.items in
        let count : length (terms_of o (Local i)) ≡ element_count (slot_length p (Local i)) = H.count (Local i) lt in
        let none : length (terms_of o (Local i)) ≡ 0 = ap length (at_end [] o.locals.items) in
        let some : 0 < element_count (slot_length p (Local i)) = some_elements (slot_length p (Local i)) in
        absurd (omega (arith, count, none, some))

-- all objects have terms, once the caller's rows are back
pub objects_back : (p : CProgram) (g : Graph) (o0 o2 o3 : Objects) (first end : ℕ) → first ≤ end → end ≤ length p.locals → HasObjects p g o0 → HasObjects p g o2 →
    o3.globals.items ≡ o2.globals.items → o3.locals.items ≡ rows_back first (rows_part first end o0.locals.items) o2.locals.items → o3.members.items ≡ o2.members.items → HasObjects p g o3
objects_back p g o0 o2 o3 first end le within H0 H2 globals locals members = record { count = count; has = has }
  where
    either : (i : ℕ) → (terms_of o3 (Local i) ≡ terms_of o2 (Local i)) ⊎ (terms_of o3 (Local i) ≡ terms_of o0 (Local i))
    either i =
        let a : length p.locals ≤ length o0.locals.items = rows_there p g o0 H0 in
        let b : length p.locals ≤ length o2.locals.items = rows_there p g o2 H2 in
        subst (λ (l : List (List TermId)). (slice_index_or l i [] ≡ terms_of o2 (Local i)) ⊎ (slice_index_or l i [] ≡ terms_of o0 (Local i))) (sym locals)
        (back_either [] first end i o0.locals.items o2.locals.items le (omega (arith, a, within)) (omega (arith, b, within)))

    count : (slot : Slot) → IsThere p slot → length (terms_of o3 slot) ≡ element_count (slot_length p slot)
    count (Global i) h = ap (λ (l : List (List TermId)). length (slice_index_or l i [])) globals ∙ H2.count (Global i) h
    count (Local i) h = by_row (either i)
      where
        by_row : (terms_of o3 (Local i) ≡ terms_of o2 (Local i)) ⊎ (terms_of o3 (Local i) ≡ terms_of o0 (Local i)) → length (terms_of o3 (Local i)) ≡ element_count (slot_length p (Local i))
        by_row (inl e) = ap length e ∙ H2.count (Local i) h
        by_row (inr e) = ap length e ∙ H0.count (Local i) h
    count (Member i) h = ap (λ (l : List (List TermId)). length (slice_index_or l i [])) members ∙ H2.count (Member i) h
    count BoundValue h = absurd h

    has : (slot : Slot) → IsThere p slot → (k : ℕ) (t : TermId) → slice_get (terms_of o3 slot) k ≡ Some t → Has g (sized t (slot_type p slot).bits)
    has (Global i) h k t e = H2.has (Global i) h k t (ap (λ (l : List (List TermId)). slice_get (slice_index_or l i []) k) (sym globals) ∙ e)
    has (Local i) h k t e = by_row (either i)
      where
        by_row : (terms_of o3 (Local i) ≡ terms_of o2 (Local i)) ⊎ (terms_of o3 (Local i) ≡ terms_of o0 (Local i)) → Has g (sized t (slot_type p (Local i)).bits)
        by_row (inl q) = H2.has (Local i) h k t (ap (λ (l : List TermId). slice_get l k) (sym q) ∙ e)
        by_row (inr q) = H0.has (Local i) h k t (ap (λ (l : List TermId). slice_get l k) (sym q) ∙ e)
    has (Member i) h k t e = H2.has (Member i) h k t (ap (λ (l : List (List TermId)). slice_get (slice_index_or l i []) k) (sym members) ∙ e)
    has BoundValue h k t e = absurd h
