-- The read of an element with the check of its index.
use Rattle.std.proofs.Common.{◌≡◌, ℕ, zero, suc, ◌+◌, ◌-◌, ◌*◌, ◌<◌, ◌≤◌, ◌^◌, max, Bool, true, false, List, [], ◌∷◌, ◌++◌, Some, None, length, take, map, get_or, refl, sym, ap, ◌∙◌, subst, arith}
use Rattle.std.specs.Prelude.{ℤ, pos, negsuc, nat_lt, slice_get, if◌then◌else◌}
use Rattle.std.proofs.lemmas.List.{length-map, get_or-map, get_or-take, length-take, take_all}
use Rattle.std.proofs.Math.Nat.{mul-le-mul_left, mul-le-mul_right, mul_left_comm}
use Rattle.std.proofs.lemmas.Option.{slice_get-get_or, slice_get_within, get_or_from_slice_get}
use Rattle.std.proofs.lemmas.Bool.Decides.{nat_tests}
use Rattle.bits_core.specs.Word.{number, bit, at_zero}
use Rattle.bits_core.proofs.Laws.{halves, signed_low, signed_high, pow_le}
use Rattle.word_eqs.specs.declared.term.TermId.{TermId}
use Rattle.word_eqs.specs.Graph.{Graph, IsGraph}
use Rattle.word_eqs.specs.Meaning.{Values, Respects}
use Rattle.word_eqs.proofs.Graphs.{width_of_term}
use Rattle.joint_ir.specs.declared.ctype.IntType.{IntType}
use Rattle.joint_ir.specs.declared.program.PropId.{PropId}
use Rattle.joint_ir.specs.Steps.{is_within}
use Rattle.joint_ir.specs.Values.{Answer, Value, Fault, element_at}
use Rattle.joint_ir.specs.Weights.{read_weight}
use Rattle.sized_terms.specs.declared.SizedTerm.{SizedTerm}
use Rattle.sized_terms.specs.Sized.{Has, Builds, IsMade, bits}
use Rattle.sized_terms.proofs.Made.{bits_below, builds_then, builds_within}
use Rattle.checked_terms.specs.declared.Checked.{Checked}
use Rattle.checked_terms.specs.Checked.{stands, IsChecked}
use Rattle.element_terms.specs.Elements.{sized, AreElements, IsRead}
use Rattle.unrolled.specs.declared.Unrolled.{Unrolled}
use Rattle.expression_steps.specs.Asking.{check_steps, IsPushed, IsDone}
use Rattle.expression_steps.specs.Objects.{numbers_of}

none : TermId
none = record { 0 = 0 }

-- the place that a number names is the number's bits
place_is : (s : Bool) (w n i : ℕ) → n < 2 ^ w → number s w n ≡ pos i → n ≡ i
place_is false w n i lt e = cc
place_is true w n i lt e =
    halves (2 ^ w) n (λ l. let f : pos n ≡ pos i = sym (signed_low (2 ^ w) n l) ∙ e in cc) (λ l. let f : negsuc (2 ^ w - suc n) ≡ pos i = sym (signed_high (2 ^ w) n l) ∙ e in cc)

at_is : (elements : List TermId) (m i : ℕ) → i < m → i < length elements → slice_get (take m elements) i ≡ Some (get_or elements i none)
at_is elements m i lt l =
    let e : length (take m elements) ≡ _ = length-take m elements in
    slice_get-get_or (take m elements) i none (omega (arith, e)) ∙ ap Some (get_or-take m elements i none lt)

-- the answer behind the check, where the term's number is that of the element
answer_is : (read : ℕ → ℤ) (v : Values) (elements : List TermId) (p : PropId) (n : ℕ) (m z : ℤ) → n ≡ length elements → ((i : ℕ) → z ≡ pos i → i < n → m ≡ read (v.term (get_or elements i none).0).value) →
    at_zero (bit (is_within n z)) (Fault p) (Value m) ≡ element_at (numbers_of read v elements) p z
answer_is read v elements p n m (negsuc i) is at = refl
answer_is read v elements p n m (pos i) is at = by_test (nat_lt i n) refl
  where
    row : List ℤ
    row = numbers_of read v elements

    same : nat_lt i (length (numbers_of read v elements)) ≡ nat_lt i n
    same = ap (nat_lt i) (length-map elements (λ (t : TermId). read (v.term t.0).value) ∙ sym is)

    by_test : (c : Bool) → nat_lt i n ≡ c →
        at_zero (bit (nat_lt i n)) (Fault p) (Value m) ≡ (if nat_lt i (length (numbers_of read v elements)) then Value (get_or (numbers_of read v elements) i (pos 0)) else Fault p)
    by_test true q =
        let lt : i < n = grind (arith, nat_tests) in
        let lt' : i < length elements = omega arith in
        ap (λ c. at_zero (bit c) (Fault p) (Value m)) q ∙ ap Value (at i refl lt ∙ sym (get_or-map (λ (t : TermId). read (v.term t.0).value) elements i none (pos 0) lt'))
        ∙ sym (ap (λ c. if c then Value (get_or (numbers_of read v elements) i (pos 0)) else Fault p) (same ∙ q))
    by_test false q =
        ap (λ c. at_zero (bit c) (Fault p) (Value m)) q ∙ sym (ap (λ c. if c then Value (get_or (numbers_of read v elements) i (pos 0)) else Fault p) (same ∙ q))

-- what a check and a read are worth
cost_is : (m n v w : ℕ) → m ≤ n → 0 < v → 10 * max 33 v + m * (4 * v + 3 * w) + 9 ≤ 8 * (n * (v + 2 * w) + 20 * v + 32)
cost_is m n v w le some =
    let a : m * (4 * v + 3 * w) ≤ n * (4 * v + 3 * w) = mul-le-mul_right (4 * v + 3 * w) le in
    let b : n * (4 * v + 3 * w) ≤ n * (8 * (v + 2 * w)) = mul-le-mul_left n (let e : 4 * v + 3 * w ≤ 8 * (v + 2 * w) = omega arith in e) in
    let c : n * (8 * (v + 2 * w)) ≡ 8 * (n * (v + 2 * w)) = mul_left_comm n 8 (v + 2 * w) in
    let d : max 33 v ≤ 33 + v = grind arith in
    omega arith

pub element_checked : (f g h : Graph) (x test value : SizedTerm) (elements : List TermId) (from t : IntType) (p : PropId) (n : ℕ) → IsGraph f → Has f x → x.width ≡ from.bits → n ≡ length elements →
    IsMade f g 1 (10 * max 33 x.width) 3 test (λ v. bit (is_within n (number from.signed x.width (bits v x)))) →
    IsRead g h x (take (2 ^ x.width) elements) t.bits (length (take (2 ^ x.width) elements)) value → 0 < x.width →
    IsChecked f h t (8 * read_weight (length elements) from.bits t.bits) (3 + 3 * length elements) (record { division = None; other = Some (record { prop = p; test = test }); value = value })
    (λ v. element_at (numbers_of (number t.signed t.bits) v elements) p (stands from v x))
element_checked f g h x test value elements from t p n proper has wide is T R some =
    let m : ℕ = length (take (2 ^ x.width) elements) in
    let le : m ≤ length elements = omega (arith, length-take (2 ^ x.width) elements) in
    let all = builds_then f g h (10 * max 33 x.width) (m * (4 * x.width + 3 * t.bits)) 3 (3 * m) T.builds R.builds in
    record {
      made = 10 * max 33 x.width + m * (4 * x.width + 3 * t.bits);
      builds = builds_within f h (10 * max 33 x.width + m * (4 * x.width + 3 * t.bits)) (10 * max 33 x.width + m * (4 * x.width + 3 * t.bits)) (3 + 3 * m) (3 + 3 * length elements) all (omega arith) (omega arith);
      has = R.has;
      width = R.width;
      division = tt;
      other = R.builds.kept test T.has;
      gives = λ v r.
          let r1 = R.builds.grown v r in
          let lt : bits v x < 2 ^ x.width = bits_below v h x R.builds.proper r (R.builds.kept x (T.builds.kept x has)) in
          ap (λ k. at_zero k (Fault p) (Value (stands t v value))) (T.value v r1 ∙ ap (λ w. bit (is_within n (number from.signed w (bits v x)))) wide)
          ∙ answer_is (number t.signed t.bits) v elements p n (stands t v value) (stands from v x) is
          (λ i e l.
          let b : bits v x ≡ i = place_is from.signed x.width (bits v x) i lt (ap (λ w. number from.signed w (bits v x)) wide ∙ e) in
          let k : i < 2 ^ x.width = omega arith in
          let l' : i < length elements = omega arith in
          let q : i < m = omega (arith, length-take (2 ^ x.width) elements) in
          ap (number t.signed t.bits) (R.value v r i q b (get_or elements i none) (at_is elements (2 ^ x.width) i k l')));
      few =
          let c = cost_is m (length elements) x.width t.bits le some in
          let w = T.width in
          subst (λ k. 10 * max 33 x.width + m * (4 * x.width + 3 * t.bits) + 0 + (test.width + 8) ≤ 8 * read_weight (length elements) k t.bits) wide (omega arith);
    }

-- the width of a term
pub width_bounds : (g : Graph) (x : SizedTerm) → IsGraph g → Has g x → (0 < x.width) × (x.width ≤ 128)
width_bounds g x p h = subst (λ w. (0 < w) × (w ≤ 128)) h.width (width_of_term g x.term.0 p h.there)

taken : (m : ℕ) (l : List TermId) (k : ℕ) (t : TermId) → slice_get (take m l) k ≡ Some t → slice_get l k ≡ Some t
taken m l k t e =
    let lt : k < length (take m l) = slice_get_within (take m l) k t e in
    let f : get_or (take m l) k none ≡ t = get_or_from_slice_get (take m l) k t none e in
    let a : k < m = omega (arith, length-take m l) in
    let b : k < length l = omega (arith, length-take m l) in
    slice_get-get_or l k none b ∙ ap Some (sym (get_or-take m l k none a) ∙ f)

-- the elements that an index can name, at a later graph
pub reached_elements : (g h : Graph) (l r : List TermId) (m w : ℕ) → ((x : SizedTerm) → Has g x → Has h x) → r ≡ take m l → AreElements g l w → AreElements h r w
reached_elements g h l r m w k is all i t e = k (sized t w) (all i t (taken m l i t (subst (λ (q : List TermId). slice_get q i ≡ Some t) is e)))

pub all_taken : (l : List TermId) (w : ℕ) → length l ≤ 268435456 → 32 ≤ w → l ≡ take (2 ^ w) l
all_taken l w few wide =
    let p : 2 ^ 32 ≤ 2 ^ w = pow_le 32 w wide in
    sym (take_all (2 ^ w) l (omega arith))

pub element_done : (u0 u2 : Unrolled) (g h : Graph) (x test value : SizedTerm) (elements reached : List TermId) (from t : IntType) (p : PropId) (n : ℕ) (guard : SizedTerm) → IsGraph u0.terms → Has u0.terms x → x.width ≡ from.bits → n ≡ length elements →
    IsMade u0.terms g 1 (10 * max 33 x.width) 3 test (λ v. bit (is_within n (number from.signed x.width (bits v x)))) → reached ≡ take (2 ^ x.width) elements → IsRead g h x reached t.bits (length reached) value →
    IsPushed (record { terms = h; list = u0.list }) u2 (check_steps guard None ++ check_steps guard (Some (record { prop = p; test = test }))) →
    IsDone u0 u2 t (8 * read_weight (length elements) from.bits t.bits) (3 + 3 * length elements) guard (record { division = None; other = Some (record { prop = p; test = test }); value = value })
    (λ v. element_at (numbers_of (number t.signed t.bits) v elements) p (stands from v x))
element_done u0 u2 g h x test value elements reached from t p n guard proper has wide is T r R P =
    let R' = subst (λ (l : List TermId). IsRead g h x l t.bits (length l) value) r R in
    record {
      checked = subst (λ (k : Graph). IsChecked u0.terms k t (8 * read_weight (length elements) from.bits t.bits) (3 + 3 * length elements) (record { division = None; other = Some (record { prop = p; test = test }); value = value }) (λ v. element_at (numbers_of (number t.signed t.bits) v elements) p (stands from v x)))
          (sym P.terms) (element_checked u0.terms g h x test value elements from t p n proper has wide is T R' (width_bounds u0.terms x proper has).0);
      list = P.list;
    }
