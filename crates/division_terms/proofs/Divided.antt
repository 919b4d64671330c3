-- Terms of divisions, and what they answer.
use Rattle.std.proofs.Common.{◌≡◌, ◌≢◌, ℕ, zero, suc, ◌+◌, ◌-◌, ◌*◌, ◌%◌, ◌<◌, ◌≤◌, ◌^◌, Bool, true, false, Option, Some, None, refl, sym, ap, ◌∙◌, subst, arith}
use Rattle.std.specs.Prelude.{ℤ, nat_eq, nat_lt, not, ◌&&◌, bit_and, int_div, int_rem, IsSome}
use Rattle.std.proofs.Math.Nat.{mod-eq_of_lt}
use Rattle.std.proofs.lemmas.Bool.Decides.{nat_tests}
use Rattle.bits_core.specs.declared.op.Op1.TheVariants as op1
use Rattle.bits_core.specs.declared.op.Op2.{Op2}
use Rattle.bits_core.specs.declared.op.Op2.TheVariants as op2
use Rattle.bits_core.specs.Word.{number, modulo, bit, at_zero}
use Rattle.bits_core.specs.Ops.{quotient, remainder, value1, value2, width2}
use Rattle.word_eqs.specs.Gates.{gates2}
use Rattle.word_eqs.specs.Graph.{Graph}
use Rattle.word_eqs.specs.Meaning.{Values}
use Rattle.joint_ir.specs.declared.ctype.IntType.{IntType}
use Rattle.joint_ir.specs.declared.expr.BinaryOp.TheVariants.{Div, Rem}
use Rattle.joint_ir.specs.declared.program.PropId.{PropId}
use Rattle.joint_ir.specs.Types.{in_range}
use Rattle.joint_ir.specs.Values.{Answer, Value, Fault, checked, binary_value}
use Rattle.joint_value.specs.Answers.{HasWidth}
use Rattle.joint_value.proofs.Numbers.{number_in, rest_in}
use Rattle.sized_terms.specs.declared.SizedTerm.{SizedTerm}
use Rattle.sized_terms.specs.Sized.{Has, IsMade, bits}
use Rattle.sized_terms.proofs.Made.{made_then, made_as, builds_then}
use Rattle.checked_terms.specs.declared.Check.{Check}
use Rattle.checked_terms.specs.declared.Checked.{Checked}
use Rattle.checked_terms.specs.Checked.{stands, test_then, check_of, IsChecked, IsPlain}
use Rattle.checked_terms.proofs.Fits.{converted_is}
use Rattle.checked_terms.proofs.Works.{stands_below, checked_as, test_is, has_check, check_few, zero_of, number_modulo, not_bit}
use Rattle.division_terms.specs.Division.{quotient_fits, divided}
use Rattle.division_terms.proofs.Quotients.{quotient_in}

pub number_made : (g h i : Graph) (a n t : SizedTerm) (k : ℕ) → k < 2 ^ a.width → IsMade g h a.width 0 1 n (λ v. k % 2 ^ a.width) → IsMade h i 1 (4 * a.width) 1 t (λ v. bit (nat_eq (bits v a) (bits v n))) →
    IsMade g i 1 (4 * a.width) 2 t (λ v. bit (nat_eq (bits v a) k))
number_made g h i a n t k lt N E =
    made_as g i 1 (0 + 4 * a.width) (4 * a.width) (1 + 1) 2 t _ (λ v. bit (nat_eq (bits v a) k)) (made_then g h i 1 0 (4 * a.width) 1 1 t _ N.builds E) (omega arith) (omega arith)
    (λ v r. ap (λ j. bit (nat_eq (bits v a) j)) (N.value v (E.builds.grown v r) ∙ mod-eq_of_lt lt))

and_bits : (a b : Bool) → bit_and (bit a) (bit b) ≡ bit (a && b)
and_bits true true = refl
and_bits true false = refl
and_bits false true = refl
and_bits false false = refl

pub fits_made : (g h i j k : Graph) (a b least minus both t : SizedTerm) (m n : ℕ) → b.width ≡ a.width → m ≡ 2 ^ (a.width - 1) → n ≡ 2 ^ b.width - 1 →
    IsMade g h 1 (4 * a.width) 2 least (λ v. bit (nat_eq (bits v a) m)) → IsMade h i 1 (4 * b.width) 2 minus (λ v. bit (nat_eq (bits v b) n)) →
    IsMade i j least.width least.width 1 both (λ v. bit_and (bits v least) (bits v minus)) → IsMade j k both.width 0 1 t (λ v. value1 op1.Not both.width (bits v both)) →
    IsMade g k 1 (8 * a.width + 1) 6 t (λ v. bit (quotient_fits a.width (bits v a) (bits v b)))
fits_made g h i j k a b least minus both t m n same em en L M B N =
    let w : both.width ≡ 1 = B.width ∙ L.width in
    let N' = subst (λ w. IsMade j k w 0 1 t (λ v. value1 op1.Not w (bits v both))) w N in
    let all = builds_then g h i (4 * a.width) (4 * b.width) 2 2 L.builds M.builds in
    let more = builds_then g i j (4 * a.width + 4 * b.width) least.width (2 + 2) 1 all B.builds in
    let widths : 4 * b.width ≡ 4 * a.width = ap (λ w. 4 * w) same in
    let one = L.width in
    made_as g k 1 (4 * a.width + 4 * b.width + least.width + 0) (8 * a.width + 1) (2 + 2 + 1 + 1) 6 t _ (λ v. bit (quotient_fits a.width (bits v a) (bits v b)))
    (made_then g j k 1 (4 * a.width + 4 * b.width + least.width) 0 (2 + 2 + 1) 1 t (λ v. value1 op1.Not 1 (bits v both)) more N') (omega arith) (omega arith)
    (λ v r.
    let r3 = N.builds.grown v r in
    let r2 = B.builds.grown v r3 in
    let r1 = M.builds.grown v r2 in
    let p : bits v least ≡ bit (nat_eq (bits v a) (2 ^ (a.width - 1))) = L.value v r1 ∙ ap (λ x. bit (nat_eq (bits v a) x)) em in
    let q : bits v minus ≡ bit (nat_eq (bits v b) (2 ^ a.width - 1)) = M.value v r2 ∙ ap (λ x. bit (nat_eq (bits v b) x)) en ∙ ap (λ x. bit (nat_eq (bits v b) (2 ^ x - 1))) same in
    let z : bits v both ≡ bit (nat_eq (bits v a) (2 ^ (a.width - 1)) && nat_eq (bits v b) (2 ^ a.width - 1)) =
    B.value v r3 ∙ ap (λ x. bit_and x (bits v minus)) p ∙ ap (bit_and (bit (nat_eq (bits v a) (2 ^ (a.width - 1))))) q ∙ and_bits (nat_eq (bits v a) (2 ^ (a.width - 1))) (nat_eq (bits v b) (2 ^ a.width - 1)) in
    ap (λ x. 2 ^ 1 - 1 - x) z ∙ not_bit (nat_eq (bits v a) (2 ^ (a.width - 1)) && nat_eq (bits v b) (2 ^ a.width - 1)))

-- a check whose term is the divisor itself
pub test_some : (v : Values) (d : Option PropId) (b : SizedTerm) (a : Answer) → test_then v (check_of d b) a ≡ checked d (nat_lt 0 (bits v b)) a
test_some v None b a = refl
test_some v (Some d) b a = by_number (bits v b)
  where
    by_number : (n : ℕ) → at_zero n (Fault d) a ≡ checked (Some d) (nat_lt 0 n) a
    by_number zero = refl
    by_number (suc n) = let e : nat_lt 0 (suc n) ≡ true = grind (arith, nat_tests) in sym (ap (λ c. checked (Some d) c a) e)

pub signed_made : (f g h : Graph) (op : Op2) (t : IntType) (d p : Option PropId) (a b within x : SizedTerm) (cd cp : Option Check) → Has f a → Has f b → a.width ≡ t.bits → b.width ≡ t.bits → width2 op t.bits ≡ t.bits → cd ≡ check_of d b → cp ≡ check_of p within →
    IsMade f g 1 (8 * a.width + 1) 6 within (λ v. bit (quotient_fits a.width (bits v a) (bits v b))) → IsMade g h (width2 op a.width) (gates2 op a.width) 1 x (λ v. value2 op a.width (bits v a) (bits v b)) →
    IsChecked f h t (gates2 op t.bits + 9 * t.bits + 18) 7 (record { division = cd; other = cp; value = x }) (λ v. divided d p t.bits (bits v a) (bits v b) (Value (number t.signed t.bits (value2 op t.bits (bits v a) (bits v b)))))
signed_made f g h op t d p a b within x cd cp ha hb ea eb w ed ep W M =
    let M' = subst (λ w. IsMade g h (width2 op w) (gates2 op w) 1 x (λ v. value2 op w (bits v a) (bits v b))) ea M in
    let W' = subst (λ w. IsMade f g 1 (8 * w + 1) 6 within (λ v. bit (quotient_fits w (bits v a) (bits v b)))) ea W in
    let all = builds_then f g h (8 * t.bits + 1) (gates2 op t.bits) 6 1 W'.builds M'.builds in
    let goal : Option Check → Option Check → Type 0 = λ i j. IsChecked f h t (gates2 op t.bits + 9 * t.bits + 18) 7 (record { division = i; other = j; value = x }) (λ v. divided d p t.bits (bits v a) (bits v b) (Value (number t.signed t.bits (value2 op t.bits (bits v a) (bits v b))))) in
    subst (λ i. goal i cp) (sym ed) (subst (λ j. goal (check_of d b) j) (sym ep) (record {
      made = 8 * t.bits + 1 + gates2 op t.bits;
      builds = all;
      has = M'.has;
      width = M'.width ∙ w;
      division = has_check h d b (all.kept b hb);
      other = has_check h p within (M'.builds.kept within W'.has);
      gives = λ v r.
          test_some v d b _
          ∙ ap (checked d (nat_lt 0 (bits v b))) (test_is v p within (quotient_fits t.bits (bits v a) (bits v b)) _ (W'.value v (M'.builds.grown v r))
          ∙ ap (λ n. checked p (quotient_fits t.bits (bits v a) (bits v b)) (Value (number t.signed t.bits n))) (M'.value v r));
      few = let i = check_few d b in let j = check_few p within in let k = W'.width in omega arith;
    }))

pub unsigned_made : (f g : Graph) (op : Op2) (t : IntType) (d : Option PropId) (a b x : SizedTerm) (cd : Option Check) → Has f b → a.width ≡ t.bits → b.width ≡ t.bits → width2 op t.bits ≡ t.bits → cd ≡ check_of d b →
    IsMade f g (width2 op a.width) (gates2 op a.width) 1 x (λ v. value2 op a.width (bits v a) (bits v b)) →
    IsChecked f g t (gates2 op t.bits + 9 * t.bits + 18) 7 (record { division = cd; other = None; value = x }) (λ v. divided d None t.bits (bits v a) (bits v b) (Value (number t.signed t.bits (value2 op t.bits (bits v a) (bits v b)))))
unsigned_made f g op t d a b x cd hb ea eb w ed M =
    let M' = subst (λ w. IsMade f g (width2 op w) (gates2 op w) 1 x (λ v. value2 op w (bits v a) (bits v b))) ea M in
    let one : IsChecked f g t (gates2 op t.bits + 9 * t.bits + 18) 1 (record { division = check_of d b; other = None; value = x }) (λ v. divided d None t.bits (bits v a) (bits v b) (Value (number t.signed t.bits (value2 op t.bits (bits v a) (bits v b))))) = record {
      made = gates2 op t.bits;
      builds = M'.builds;
      has = M'.has;
      width = M'.width ∙ w;
      division = has_check g d b (M'.builds.kept b hb);
      other = tt;
      gives = λ v r. test_some v d b _ ∙ ap (λ n. checked d (nat_lt 0 (bits v b)) (Value (number t.signed t.bits n))) (M'.value v r);
      few = let i = check_few d b in omega arith;
    } in
    subst (λ i. IsChecked f g t (gates2 op t.bits + 9 * t.bits + 18) 7 (record { division = i; other = None; value = x }) (λ v. divided d None t.bits (bits v a) (bits v b) (Value (number t.signed t.bits (value2 op t.bits (bits v a) (bits v b)))))) (sym ed)
    (checked_as f g t (gates2 op t.bits + 9 * t.bits + 18) (gates2 op t.bits + 9 * t.bits + 18) 1 7 _ _ _ one (omega arith) (omega arith) (λ v r. refl))

-- two checks of one property that hold at the same time, where one stands
checked_some : (d : Option PropId) (b c : Bool) (x y : Answer) → IsSome d → b ≡ c → (b ≡ true → x ≡ y) → checked d b x ≡ checked d c y
checked_some None b c x y h e k = cc
checked_some (Some d) true c x y h e k = k refl ∙ ap (λ a. checked (Some d) a y) e
checked_some (Some d) false c x y h e k = ap (λ a. checked (Some d) a y) e

not_zero : (n : ℕ) → nat_lt 0 n ≡ true → n ≢ 0
not_zero n h = grind (arith, nat_tests)

else_of : (y a : ℕ) → y ≢ 0 → at_zero y 0 a ≡ a
else_of zero a h = absurd (h refl)
else_of (suc n) a h = refl

twice : (a b : Bool) → a ≡ not b → b ≡ not a
twice a true e = sym (ap not e)
twice a false e = sym (ap not e)

-- the check of the quotient's range
abbrev IsRange : IntType → Option PropId → (x y : ℕ) → Type 0
IsRange t p x y = y ≢ 0 → (a : Answer) → checked p (quotient_fits t.bits x y) a ≡ checked p (in_range t (int_div (number t.signed t.bits x) (number t.signed t.bits y))) a

signed_range : (t : IntType) (p : Option PropId) (x y : ℕ) → IsPlain t → t.signed ≡ true → x < 2 ^ t.bits → y < 2 ^ t.bits → IsRange t p x y
signed_range t p x y is s lx ly ny a =
    ap (λ c. checked p c a) (quotient_in t x y s is.some lx ly ny ∙ ap (λ b. in_range t (int_div (number b t.bits x) (number b t.bits y))) (sym s))

quotient_answer : (t : IntType) (d p : Option PropId) (x y n : ℕ) → IsPlain t → IsSome d → y < 2 ^ t.bits → n ≡ quotient t.signed t.bits x y → IsRange t p x y →
    divided d p t.bits x y (Value (number t.signed t.bits n)) ≡ binary_value Div t d p (number t.signed t.bits x) (number t.signed t.bits y)
quotient_answer t d p x y n is some ly e range =
    let z : ℤ = int_div (number t.signed t.bits x) (number t.signed t.bits y) in
    checked_some d _ _ _ _ some (twice _ _ (zero_of t.signed t.bits y ly)) (λ h.
    let ny = not_zero y h in
    range ny _ ∙ ap (λ k. checked p (in_range t z) (Value k)) (ap (number t.signed t.bits) (e ∙ else_of y (modulo t.bits z) ny) ∙ sym (converted_is t z is.truth)))

remainder_answer : (t : IntType) (d p : Option PropId) (x y n : ℕ) → IsPlain t → IsSome d → x < 2 ^ t.bits → y < 2 ^ t.bits → n ≡ remainder t.signed t.bits x y → IsRange t p x y →
    divided d p t.bits x y (Value (number t.signed t.bits n)) ≡ binary_value Rem t d p (number t.signed t.bits x) (number t.signed t.bits y)
remainder_answer t d p x y n is some lx ly e range =
    let z : ℤ = int_div (number t.signed t.bits x) (number t.signed t.bits y) in
    let r : ℤ = int_rem (number t.signed t.bits x) (number t.signed t.bits y) in
    let width : HasWidth t = record { some = is.some; few = is.few } in
    checked_some d _ _ _ _ some (twice _ _ (zero_of t.signed t.bits y ly)) (λ h.
    let ny = not_zero y h in
    range ny _ ∙ ap (λ k. checked p (in_range t z) (Value k))
    (ap (number t.signed t.bits) (e ∙ else_of y (modulo t.bits r) ny) ∙ number_modulo t r is.some (rest_in t (number t.signed t.bits x) (number t.signed t.bits y) (number_in t x width lx))))

division_gates : (w : ℕ) → gates2 op2.DivS w + 9 * w + 18 ≤ 8 * (16 * (w * w) + 96 * w + 32)
division_gates w = omega arith

module _ (f g : Graph) (t : IntType) (d p : Option PropId) (a b : SizedTerm) (r : Checked) (is : IsPlain t) (some : IsSome d) (ha : Has f a) (hb : Has f b) (ea : a.width ≡ t.bits) (eb : b.width ≡ t.bits) where
  pub signed_quotient : t.signed ≡ true →
      IsChecked f g t (gates2 op2.DivS t.bits + 9 * t.bits + 18) 7 r (λ v. divided d p t.bits (bits v a) (bits v b) (Value (number t.signed t.bits (value2 op2.DivS t.bits (bits v a) (bits v b))))) →
      IsChecked f g t (8 * (16 * (t.bits * t.bits) + 96 * t.bits + 32)) 7 r (λ v. binary_value Div t d p (stands t v a) (stands t v b))
  signed_quotient s P = checked_as f g t _ _ 7 7 r _ _ P (division_gates t.bits) (omega arith) (λ v q.
      let lx = stands_below v f g a t.bits _ _ P.builds q ha ea in
      let ly = stands_below v f g b t.bits _ _ P.builds q hb eb in
      quotient_answer t d p (bits v a) (bits v b) _ is some ly (ap (λ c. quotient c t.bits (bits v a) (bits v b)) (sym s)) (signed_range t p (bits v a) (bits v b) is s lx ly))

  pub signed_remainder : t.signed ≡ true →
      IsChecked f g t (gates2 op2.RemS t.bits + 9 * t.bits + 18) 7 r (λ v. divided d p t.bits (bits v a) (bits v b) (Value (number t.signed t.bits (value2 op2.RemS t.bits (bits v a) (bits v b))))) →
      IsChecked f g t (8 * (16 * (t.bits * t.bits) + 96 * t.bits + 32)) 7 r (λ v. binary_value Rem t d p (stands t v a) (stands t v b))
  signed_remainder s P = checked_as f g t _ _ 7 7 r _ _ P (division_gates t.bits) (omega arith) (λ v q.
      let lx = stands_below v f g a t.bits _ _ P.builds q ha ea in
      let ly = stands_below v f g b t.bits _ _ P.builds q hb eb in
      remainder_answer t d p (bits v a) (bits v b) _ is some lx ly (ap (λ c. remainder c t.bits (bits v a) (bits v b)) (sym s)) (signed_range t p (bits v a) (bits v b) is s lx ly))

  pub unsigned_quotient : t.signed ≡ false → p ≡ None →
      IsChecked f g t (gates2 op2.DivU t.bits + 9 * t.bits + 18) 7 r (λ v. divided d None t.bits (bits v a) (bits v b) (Value (number t.signed t.bits (value2 op2.DivU t.bits (bits v a) (bits v b))))) →
      IsChecked f g t (8 * (16 * (t.bits * t.bits) + 96 * t.bits + 32)) 7 r (λ v. binary_value Div t d p (stands t v a) (stands t v b))
  unsigned_quotient s none P = checked_as f g t _ _ 7 7 r _ _ P (division_gates t.bits) (omega arith) (λ v q.
      let ly = stands_below v f g b t.bits _ _ P.builds q hb eb in
      quotient_answer t d None (bits v a) (bits v b) _ is some ly (ap (λ c. quotient c t.bits (bits v a) (bits v b)) (sym s)) (λ n x. refl) ∙ ap (λ o. binary_value Div t d o (stands t v a) (stands t v b)) (sym none))

  pub unsigned_remainder : t.signed ≡ false → p ≡ None →
      IsChecked f g t (gates2 op2.RemU t.bits + 9 * t.bits + 18) 7 r (λ v. divided d None t.bits (bits v a) (bits v b) (Value (number t.signed t.bits (value2 op2.RemU t.bits (bits v a) (bits v b))))) →
      IsChecked f g t (8 * (16 * (t.bits * t.bits) + 96 * t.bits + 32)) 7 r (λ v. binary_value Rem t d p (stands t v a) (stands t v b))
  unsigned_remainder s none P = checked_as f g t _ _ 7 7 r _ _ P (division_gates t.bits) (omega arith) (λ v q.
      let lx = stands_below v f g a t.bits _ _ P.builds q ha ea in
      let ly = stands_below v f g b t.bits _ _ P.builds q hb eb in
      remainder_answer t d None (bits v a) (bits v b) _ is some lx ly (ap (λ c. remainder c t.bits (bits v a) (bits v b)) (sym s)) (λ n x. refl) ∙ ap (λ o. binary_value Rem t d o (stands t v a) (stands t v b)) (sym none))
