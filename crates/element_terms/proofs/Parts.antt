-- Terms of elements, put together.
use Rattle.std.proofs.Common.{◌≡◌, ℕ, zero, suc, ◌+◌, ◌-◌, ◌*◌, ◌%◌, ◌<◌, ◌≤◌, ◌^◌, max, Bool, true, false, List, [], ◌∷◌, Some, refl, sym, ap, ◌∙◌, subst, arith}
use Rattle.std.specs.Prelude.{ℤ, pos, negsuc, nat_eq, nat_lt, bit_and, slice_get}
use Rattle.std.proofs.Math.Nat.{mod-eq_of_lt, suc-mul}
use Rattle.std.proofs.lemmas.Nat.{pow_pos}
use Rattle.std.proofs.lemmas.Bool.Decides.{nat_tests}
use borrow.Author.Count.{below_more}
use Rattle.bits_core.specs.Ops.{less}
use Rattle.bits_core.specs.Word.{number, modulo, resized, read_signed, bit, at_zero}
use Rattle.bits_core.proofs.Laws.{halves, signed_low, signed_high, wrap_small, wrap_negsuc, pow_le}
use Rattle.word_eqs.specs.declared.term.TermId.{TermId}
use Rattle.word_eqs.specs.Graph.{Graph, IsGraph}
use Rattle.word_eqs.specs.Meaning.{Values, Respects}
use Rattle.joint_ir.specs.Steps.{is_within}
use Rattle.sized_terms.specs.declared.SizedTerm.{SizedTerm}
use Rattle.sized_terms.specs.Sized.{Has, Builds, IsMade, bits}
use Rattle.sized_terms.proofs.Made.{builds_none, builds_then, builds_within, made_then, made_as, bits_below}
use Rattle.element_terms.specs.Elements.{sized, AreElements, IsRead}

pub place_made : (g h i : Graph) (a n t : SizedTerm) (k : ℕ) → k < 2 ^ a.width → IsMade g h a.width 0 1 n (λ v. k % 2 ^ a.width) → IsMade h i 1 (4 * a.width) 1 t (λ v. bit (nat_eq (bits v a) (bits v n))) →
    IsMade g i 1 (4 * a.width) 2 t (λ v. bit (nat_eq (bits v a) k))
place_made g h i a n t k lt N E =
    made_as g i 1 (0 + 4 * a.width) (4 * a.width) (1 + 1) 2 t _ (λ v. bit (nat_eq (bits v a) k)) (made_then g h i 1 0 (4 * a.width) 1 1 t _ N.builds E) (omega arith) (omega arith)
    (λ v r. ap (λ j. bit (nat_eq (bits v a) j)) (N.value v (E.builds.grown v r) ∙ mod-eq_of_lt lt))

pub chosen_made : (g h i : Graph) (index element so_far p t : SizedTerm) (k : ℕ) → IsMade g h 1 (4 * index.width) 2 p (λ v. bit (nat_eq (bits v index) k)) →
    IsMade h i element.width (3 * element.width) 1 t (λ v. at_zero (bits v p) (bits v so_far) (bits v element)) →
    IsMade g i element.width (4 * index.width + 3 * element.width) 3 t (λ v. at_zero (bit (nat_eq (bits v index) k)) (bits v so_far) (bits v element))
chosen_made g h i index element so_far p t k P C =
    made_as g i element.width (4 * index.width + 3 * element.width) (4 * index.width + 3 * element.width) (2 + 1) 3 t _ _ (made_then g h i element.width (4 * index.width) (3 * element.width) 2 1 t _ P.builds C) (omega arith) (omega arith)
    (λ v r. ap (λ n. at_zero n (bits v so_far) (bits v element)) (P.value v (C.builds.grown v r)))

pub replaced_made : (g h i j : Graph) (guard index new old p b t : SizedTerm) (k : ℕ) → guard.width ≡ 1 → IsMade g h 1 (4 * index.width) 2 p (λ v. bit (nat_eq (bits v index) k)) →
    IsMade h i guard.width guard.width 1 b (λ v. bit_and (bits v guard) (bits v p)) → IsMade i j new.width (3 * new.width) 1 t (λ v. at_zero (bits v b) (bits v old) (bits v new)) →
    IsMade g j new.width (4 * index.width + 1 + 3 * new.width) 4 t (λ v. at_zero (bit_and (bits v guard) (bit (nat_eq (bits v index) k))) (bits v old) (bits v new))
replaced_made g h i j guard index new old p b t k one P B C =
    made_as g j new.width (4 * index.width + guard.width + 3 * new.width) (4 * index.width + 1 + 3 * new.width) (2 + 1 + 1) 4 t _ _
    (made_then g i j new.width (4 * index.width + guard.width) (3 * new.width) (2 + 1) 1 t _ (builds_then g h i (4 * index.width) guard.width 2 1 P.builds B.builds) C) (omega arith) (omega arith)
    (λ v r.
    let r1 = C.builds.grown v r in
    ap (λ n. at_zero n (bits v old) (bits v new)) (B.value v r1 ∙ ap (bit_and (bits v guard)) (P.value v (B.builds.grown v r1))))

some_is : (x y : TermId) → Some x ≡ Some y → x ≡ y
some_is x y e = cc

pub reads_first : (g : Graph) (index : SizedTerm) (elements : List TermId) (w : ℕ) (t : TermId) → IsGraph g → AreElements g elements w → slice_get elements 0 ≡ Some t → IsRead g g index elements w 1 (sized t w)
reads_first g index elements w t is all at = record {
  builds = builds_within g g 0 (1 * (4 * index.width + 3 * w)) 0 (3 * 1) (builds_none g is) (omega arith) (omega arith);
  has = all 0 t at;
  width = refl;
  value = λ v r j lt e x q.
      let z : j ≡ 0 = omega arith in
      let q' : slice_get elements 0 ≡ Some x = subst (λ i. slice_get elements i ≡ Some x) z q in
      ap (λ (y : TermId). (v.term y.0).value) (some_is t x (sym at ∙ q'));
}

not_here : (k j : ℕ) → j < k → nat_eq j k ≡ false
not_here k j lt = grind (arith, nat_tests)

here_is : (k : ℕ) → nat_eq k k ≡ true
here_is k = grind (arith, nat_tests)

one_more : (k m : ℕ) → (k + 1) * m ≡ k * m + m
one_more k m = ap (λ n. n * m) (let e : k + 1 ≡ suc k = omega arith in e) ∙ suc-mul k m

pub reads_more : (g h i : Graph) (index : SizedTerm) (elements : List TermId) (w k : ℕ) (t u : SizedTerm) (element : TermId) → slice_get elements k ≡ Some element → IsRead g h index elements w k t →
    IsMade h i w (4 * index.width + 3 * w) 3 u (λ v. at_zero (bit (nat_eq (bits v index) k)) (bits v t) (bits v (sized element w))) → IsRead g i index elements w (k + 1) u
reads_more g h i index elements w k t u element at R C = record {
  builds =
      let e = one_more k (4 * index.width + 3 * w) in
      builds_within g i (k * (4 * index.width + 3 * w) + (4 * index.width + 3 * w)) ((k + 1) * (4 * index.width + 3 * w)) (3 * k + 3) (3 * (k + 1))
      (builds_then g h i (k * (4 * index.width + 3 * w)) (4 * index.width + 3 * w) (3 * k) 3 R.builds C.builds) (omega arith) (omega arith);
  has = C.has;
  width = C.width;
  value = λ v r. below_more (λ j. bits v index ≡ j → (x : TermId) → slice_get elements j ≡ Some x → bits v u ≡ bits v (sized x w)) k
      (λ j lt e x q.
      C.value v r ∙ ap (λ n. at_zero (bit (nat_eq n k)) (bits v t) (bits v (sized element w))) e ∙ ap (λ b. at_zero (bit b) (bits v t) (bits v (sized element w))) (not_here k j lt)
      ∙ R.value v (C.builds.grown v r) j lt e x q)
      (λ e x q.
      C.value v r ∙ ap (λ n. at_zero (bit (nat_eq n k)) (bits v t) (bits v (sized element w))) e ∙ ap (λ b. at_zero (bit b) (bits v t) (bits v (sized element w))) (here_is k)
      ∙ ap (λ (y : TermId). (v.term y.0).value) (some_is element x (sym at ∙ q)));
}

-- which indices are within a length

past : (n m : ℕ) → m ≤ n → nat_lt n m ≡ false
past n m h = grind (arith, nat_tests)

pub within_is : (s : Bool) (u w n m : ℕ) → u ≤ w → 33 ≤ w → n < 2 ^ u → m < 2 ^ 32 → less false w (resized w s u n) (m % 2 ^ w) ≡ is_within m (number s u n)
within_is s u w n m le wide lt few =
    let big : 2 ^ 33 ≤ 2 ^ w = pow_le 33 w wide in
    let more : 2 ^ u ≤ 2 ^ w = pow_le u w le in
    let e : m % 2 ^ w ≡ m = mod-eq_of_lt (omega arith) in
    ap (λ k. nat_lt (resized w s u n) k) e ∙ by_sign s big more
  where
    natural : (n : ℕ) → n < 2 ^ w → nat_lt (modulo w (pos n)) m ≡ nat_lt n m
    natural n h = ap (λ k. nat_lt k m) (wrap_small (2 ^ w) n h)

    by_sign : (s : Bool) → 2 ^ 33 ≤ 2 ^ w → 2 ^ u ≤ 2 ^ w → nat_lt (resized w s u n) m ≡ is_within m (number s u n)
    by_sign false big more = natural n (omega arith)
    by_sign true big more = halves (2 ^ u) n
        (λ l. ap (λ z. nat_lt (modulo w z) m) (signed_low (2 ^ u) n l) ∙ natural n (omega arith) ∙ sym (ap (is_within m) (signed_low (2 ^ u) n l)))
        (λ l.
        let k : 2 ^ u - suc n < 2 ^ w = omega arith in
        ap (λ z. nat_lt (modulo w z) m) (signed_high (2 ^ u) n l) ∙ ap (λ i. nat_lt i m) (wrap_negsuc (2 ^ w) (2 ^ u - suc n) k)
        ∙ past (2 ^ w - suc (2 ^ u - suc n)) m (omega arith) ∙ sym (ap (is_within m) (signed_high (2 ^ u) n l)))

pub within_made : (f g h i : Graph) (index wide limit t : SizedTerm) (s : Bool) (w m : ℕ) → Has f index → w ≡ max 33 index.width → m < 2 ^ 32 →
    IsMade f g w 0 1 wide (λ v. resized w s index.width (bits v index)) → IsMade g h w 0 1 limit (λ v. m % 2 ^ w) → IsMade h i 1 (10 * wide.width) 1 t (λ v. bit (less false wide.width (bits v wide) (bits v limit))) →
    IsMade f i 1 (10 * max 33 index.width) 3 t (λ v. bit (is_within m (number s index.width (bits v index))))
within_made f g h i index wide limit t s w m hi e few W L T =
    let p = builds_then f g h 0 0 1 1 W.builds L.builds in
    let all = made_then f h i 1 (0 + 0) (10 * wide.width) (1 + 1) 1 t _ p T in
    let le : index.width ≤ w = subst (λ k. index.width ≤ k) (sym e) (grind arith) in
    let wd : 33 ≤ w = subst (λ k. 33 ≤ k) (sym e) (grind arith) in
    let g10 : 10 * wide.width ≡ 10 * max 33 index.width = ap (λ k. 10 * k) (W.width ∙ e) in
    made_as f i 1 (0 + 0 + 10 * wide.width) (10 * max 33 index.width) (1 + 1 + 1) 3 t _ (λ v. bit (is_within m (number s index.width (bits v index)))) all (omega arith) (omega arith)
    (λ v r.
    let r2 = T.builds.grown v r in
    let lt = bits_below v i index all.builds.proper r (all.builds.kept index hi) in
    ap (λ k. bit (less false k (bits v wide) (bits v limit))) W.width ∙ ap (λ n. bit (less false w n (bits v limit))) (W.value v (L.builds.grown v r2))
    ∙ ap (λ n. bit (less false w (resized w s index.width (bits v index)) n)) (L.value v r2) ∙ ap bit (within_is s index.width w (bits v index) m le wd lt few))
