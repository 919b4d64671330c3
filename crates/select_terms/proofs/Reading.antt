-- A chain of words, one for each place of an index.
use Rattle.std.proofs.Common.{◌≡◌, ℕ, suc, ◌+◌, ◌-◌, ◌*◌, ◌%◌, ◌^◌, ◌<◌, ◌≤◌, Bool, true, false, List, length, refl, sym, ap, ◌∙◌, subst, arith}
use Rattle.std.specs.Prelude.{ℤ, pos, negsuc, if◌then◌else◌, nat_eq, nat_lt, slice_index}
use Rattle.std.proofs.lemmas.Bool.Decides.{nat_tests}
use Rattle.std.proofs.Math.Nat.{mod-eq_of_lt, suc-mul, mul-le-mul_left}
use Rattle.bits_core.specs.Word.{Word, word, number, bit, at_zero}
use Rattle.bits_core.specs.Ops.{width2, value2}
use Rattle.bits_core.specs.declared.op.Op2.TheVariants.{Eq}
use Rattle.bits_core.proofs.Laws.{halves, signed_low, signed_high}
use Rattle.word_eqs.specs.Gates.{gates2}
use Rattle.word_eqs.specs.Graph.{Graph, IsGraph, IsTyped, width_in}
use Rattle.word_eqs.proofs.Evals.{words_of_terms}
use Rattle.term_steps.specs.Adds.{Adds}
use Rattle.flat_tree.specs.Measures.{word_row, node}
use Rattle.flat_tree.specs.Selects.{word_read}
use Rattle.select_terms.specs.Words.{at_place, found_then}
use Rattle.term_steps.proofs.Adding.{chain, weaken, value_of, below}
use Rattle.select_terms.proofs.Places.{half_is}
use Rattle.select_terms.proofs.Steps.{typed_same}

pub chosen_made : (g h i j : Graph) (index word_at so_far n here t place : ℕ) (k : Word) → k ≡ word (width_in g index) (place % 2 ^ width_in g index) → place < 2 ^ width_in g index → index < length g.terms → word_at < length g.terms →
    Adds g h k.width (λ v. k.value) 0 1 n → Adds h i (width2 Eq (width_in h index)) (λ v. value2 Eq (width_in h index) (v.term index).value (v.term n).value) (gates2 Eq (width_in h index)) 1 here →
    Adds i j (width_in i word_at) (λ v. at_zero (v.term here).value (v.term so_far).value (v.term word_at).value) (3 * width_in i word_at) 1 t →
    Adds g j (width_in g word_at) (λ v. at_zero (bit (nat_eq (v.term index).value place)) (v.term so_far).value (v.term word_at).value) (4 * width_in g index + 3 * width_in g word_at) 3 t
chosen_made g h i j index word_at so_far n here t place k is small il wl p q r =
    let wi : width_in h index ≡ width_in g index = p.typed.kept index il in
    let lh : word_at < length h.terms = let l = p.typed.longer in omega arith in
    let ww : width_in i word_at ≡ width_in g word_at = q.typed.kept word_at lh ∙ p.typed.kept word_at wl in
    let c1 = chain g h i k.width 1 0 (4 * width_in h index) 1 1 n here _ _ _ p q (λ v e. refl) in
    let c2 = chain g i j 1 (width_in i word_at) (0 + 4 * width_in h index) (3 * width_in i word_at) (1 + 1) 1 here t _ _ (λ v. at_zero (bit (nat_eq (v.term index).value place)) (v.term so_far).value (v.term word_at).value) c1 r
    (λ v e.
    ap (λ b. at_zero b (v.term so_far).value (v.term word_at).value) (value_of h i 1 _ 1 here _ q v (r.grown v e)
    ∙ ap (λ b. bit (nat_eq (v.term index).value b)) (value_of g h k.width 0 1 n _ p v (q.grown v (r.grown v e)) ∙ ap (λ (x : Word). x.value) is ∙ mod-eq_of_lt small))) in
    weaken g j _ (width_in g word_at) _ (4 * width_in g index + 3 * width_in g word_at) _ 3 t _ c2 ww (omega (arith, wi, ww)) (omega arith)

chosen_if : (b : Bool) (x y : ℕ) → at_zero (bit b) x y ≡ (if b then y else x)
chosen_if true x y = refl
chosen_if false x y = refl

apart : (i k x y : ℕ) → i < k → (if nat_eq i k then y else x) ≡ x
apart i k x y lt = grind (arith, nat_tests)

apart_above : (i k x y : ℕ) → k < i → (if nat_eq i k then y else x) ≡ x
apart_above i k x y lt = grind (arith, nat_tests)

found_in : (s : Bool) (v i place x y : ℕ) → 0 < v → i < 2 ^ v → place < (if s then 2 ^ (v - 1) else 2 ^ v) → at_zero (bit (nat_eq i place)) x y ≡ found_then s v i place x y
found_in false v i place x y v0 l reach = chosen_if (nat_eq i place) x y
found_in true v i place x y v0 l reach =
    let hf = half_is v v0 in
    halves (2 ^ v) i
    (λ low. chosen_if (nat_eq i place) x y ∙ sym (ap (λ z. at_place z place x y) (signed_low (2 ^ v) i low)))
    (λ high. chosen_if (nat_eq i place) x y ∙ apart_above i place x y (omega arith) ∙ sym (ap (λ z. at_place z place x y) (signed_high (2 ^ v) i high)))

found_out : (s : Bool) (v i place x y : ℕ) → 0 < v → i < 2 ^ v → (if s then 2 ^ (v - 1) else 2 ^ v) ≤ place → found_then s v i place x y ≡ x
found_out false v i place x y v0 l reach = let r : 2 ^ v ≤ place = reach in apart i place x y (omega arith)
found_out true v i place x y v0 l reach =
    let r : 2 ^ (v - 1) ≤ place = reach in
    let hf = half_is v v0 in
    halves (2 ^ v) i
    (λ low. ap (λ z. at_place z place x y) (signed_low (2 ^ v) i low) ∙ apart i place x y (omega arith))
    (λ high. ap (λ z. at_place z place x y) (signed_high (2 ^ v) i high))

-- the bits of an index besides its sign say which numbers it can be
pub far : (s : Bool) (v w b place : ℕ) → b ≡ (if s then v - 1 else v) → v ≡ w → false ≡ nat_lt place (2 ^ b) → (if s then 2 ^ (w - 1) else 2 ^ w) ≤ place
far true v w b place e f h = let g : 2 ^ b ≡ 2 ^ (w - 1) = ap (λ k. 2 ^ k) (e ∙ ap (λ k. k - 1) f) in let l : 2 ^ b ≤ place = grind (arith, nat_tests) in omega (arith, l, g)
far false v w b place e f h = let g : 2 ^ b ≡ 2 ^ w = ap (λ k. 2 ^ k) (e ∙ f) in let l : 2 ^ b ≤ place = grind (arith, nat_tests) in omega (arith, l, g)

pub near : (s : Bool) (v w b place : ℕ) → b ≡ (if s then v - 1 else v) → v ≡ w → true ≡ nat_lt place (2 ^ b) → place < (if s then 2 ^ (w - 1) else 2 ^ w)
near true v w b place e f h = let g : 2 ^ b ≡ 2 ^ (w - 1) = ap (λ k. 2 ^ k) (e ∙ ap (λ k. k - 1) f) in let l : place < 2 ^ b = grind (arith, nat_tests) in omega (arith, l, g)
near false v w b place e f h = let g : 2 ^ b ≡ 2 ^ w = ap (λ k. 2 ^ k) (e ∙ f) in let l : place < 2 ^ b = grind (arith, nat_tests) in omega (arith, l, g)

pub found_near : (g h : Graph) (index word_at so_far t place : ℕ) (s : Bool) → IsGraph h → 0 < width_in g index → index < length g.terms → place < (if s then 2 ^ (width_in g index - 1) else 2 ^ width_in g index) →
    Adds g h (width_in g word_at) (λ v. at_zero (bit (nat_eq (v.term index).value place)) (v.term so_far).value (v.term word_at).value) (4 * width_in g index + 3 * width_in g word_at) 3 t →
    Adds g h (width_in g word_at) (λ v. found_then s (width_in g index) (v.term index).value place (v.term so_far).value (v.term word_at).value) (4 * width_in g index + 3 * width_in g word_at) 3 t
found_near g h index word_at so_far t place s proper v0 il reach a = record {
  grown = a.grown;
  value = λ v r. a.value v r ∙ ap (word (width_in g word_at)) (found_in s (width_in g index) (v.term index).value place (v.term so_far).value (v.term word_at).value v0 (below g h _ t v index proper a.typed r il) reach);
  typed = a.typed;
  vars = a.vars;
  cost = a.cost;
  count = a.count;
}

pub found_far : (g : Graph) (index word_at so_far place c : ℕ) (s : Bool) → IsGraph g → 0 < width_in g index → index < length g.terms → so_far < length g.terms → width_in g so_far ≡ width_in g word_at → (if s then 2 ^ (width_in g index - 1) else 2 ^ width_in g index) ≤ place →
    Adds g g (width_in g word_at) (λ v. found_then s (width_in g index) (v.term index).value place (v.term so_far).value (v.term word_at).value) c 3 so_far
found_far g index word_at so_far place c s proper v0 il sl w reach = record {
  grown = λ v r. r;
  value = λ v r.
      let i = words_of_terms v g proper r index il in
      let xv : (v.term index).value < 2 ^ width_in g index = subst (λ k. (v.term index).value < 2 ^ k) i.1 i.0.below in
      ap (λ k. word k (v.term so_far).value) ((words_of_terms v g proper r so_far sl).1 ∙ w)
      ∙ ap (word (width_in g word_at)) (sym (found_out s (width_in g index) (v.term index).value place (v.term so_far).value (v.term word_at).value v0 xv reach));
  typed = subst (λ k. IsTyped g g k so_far) w (typed_same g so_far sl);
  vars = refl;
  cost = omega arith;
  count = omega arith;
}

-- one word more
more_read : (f : ℕ → ℕ) (k site : ℕ) (z : ℤ) → at_place z k (word_read f k site z) (f k) ≡ word_read f (k + 1) site z
more_read f k site (negsuc i) = refl
more_read f k site (pos i) = on (nat_eq i k) (nat_lt i k) (nat_lt i (k + 1)) refl refl refl
  where
    on : (a b c : Bool) → nat_eq i k ≡ a → nat_lt i k ≡ b → nat_lt i (k + 1) ≡ c → (if a then f k else (if b then f i else site)) ≡ (if c then f i else site)
    on true b true p q r = let e : k ≡ i = grind (arith, nat_tests) in ap f e
    on true b false p q r = absurd (grind (arith, nat_tests))
    on false true true p q r = refl
    on false true false p q r = absurd (grind (arith, nat_tests))
    on false false true p q r = absurd (grind (arith, nat_tests))
    on false false false p q r = refl

-- what stands after the words before k were looked at
pub record ReadsUpTo (g h : Graph) (index : ℕ) (s : Bool) (words : List ℕ) (site k t : ℕ) : Type 0 where
  pub adds : Adds g h (width_in g site) (λ v. word_read (λ j. (v.term (slice_index words j)).value) k (v.term site).value (number s (width_in g index) (v.term index).value)) (k * (4 * width_in g index + 3 * width_in g site)) (3 * k) t
  pub proper : IsGraph h

pub reads_none : (g : Graph) (index : ℕ) (s : Bool) (words : List ℕ) (site : ℕ) → IsGraph g → site < length g.terms → ReadsUpTo g g index s words site 0 site
reads_none g index s words site proper sl = record {
  adds = record {
    grown = λ v r. r;
    value = λ v r. ap (λ k. word k (v.term site).value) (words_of_terms v g proper r site sl).1 ∙ ap (word (width_in g site)) (none (λ j. (v.term (slice_index words j)).value) (v.term site).value (number s (width_in g index) (v.term index).value));
    typed = typed_same g site sl;
    vars = refl;
    cost = omega arith;
    count = omega arith;
  };
  proper = proper;
}
  where
    none : (f : ℕ → ℕ) (site : ℕ) (z : ℤ) → site ≡ word_read f 0 site z
    none f site (pos i) = grind (arith, nat_tests)
    none f site (negsuc i) = refl

pub reads_more : (g h i : Graph) (index : ℕ) (s : Bool) (words : List ℕ) (site k t word_at u : ℕ) → index < length g.terms → word_at < length g.terms → width_in g word_at ≡ width_in g site → word_at ≡ slice_index words k → ReadsUpTo g h index s words site k t → IsGraph i →
    Adds h i (width_in h word_at) (λ v. found_then s (width_in h index) (v.term index).value k (v.term t).value (v.term word_at).value) (4 * width_in h index + 3 * width_in h word_at) 3 u → ReadsUpTo g i index s words site (k + 1) u
reads_more g h i index s words site k t word_at u il wl w is p proper q =
    let a = p.adds in
    let wi : width_in h index ≡ width_in g index = a.typed.kept index il in
    let ww : width_in h word_at ≡ width_in g site = a.typed.kept word_at wl ∙ w in
    let c = chain g h i (width_in g site) (width_in h word_at) (k * (4 * width_in g index + 3 * width_in g site)) (4 * width_in h index + 3 * width_in h word_at) (3 * k) 3 t u _ _ (λ v. word_read (λ j. (v.term (slice_index words j)).value) (k + 1) (v.term site).value (number s (width_in g index) (v.term index).value)) a q
    (λ v e.
    ap (λ w. found_then s w (v.term index).value k (v.term t).value (v.term word_at).value) wi
    ∙ ap (λ x. found_then s (width_in g index) (v.term index).value k x (v.term word_at).value) (value_of g h _ _ _ t _ a v (q.grown v e))
    ∙ ap (λ y. found_then s (width_in g index) (v.term index).value k (word_read (λ j. (v.term (slice_index words j)).value) k (v.term site).value (number s (width_in g index) (v.term index).value)) (v.term y).value) is
    ∙ more_read (λ j. (v.term (slice_index words j)).value) k (v.term site).value (number s (width_in g index) (v.term index).value)) in
    record {
      adds = weaken g i (width_in h word_at) (width_in g site) _ ((k + 1) * (4 * width_in g index + 3 * width_in g site)) _ (3 * (k + 1)) u _ c ww
          (let one : (k + 1) * (4 * width_in g index + 3 * width_in g site) ≡ k * (4 * width_in g index + 3 * width_in g site) + (4 * width_in g index + 3 * width_in g site) = ap (λ n. n * (4 * width_in g index + 3 * width_in g site)) (let e : k + 1 ≡ suc k = omega arith in e) ∙ suc-mul k (4 * width_in g index + 3 * width_in g site) in omega (arith, one, wi, ww))
          (omega arith);
      proper = proper;
    }

product_le : (k a b : ℕ) → a ≤ 8 * b → k * a ≤ 8 * (k * b)
product_le k a b h = let l = mul-le-mul_left k h in let e : k * (8 * b) ≡ 8 * (k * b) = grind arith in omega (arith, l, e)

-- the row alone pays for the chain
pub read_all : (g h : Graph) (index : ℕ) (s : Bool) (words : List ℕ) (site k t : ℕ) → ReadsUpTo g h index s words site k t →
    Adds g h (width_in g site) (λ v. word_read (λ j. (v.term (slice_index words j)).value) k (v.term site).value (number s (width_in g index) (v.term index).value)) (8 * (word_row true k (width_in g site) (width_in g index) + node)) (3 * k) t
read_all g h index s words site k t p =
    let l = product_le k (4 * width_in g index + 3 * width_in g site) (width_in g index + 2 * width_in g site) (omega arith) in
    weaken g h (width_in g site) (width_in g site) _ _ _ (3 * k) t _ p.adds refl (omega (arith, l)) (omega arith)
