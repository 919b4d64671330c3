-- Each form of expression, by the terms of its parts.
use Rattle.std.proofs.Common.{◌≡◌, ℕ, ◌+◌, ◌-◌, ◌*◌, ◌<◌, ◌≤◌, List, [], ◌++◌, Bool, true, false, length, refl, sym, ap, ◌∙◌, subst, arith, append_assoc}
use Rattle.std.specs.Prelude.{if◌then◌else◌}
use Rattle.bits_core.specs.Word.{resized}
use Rattle.flat_tree.specs.Measures.{unary_row, binary_row, left_width, right_width}
use Rattle.flat_tree.specs.Operators.{Form, InContext, Dividing, Comparing, Logical, Shifting, form_of, truth, binary_value, is_reduction, unary_value}
use Rattle.flat_tree.specs.Values.{World, Meant, count, unary_meant, reduced_by, kept_by, binary_by, binary_meant, conditional, cast, own_sites}
use Rattle.operand_contexts.specs.Contexts.{left_sign, right_sign, unary_combined}
use Rattle.site_terms.specs.Sizes.{Makes}
use Rattle.site_terms.proofs.Linking.{made_value, made_vars, of_adds, link, link_adds, loosen}
use Rattle.sized_expressions.proofs.Counts.{most_one, most_two, most_three, most_same, behind, behind_is, next_number}
use Rattle.sized_expressions.specs.Operated.{own_site, own_width, own_number, operated}
use Rattle.row_terms.specs.Rows.{most_terms}
use Rattle.sized_expressions.specs.Sized.{world_in, IsSized}
use Rattle.src_text.specs.declared.refusal.Place.{Place}
use Rattle.term_steps.specs.Adds.{Adds}
use Rattle.v_tree.specs.declared.expr.BinaryOp.{BinaryOp}
use Rattle.v_tree.specs.declared.expr.UnaryOp.{UnaryOp}
use Rattle.word_eqs.specs.declared.term.TermId.{TermId}
use Rattle.word_eqs.specs.Graph.{Graph, IsTyped, width_in}
use Rattle.word_eqs.specs.Meaning.{Values, Respects}

-- what an operator means, by what its parts do
unary_sites : (op : UnaryOp) (a : Meant) (w : ℕ) → a.sites (if is_reduction op then a.length else w) ≡ (unary_meant op a).sites w
unary_sites op a w = pick (is_reduction op)
  where
    pick : (c : Bool) → a.sites (if c then a.length else w) ≡ (if c then reduced_by (unary_value op) a else kept_by (unary_value op) a).sites w
    pick true = refl
    pick false = refl

unary_is : (op : UnaryOp) (a : Meant) (X : World) (w : ℕ) (s : Bool) (k : ℕ) →
    unary_combined op (if is_reduction op then a.length else w) w s (a.value X (if is_reduction op then a.length else w) (if is_reduction op then a.signed else s) k) ≡ (unary_meant op a).value X w s k
unary_is op a X w s k = pick (is_reduction op)
  where
    pick : (c : Bool) →
        (if c then resized w s 1 (unary_value op (if c then a.length else w) (a.value X (if c then a.length else w) (if c then a.signed else s) k)) else unary_value op (if c then a.length else w) (a.value X (if c then a.length else w) (if c then a.signed else s) k))
        ≡ (if c then reduced_by (unary_value op) a else kept_by (unary_value op) a).value X w s k
    pick true = refl
    pick false = refl

sites_by : (f : Form) (p : Place) (F : ℕ → Bool → ℕ → ℕ → ℕ) (a b : Meant) (w : ℕ) →
    a.sites (left_width f w a.length b.length) ++ (own_site f p w ++ b.sites (right_width f w a.length b.length)) ≡ (binary_by f p F a b).sites w
sites_by InContext p F a b w = refl
sites_by Dividing p F a b w = refl
sites_by Comparing p F a b w = refl
sites_by Logical p F a b w = refl
sites_by Shifting p F a b w = refl

pub binary_sites : (op : BinaryOp) (p : Place) (a b : Meant) (w : ℕ) →
    a.sites (left_width (form_of op) w a.length b.length) ++ (own_site (form_of op) p w ++ b.sites (right_width (form_of op) w a.length b.length)) ≡ (binary_meant p op a b).sites w
binary_sites op p a b w = sites_by (form_of op) p (binary_value op) a b w

pub one_site : (op : UnaryOp) (a : Meant) (w : ℕ) → a.sites (if is_reduction op then a.length else w) ≡ (unary_meant op a).sites w
one_site op a w = unary_sites op a w

value_by : (f : Form) (p : Place) (F : ℕ → Bool → ℕ → ℕ → ℕ) (a b : Meant) (X : World) (w : ℕ) (s : Bool) (k other : ℕ) →
    operated f F (left_width f w a.length b.length) (left_sign f s a.signed b.signed) w s
    (a.value X (left_width f w a.length b.length) (left_sign f s a.signed b.signed) k)
    (own_number f X.unknown w (k + count a (left_width f w a.length b.length)) other)
    (b.value X (right_width f w a.length b.length) (right_sign f s a.signed b.signed) (behind f w (k + count a (left_width f w a.length b.length))))
    ≡ (binary_by f p F a b).value X w s k
value_by InContext p F a b X w s k other = refl
value_by Dividing p F a b X w s k other = refl
value_by Comparing p F a b X w s k other = refl
value_by Logical p F a b X w s k other = refl
value_by Shifting p F a b X w s k other = refl

module _ (starts : List ℕ) (words : List TermId) where
  pub typed_of : (m : Meant) (w : ℕ) (s : Bool) (n k : ℕ) (g h : Graph) (t : ℕ) → IsSized starts words m w s n k g h t → IsTyped g h w t
  typed_of m w s n k g h t p = (p 0 (omega arith)).typed

  pub vars_of : (m : Meant) (w : ℕ) (s : Bool) (n k : ℕ) (g h : Graph) (t : ℕ) → IsSized starts words m w s n k g h t → length h.vars ≡ length g.vars + length (m.sites w)
  vars_of m w s n k g h t p = made_vars g h (m.sites w) w _ _ t _ (p 0 (omega arith))

  pub terms_of : (m : Meant) (w : ℕ) (s : Bool) (n k : ℕ) (g h : Graph) (t : ℕ) → IsSized starts words m w s n k g h t → length h.terms ≤ length g.terms + most_terms n k
  terms_of m w s n k g h t p = (p 0 (omega arith)).count

  -- the same said otherwise
  pub restated : (m l : Meant) (w : ℕ) (s : Bool) (n p k q : ℕ) (g h : Graph) (t : ℕ) → IsSized starts words m w s n k g h t → l ≡ m → p ≡ n → q ≡ k → IsSized starts words l w s p q g h t
  restated m l w s n p k q g h t a e f d =
      subst (λ (x : Meant). IsSized starts words x w s p q g h t) (sym e) (subst (λ x. IsSized starts words m w s x q g h t) (sym f) (subst (λ x. IsSized starts words m w s n x g h t) (sym d) a))

  -- one node more that stands for the same
  pub one_more : (m : Meant) (w : ℕ) (s : Bool) (n k : ℕ) (g h : Graph) (t : ℕ) → IsSized starts words m w s n k g h t → IsSized starts words m w s n (1 + k) g h t
  one_more m w s n k g h t p = λ reads le. loosen g h _ _ w w _ _ _ _ t _ _ (p reads le) refl refl (λ v r. refl) (omega arith) (most_same n k (1 + k) (omega arith))

  -- what has no sites
  pub leaf_sized : (m : Meant) (w : ℕ) (s : Bool) (n k c : ℕ) (g h : Graph) (t : ℕ) (f : Values → ℕ) → Adds g h w f 0 c t → [] ≡ m.sites w →
      ((reads : ℕ) (v : Values) → Respects v h → f v ≡ m.value (world_in starts words reads v) w s (length g.vars - reads)) → c ≤ most_terms n k → IsSized starts words m w s n k g h t
  leaf_sized m w s n k c g h t f a sites eq few = λ reads le.
      loosen g h [] (m.sites w) w w 0 (8 * n) c (most_terms n k) t f (λ v. m.value (world_in starts words reads v) w s (length g.vars - reads))
      (of_adds g h w 0 c t f a) sites refl (λ v r. eq reads v r) (omega arith) few

  pub unary_sized : (op : UnaryOp) (a : Meant) (w : ℕ) (s : Bool) (n k : ℕ) (g h j : Graph) (x t : ℕ) →
      IsSized starts words a (if is_reduction op then a.length else w) (if is_reduction op then a.signed else s) n k g h x →
      Adds h j w (λ v. unary_combined op (width_in h x) w s (v.term x).value) (8 * unary_row op (width_in h x)) 3 t →
      IsSized starts words (unary_meant op a) w s (n + unary_row op (if is_reduction op then a.length else w) + 4) (1 + k) g j t
  unary_sized op a w s n k g h j x t p q = λ reads le.
      let u = if is_reduction op then a.length else w in
      let y = if is_reduction op then a.signed else s in
      let first = length g.vars - reads in
      let f : Values → ℕ = λ v. a.value (world_in starts words reads v) u y first in
      let m = p reads le in
      let row = ap (unary_row op) m.typed.width in
      loosen g j (a.sites u) ((unary_meant op a).sites w) w w (8 * n + 8 * unary_row op (width_in h x)) (8 * (n + unary_row op u + 4)) (most_terms n k + 3) (most_terms (n + unary_row op u + 4) (1 + k)) t
      (λ v. unary_combined op u w s (f v)) (λ v. (unary_meant op a).value (world_in starts words reads v) w s first)
      (link_adds g h j (a.sites u) u w (8 * n) (8 * unary_row op (width_in h x)) (most_terms n k) 3 x t f (λ v. unary_combined op (width_in h x) w s (v.term x).value) (λ v. unary_combined op u w s (f v)) m q
      (λ v r. ap (λ z. unary_combined op z w s (v.term x).value) m.typed.width ∙ ap (unary_combined op u w s) (made_value g h (a.sites u) u (8 * n) (most_terms n k) x f m v (q.grown v r))))
      (unary_sites op a w) refl (λ v r. unary_is op a (world_in starts words reads v) w s first)
      (omega (arith, row)) (most_one n k _ _ 3 (omega arith) (omega arith) (omega arith))

  pub cast_sized : (u : Bool) (a : Meant) (w : ℕ) (s : Bool) (n k : ℕ) (g h j : Graph) (x t : ℕ) →
      IsSized starts words a a.length a.signed n k g h x → Adds h j w (λ v. resized w s (width_in h x) (v.term x).value) 0 1 t →
      IsSized starts words (cast u a) w s (n + 4) (1 + k) g j t
  cast_sized u a w s n k g h j x t p q = λ reads le.
      let first = length g.vars - reads in
      let f : Values → ℕ = λ v. a.value (world_in starts words reads v) a.length a.signed first in
      let m = p reads le in
      loosen g j (a.sites a.length) (a.sites a.length) w w (8 * n + 0) (8 * (n + 4)) (most_terms n k + 1) (most_terms (n + 4) (1 + k)) t
      (λ v. resized w s a.length (f v)) (λ v. resized w s a.length (f v))
      (link_adds g h j (a.sites a.length) a.length w (8 * n) 0 (most_terms n k) 1 x t f (λ v. resized w s (width_in h x) (v.term x).value) (λ v. resized w s a.length (f v)) m q
      (λ v r. ap (λ z. resized w s z (v.term x).value) m.typed.width ∙ ap (resized w s a.length) (made_value g h (a.sites a.length) a.length (8 * n) (most_terms n k) x f m v (q.grown v r))))
      refl refl (λ v r. refl)
      (omega arith) (most_one n k _ _ 1 (omega arith) (omega arith) (omega arith))

  pub binary_sized : (op : BinaryOp) (place : Place) (a b : Meant) (w : ℕ) (s both : Bool) (n k o l : ℕ) (g h i j z : Graph) (x c y t : ℕ) →
      both ≡ left_sign (form_of op) s a.signed b.signed →
      IsSized starts words a (left_width (form_of op) w a.length b.length) (left_sign (form_of op) s a.signed b.signed) n k g h x →
      ((p : Place) (reads : ℕ) → reads ≤ length h.vars → Makes h i (own_site (form_of op) p w) (own_width (form_of op) w (width_in h x)) (λ v. own_number (form_of op) (λ d. (v.var (reads + d)).value) w (length h.vars - reads) (v.term x).value) 0 3 c) →
      IsSized starts words b (right_width (form_of op) w a.length b.length) (right_sign (form_of op) s a.signed b.signed) o l i j y →
      Adds j z w (λ v. operated (form_of op) (binary_value op) (width_in j x) both w s (v.term x).value (v.term c).value (v.term y).value) (8 * binary_row op (width_in j x) (width_in j y)) 4 t →
      IsSized starts words (binary_meant place op a b) w s (n + o + binary_row op (left_width (form_of op) w a.length b.length) (right_width (form_of op) w a.length b.length) + 4) (1 + (k + l)) g z t
  binary_sized op place a b w s both n k o l g h i j z x c y t same p site q last = λ reads le.
      let form = form_of op in
      let u = left_width form w a.length b.length in
      let d = right_width form w a.length b.length in
      let us = left_sign form s a.signed b.signed in
      let ds = right_sign form s a.signed b.signed in
      let W : Values → World = world_in starts words reads in
      let first = length g.vars - reads in
      let f : Values → ℕ = λ v. a.value (W v) u us first in
      let m1 = p reads le in
      let v1 = made_vars g h (a.sites u) u (8 * n) (most_terms n k) x f m1 in
      let le1 : reads ≤ length h.vars = omega (arith, v1) in
      let m2 = site place reads le1 in
      let e2 : Values → ℕ = λ v. own_number form (λ d. (v.var (reads + d)).value) w (length h.vars - reads) (v.term x).value in
      let v2 = made_vars h i (own_site form place w) (own_width form w (width_in h x)) 0 3 c e2 m2 in
      let le2 : reads ≤ length i.vars = omega (arith, v2) in
      let m3 = q reads le2 in
      let e3 : Values → ℕ = λ v. b.value (W v) d ds (length i.vars - reads) in
      let at1 : length h.vars - reads ≡ first + count a u = next_number (length g.vars) reads (length h.vars) (count a u) le v1 in
      let at2 : length i.vars - reads ≡ behind form w (first + count a u) =
      next_number (length h.vars) reads (length i.vars) (length (own_site form place w)) le1 v2 ∙ ap (λ e. e + length (own_site form place w)) at1 ∙ behind_is form place w (first + count a u) in
      let l2 = m2.typed.longer in
      let there : x < length i.terms = let xt = m1.typed.there in omega (arith, l2, xt) in
      let wx : width_in j x ≡ u = m3.typed.kept x there ∙ m2.typed.kept x m1.typed.there ∙ m1.typed.width in
      let row : binary_row op (width_in j x) (width_in j y) ≡ binary_row op u d = ap (λ e. binary_row op e (width_in j y)) wx ∙ ap (binary_row op u) m3.typed.width in
      let K : Values → ℕ = λ v. (binary_meant place op a b).value (W v) w s first in
      let two = link g h i (a.sites u) (own_site form place w) u (own_width form w (width_in h x)) (8 * n) 0 (most_terms n k) 3 x c f e2 e2 m1 m2 (λ v r. refl) in
      let three = link g i j (a.sites u ++ own_site form place w) (b.sites d) (own_width form w (width_in h x)) d (8 * n + 0) (8 * o) (most_terms n k + 3) (most_terms o l) c y e2 e3 e3 two m3 (λ v r. refl) in
      let all = link_adds g j z ((a.sites u ++ own_site form place w) ++ b.sites d) d w (8 * n + 0 + 8 * o) (8 * binary_row op (width_in j x) (width_in j y)) (most_terms n k + 3 + most_terms o l) 4 y t e3
      (λ v. operated form (binary_value op) (width_in j x) both w s (v.term x).value (v.term c).value (v.term y).value) K three last
      (λ v r.
      let rj = last.grown v r in
      let ri = m3.grown v rj in
      let ex = made_value g h (a.sites u) u (8 * n) (most_terms n k) x f m1 v (m2.grown v ri) in
      let ec = made_value h i (own_site form place w) (own_width form w (width_in h x)) 0 3 c e2 m2 v ri in
      let ey = made_value i j (b.sites d) d (8 * o) (most_terms o l) y e3 m3 v rj in
      ap (λ e. operated form (binary_value op) e both w s (v.term x).value (v.term c).value (v.term y).value) wx
      ∙ ap (λ e. operated form (binary_value op) u e w s (v.term x).value (v.term c).value (v.term y).value) same
      ∙ ap (λ e. operated form (binary_value op) u us w s (v.term x).value e (v.term y).value) ec
      ∙ ap (λ e. operated form (binary_value op) u us w s (v.term x).value (own_number form (λ d. (v.var (reads + d)).value) w e (v.term x).value) (v.term y).value) at1
      ∙ ap (λ e. operated form (binary_value op) u us w s (v.term x).value (own_number form (λ d. (v.var (reads + d)).value) w (first + count a u) (v.term x).value) e) ey
      ∙ ap (λ e. operated form (binary_value op) u us w s (v.term x).value (own_number form (λ d. (v.var (reads + d)).value) w (first + count a u) (v.term x).value) (b.value (W v) d ds e)) at2
      ∙ ap (λ e. operated form (binary_value op) u us w s e (own_number form (λ d. (v.var (reads + d)).value) w (first + count a u) (v.term x).value) (b.value (W v) d ds (behind form w (first + count a u)))) ex
      ∙ value_by form place (binary_value op) a b (W v) w s first (v.term x).value) in
      loosen g z ((a.sites u ++ own_site form place w) ++ b.sites d) ((binary_meant place op a b).sites w) w w _ (8 * (n + o + binary_row op u d + 4)) _ (most_terms (n + o + binary_row op u d + 4) (1 + (k + l))) t K K all
      (append_assoc (a.sites u) (own_site form place w) (b.sites d) ∙ binary_sites op place a b w) refl (λ v r. refl)
      (omega (arith, row)) (let bound = most_two n o k l (n + o + binary_row op u d + 4) (1 + (k + l)) 7 (omega arith) (omega arith) (omega arith) in omega (arith, bound))

  pub conditional_sized : (c a b : Meant) (w : ℕ) (s : Bool) (n k o l p q : ℕ) (g h i j z : Graph) (x y u t : ℕ) →
      IsSized starts words c c.length c.signed n k g h x → IsSized starts words a w s o l h i y → IsSized starts words b w s p q i j u →
      Adds j z (width_in j y) (λ v. if truth (v.term x).value then (v.term y).value else (v.term u).value) (3 * width_in j x + 3 * width_in j y) 2 t →
      IsSized starts words (conditional c a b) w s (n + (o + p) + (3 * w + c.length) + 4) (1 + (k + (l + q))) g z t
  conditional_sized c a b w s n k o l p q g h i j z x y u t pc pa pb last = λ reads le.
      let W : Values → World = world_in starts words reads in
      let first = length g.vars - reads in
      let f : Values → ℕ = λ v. c.value (W v) c.length c.signed first in
      let m1 = pc reads le in
      let v1 = made_vars g h (own_sites c) c.length (8 * n) (most_terms n k) x f m1 in
      let le1 : reads ≤ length h.vars = omega (arith, v1) in
      let m2 = pa reads le1 in
      let e2 : Values → ℕ = λ v. a.value (W v) w s (length h.vars - reads) in
      let v2 = made_vars h i (a.sites w) w (8 * o) (most_terms o l) y e2 m2 in
      let le2 : reads ≤ length i.vars = omega (arith, v2) in
      let m3 = pb reads le2 in
      let e3 : Values → ℕ = λ v. b.value (W v) w s (length i.vars - reads) in
      let at1 : length h.vars - reads ≡ first + length (own_sites c) = next_number (length g.vars) reads (length h.vars) (length (own_sites c)) le v1 in
      let at2 : length i.vars - reads ≡ first + length (own_sites c) + count a w = next_number (length h.vars) reads (length i.vars) (count a w) le1 v2 ∙ ap (λ e. e + count a w) at1 in
      let l2 = m2.typed.longer in
      let there : x < length i.terms = let xt = m1.typed.there in omega (arith, l2, xt) in
      let wx : width_in j x ≡ c.length = m3.typed.kept x there ∙ m2.typed.kept x m1.typed.there ∙ m1.typed.width in
      let wy : width_in j y ≡ w = m3.typed.kept y m2.typed.there ∙ m2.typed.width in
      let K : Values → ℕ = λ v. (conditional c a b).value (W v) w s first in
      let two = link g h i (own_sites c) (a.sites w) c.length w (8 * n) (8 * o) (most_terms n k) (most_terms o l) x y f e2 e2 m1 m2 (λ v r. refl) in
      let three = link g i j (own_sites c ++ a.sites w) (b.sites w) w w (8 * n + 8 * o) (8 * p) (most_terms n k + most_terms o l) (most_terms p q) y u e2 e3 e3 two m3 (λ v r. refl) in
      let all = link_adds g j z ((own_sites c ++ a.sites w) ++ b.sites w) w (width_in j y) (8 * n + 8 * o + 8 * p) (3 * width_in j x + 3 * width_in j y) (most_terms n k + most_terms o l + most_terms p q) 2 u t e3
      (λ v. if truth (v.term x).value then (v.term y).value else (v.term u).value) K three last
      (λ v r.
      let rj = last.grown v r in
      let ri = m3.grown v rj in
      let ex = made_value g h (own_sites c) c.length (8 * n) (most_terms n k) x f m1 v (m2.grown v ri) in
      let ey = made_value h i (a.sites w) w (8 * o) (most_terms o l) y e2 m2 v ri in
      let eu = made_value i j (b.sites w) w (8 * p) (most_terms p q) u e3 m3 v rj in
      ap (λ e. if truth e then (v.term y).value else (v.term u).value) ex
      ∙ ap (λ e. if truth (f v) then e else (v.term u).value) (ey ∙ ap (λ e. a.value (W v) w s e) at1)
      ∙ ap (λ e. if truth (f v) then a.value (W v) w s (first + length (own_sites c)) else e) (eu ∙ ap (λ e. b.value (W v) w s e) at2)) in
      loosen g z ((own_sites c ++ a.sites w) ++ b.sites w) ((conditional c a b).sites w) (width_in j y) w _ (8 * (n + (o + p) + (3 * w + c.length) + 4)) _ (most_terms (n + (o + p) + (3 * w + c.length) + 4) (1 + (k + (l + q)))) t K K all
      (append_assoc (own_sites c) (a.sites w) (b.sites w)) wy (λ v r. refl)
      (omega (arith, wx, wy)) (let bound = most_three n o p k l q (n + (o + p) + (3 * w + c.length) + 4) (1 + (k + (l + q))) 2 (omega arith) (omega arith) (omega arith) in omega (arith, bound))
