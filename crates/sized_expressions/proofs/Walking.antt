-- What a walk has made of an expression, form by form.
use Rattle.std.proofs.Common.{◌≡◌, ℕ, ◌+◌, ◌-◌, ◌*◌, ◌<◌, ◌≤◌, List, [], Bool, true, false, length, refl, sym, ap, ◌∙◌, subst, arith}
use Rattle.std.specs.Prelude.{if◌then◌else◌}
use Rattle.bits_core.specs.Word.{Word, IsWidth, resized}
use Rattle.flat_tree.specs.declared.design.FlatSignal.{FlatSignal}
use Rattle.flat_tree.specs.declared.expr.FlatExpr.{FlatExpr, Literal, Signal, Select, SelectNumber, Unary, Binary, Conditional, Parentheses, Signed, Unsigned}
use Rattle.flat_tree.specs.declared.expr.FlatSelection.{FlatSelection}
use Rattle.flat_tree.specs.declared.expr.Number.{Number}
use Rattle.flat_tree.specs.declared.expr.PlacedSite.{PlacedSite}
use Rattle.flat_tree.specs.Measures.{nodes_of, weight_of, select_nodes, select_weight, number_weight, index_nodes, unary_row, binary_row, left_width, right_width}
use Rattle.flat_tree.specs.Operators.{form_of, truth, binary_value, is_reduction}
use Rattle.flat_tree.specs.Values.{meant, sites_of, site_at, numbers_of, select_meant, number_meant, literal, length_of, is_signed}
use Rattle.flat_values.specs.Fits.{shapes_of}
use Rattle.flat_values.proofs.Nodes.{meant-unary, weight-unary, nodes-unary, meant-binary, weight-binary, nodes-binary, meant-conditional, weight-conditional, nodes-conditional, meant-parentheses, weight-parentheses, nodes-parentheses, meant-signed, weight-signed, nodes-signed, meant-unsigned, weight-unsigned, nodes-unsigned}
use Rattle.operand_contexts.specs.Contexts.{has_site, left_sign, right_sign, unary_combined}
use Rattle.site_terms.specs.Sizes.{Makes}
use Rattle.site_terms.proofs.Linking.{made_vars}
use Rattle.sized_expressions.proofs.Counts.{most_leaf, most_nodes, site_length}
use Rattle.sized_expressions.proofs.Forms.{vars_of, restated, one_more, leaf_sized, unary_sized, binary_sized, conditional_sized, cast_sized}
use Rattle.sized_expressions.proofs.Starting.{at_context, ready_grown, binary_ready, binary_sum, conditional_ready, conditional_sum}
use Rattle.sized_expressions.specs.Operated.{own_site, own_width, own_number, operated}
use Rattle.sized_expressions.specs.Sized.{place_in, IsKnown, IsReady, MaySize, IsSized, IsTermOf}
use Rattle.src_text.specs.declared.refusal.Place.{Place}
use Rattle.term_steps.specs.Adds.{Adds}
use Rattle.v_tree.specs.declared.expr.BinaryOperator.{BinaryOperator}
use Rattle.v_tree.specs.declared.expr.UnaryOperator.{UnaryOperator}
use Rattle.word_eqs.specs.declared.term.TermId.{TermId}
use Rattle.word_eqs.specs.Graph.{Graph, IsTyped, width_in, MOST_TERMS}

pub context_width : (b : Bool) (l w : ℕ) → IsWidth l → IsWidth w → IsWidth (if b then l else w)
context_width true l w p q = p
context_width false l w p q = q

abbrev any : ℕ → Type 0
any k = Unit {0}

pub unary_width : (b : Bool) (x l w : ℕ) → x ≡ (if b then l else w) → (if b then x else w) ≡ x
unary_width true x l w p = refl
unary_width false x l w p = sym p

-- terms that were added one after another
pub three_there : (g h i j : Graph) (u k d x c y : ℕ) → IsTyped g h u x → IsTyped h i k c → IsTyped i j d y →
    (x < length j.terms) × (c < length j.terms) × (y < length j.terms) × (width_in j x ≡ u) × (width_in j c ≡ k) × (width_in j y ≡ d)
three_there g h i j u k d x c y p q r =
    let a = p.there in
    let b = q.there in
    let l = q.longer in
    let m = r.longer in
    let here : x < length i.terms = omega (arith, a, l) in (omega (arith, a, l, m), omega (arith, b, m), r.there, r.kept x here ∙ q.kept x a ∙ p.width, r.kept c b ∙ q.width, r.width)

pub own_is : (b : Bool) (w n : ℕ) → b ≡ true → (if b then w else n) ≡ w
own_is b w n e = ap (λ c. if c then w else n) e

module _ (signals : List FlatSignal) (starts : List ℕ) (words : List TermId) where
  pub name_known : (g : Graph) (e : FlatExpr) (p : Place) (k w : ℕ) → e ≡ Signal p k → MaySize signals starts words g e w → IsKnown (length signals) (shapes_of signals) starts words g k
  name_known g e p k w is m = (subst (IsReady signals starts words g) is m.fits).0

  pub term_there : (e : FlatExpr) (w : ℕ) (s : Bool) (g h : Graph) (t : ℕ) → IsTermOf signals starts words e w s g h t → IsTyped g h w t
  term_there e w s g h t p = (p 0 (omega arith)).typed

  pub term_count : (e : FlatExpr) (w : ℕ) (s : Bool) (g h : Graph) (t : ℕ) → IsTermOf signals starts words e w s g h t → length h.terms ≤ length g.terms + 32 * nodes_of (shapes_of signals) e
  term_count e w s g h t p = let a = (p 0 (omega arith)).count in let b = most_nodes (weight_of (shapes_of signals) e w) (nodes_of (shapes_of signals) e) in omega (arith, a, b)

  pub term_vars : (e : FlatExpr) (w : ℕ) (s : Bool) (g h : Graph) (t : ℕ) → IsTermOf signals starts words e w s g h t → length h.vars ≡ length g.vars + length (sites_of (shapes_of signals) e w)
  term_vars e w s g h t p = vars_of starts words (meant (shapes_of signals) e) w s (weight_of (shapes_of signals) e w) (nodes_of (shapes_of signals) e) g h t p

  pub unary_room : (g h : Graph) (e a got : FlatExpr) (o : UnaryOperator) (w u : ℕ) (r : Bool) (x : ℕ) → MaySize signals starts words g e w → e ≡ Unary o a → got ≡ a → IsTermOf signals starts words got u r g h x → length h.terms + 32 ≤ MOST_TERMS
  unary_room g h e a got o w u r x m is same p = let n = nodes-unary any (Unit {0}) (Unit {0}) (shapes_of signals) o a got is same in let room = m.room in let l = term_count got u r g h x p in omega (arith, n, room, l)

  pub signed_room : (g h : Graph) (e a got : FlatExpr) (o : Place) (w u : ℕ) (r : Bool) (x : ℕ) → MaySize signals starts words g e w → e ≡ Signed o a → got ≡ a → IsTermOf signals starts words got u r g h x → length h.terms + 32 ≤ MOST_TERMS
  signed_room g h e a got o w u r x m is same p = let n = nodes-signed any (Unit {0}) (Unit {0}) (shapes_of signals) o a got is same in let room = m.room in let l = term_count got u r g h x p in omega (arith, n, room, l)

  pub unsigned_room : (g h : Graph) (e a got : FlatExpr) (o : Place) (w u : ℕ) (r : Bool) (x : ℕ) → MaySize signals starts words g e w → e ≡ Unsigned o a → got ≡ a → IsTermOf signals starts words got u r g h x → length h.terms + 32 ≤ MOST_TERMS
  unsigned_room g h e a got o w u r x m is same p = let n = nodes-unsigned any (Unit {0}) (Unit {0}) (shapes_of signals) o a got is same in let room = m.room in let l = term_count got u r g h x p in omega (arith, n, room, l)

  pub left_room : (g h : Graph) (e a got b more : FlatExpr) (o : BinaryOperator) (w u : ℕ) (us : Bool) (x : ℕ) → MaySize signals starts words g e w → e ≡ Binary a o b → got ≡ a → more ≡ b → IsTermOf signals starts words got u us g h x → length h.terms + 32 ≤ MOST_TERMS
  left_room g h e a got b more o w u us x m is sa sb p = let room = (binary_sum signals starts words g e a got b more o w m is sa sb).1 in let l = term_count got u us g h x p in omega (arith, room, l)

  pub right_room : (g h i j : Graph) (e a got b more : FlatExpr) (o : BinaryOperator) (w u d : ℕ) (us ds : Bool) (x y : ℕ) → MaySize signals starts words g e w → e ≡ Binary a o b → got ≡ a → more ≡ b → IsTermOf signals starts words got u us g h x → length i.terms ≤ length h.terms + 3 →
      IsTermOf signals starts words more d ds i j y → length j.terms + 4 ≤ MOST_TERMS
  right_room g h i j e a got b more o w u d us ds x y m is sa sb p few q =
      let room = (binary_sum signals starts words g e a got b more o w m is sa sb).1 in let l = term_count got u us g h x p in let k = term_count more d ds i j y q in omega (arith, room, l, k, few)

  pub branch_room : (g h i j : Graph) (e c test a got b more : FlatExpr) (w n : ℕ) (s r : Bool) (x y z : ℕ) → MaySize signals starts words g e w → e ≡ Conditional c a b → test ≡ c → got ≡ a → more ≡ b →
      IsTermOf signals starts words test n r g h x → IsTermOf signals starts words got w s h i y → IsTermOf signals starts words more w s i j z → length j.terms + 4 ≤ MOST_TERMS
  branch_room g h i j e c test a got b more w n s r x y z m is sc sa sb p q k =
      let room = (conditional_sum signals starts words g e c test a got b more w m is sc sa sb).1 in let l = term_count test n r g h x p in let o = term_count got w s h i y q in let u = term_count more w s i j z k in omega (arith, room, l, o, u)

  -- an operator's operands and its site, in turn
  pub binary_left : (g : Graph) (e a got b more : FlatExpr) (o : BinaryOperator) (w u : ℕ) → MaySize signals starts words g e w → e ≡ Binary a o b → got ≡ a → more ≡ b → IsWidth u →
      u ≡ left_width (form_of o.op) w (length_of (shapes_of signals) got) (length_of (shapes_of signals) more) → MaySize signals starts words g got u
  binary_left g e a got b more o w u m is sa sb x wide =
      let z = binary_sum signals starts words g e a got b more o w m is sa sb in
      let few = z.0 in
      let room = z.1 in
      let n = ap (λ k. length (sites_of (shapes_of signals) got k)) wide in
      record { fits = (binary_ready signals starts words g e a got b more o w m is sa sb).0; width = x; few = omega (arith, few, n); room = omega (arith, room) }

  pub binary_site : (g h : Graph) (e a got b more : FlatExpr) (o : BinaryOperator) (w u : ℕ) (us : Bool) (x : ℕ) → MaySize signals starts words g e w → e ≡ Binary a o b → got ≡ a → more ≡ b →
      u ≡ left_width (form_of o.op) w (length_of (shapes_of signals) got) (length_of (shapes_of signals) more) → IsTermOf signals starts words got u us g h x → has_site (form_of o.op) ≡ true → length h.vars + numbers_of w < MOST_TERMS
  binary_site g h e a got b more o w u us x m is sa sb wide p site =
      let few = (binary_sum signals starts words g e a got b more o w m is sa sb).0 in
      let n = ap (λ k. length (sites_of (shapes_of signals) got k)) wide in
      let v = term_vars got u us g h x p in
      let one : length (own_site (form_of o.op) o.place w) ≡ numbers_of w = ap (λ c. length {A = PlacedSite} (if c then site_at o.place w else [])) site ∙ site_length o.place w in
      omega (arith, few, n, v, one)

  pub binary_right : (g h i : Graph) (e a got b more : FlatExpr) (o : BinaryOperator) (w u d : ℕ) (us : Bool) (x c : ℕ) → MaySize signals starts words g e w → e ≡ Binary a o b → got ≡ a → more ≡ b → IsWidth d →
      u ≡ left_width (form_of o.op) w (length_of (shapes_of signals) got) (length_of (shapes_of signals) more) → d ≡ right_width (form_of o.op) w (length_of (shapes_of signals) got) (length_of (shapes_of signals) more) →
      IsTermOf signals starts words got u us g h x →
      ((p : Place) (reads : ℕ) → reads ≤ length h.vars → Makes h i (own_site (form_of o.op) p w) (own_width (form_of o.op) w (width_in h x)) (λ v. own_number (form_of o.op) (λ k. (v.var (reads + k)).value) w (length h.vars - reads) (v.term x).value) 0 3 c) →
      MaySize signals starts words i more d
  binary_right g h i e a got b more o w u d us x c m is sa sb wd wide wider p site =
      let z = binary_sum signals starts words g e a got b more o w m is sa sb in
      let few = z.0 in
      let room = z.1 in
      let n = ap (λ k. length (sites_of (shapes_of signals) got k)) wide in
      let k = ap (λ k. length (sites_of (shapes_of signals) more k)) wider in
      let v = term_vars got u us g h x p in
      let s = site o.place 0 (omega arith) in
      let y = made_vars h i (own_site (form_of o.op) o.place w) _ 0 3 c _ s in
      let l = term_count got u us g h x p in
      let r = s.count in
      record {
        fits = ready_grown signals starts words h i _ c s.typed more (ready_grown signals starts words g h u x (term_there got u us g h x p) more (binary_ready signals starts words g e a got b more o w m is sa sb).1);
        width = wd;
        few = omega (arith, few, n, k, v, y);
        room = omega (arith, room, l, r);
      }

  -- a condition and its branches, in turn
  pub test_part : (g : Graph) (e c test a got b more : FlatExpr) (w n : ℕ) → MaySize signals starts words g e w → e ≡ Conditional c a b → test ≡ c → got ≡ a → more ≡ b → IsWidth n → n ≡ (meant (shapes_of signals) test).length → MaySize signals starts words g test n
  test_part g e c test a got b more w n m is sc sa sb x wide =
      let z = conditional_sum signals starts words g e c test a got b more w m is sc sa sb in
      let few = z.0 in
      let room = z.1 in
      let k = ap (λ k. length (sites_of (shapes_of signals) test k)) wide in
      record { fits = (conditional_ready signals starts words g e c test a got b more w m is sc sa sb).0; width = x; few = omega (arith, few, k); room = omega (arith, room) }

  pub one_part : (g h : Graph) (e c test a got b more : FlatExpr) (w n : ℕ) (r : Bool) (x : ℕ) → MaySize signals starts words g e w → e ≡ Conditional c a b → test ≡ c → got ≡ a → more ≡ b → n ≡ (meant (shapes_of signals) test).length →
      IsTermOf signals starts words test n r g h x → MaySize signals starts words h got w
  one_part g h e c test a got b more w n r x m is sc sa sb wide p =
      let z = conditional_sum signals starts words g e c test a got b more w m is sc sa sb in
      let few = z.0 in
      let room = z.1 in
      let k = ap (λ k. length (sites_of (shapes_of signals) test k)) wide in
      let v = term_vars test n r g h x p in
      let l = term_count test n r g h x p in
      record {
        fits = ready_grown signals starts words g h n x (term_there test n r g h x p) got (conditional_ready signals starts words g e c test a got b more w m is sc sa sb).1;
        width = m.width;
        few = omega (arith, few, k, v);
        room = omega (arith, room, l);
      }

  pub other_part : (g h i : Graph) (e c test a got b more : FlatExpr) (w n : ℕ) (s r : Bool) (x y : ℕ) → MaySize signals starts words g e w → e ≡ Conditional c a b → test ≡ c → got ≡ a → more ≡ b → n ≡ (meant (shapes_of signals) test).length →
      IsTermOf signals starts words test n r g h x → IsTermOf signals starts words got w s h i y → MaySize signals starts words i more w
  other_part g h i e c test a got b more w n s r x y m is sc sa sb wide p q =
      let z = conditional_sum signals starts words g e c test a got b more w m is sc sa sb in
      let few = z.0 in
      let room = z.1 in
      let k = ap (λ k. length (sites_of (shapes_of signals) test k)) wide in
      let v = term_vars test n r g h x p in
      let l = term_count test n r g h x p in
      let u = term_vars got w s h i y q in
      let o = term_count got w s h i y q in
      record {
        fits = ready_grown signals starts words h i w y (term_there got w s h i y q) more (ready_grown signals starts words g h n x (term_there test n r g h x p) more (conditional_ready signals starts words g e c test a got b more w m is sc sa sb).2);
        width = m.width;
        few = omega (arith, few, k, v, u);
        room = omega (arith, room, l, o);
      }

  pub number_done : (e : FlatExpr) (n : Number) (w : ℕ) (s : Bool) (g h : Graph) (t : ℕ) → e ≡ Literal n → Adds g h w (λ v. resized w s n.word.width n.word.value) 0 1 t → IsTermOf signals starts words e w s g h t
  number_done e n w s g h t is a =
      subst (λ (x : FlatExpr). IsTermOf signals starts words x w s g h t) (sym is)
      (leaf_sized starts words (literal n.word.width n.signed n.word.value) w s 4 1 1 g h t _ a refl (λ reads v r. refl) (most_leaf 4 1 1 (omega arith) (omega arith) (omega arith)))

  pub name_done : (e : FlatExpr) (p : Place) (k w : ℕ) (s : Bool) (g h : Graph) (x t : ℕ) → e ≡ Signal p k → x ≡ place_in starts words k 0 → width_in g (place_in starts words k 0) ≡ (shapes_of signals k).bits →
      Adds g h w (λ v. resized w s (width_in g x) (v.term x).value) 0 1 t → IsTermOf signals starts words e w s g h t
  name_done e p k w s g h x t is at wide a =
      subst (λ (y : FlatExpr). IsTermOf signals starts words y w s g h t) (sym is)
      (leaf_sized starts words (meant (shapes_of signals) (Signal p k)) w s 4 1 1 g h t _ a refl
      (λ reads v r. ap (λ z. resized w s (width_in g z) (v.term z).value) at ∙ ap (λ z. resized w s z (v.term (place_in starts words k 0)).value) wide) (most_leaf 4 1 1 (omega arith) (omega arith) (omega arith)))

  pub select_done : (e : FlatExpr) (p : Place) (k : ℕ) (x : FlatSelection) (w : ℕ) (s : Bool) (g h : Graph) (t : ℕ) → e ≡ Select p k x →
      ((p : Place) → IsSized starts words (select_meant (shapes_of signals) p k x) w s (select_weight (shapes_of signals) k x + 4) (select_nodes (shapes_of signals) k x) g h t) → IsTermOf signals starts words e w s g h t
  select_done e p k x w s g h t is a = subst (λ (y : FlatExpr). IsTermOf signals starts words y w s g h t) (sym is) (a p)

  pub select_number_done : (e : FlatExpr) (p : Place) (c : Word) (low : ℕ) (x : FlatSelection) (w : ℕ) (s : Bool) (g h : Graph) (t : ℕ) → e ≡ SelectNumber p c low x →
      ((p : Place) → IsSized starts words (number_meant (shapes_of signals) p c low x) w s (number_weight (shapes_of signals) c.width low x + 4) (1 + index_nodes (shapes_of signals) x) g h t) → IsTermOf signals starts words e w s g h t
  select_number_done e p c low x w s g h t is a = subst (λ (y : FlatExpr). IsTermOf signals starts words y w s g h t) (sym is) (a p)

  pub unary_done : (e a got : FlatExpr) (o : UnaryOperator) (w u : ℕ) (s r : Bool) (g h j : Graph) (x t : ℕ) → e ≡ Unary o a → got ≡ a →
      u ≡ (if is_reduction o.op then (meant (shapes_of signals) got).length else w) → r ≡ (if is_reduction o.op then (meant (shapes_of signals) got).signed else s) → IsTermOf signals starts words got u r g h x →
      Adds h j w (λ v. unary_combined o.op (width_in h x) w s (v.term x).value) (8 * unary_row o.op (width_in h x)) 3 t → IsTermOf signals starts words e w s g j t
  unary_done e a got o w u s r g h j x t is same wide sign p q =
      let S = shapes_of signals in
      restated starts words _ (meant S e) w s _ (weight_of S e w) _ (nodes_of S e) g j t
      (unary_sized starts words o.op (meant S got) w s _ _ g h j x t (at_context signals starts words got u _ r _ g h x wide sign p) q)
      (meant-unary any (Unit {0}) (Unit {0}) S o a got is same) (weight-unary any (Unit {0}) (Unit {0}) S o a got is same w) (nodes-unary any (Unit {0}) (Unit {0}) S o a got is same)

  pub binary_done : (e a got b more : FlatExpr) (o : BinaryOperator) (w u d : ℕ) (s us ds : Bool) (g h i j z : Graph) (x c y t : ℕ) → e ≡ Binary a o b → got ≡ a → more ≡ b →
      u ≡ left_width (form_of o.op) w (length_of (shapes_of signals) got) (length_of (shapes_of signals) more) → us ≡ left_sign (form_of o.op) s (is_signed (shapes_of signals) got) (is_signed (shapes_of signals) more) →
      d ≡ right_width (form_of o.op) w (length_of (shapes_of signals) got) (length_of (shapes_of signals) more) → ds ≡ right_sign (form_of o.op) s (is_signed (shapes_of signals) got) (is_signed (shapes_of signals) more) →
      IsTermOf signals starts words got u us g h x →
      ((p : Place) (reads : ℕ) → reads ≤ length h.vars → Makes h i (own_site (form_of o.op) p w) (own_width (form_of o.op) w (width_in h x)) (λ v. own_number (form_of o.op) (λ k. (v.var (reads + k)).value) w (length h.vars - reads) (v.term x).value) 0 3 c) →
      IsTermOf signals starts words more d ds i j y →
      Adds j z w (λ v. operated (form_of o.op) (binary_value o.op) (width_in j x) us w s (v.term x).value (v.term c).value (v.term y).value) (8 * binary_row o.op (width_in j x) (width_in j y)) 4 t →
      IsTermOf signals starts words e w s g z t
  binary_done e a got b more o w u d s us ds g h i j z x c y t is sa sb wu su wd sd p site q last =
      let S = shapes_of signals in
      restated starts words _ (meant S e) w s _ (weight_of S e w) _ (nodes_of S e) g z t
      (binary_sized starts words o.op o.place (meant S got) (meant S more) w s us _ _ _ _ g h i j z x c y t su (at_context signals starts words got u _ us _ g h x wu su p) site (at_context signals starts words more d _ ds _ i j y wd sd q) last)
      (meant-binary any (Unit {0}) (Unit {0}) S o a got b more is sa sb) (weight-binary any (Unit {0}) (Unit {0}) S o a got b more is sa sb w) (nodes-binary any (Unit {0}) (Unit {0}) S o a got b more is sa sb)

  pub conditional_done : (e c test a got b more : FlatExpr) (w n : ℕ) (s r : Bool) (g h i j z : Graph) (x y u t : ℕ) → e ≡ Conditional c a b → test ≡ c → got ≡ a → more ≡ b →
      n ≡ (meant (shapes_of signals) test).length → r ≡ (meant (shapes_of signals) test).signed →
      IsTermOf signals starts words test n r g h x → IsTermOf signals starts words got w s h i y → IsTermOf signals starts words more w s i j u →
      Adds j z (width_in j y) (λ v. if truth (v.term x).value then (v.term y).value else (v.term u).value) (3 * width_in j x + 3 * width_in j y) 2 t → IsTermOf signals starts words e w s g z t
  conditional_done e c test a got b more w n s r g h i j z x y u t is sc sa sb wide sign p q k last =
      let S = shapes_of signals in
      restated starts words _ (meant S e) w s _ (weight_of S e w) _ (nodes_of S e) g z t
      (conditional_sized starts words (meant S test) (meant S got) (meant S more) w s _ _ _ _ _ _ g h i j z x y u t (at_context signals starts words test n _ r _ g h x wide sign p) q k last)
      (meant-conditional any (Unit {0}) (Unit {0}) S c test a got b more is sc sa sb) (weight-conditional any (Unit {0}) (Unit {0}) S c test a got b more is sc sa sb w) (nodes-conditional any (Unit {0}) (Unit {0}) S c test a got b more is sc sa sb)

  pub parentheses_done : (e a got : FlatExpr) (p : Place) (w : ℕ) (s : Bool) (g h : Graph) (t : ℕ) → e ≡ Parentheses p a → got ≡ a → IsTermOf signals starts words got w s g h t → IsTermOf signals starts words e w s g h t
  parentheses_done e a got p w s g h t is same q =
      let S = shapes_of signals in
      restated starts words _ (meant S e) w s _ (weight_of S e w) _ (nodes_of S e) g h t (one_more starts words (meant S got) w s _ _ g h t q)
      (meant-parentheses any (Unit {0}) (Unit {0}) S p a got is same) (weight-parentheses any (Unit {0}) (Unit {0}) S p a got is same w) (nodes-parentheses any (Unit {0}) (Unit {0}) S p a got is same)

  pub signed_done : (e a got : FlatExpr) (p : Place) (w n : ℕ) (s r : Bool) (g h j : Graph) (x t : ℕ) → e ≡ Signed p a → got ≡ a → n ≡ (meant (shapes_of signals) got).length → r ≡ (meant (shapes_of signals) got).signed →
      IsTermOf signals starts words got n r g h x → Adds h j w (λ v. resized w s (width_in h x) (v.term x).value) 0 1 t → IsTermOf signals starts words e w s g j t
  signed_done e a got p w n s r g h j x t is same wide sign q last =
      let S = shapes_of signals in
      restated starts words _ (meant S e) w s _ (weight_of S e w) _ (nodes_of S e) g j t
      (cast_sized starts words true (meant S got) w s _ _ g h j x t (at_context signals starts words got n _ r _ g h x wide sign q) last)
      (meant-signed any (Unit {0}) (Unit {0}) S p a got is same) (weight-signed any (Unit {0}) (Unit {0}) S p a got is same w) (nodes-signed any (Unit {0}) (Unit {0}) S p a got is same)

  pub unsigned_done : (e a got : FlatExpr) (p : Place) (w n : ℕ) (s r : Bool) (g h j : Graph) (x t : ℕ) → e ≡ Unsigned p a → got ≡ a → n ≡ (meant (shapes_of signals) got).length → r ≡ (meant (shapes_of signals) got).signed →
      IsTermOf signals starts words got n r g h x → Adds h j w (λ v. resized w s (width_in h x) (v.term x).value) 0 1 t → IsTermOf signals starts words e w s g j t
  unsigned_done e a got p w n s r g h j x t is same wide sign q last =
      let S = shapes_of signals in
      restated starts words _ (meant S e) w s _ (weight_of S e w) _ (nodes_of S e) g j t
      (cast_sized starts words false (meant S got) w s _ _ g h j x t (at_context signals starts words got n _ r _ g h x wide sign q) last)
      (meant-unsigned any (Unit {0}) (Unit {0}) S p a got is same) (weight-unsigned any (Unit {0}) (Unit {0}) S p a got is same w) (nodes-unsigned any (Unit {0}) (Unit {0}) S p a got is same)
