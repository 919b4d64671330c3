-- Parts of an expression that may be walked over may be, too.
use Rattle.std.proofs.Common.{◌≡◌, ℕ, ◌+◌, ◌*◌, ◌<◌, ◌≤◌, List, ◌++◌, Bool, length, sym, ap, ◌∙◌, subst, arith, length-append}
use Rattle.std.specs.Prelude.{max, if◌then◌else◌}
use Rattle.bits_core.specs.Word.{IsWidth}
use Rattle.flat_tree.specs.declared.design.FlatSignal.{FlatSignal}
use Rattle.flat_tree.specs.declared.expr.FlatExpr.{FlatExpr, Unary, Binary, Conditional, Parentheses, Signed, Unsigned}
use Rattle.flat_tree.specs.declared.expr.PlacedSite.{PlacedSite}
use Rattle.flat_tree.specs.Measures.{nodes_of, left_width, right_width}
use Rattle.flat_tree.specs.Operators.{Form, InContext, Dividing, Comparing, Logical, Shifting, form_of, is_reduction}
use Rattle.flat_tree.specs.Values.{Meant, meant, sites_of, unary_meant, binary_meant, conditional}
use Rattle.flat_values.specs.Fits.{IsSignal, IsTaken, shapes_of}
use Rattle.flat_values.proofs.Forms.{fits_less}
use Rattle.flat_values.proofs.Nodes.{meant-unary, fits-unary, nodes-unary, meant-binary, fits-binary, nodes-binary, meant-conditional, fits-conditional, nodes-conditional, meant-parentheses, fits-parentheses, nodes-parentheses, meant-signed, fits-signed, nodes-signed, meant-unsigned, fits-unsigned, nodes-unsigned}
use Rattle.operand_contexts.specs.Contexts.{FitForm}
use Rattle.sized_expressions.proofs.Forms.{one_site, binary_sites}
use Rattle.sized_expressions.specs.Operated.{own_site}
use Rattle.sized_expressions.specs.Sized.{place_in, IsKnown, IsReady, MaySize, IsTermOf}
use Rattle.src_text.specs.declared.refusal.Place.{Place}
use Rattle.v_tree.specs.declared.expr.BinaryOp.{BinaryOp}
use Rattle.v_tree.specs.declared.expr.UnaryOp.{UnaryOp}
use Rattle.v_tree.specs.declared.expr.BinaryOperator.{BinaryOperator}
use Rattle.v_tree.specs.declared.expr.UnaryOperator.{UnaryOperator}
use Rattle.word_eqs.specs.declared.term.TermId.{TermId}
use Rattle.word_eqs.specs.Graph.{Graph, IsTyped, MOST_TERMS}

-- operands whose widths fit their form
pub fit_form : (f : Form) (w m n x y : ℕ) → x ≡ left_width f w m n → y ≡ right_width f w m n → FitForm f w x y
fit_form InContext w m n x y p q = (p, q)
fit_form Dividing w m n x y p q = (p, q)
fit_form Comparing w m n x y p q = q ∙ sym p
fit_form Logical w m n x y p q = tt
fit_form Shifting w m n x y p q = p

pub first_word : (n : ℕ) → 0 < max 1 n
first_word n = omega arith

module _ (signals : List FlatSignal) (starts : List ℕ) (words : List TermId) where
  known_grown : (g h : Graph) (w t : ℕ) → IsTyped g h w t → (k : ℕ) → IsKnown (length signals) (shapes_of signals) starts words g k → IsKnown (length signals) (shapes_of signals) starts words h k
  known_grown g h w t ty k p = record {
    signal = p.signal;
    start = p.start;
    inside = p.inside;
    there = λ i lt. let a = p.there i lt in let b = ty.longer in omega (arith, a, b);
    width = λ i lt. ty.kept (place_in starts words k i) (p.there i lt) ∙ p.width i lt;
  }

  pub ready_grown : (g h : Graph) (w t : ℕ) → IsTyped g h w t → (e : FlatExpr) → IsReady signals starts words g e → IsReady signals starts words h e
  ready_grown g h w t ty e f =
      fits_less (IsKnown (length signals) (shapes_of signals) starts words g) (IsKnown (length signals) (shapes_of signals) starts words h) (Unit {0}) (Unit {0}) (Unit {0}) (Unit {0})
      (λ k p. known_grown g h w t ty k p) (λ u. u) (λ u. u) (shapes_of signals) e f

  pub taken : (g : Graph) (e : FlatExpr) → IsReady signals starts words g e → IsTaken (length signals) (shapes_of signals) e
  taken g e f =
      fits_less (IsKnown (length signals) (shapes_of signals) starts words g) (IsSignal (length signals) (shapes_of signals)) (Unit {0}) (Unit {0}) (Unit {0}) (Unit {0})
      (λ k p. p.signal) (λ u. u) (λ u. u) (shapes_of signals) e f

  -- a part, where so much less is asked for
  pub may_part : (g h : Graph) (e a : FlatExpr) (w u : ℕ) → MaySize signals starts words g e w → IsReady signals starts words h a → IsWidth u →
      length h.vars + length (sites_of (shapes_of signals) a u) ≤ length g.vars + length (sites_of (shapes_of signals) e w) →
      length h.terms + 32 * nodes_of (shapes_of signals) a ≤ length g.terms + 32 * nodes_of (shapes_of signals) e → MaySize signals starts words h a u
  may_part g h e a w u m f x few room = record { fits = f; width = x; few = let p = m.few in omega (arith, p, few); room = let p = m.room in omega (arith, p, room) }

  sites_as : (e : FlatExpr) (m : Meant) (w : ℕ) → meant (shapes_of signals) e ≡ m → length (sites_of (shapes_of signals) e w) ≡ length (m.sites w)
  sites_as e m w is = ap (λ (x : Meant). length (x.sites w)) is

  pub may_unary : (g : Graph) (e a : FlatExpr) (op : UnaryOp) (w u : ℕ) → MaySize signals starts words g e w → IsReady signals starts words g a → IsWidth u → u ≡ (if is_reduction op then (meant (shapes_of signals) a).length else w) →
      meant (shapes_of signals) e ≡ unary_meant op (meant (shapes_of signals) a) → nodes_of (shapes_of signals) e ≡ 1 + nodes_of (shapes_of signals) a → MaySize signals starts words g a u
  may_unary g e a op w u m f x is me ne =
      let s = sites_as e (unary_meant op (meant (shapes_of signals) a)) w me in
      let q = ap (λ (xs : List PlacedSite). length xs) (one_site op (meant (shapes_of signals) a) w) in
      let r = ap (λ k. length (sites_of (shapes_of signals) a k)) is in
      may_part g g e a w u m f x (omega (arith, s, q, r)) (omega (arith, ne))

  -- how many sites an operator has with its operands
  pub binary_count : (e a b : FlatExpr) (op : BinaryOp) (p : Place) (w : ℕ) → meant (shapes_of signals) e ≡ binary_meant p op (meant (shapes_of signals) a) (meant (shapes_of signals) b) →
      length (sites_of (shapes_of signals) e w)
      ≡ length (sites_of (shapes_of signals) a (left_width (form_of op) w (meant (shapes_of signals) a).length (meant (shapes_of signals) b).length)) + (length (own_site (form_of op) p w) + length (sites_of (shapes_of signals) b (right_width (form_of op) w (meant (shapes_of signals) a).length (meant (shapes_of signals) b).length)))
  binary_count e a b op p w me =
      let x = meant (shapes_of signals) a in
      let y = meant (shapes_of signals) b in
      let S = x.sites (left_width (form_of op) w x.length y.length) in
      let T = y.sites (right_width (form_of op) w x.length y.length) in
      sites_as e (binary_meant p op x y) w me ∙ ap (λ (xs : List PlacedSite). length xs) (sym (binary_sites op p x y w)) ∙ length-append S (own_site (form_of op) p w ++ T) ∙ ap (λ k. length S + k) (length-append (own_site (form_of op) p w) T)

  pub conditional_count : (e c a b : FlatExpr) (w : ℕ) → meant (shapes_of signals) e ≡ conditional (meant (shapes_of signals) c) (meant (shapes_of signals) a) (meant (shapes_of signals) b) →
      length (sites_of (shapes_of signals) e w) ≡ length (sites_of (shapes_of signals) c (meant (shapes_of signals) c).length) + (length (sites_of (shapes_of signals) a w) + length (sites_of (shapes_of signals) b w))
  conditional_count e c a b w me =
      let x = meant (shapes_of signals) c in
      let y = meant (shapes_of signals) a in
      let z = meant (shapes_of signals) b in
      sites_as e (conditional x y z) w me ∙ length-append (x.sites x.length) (y.sites w ++ z.sites w) ∙ ap (λ k. length (x.sites x.length) + k) (length-append (y.sites w) (z.sites w))

-- the parts of each form: they are taken, and may be walked over in turn
module _ (signals : List FlatSignal) (starts : List ℕ) (words : List TermId) where
  abbrev known_at : Graph → ℕ → Type 0
  known_at g = IsKnown (length signals) (shapes_of signals) starts words g

  pub unary_ready : (g : Graph) (e a got : FlatExpr) (o : UnaryOperator) (w : ℕ) → MaySize signals starts words g e w → e ≡ Unary o a → got ≡ a → IsReady signals starts words g got
  unary_ready g e a got o w m is same = fits-unary (known_at g) (Unit {0}) (Unit {0}) (shapes_of signals) o a got is same m.fits

  pub unary_part : (g : Graph) (e a got : FlatExpr) (o : UnaryOperator) (w u : ℕ) → MaySize signals starts words g e w → e ≡ Unary o a → got ≡ a → IsWidth u → u ≡ (if is_reduction o.op then (meant (shapes_of signals) got).length else w) → MaySize signals starts words g got u
  unary_part g e a got o w u m is same x wide =
      may_unary signals starts words g e got o.op w u m (unary_ready g e a got o w m is same) x wide (meant-unary (known_at g) (Unit {0}) (Unit {0}) (shapes_of signals) o a got is same) (nodes-unary (known_at g) (Unit {0}) (Unit {0}) (shapes_of signals) o a got is same)

  pub binary_ready : (g : Graph) (e a got b more : FlatExpr) (o : BinaryOperator) (w : ℕ) → MaySize signals starts words g e w → e ≡ Binary a o b → got ≡ a → more ≡ b → IsReady signals starts words g got × IsReady signals starts words g more
  binary_ready g e a got b more o w m is sa sb = fits-binary (known_at g) (Unit {0}) (Unit {0}) (shapes_of signals) o a got b more is sa sb m.fits

  pub binary_sum : (g : Graph) (e a got b more : FlatExpr) (o : BinaryOperator) (w : ℕ) → MaySize signals starts words g e w → e ≡ Binary a o b → got ≡ a → more ≡ b →
      (length g.vars + (length (sites_of (shapes_of signals) got (left_width (form_of o.op) w (meant (shapes_of signals) got).length (meant (shapes_of signals) more).length)) + (length (own_site (form_of o.op) o.place w) + length (sites_of (shapes_of signals) more (right_width (form_of o.op) w (meant (shapes_of signals) got).length (meant (shapes_of signals) more).length)))) < MOST_TERMS)
      × (length g.terms + 32 * (1 + (nodes_of (shapes_of signals) got + nodes_of (shapes_of signals) more)) ≤ MOST_TERMS)
  binary_sum g e a got b more o w m is sa sb =
      let me = meant-binary (known_at g) (Unit {0}) (Unit {0}) (shapes_of signals) o a got b more is sa sb in
      let ne = nodes-binary (known_at g) (Unit {0}) (Unit {0}) (shapes_of signals) o a got b more is sa sb in (
        subst (λ k. length g.vars + k < MOST_TERMS) (binary_count signals starts words e got more o.op o.place w me) m.few,
        subst (λ k. length g.terms + 32 * k ≤ MOST_TERMS) ne m.room,
      )

  pub conditional_ready : (g : Graph) (e c test a got b more : FlatExpr) (w : ℕ) → MaySize signals starts words g e w → e ≡ Conditional c a b → test ≡ c → got ≡ a → more ≡ b → IsReady signals starts words g test × IsReady signals starts words g got × IsReady signals starts words g more
  conditional_ready g e c test a got b more w m is sc sa sb = fits-conditional (known_at g) (Unit {0}) (Unit {0}) (shapes_of signals) c test a got b more is sc sa sb m.fits

  pub conditional_sum : (g : Graph) (e c test a got b more : FlatExpr) (w : ℕ) → MaySize signals starts words g e w → e ≡ Conditional c a b → test ≡ c → got ≡ a → more ≡ b →
      (length g.vars + (length (sites_of (shapes_of signals) test (meant (shapes_of signals) test).length) + (length (sites_of (shapes_of signals) got w) + length (sites_of (shapes_of signals) more w))) < MOST_TERMS)
      × (length g.terms + 32 * (1 + (nodes_of (shapes_of signals) test + (nodes_of (shapes_of signals) got + nodes_of (shapes_of signals) more))) ≤ MOST_TERMS)
  conditional_sum g e c test a got b more w m is sc sa sb =
      let me = meant-conditional (known_at g) (Unit {0}) (Unit {0}) (shapes_of signals) c test a got b more is sc sa sb in
      let ne = nodes-conditional (known_at g) (Unit {0}) (Unit {0}) (shapes_of signals) c test a got b more is sc sa sb in (
        subst (λ k. length g.vars + k < MOST_TERMS) (conditional_count signals starts words e test got more w me) m.few,
        subst (λ k. length g.terms + 32 * k ≤ MOST_TERMS) ne m.room,
      )

  pub parentheses_part : (g : Graph) (e a got : FlatExpr) (p : Place) (w : ℕ) → MaySize signals starts words g e w → e ≡ Parentheses p a → got ≡ a → MaySize signals starts words g got w
  parentheses_part g e a got p w m is same = record {
    fits = fits-parentheses (known_at g) (Unit {0}) (Unit {0}) (shapes_of signals) p a got is same m.fits;
    width = m.width;
    few = subst (λ (x : Meant). length g.vars + length (x.sites w) < MOST_TERMS) (meant-parentheses (known_at g) (Unit {0}) (Unit {0}) (shapes_of signals) p a got is same) m.few;
    room = let n = nodes-parentheses (known_at g) (Unit {0}) (Unit {0}) (shapes_of signals) p a got is same in let r = m.room in omega (arith, n, r);
  }

  pub signed_ready : (g : Graph) (e a got : FlatExpr) (p : Place) (w : ℕ) → MaySize signals starts words g e w → e ≡ Signed p a → got ≡ a → IsReady signals starts words g got
  signed_ready g e a got p w m is same = fits-signed (known_at g) (Unit {0}) (Unit {0}) (shapes_of signals) p a got is same m.fits

  pub signed_part : (g : Graph) (e a got : FlatExpr) (p : Place) (w u : ℕ) → MaySize signals starts words g e w → e ≡ Signed p a → got ≡ a → IsWidth u → u ≡ (meant (shapes_of signals) got).length → MaySize signals starts words g got u
  signed_part g e a got p w u m is same x wide = record {
    fits = signed_ready g e a got p w m is same;
    width = x;
    few = subst (λ k. length g.vars + length (sites_of (shapes_of signals) got k) < MOST_TERMS) (sym wide) (subst (λ (x : Meant). length g.vars + length (x.sites w) < MOST_TERMS) (meant-signed (known_at g) (Unit {0}) (Unit {0}) (shapes_of signals) p a got is same) m.few);
    room = let n = nodes-signed (known_at g) (Unit {0}) (Unit {0}) (shapes_of signals) p a got is same in let r = m.room in omega (arith, n, r);
  }

  pub unsigned_ready : (g : Graph) (e a got : FlatExpr) (p : Place) (w : ℕ) → MaySize signals starts words g e w → e ≡ Unsigned p a → got ≡ a → IsReady signals starts words g got
  unsigned_ready g e a got p w m is same = fits-unsigned (known_at g) (Unit {0}) (Unit {0}) (shapes_of signals) p a got is same m.fits

  pub unsigned_part : (g : Graph) (e a got : FlatExpr) (p : Place) (w u : ℕ) → MaySize signals starts words g e w → e ≡ Unsigned p a → got ≡ a → IsWidth u → u ≡ (meant (shapes_of signals) got).length → MaySize signals starts words g got u
  unsigned_part g e a got p w u m is same x wide = record {
    fits = unsigned_ready g e a got p w m is same;
    width = x;
    few = subst (λ k. length g.vars + length (sites_of (shapes_of signals) got k) < MOST_TERMS) (sym wide) (subst (λ (x : Meant). length g.vars + length (x.sites w) < MOST_TERMS) (meant-unsigned (known_at g) (Unit {0}) (Unit {0}) (shapes_of signals) p a got is same) m.few);
    room = let n = nodes-unsigned (known_at g) (Unit {0}) (Unit {0}) (shapes_of signals) p a got is same in let r = m.room in omega (arith, n, r);
  }

  -- an expression at another width and sign that are the same
  pub at_context : (e : FlatExpr) (w u : ℕ) (s r : Bool) (g h : Graph) (t : ℕ) → w ≡ u → s ≡ r → IsTermOf signals starts words e w s g h t → IsTermOf signals starts words e u r g h t
  at_context e w u s r g h t wu sr p = subst (λ y. IsTermOf signals starts words e u y g h t) sr (subst (λ x. IsTermOf signals starts words e x s g h t) wu p)
