-- Graphs that grow: what was there stays, and what is added fits.
use Rattle.std.proofs.Common.{◌≡◌, ℕ, zero, suc, ◌+◌, ◌<◌, ◌≤◌, List, [], ◌∷◌, ◌++◌, length, map, take, drop, get_or, Some, refl, sym, ap, ◌∙◌, subst, arith, length-append, ◌⊎◌, inl, inr}
use Rattle.std.specs.Prelude.{slice_get, All}
use Rattle.std.proofs.lemmas.List.{get_or-take, length-take, take-append-le, take-append-drop}
use Rattle.std.proofs.lemmas.List.Elements.{All-append}
use Rattle.std.proofs.lemmas.Option.{slice_get-get_or, slice_get_within, get_or_from_slice_get}
use Rattle.std.proofs.Math.Seq.{take-length}
use Rattle.std.proofs.Math.Seq.{get_or-append_seam, take-append_seam}
use Rattle.bits_core.specs.Word.{IsWidth}
use Rattle.bits_core.specs.Ops.{width1, width2}
use Rattle.bits_core.proofs.Proper.{width1_is, width2_is}
use Rattle.word_eqs.specs.declared.term.TermNode.{TermNode}
use Rattle.word_eqs.specs.declared.term.TermNode.TheVariants.{Const, Var, One, Two, Choose, Resize, Slice, Join}
use Rattle.word_eqs.specs.declared.term.Term.{Term}
use Rattle.word_eqs.specs.Graph.{Graph, width_in, width_of_var, node_width, FitsNode, IsTermAt, IsGraph, with_var, with_term, Extends, IsTyped, MOST_TERMS}
use Rattle.word_eqs.specs.Meaning.{Values, IsWordOf, Respects, Makes}

-- lists of which one begins with the other

pub longer : {X : Type 0} (xs ys : List X) → take (length xs) ys ≡ xs → length xs ≤ length ys
longer xs ys e = omega (arith, length-take (length xs) ys, ap length e)

pub read_kept : {X : Type 0} (xs ys : List X) (k : ℕ) (d : X) → take (length xs) ys ≡ xs → k < length xs → get_or ys k d ≡ get_or xs k d
read_kept xs ys k d e h = sym (get_or-take (length xs) ys k d h) ∙ ap (λ l. get_or l k d) e

pub get_kept : {X : Type 0} (xs ys : List X) (k : ℕ) (x : X) → take (length xs) ys ≡ xs → slice_get xs k ≡ Some x → slice_get ys k ≡ Some x
get_kept xs ys k x e at =
    let h = slice_get_within xs k x at in
    let l = longer xs ys e in
    let lt : k < length ys = omega arith in
    slice_get-get_or ys k x lt ∙ ap Some (read_kept xs ys k x e h ∙ get_or_from_slice_get xs k x x at)

pub get_back : {X : Type 0} (xs ys : List X) (k : ℕ) (x : X) → take (length xs) ys ≡ xs → k < length xs → slice_get ys k ≡ Some x → slice_get xs k ≡ Some x
get_back xs ys k x e h at =
    slice_get-get_or xs k x h ∙ ap Some (sym (read_kept xs ys k x e h) ∙ get_or_from_slice_get ys k x x at)

pub get_last : {X : Type 0} (xs : List X) (x : X) → slice_get (xs ++ x ∷ []) (length xs) ≡ Some x
get_last xs x =
    let lt : length xs < length (xs ++ x ∷ []) = omega (arith, length-append xs (x ∷ [])) in
    slice_get-get_or (xs ++ x ∷ []) (length xs) x lt ∙ ap Some (get_or-append_seam xs x [] x)

-- a place in a list with one item more is in the list, or is the last
pub get_pushed : {X : Type 0} (xs : List X) (y : X) (k : ℕ) (x : X) → slice_get (xs ++ y ∷ []) k ≡ Some x → (slice_get xs k ≡ Some x) ⊎ ((k ≡ length xs) × (y ≡ x))
get_pushed [] y zero x at = inr (refl, cc)
get_pushed [] y (suc k) x at = cc
get_pushed (z ∷ xs) y zero x at = inl at
get_pushed (z ∷ xs) y (suc k) x at = on (get_pushed xs y k x at)
  where
    on : (slice_get xs k ≡ Some x) ⊎ ((k ≡ length xs) × (y ≡ x)) → (slice_get xs k ≡ Some x) ⊎ ((suc k ≡ suc (length xs)) × (y ≡ x))
    on (inl e) = inl e
    on (inr h) = inr (ap suc h.0, h.1)

-- widths

abbrev pub no_term : Term
no_term = record { node = Var (record { 0 = 0 }); width = 0 }

pub width_at : (g : Graph) (k : ℕ) → width_in g k ≡ (get_or g.terms k no_term).width
width_at g k = get_or_map g.terms k
  where
    get_or_map : (xs : List Term) (k : ℕ) → get_or (map (λ (x : Term). x.width) xs) k 0 ≡ (get_or xs k no_term).width
    get_or_map [] k = refl
    get_or_map (x ∷ xs) zero = refl
    get_or_map (x ∷ xs) (suc k) = get_or_map xs k

-- the width of a term is what it says
pub width_is : (g : Graph) (k : ℕ) (x : Term) → slice_get g.terms k ≡ Some x → width_in g k ≡ x.width
width_is g k x at = width_at g k ∙ ap (λ (y : Term). y.width) (get_or_from_slice_get g.terms k x no_term at)

pub width_kept : (g h : Graph) (k : ℕ) → Extends g h → k < length g.terms → width_in h k ≡ width_in g k
width_kept g h k e lt = width_at h k ∙ ap (λ (y : Term). y.width) (read_kept g.terms h.terms k no_term e.terms lt) ∙ sym (width_at g k)

pub var_kept : (g h : Graph) (x : ℕ) → Extends g h → x < length g.vars → width_of_var h x ≡ width_of_var g x
var_kept g h x e lt = read_kept g.vars h.vars x 0 e.vars lt

pub node_width_kept : (g h : Graph) (n : ℕ) (node : TermNode) → Extends g h → n ≤ length g.terms → FitsNode g n node → node_width h node ≡ node_width g node
node_width_kept g h n (Const a) e le f = refl
node_width_kept g h n (Var x) e le f = var_kept g h x.0 e f
node_width_kept g h n (One op a) e le f = ap (width1 op) (width_kept g h a.0 e (omega arith))
node_width_kept g h n (Two op a b) e le f = let p = f.0 in ap (width2 op) (width_kept g h a.0 e (omega arith))
node_width_kept g h n (Choose c a b) e le f = let p = f.1 in width_kept g h a.0 e (omega arith)
node_width_kept g h n (Resize a to signed) e le f = refl
node_width_kept g h n (Slice a high low) e le f = refl
node_width_kept g h n (Join a b) e le f =
    let p = f.0 in
    let q = f.1 in
    ap (λ k. k + width_in h b.0) (width_kept g h a.0 e (omega arith)) ∙ ap (λ k. width_in g a.0 + k) (width_kept g h b.0 e (omega arith))

pub fits_kept : (g h : Graph) (n : ℕ) (node : TermNode) → Extends g h → n ≤ length g.terms → FitsNode g n node → FitsNode h n node
fits_kept g h n (Const a) e le f = f
fits_kept g h n (Var x) e le f = let l = longer g.vars h.vars e.vars in omega arith
fits_kept g h n (One op a) e le f = f
fits_kept g h n (Two op a b) e le f =
    let p = f.0 in
    let q = f.1 in
    (p, q, width_kept g h b.0 e (omega arith) ∙ f.2 ∙ sym (width_kept g h a.0 e (omega arith)))
fits_kept g h n (Choose c a b) e le f =
    let o = f.0 in
    let p = f.1 in
    let q = f.2 in
    (o, p, q, width_kept g h c.0 e (omega arith) ∙ f.3, width_kept g h b.0 e (omega arith) ∙ f.4 ∙ sym (width_kept g h a.0 e (omega arith)))
fits_kept g h n (Resize a to signed) e le f = f
fits_kept g h n (Slice a high low) e le f =
    let p = f.0 in
    (p, f.1, subst (λ k. high < k) (sym (width_kept g h a.0 e (omega arith))) f.2)
fits_kept g h n (Join a b) e le f =
    let p = f.0 in
    let q = f.1 in
    let i : width_in h a.0 ≡ width_in g a.0 = width_kept g h a.0 e (omega arith) in
    let j : width_in h b.0 ≡ width_in g b.0 = width_kept g h b.0 e (omega arith) in
    let l = f.2 in
    (p, q, omega arith)

pub term_kept : (g h : Graph) (k : ℕ) (x : Term) → Extends g h → k ≤ length g.terms → IsTermAt g k x → IsTermAt h k x
term_kept g h k x e le t = record {
  fits = fits_kept g h k x.node e le t.fits;
  width = t.width ∙ sym (node_width_kept g h k x.node e le t.fits);
  some = t.some;
  within = t.within;
}

-- what extends what

pub extends_refl : (g : Graph) → Extends g g
extends_refl g = record { vars = take-length g.vars; terms = take-length g.terms }

take_again : {X : Type 0} (xs ys zs : List X) → take (length xs) ys ≡ xs → take (length ys) zs ≡ ys → take (length xs) zs ≡ xs
take_again xs ys zs e f =
    let l : length xs ≤ length ys = longer xs ys e in
    let m : length ys ≤ length zs = longer ys zs f in
    let n : length xs ≤ length (take (length ys) zs) = omega (arith, ap length f) in
    ap (take (length xs)) (sym (take-append-drop (length ys) zs)) ∙ take-append-le (length xs) (take (length ys) zs) (drop (length ys) zs) n ∙ ap (take (length xs)) f ∙ e

pub extends_trans : (f g h : Graph) → Extends f g → Extends g h → Extends f h
extends_trans f g h d e = record { vars = take_again f.vars g.vars h.vars d.vars e.vars; terms = take_again f.terms g.terms h.terms d.terms e.terms }

pub extends_with_term : (g : Graph) (node : TermNode) → Extends g (with_term g node)
extends_with_term g node = record { vars = take-length g.vars; terms = take-append_seam g.terms _ }

pub extends_with_var : (g : Graph) (w : ℕ) → Extends g (with_var g w)
extends_with_var g w = record { vars = take-append_seam g.vars _; terms = take-length g.terms }

-- a valuation that respects a graph respects what it extends
pub grown : (v : Values) (g h : Graph) → Extends g h → Respects v h → Respects v g
grown v g h e r = record {
  vars = record {
    at = λ x lt.
        let l = longer g.vars h.vars e.vars in
        let lt' : x < length h.vars = omega arith in
        subst (λ k. IsWordOf k (v.var x)) (var_kept g h x e lt) (r.vars.at x lt');
  };
  terms = record { at = λ k x at. r.terms.at k x (get_kept g.terms h.terms k x e.terms at) };
}

-- widths within bounds

pub width_of_term : (g : Graph) (k : ℕ) → IsGraph g → k < length g.terms → IsWidth (width_in g k)
width_of_term g k h lt =
    let at = slice_get-get_or g.terms k no_term lt in
    let t = h.terms k (get_or g.terms k no_term) at in
    subst IsWidth (sym (width_at g k)) (t.some, t.within)

pub node_width_is : (g : Graph) (node : TermNode) → IsGraph g → FitsNode g (length g.terms) node → IsWidth (node_width g node)
node_width_is g (Const a) h f = (f.some, f.within)
node_width_is g (Var x) h f = h.vars x.0 0 f
node_width_is g (One op a) h f = let w = width_of_term g a.0 h f in width1_is op (width_in g a.0) w.0 w.1
node_width_is g (Two op a b) h f = let w = width_of_term g a.0 h f.0 in width2_is op (width_in g a.0) w.0 w.1
node_width_is g (Choose c a b) h f = width_of_term g a.0 h f.1
node_width_is g (Resize a to signed) h f = (f.1, f.2)
node_width_is g (Slice a high low) h f =
    let w = (width_of_term g a.0 h f.0).1 in
    let l = f.1 in
    let m = f.2 in
    (omega arith, omega arith)
node_width_is g (Join a b) h f =
    let w = (width_of_term g a.0 h f.0).0 in
    (omega arith, f.2)

-- a graph with a term more

pub graph_with_term : (g : Graph) (node : TermNode) → IsGraph g → FitsNode g (length g.terms) node → length g.terms < MOST_TERMS → IsGraph (with_term g node)
graph_with_term g node h f lt =
    let x : Term = record { node = node; width = node_width g node } in
    let e = extends_with_term g node in
    let w : IsWidth (node_width g node) = node_width_is g node h f in
    let last : IsTermAt g (length g.terms) x = record { fits = f; width = refl; some = w.0; within = w.1 } in
    record {
      vars = h.vars;
      terms = λ k y at. on k y (get_pushed g.terms x k y at);
      few_vars = h.few_vars;
      few_terms = omega (arith, length-append g.terms (x ∷ []));
    }
  where
    on : (k : ℕ) (y : Term) → (slice_get g.terms k ≡ Some y) ⊎ ((k ≡ length g.terms) × (record { node = node; width = node_width g node } ≡ y)) → IsTermAt (with_term g node) k y
    on k y (inl at) =
        let within = slice_get_within g.terms k y at in
        let le : k ≤ length g.terms = omega arith in
        term_kept g (with_term g node) k y (extends_with_term g node) le (h.terms k y at)
    on k y (inr p) =
        let le : length g.terms ≤ length g.terms = omega arith in
        let w : IsWidth (node_width g node) = node_width_is g node h f in
        subst (λ i. IsTermAt (with_term g node) i y) (sym p.0) (subst (IsTermAt (with_term g node) (length g.terms)) p.1 (term_kept g (with_term g node) (length g.terms) (record { node = node; width = node_width g node }) (extends_with_term g node) le (record { fits = f; width = refl; some = w.0; within = w.1 })))

pub graph_with_var : (g : Graph) (w : ℕ) → IsGraph g → 0 < w → w ≤ 128 → length g.vars < MOST_TERMS → IsGraph (with_var g w)
graph_with_var g w h p q lt = record {
  vars = All-append IsWidth g.vars (w ∷ []) h.vars (one w (p, q));
  terms = λ k x at.
      let within = slice_get_within g.terms k x at in
      let le : k ≤ length g.terms = omega arith in
      term_kept g (with_var g w) k x (extends_with_var g w) le (h.terms k x at);
  few_vars = omega (arith, length-append g.vars (w ∷ []));
  few_terms = h.few_terms;
}
  where
    one : (w : ℕ) → IsWidth w → All IsWidth (w ∷ [])
    one w p zero d lt = p
    one w p (suc k) d lt = absurd (omega arith)

pub makes : (g : Graph) (node : TermNode) → Makes g (with_term g node) node (length g.terms)
makes g node = record {
  grown = λ v r. grown v g (with_term g node) (extends_with_term g node) r;
  value = λ v r. r.terms.at (length g.terms) (record { node = node; width = node_width g node }) (get_last g.terms (record { node = node; width = node_width g node }));
}

pub typed : (g : Graph) (node : TermNode) → IsTyped g (with_term g node) (node_width g node) (length g.terms)
typed g node =
    let x : Term = record { node = node; width = node_width g node } in
    let l = length-append g.terms (x ∷ []) in
    record {
      there = omega arith;
      width = width_is (with_term g node) (length g.terms) x (get_last g.terms x);
      longer = omega arith;
      kept = λ k lt. width_kept g (with_term g node) k (extends_with_term g node) lt;
    }
