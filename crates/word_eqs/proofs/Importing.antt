-- Copies of terms, with other terms put in for the variables.
use Rattle.std.proofs.Common.{◌≡◌, ℕ, ◌+◌, ◌*◌, ◌<◌, ◌≤◌, ◌^◌, Bool, true, false, cond, add-zero, List, [], ◌∷◌, ◌++◌, length, take, get_or, Some, refl, sym, ap, ◌∙◌, subst, arith, length-append}
use borrow.Author.Count.{below_more}
use Rattle.std.specs.Prelude.{slice_get, slice_index, sum_by, count_by}
use Rattle.std.proofs.lemmas.List.{get_or_append_left}
use Rattle.std.proofs.lemmas.Option.{slice_get_within, get_or_from_slice_get}
use Rattle.std.proofs.lemmas.List.Sums.{sum_by_more, sum_by-take-le}
use Rattle.std.proofs.lemmas.List.Sums.{count_by_more_yes, count_by_more_no}
use Rattle.std.proofs.Math.Seq.{get_or-append_seam}
use Rattle.bits_core.specs.Ops.{width1, width2}
use Rattle.word_eqs.specs.declared.term.VarId.{VarId}
use Rattle.word_eqs.specs.declared.term.TermNode.{TermNode}
use Rattle.word_eqs.specs.declared.term.TermNode.TheVariants.{Const, Var, One, Two, Choose, Resize, Slice, Join}
use Rattle.word_eqs.specs.declared.term.Term.{Term}
use Rattle.word_eqs.specs.Graph.{Graph, width_in, width_of_var, node_width, FitsNode, IsTermAt, IsGraph, with_term, Extends, is_made, is_no_var, MOST_TERMS}
use Rattle.word_eqs.specs.Import.{AreSubs, AreCopies, IsCopy, Copies, moved_node, through}
use Rattle.word_eqs.specs.Meaning.{Values, node_word, Respects}
use Rattle.word_eqs.specs.Gates.{gates1, gates2, node_gates, term_gates}
use Rattle.word_eqs.proofs.Graphs.{longer, width_kept, width_is, extends_refl, extends_trans, extends_with_term, grown, graph_with_term, get_last}
use Rattle.word_eqs.proofs.Counts.{cost}
use Rattle.word_eqs.proofs.Evals.{same_parts, words_of_terms}

-- a node whose parts are moved

pub moved_fits : (new from : Graph) (ids : List ℕ) (k : ℕ) (node : TermNode) → is_made node ≡ true → FitsNode from k node → AreCopies new from ids k → FitsNode new (length new.terms) (moved_node ids node)
moved_fits new from ids k (Const a) m f c = f
moved_fits new from ids k (Var x) m f c = cc
moved_fits new from ids k (One op a) m f c = c.there a.0 f
moved_fits new from ids k (Two op a b) m f c = (c.there a.0 f.0, c.there b.0 f.1, c.widths b.0 f.1 ∙ f.2 ∙ sym (c.widths a.0 f.0))
moved_fits new from ids k (Choose e a b) m f c = (c.there e.0 f.0, c.there a.0 f.1, c.there b.0 f.2, c.widths e.0 f.0 ∙ f.3, c.widths b.0 f.2 ∙ f.4 ∙ sym (c.widths a.0 f.1))
moved_fits new from ids k (Resize a to signed) m f c = (c.there a.0 f.0, f.1, f.2)
moved_fits new from ids k (Slice a high low) m f c = (c.there a.0 f.0, f.1, subst (λ n. high < n) (sym (c.widths a.0 f.0)) f.2)
moved_fits new from ids k (Join a b) m f c =
    let p : width_in new (slice_index ids a.0) ≡ width_in from a.0 = c.widths a.0 f.0 in
    let q : width_in new (slice_index ids b.0) ≡ width_in from b.0 = c.widths b.0 f.1 in
    let l = f.2 in
    (c.there a.0 f.0, c.there b.0 f.1, omega arith)

pub moved_width : (new from : Graph) (ids : List ℕ) (k : ℕ) (node : TermNode) → is_made node ≡ true → FitsNode from k node → AreCopies new from ids k → node_width new (moved_node ids node) ≡ node_width from node
moved_width new from ids k (Const a) m f c = refl
moved_width new from ids k (Var x) m f c = cc
moved_width new from ids k (One op a) m f c = ap (width1 op) (c.widths a.0 f)
moved_width new from ids k (Two op a b) m f c = ap (width2 op) (c.widths a.0 f.0)
moved_width new from ids k (Choose e a b) m f c = c.widths a.0 f.1
moved_width new from ids k (Resize a to signed) m f c = refl
moved_width new from ids k (Slice a high low) m f c = refl
moved_width new from ids k (Join a b) m f c = ap (λ n. n + width_in new (slice_index ids b.0)) (c.widths a.0 f.0) ∙ ap (λ n. width_in from a.0 + n) (c.widths b.0 f.1)

pub moved_gates : (new from : Graph) (ids : List ℕ) (k : ℕ) (node : TermNode) → FitsNode from k node → AreCopies new from ids k → node_gates new (moved_node ids node) ≡ node_gates from node
moved_gates new from ids k (Const a) f c = refl
moved_gates new from ids k (Var x) f c = refl
moved_gates new from ids k (One op a) f c = ap (gates1 op) (c.widths a.0 f)
moved_gates new from ids k (Two op a b) f c = ap (gates2 op) (c.widths a.0 f.0)
moved_gates new from ids k (Choose e a b) f c = ap (λ n. 3 * n) (c.widths a.0 f.1)
moved_gates new from ids k (Resize a to signed) f c = refl
moved_gates new from ids k (Slice a high low) f c = refl
moved_gates new from ids k (Join a b) f c = refl

pub moved_word : (v : Values) (subs ids : List ℕ) (node : TermNode) → is_made node ≡ true → node_word v (moved_node ids node) ≡ node_word (through v subs ids) node
moved_word v subs ids (Const a) m = refl
moved_word v subs ids (Var x) m = cc
moved_word v subs ids (One op a) m = refl
moved_word v subs ids (Two op a b) m = refl
moved_word v subs ids (Choose e a b) m = refl
moved_word v subs ids (Resize a to signed) m = refl
moved_word v subs ids (Slice a high low) m = refl
moved_word v subs ids (Join a b) m = refl

pub count_made : (x : Term) → is_made x.node ≡ true → count_by is_no_var (x ∷ []) ≡ 1
count_made x m = simp m

-- a variable is what was put in for it
pub copy_var : (g from : Graph) (subs ids : List ℕ) (k : ℕ) (x : Term) (y : ℕ) → IsGraph g → IsTermAt from k x → AreSubs g from subs → x.node ≡ Var (record { 0 = y }) → IsCopy g g from subs ids x (slice_index subs y)
copy_var g from subs ids k x y h t s is =
    let lt : y < length from.vars = subst (FitsNode from k) is t.fits in
    record {
      extends = extends_refl g;
      vars = refl;
      proper = h;
      there = s.there y lt;
      width = s.widths y lt ∙ sym (ap (node_width from) is) ∙ sym t.width;
      value = λ v r. sym (ap (node_word (through v subs ids)) is);
      count = omega arith;
      cost = omega arith;
    }

-- another term is made anew
pub copy_node : (g from : Graph) (subs ids : List ℕ) (k : ℕ) (x : Term) → IsGraph g → IsTermAt from k x → AreCopies g from ids k → is_made x.node ≡ true → length g.terms < MOST_TERMS → IsCopy g (with_term g (moved_node ids x.node)) from subs ids x (length g.terms)
copy_node g from subs ids k x h t c m room =
    let node : TermNode = moved_node ids x.node in
    let f : FitsNode g (length g.terms) node = moved_fits g from ids k x.node m t.fits c in
    let y : Term = record { node = node; width = node_width g node } in
    let l = length-append g.terms (y ∷ []) in
    let one = count_made x m in
    let gates : term_gates (with_term g node) ≡ term_gates g + node_gates g node = cost g node h f in
    let same : node_gates g node ≡ node_gates from x.node = moved_gates g from ids k x.node t.fits c in
    record {
      extends = extends_with_term g node;
      vars = refl;
      proper = graph_with_term g node h f room;
      there = omega arith;
      width = width_is (with_term g node) (length g.terms) y (get_last g.terms y) ∙ moved_width g from ids k x.node m t.fits c ∙ sym t.width;
      value = λ v r. r.terms.at (length g.terms) y (get_last g.terms y) ∙ moved_word v subs ids x.node m;
      count = omega arith;
      cost = omega arith;
    }

-- terms before place k are those before it, and that at k
count_more : (xs : List Term) (k : ℕ) (x : Term) → slice_get xs k ≡ Some x → count_by is_no_var (take (k + 1) xs) ≡ count_by is_no_var (take k xs) + count_by is_no_var (x ∷ [])
count_more xs k x at = on (is_no_var x) refl
  where
    on : (b : Bool) → is_no_var x ≡ b → count_by is_no_var (take (k + 1) xs) ≡ count_by is_no_var (take k xs) + count_by is_no_var (x ∷ [])
    on true e = count_by_more_yes is_no_var xs k x (slice_get_within xs k x at) (ap is_no_var (get_or_from_slice_get xs k x x at) ∙ e) ∙ sym (ap (λ b. count_by is_no_var (take k xs) + (0 + cond b 1 0)) e)
    on false e = count_by_more_no is_no_var xs k x (slice_get_within xs k x at) (ap is_no_var (get_or_from_slice_get xs k x x at) ∙ e) ∙ sym (ap (λ b. count_by is_no_var (take k xs) + (0 + cond b 1 0)) e ∙ add-zero _)

-- the first k terms, copied
pub record Imported (old new from : Graph) (subs ids : List ℕ) (k : ℕ) : Type 0 where
  pub extends : Extends old new
  pub vars : new.vars ≡ old.vars
  pub proper : IsGraph new
  pub copied : AreCopies new from ids k
  pub values : (v : Values) → Respects v new → (j : ℕ) → j < k → (x : Term) → slice_get from.terms j ≡ Some x → v.term (slice_index ids j) ≡ node_word (through v subs ids) x.node
  pub count : length new.terms ≤ length old.terms + count_by is_no_var (take k from.terms)
  pub cost : term_gates new ≤ term_gates old + sum_by (λ (x : Term). node_gates from x.node) (take k from.terms)

pub some_is : {X : Type 0} {x y : X} → Some x ≡ Some y → x ≡ y
some_is e = cc

kept : (ids : List ℕ) (t j : ℕ) → j < length ids → slice_index (ids ++ t ∷ []) j ≡ slice_index ids j
kept ids t j l = get_or_append_left ids (t ∷ []) 0 j l

put : (ids : List ℕ) (t k : ℕ) → length ids ≡ k → slice_index (ids ++ t ∷ []) k ≡ t
put ids t k e = ap (slice_index (ids ++ t ∷ [])) (sym e) ∙ get_or-append_seam ids t [] 0

-- copies of later terms don't matter to a node
same_nodes : (v : Values) (subs ids : List ℕ) (t : ℕ) (from : Graph) → IsGraph from → (k : ℕ) (x : Term) → slice_get from.terms k ≡ Some x → k ≤ length ids → node_word (through v subs ids) x.node ≡ node_word (through v subs (ids ++ t ∷ [])) x.node
same_nodes v subs ids t from h k x at le = same_parts (through v subs ids) (through v subs (ids ++ t ∷ [])) from k x.node (h.terms k x at).fits (λ y l. refl) (λ j l. ap v.term (sym (kept ids t j (omega arith))))

pub imported_none : (g from : Graph) (subs : List ℕ) → IsGraph g → Imported g g from subs [] 0
imported_none g from subs h = record {
  extends = extends_refl g;
  vars = refl;
  proper = h;
  copied = record { len = refl; there = λ j l. absurd (omega arith); widths = λ j l. absurd (omega arith) };
  values = λ v r j l. absurd (omega arith);
  count = omega arith;
  cost = omega arith;
}

pub imported_more : (old mid new from : Graph) (subs ids : List ℕ) (k : ℕ) (x : Term) (t : ℕ) → IsGraph from → Imported old mid from subs ids k → slice_get from.terms k ≡ Some x → IsCopy mid new from subs ids x t → Imported old new from subs (ids ++ t ∷ []) (k + 1)
imported_more old mid new from subs ids k x t h i at c =
    let len : length ids ≡ k = i.copied.len in
    let gates = sum_by_more (λ (y : Term). node_gates from y.node) from.terms k x (slice_get_within from.terms k x at) in
    let last : get_or from.terms k x ≡ x = get_or_from_slice_get from.terms k x x at in
    let gates' : sum_by (λ (y : Term). node_gates from y.node) (take (k + 1) from.terms) ≡ sum_by (λ (y : Term). node_gates from y.node) (take k from.terms) + node_gates from x.node = gates ∙ ap (λ (y : Term). sum_by (λ (y : Term). node_gates from y.node) (take k from.terms) + node_gates from y.node) last in
    let counts = count_more from.terms k x at in
    let p = i.count in
    let q = c.count in
    let r = i.cost in
    let s = c.cost in
    record {
      extends = extends_trans old mid new i.extends c.extends;
      vars = c.vars ∙ i.vars;
      proper = c.proper;
      copied = record {
        len = omega (arith, length-append ids (t ∷ []));
        there = λ j l. below_more (λ m. slice_index (ids ++ t ∷ []) m < length new.terms) k
            (λ m lt. let e = kept ids t m (omega arith) in let f = i.copied.there m lt in let n = longer mid.terms new.terms c.extends.terms in omega arith)
            (subst (λ n. n < length new.terms) (sym (put ids t k len)) c.there) j l;
        widths = λ j l. below_more (λ m. width_in new (slice_index (ids ++ t ∷ []) m) ≡ width_in from m) k
            (λ m lt. ap (width_in new) (kept ids t m (omega arith)) ∙ width_kept mid new (slice_index ids m) c.extends (i.copied.there m lt) ∙ i.copied.widths m lt)
            (ap (width_in new) (put ids t k len) ∙ c.width ∙ sym (width_is from k x at)) j l;
      };
      values = λ v r j l. below_more (λ m. (y : Term) → slice_get from.terms m ≡ Some y → v.term (slice_index (ids ++ t ∷ []) m) ≡ node_word (through v subs (ids ++ t ∷ [])) y.node) k
          (λ m lt y e. ap v.term (kept ids t m (omega arith)) ∙ i.values v (grown v mid new c.extends r) m lt y e ∙ same_nodes v subs ids t from h m y e (omega arith))
          (λ y e. let is : x ≡ y = some_is (sym at ∙ e) in ap v.term (put ids t k len) ∙ c.value v r ∙ ap (λ (z : Term). node_word (through v subs ids) z.node) is ∙ same_nodes v subs ids t from h k y e (omega arith))
          j l;
      count = omega arith;
      cost = omega arith;
    }

-- what stands in no list of variables is made
pub made : (node : TermNode) → ((x : VarId) → node ≡ Var x → ⊥) → is_made node ≡ true
made (Const a) h = refl
made (Var x) h = absurd (h x refl)
made (One op a) h = refl
made (Two op a b) h = refl
made (Choose e a b) h = refl
made (Resize a to signed) h = refl
made (Slice a high low) h = refl
made (Join a b) h = refl

-- terms that are put in for variables still serve a longer graph
pub subs_kept : (g h from : Graph) (subs : List ℕ) → Extends g h → AreSubs g from subs → AreSubs h from subs
subs_kept g h from subs e s = record {
  len = s.len;
  there = λ x l. let n = longer g.terms h.terms e.terms in let t = s.there x l in omega arith;
  widths = λ x l. width_kept g h (slice_index subs x) e (s.there x l) ∙ s.widths x l;
}

-- all terms, copied
pub copies_all : (old new from : Graph) (subs ids : List ℕ) (k : ℕ) → length from.terms ≡ k → IsGraph from → AreSubs old from subs → Imported old new from subs ids k → Copies old new from subs ids
copies_all old new from subs ids k n h s i = record {
  grown = λ v r. grown v old new i.extends r;
  value = λ v r. record {
    vars = record {
      at = λ x l.
          let t = subs_kept old new from subs i.extends s in
          let w = words_of_terms v new i.proper r (slice_index subs x) (t.there x l) in
          let e : (v.term (slice_index subs x)).width ≡ width_of_var from x = w.1 ∙ t.widths x l in
          record { width = e; below = subst (λ m. (v.term (slice_index subs x)).value < 2 ^ m) e w.0.below };
    };
    terms = record { at = λ j x at. let l = slice_get_within from.terms j x at in i.values v r j (omega arith) x at };
  };
}

count_take : (xs : List Term) (k : ℕ) → count_by is_no_var (take k xs) ≤ count_by is_no_var xs
count_take xs k = sum_by-take-le (λ x. cond (is_no_var x) 1 0) xs k

-- room for the next term
pub room_for : (old new from : Graph) (subs ids : List ℕ) (k : ℕ) (x : Term) → Imported old new from subs ids k → length old.terms + count_by is_no_var from.terms ≤ MOST_TERMS → slice_get from.terms k ≡ Some x → length new.terms + count_by is_no_var (x ∷ []) ≤ MOST_TERMS
room_for old new from subs ids k x i h at =
    let c = i.count in
    let m = count_more from.terms k x at in
    let t = count_take from.terms (k + 1) in
    omega arith
