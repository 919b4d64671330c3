-- Parts side by side, as they are walked over.
use Rattle.std.proofs.Common.{◌≡◌, ℕ, zero, suc, ◌+◌, ◌*◌, ◌<◌, ◌≤◌, List, [], ◌∷◌, Bool, length, drop, get_or, refl, sym, ap, ◌∙◌, subst, arith, length-append, drop-cons}
use Rattle.std.specs.Prelude.{Option, Some, None}
use Rattle.bits_core.specs.Word.{IsWidth, resized}
use Rattle.flat_tree.specs.declared.design.FlatSignal.{FlatSignal}
use Rattle.flat_tree.specs.declared.expr.FlatExpr.{FlatExpr, Concatenation, Replication, Row_of-FlatExpr, end_of-FlatExpr, more_of-FlatExpr}
use Rattle.flat_tree.specs.declared.expr.FlatExpr.TheBlock.{hidden-the_row-FlatExpr-1, items-the_row-FlatExpr, items_hidden-the_row-FlatExpr-1}
use Rattle.flat_tree.specs.declared.expr.PlacedSite.{PlacedSite}
use Rattle.flat_tree.specs.Measures.{node, nodes_of, weight_of, parts_nodes, parts_weight}
use Rattle.flat_tree.specs.Operators.{repeated}
use Rattle.flat_tree.specs.Values.{Shape, Meant, meant, own_sites, sites_of, replicated}
use Rattle.flat_values.specs.Fits.{shapes_of, list_meant}
use Rattle.flat_values.proofs.Nodes.{meant-concatenation, fits-concatenation, meant-replication, fits-replication}
use Rattle.row_terms.specs.Rows.{most_terms, list_nodes, list_weight, IsPart, AreJoined, IsBeside, MayStandBeside}
use Rattle.row_terms.proofs.Joining.{some_nodes, IsSofar, Sofar, sofar_first, sofar_more, sofar_last, concatenated, repeats}
use Rattle.site_terms.proofs.Linking.{made_vars, loosen}
use Rattle.sized_expressions.proofs.Forms.{restated}
use Rattle.sized_expressions.proofs.Starting.{ready_grown}
use Rattle.sized_expressions.specs.Rows.{AreReady, MayJoin}
use Rattle.sized_expressions.specs.Sized.{world_in, IsKnown, MaySize, IsTermOf}
use Rattle.src_text.specs.declared.refusal.Place.{Place}
use Rattle.term_steps.specs.Adds.{Adds}
use Rattle.word_eqs.specs.declared.term.TermId.{TermId}
use Rattle.word_eqs.specs.Graph.{Graph, IsGraph, IsTyped, width_in, MOST_TERMS}

abbrev any : ℕ → Type 0
any k = Unit {0}

-- the part at an index, and those behind it
pub part_is : (parts : List FlatExpr) (i : ℕ) (x : FlatExpr) → i < length parts → x ≡ get_or parts i x → drop i parts ≡ x ∷ drop (i + 1) parts
part_is parts i x lt is = drop-cons parts i x lt ∙ ap (λ y. y ∷ drop (suc i) parts) (sym is) ∙ (let e : suc i ≡ i + 1 = omega arith in ap (λ k. x ∷ drop k parts) e)

pub none_left : (parts : List FlatExpr) (i : ℕ) → length parts ≤ i → drop i parts ≡ []
none_left [] zero le = refl
none_left [] (suc i) le = refl
none_left (x ∷ parts) zero le = absurd (omega arith)
none_left (x ∷ parts) (suc i) le = none_left parts i (omega arith)

list_sites : (shapes : ℕ → Shape) (parts : List FlatExpr) (w : ℕ) → (list_meant shapes parts).sites w ≡ own_sites (list_meant shapes parts)
list_sites shapes [] w = refl
list_sites shapes (e ∷ rest) w = refl

row_nodes : {m : _} (shapes : ℕ → Shape) (row : Row_of-FlatExpr m) → parts_nodes shapes row ≡ list_nodes shapes (items-the_row-FlatExpr _ row)
row_nodes shapes end_of-FlatExpr = refl
row_nodes shapes (more_of-FlatExpr a rest) = ap (λ k. nodes_of shapes a + k) (row_nodes shapes rest)

row_weight : {m : _} (shapes : ℕ → Shape) (row : Row_of-FlatExpr m) → parts_weight shapes row ≡ list_weight shapes (items-the_row-FlatExpr _ row)
row_weight shapes end_of-FlatExpr = refl
row_weight shapes (more_of-FlatExpr a rest) = ap (λ k. weight_of shapes a (meant shapes a).length + k) (row_weight shapes rest)

module _ (shapes : ℕ → Shape) {e : FlatExpr} where
  nodes-concatenation : (p : Place) (items got : List FlatExpr) → e ≡ Concatenation p items → got ≡ items → nodes_of shapes e ≡ 1 + list_nodes shapes got
  nodes-concatenation p items got is same = ap (nodes_of shapes) is ∙ ap (λ k. 1 + k) (row_nodes shapes (hidden-the_row-FlatExpr-1 items) ∙ ap (list_nodes shapes) (items_hidden-the_row-FlatExpr-1 items ∙ sym same))

  nodes-replication : (p : Place) (c : ℕ) (items got : List FlatExpr) → e ≡ Replication p c items → got ≡ items → nodes_of shapes e ≡ 1 + list_nodes shapes got
  nodes-replication p c items got is same = ap (nodes_of shapes) is ∙ ap (λ k. 1 + k) (row_nodes shapes (hidden-the_row-FlatExpr-1 items) ∙ ap (list_nodes shapes) (items_hidden-the_row-FlatExpr-1 items ∙ sym same))

  weight-concatenation : (p : Place) (items got : List FlatExpr) (w : ℕ) → e ≡ Concatenation p items → got ≡ items → weight_of shapes e w ≡ list_weight shapes got + node
  weight-concatenation p items got w is same = ap (λ x. weight_of shapes x w) is ∙ ap (λ k. k + node) (row_weight shapes (hidden-the_row-FlatExpr-1 items) ∙ ap (list_weight shapes) (items_hidden-the_row-FlatExpr-1 items ∙ sym same))

  weight-replication : (p : Place) (c : ℕ) (items got : List FlatExpr) (w : ℕ) → e ≡ Replication p c items → got ≡ items → weight_of shapes e w ≡ list_weight shapes got + node
  weight-replication p c items got w is same = ap (λ x. weight_of shapes x w) is ∙ ap (λ k. k + node) (row_weight shapes (hidden-the_row-FlatExpr-1 items) ∙ ap (list_weight shapes) (items_hidden-the_row-FlatExpr-1 items ∙ sym same))

most_less : (w n : ℕ) → 1 ≤ n → most_terms w n + 1 ≤ 32 * n
most_less w n p = omega arith

module _ (signals : List FlatSignal) (starts : List ℕ) (words : List TermId) where
  abbrev known : Graph → ℕ → Type 0
  known g = IsKnown (length signals) (shapes_of signals) starts words g

  pub concatenation_part : (g : Graph) (e : FlatExpr) (p : Place) (items got : List FlatExpr) (w : ℕ) → MaySize signals starts words g e w → e ≡ Concatenation p items → got ≡ items → MayJoin signals starts words g got
  concatenation_part g e p items got w m is same =
      let f = fits-concatenation (known g) (Unit {0}) (Unit {0}) (shapes_of signals) p items got is same m.fits in
      record {
        fits = f.0;
        width = f.1;
        few = subst (λ (x : List PlacedSite). length g.vars + length x < MOST_TERMS) (ap (λ (x : Meant). x.sites w) (meant-concatenation any (Unit {0}) (Unit {0}) (shapes_of signals) p items got is same) ∙ list_sites (shapes_of signals) got w) m.few;
        room = let n = nodes-concatenation (shapes_of signals) p items got is same in let r = m.room in omega (arith, n, r);
      }

  pub replication_part : (g : Graph) (e : FlatExpr) (p : Place) (c : ℕ) (items got : List FlatExpr) (w : ℕ) → MaySize signals starts words g e w → e ≡ Replication p c items → got ≡ items → MayJoin signals starts words g got × IsWidth (c * (list_meant (shapes_of signals) got).length)
  replication_part g e p c items got w m is same =
      let f = fits-replication (known g) (Unit {0}) (Unit {0}) (shapes_of signals) p c items got is same m.fits in (
        record {
          fits = f.0;
          width = f.1;
          few = subst (λ (x : List PlacedSite). length g.vars + length x < MOST_TERMS) (ap (λ (x : Meant). x.sites w) (meant-replication any (Unit {0}) (Unit {0}) (shapes_of signals) p c items got is same)) m.few;
          room = let n = nodes-replication (shapes_of signals) p c items got is same in let r = m.room in omega (arith, n, r);
        },
        f.2,
      )

  joined_count : (g h : Graph) (got : List FlatExpr) (t : ℕ) → AreJoined (shapes_of signals) (world_in starts words) got g h t → length h.terms ≤ length g.terms + 32 * list_nodes (shapes_of signals) got
  joined_count g h got t p = let a = (p 0 (omega arith)).count in omega (arith, a)

  pub concatenation_room : (g h : Graph) (e : FlatExpr) (p : Place) (items got : List FlatExpr) (w t : ℕ) → MaySize signals starts words g e w → e ≡ Concatenation p items → got ≡ items → AreJoined (shapes_of signals) (world_in starts words) got g h t → length h.terms + 32 ≤ MOST_TERMS
  concatenation_room g h e p items got w t m is same q = let n = nodes-concatenation (shapes_of signals) p items got is same in let r = m.room in let l = joined_count g h got t q in omega (arith, n, r, l)

  pub replication_room : (g h : Graph) (e : FlatExpr) (p : Place) (c : ℕ) (items got : List FlatExpr) (w t : ℕ) → MaySize signals starts words g e w → e ≡ Replication p c items → got ≡ items → AreJoined (shapes_of signals) (world_in starts words) got g h t → length h.terms + 32 ≤ MOST_TERMS
  replication_room g h e p c items got w t m is same q = let n = nodes-replication (shapes_of signals) p c items got is same in let r = m.room in let l = joined_count g h got t q in omega (arith, n, r, l)

  pub concatenation_done : (e : FlatExpr) (p : Place) (items got : List FlatExpr) (w : ℕ) (s : Bool) (g h j : Graph) (x t : ℕ) → e ≡ Concatenation p items → got ≡ items → AreJoined (shapes_of signals) (world_in starts words) got g h x →
      Adds h j w (λ v. resized w s (width_in h x) (v.term x).value) 0 1 t → IsTermOf signals starts words e w s g j t
  concatenation_done e p items got w s g h j x t is same q last =
      let S = shapes_of signals in
      restated starts words (list_meant S got) (meant S e) w s (list_weight S got + node) (weight_of S e w) (1 + list_nodes S got) (nodes_of S e) g j t
      (λ reads le.
      loosen g j (own_sites (list_meant S got)) ((list_meant S got).sites w) w w (8 * (list_weight S got + node)) (8 * (list_weight S got + node)) (most_terms (list_weight S got + node) (1 + list_nodes S got)) (most_terms (list_weight S got + node) (1 + list_nodes S got)) t _ _
      (concatenated S (world_in starts words) g h j got w x t s q last reads le) (sym (list_sites S got w)) refl (λ v r. refl) (omega arith) (omega arith))
      (meant-concatenation any (Unit {0}) (Unit {0}) S p items got is same) (weight-concatenation S p items got w is same) (nodes-concatenation S p items got is same)

  pub replication_done : (e : FlatExpr) (p : Place) (c : ℕ) (items got : List FlatExpr) (w : ℕ) (s : Bool) (g h i j : Graph) (x y t : ℕ) → e ≡ Replication p c items → got ≡ items → AreJoined (shapes_of signals) (world_in starts words) got g h x → IsGraph h →
      Adds h i (c * width_in h x) (λ v. repeated c (width_in h x) (v.term x).value) 0 16 y → Adds i j w (λ v. resized w s (width_in i y) (v.term y).value) 0 1 t → IsTermOf signals starts words e w s g j t
  replication_done e p c items got w s g h i j x y t is same q proper copied last =
      let S = shapes_of signals in
      restated starts words (replicated c (list_meant S got)) (meant S e) w s (list_weight S got + node) (weight_of S e w) (1 + list_nodes S got) (nodes_of S e) g j t
      (repeats S (world_in starts words) g h i j got c w x y t s q proper copied last)
      (meant-replication any (Unit {0}) (Unit {0}) S p c items got is same) (weight-replication S p c items got w is same) (nodes-replication S p c items got is same)

  -- what there is room for, with some parts walked over
  abbrev Walked : Option TermId → (g h : Graph) → (parts rest : List FlatExpr) → Type 0
  Walked = Sofar (shapes_of signals) (world_in starts words)

  left_room : (sofar : Option TermId) (g h : Graph) (parts rest : List FlatExpr) → Walked sofar g h parts rest → MayJoin signals starts words g parts →
      (length h.vars + length (own_sites (list_meant (shapes_of signals) rest)) < MOST_TERMS) × (length h.terms + 32 * list_nodes (shapes_of signals) rest ≤ MOST_TERMS)
  left_room None g h parts rest s m =
      let a = ap (λ (x : Graph). length x.vars) s.0 in
      let b = ap (λ (x : Graph). length x.terms) s.0 in
      let c = ap (λ (x : List FlatExpr). length (own_sites (list_meant (shapes_of signals) x))) s.1 in
      let d = ap (list_nodes (shapes_of signals)) s.1 in
      let few = m.few in
      let room = m.room in (omega (arith, a, c, few), omega (arith, b, d, room))
  left_room (Some t) g h parts rest s m =
      let one = s.made 0 (omega arith) in
      let a = made_vars g h s.sites s.width (8 * s.weight) (most_terms s.weight s.nodes) t.0 (s.value 0) one in
      let b = one.count in
      let c = ap (λ (x : List PlacedSite). length x) s.all_sites ∙ length-append s.sites (own_sites (list_meant (shapes_of signals) rest)) in
      let d = s.all_nodes in
      let most = most_less s.weight s.nodes s.some in
      let few = m.few in
      let room = m.room in (omega (arith, a, c, few), omega (arith, b, d, room, most))

  -- the next part may be walked over
  pub next_part : (sofar : Option TermId) (g h : Graph) (parts rest : List FlatExpr) (e : FlatExpr) (u : ℕ) → Walked sofar g h parts (e ∷ rest) → AreReady signals starts words h (e ∷ rest) → MayJoin signals starts words g parts →
      IsWidth u → u ≡ (meant (shapes_of signals) e).length → MaySize signals starts words h e u
  next_part sofar g h parts rest e u s f m wide is =
      let r = left_room sofar g h parts (e ∷ rest) s m in
      let S = shapes_of signals in
      let c = length-append (own_sites (meant S e)) (own_sites (list_meant S rest)) in
      record {
        fits = f.0;
        width = wide;
        few = subst (λ k. length h.vars + length (sites_of S e k) < MOST_TERMS) (sym is) (let a = r.0 in omega (arith, a, c));
        room = let b = r.1 in omega (arith, b);
      }

  pub beside_room : (sofar : Option TermId) (g h i : Graph) (parts rest : List FlatExpr) (e : FlatExpr) (x : ℕ) → Walked sofar g h parts (e ∷ rest) → MayJoin signals starts words g parts →
      IsPart (shapes_of signals) (world_in starts words) e h i x → length i.terms + 1 ≤ MOST_TERMS
  beside_room sofar g h i parts rest e x s m p =
      let b = (left_room sofar g h parts (e ∷ rest) s m).1 in
      let a = (p 0 (omega arith)).count in
      let most = most_less (weight_of (shapes_of signals) e (meant (shapes_of signals) e).length) (nodes_of (shapes_of signals) e) (some_nodes (shapes_of signals) e) in
      omega (arith, a, b, most)

  pub may_stand : (sofar : Option TermId) (g h i : Graph) (parts rest : List FlatExpr) (e : FlatExpr) (x : ℕ) → Walked sofar g h parts (e ∷ rest) → MayJoin signals starts words g parts →
      IsPart (shapes_of signals) (world_in starts words) e h i x → MayStandBeside sofar i x
  may_stand None g h i parts rest e x s m p = tt
  may_stand (Some t) g h i parts rest e x s m p =
      let one = (s.made 0 (omega arith)).typed in
      let two = (p 0 (omega arith)).typed in
      let there = one.there in
      let longer = two.longer in
      let a = two.kept t.0 there ∙ one.width in
      let b = two.width in
      let all = s.widths in
      let within = m.width.1 in (omega (arith, there, longer), omega (arith, a, b, all, within))

  pub one_walked : (sofar : Option TermId) (g h i j : Graph) (parts rest : List FlatExpr) (e : FlatExpr) (x t : ℕ) → Walked sofar g h parts (e ∷ rest) → IsPart (shapes_of signals) (world_in starts words) e h i x → IsGraph i → IsBeside sofar i j x t →
      IsSofar (shapes_of signals) (world_in starts words) g j parts rest t
  one_walked None g h i j parts rest e x t s p proper b =
      let S = shapes_of signals in
      let W = world_in starts words in
      subst (λ ps. IsSofar S W g j ps rest t) s.1 (subst (λ y. IsSofar S W g j (e ∷ rest) rest y) (sym b.1) (subst (λ k. IsSofar S W g k (e ∷ rest) rest x) (sym b.0) (sofar_first S W g i e rest x (subst (λ k. IsPart S W e k i x) s.0 p))))
  one_walked (Some a) g h i j parts rest e x t s p proper b = sofar_more (shapes_of signals) (world_in starts words) g h i j parts e rest a.0 x t s p proper b

  list_grown : (g h : Graph) (w t : ℕ) → IsTyped g h w t → (parts : List FlatExpr) → AreReady signals starts words g parts → AreReady signals starts words h parts
  list_grown g h w t ty [] f = tt
  list_grown g h w t ty (e ∷ rest) f = (ready_grown signals starts words g h w t ty e f.0, list_grown g h w t ty rest f.1)

  beside_grown : (sofar : Option TermId) (g h : Graph) (x t : ℕ) → IsBeside sofar g h x t → (parts : List FlatExpr) → AreReady signals starts words g parts → AreReady signals starts words h parts
  beside_grown None g h x t b parts f = subst (λ k. AreReady signals starts words k parts) (sym b.0) f
  beside_grown (Some a) g h x t b parts f = list_grown g h _ t b.typed parts f

  pub rest_ready : (sofar : Option TermId) (h i j : Graph) (rest : List FlatExpr) (e : FlatExpr) (x t : ℕ) → IsPart (shapes_of signals) (world_in starts words) e h i x → IsBeside sofar i j x t → AreReady signals starts words h (e ∷ rest) → AreReady signals starts words j rest
  rest_ready sofar h i j rest e x t p b f = beside_grown sofar i j x t b rest (list_grown h i _ x (p 0 (omega arith)).typed rest f.1)

  pub all_walked : (g h : Graph) (parts rest : List FlatExpr) (t : ℕ) → rest ≡ [] → IsSofar (shapes_of signals) (world_in starts words) g h parts rest t → AreJoined (shapes_of signals) (world_in starts words) parts g h t
  all_walked g h parts rest t e s = sofar_last (shapes_of signals) (world_in starts words) g h parts t (subst (λ r. IsSofar (shapes_of signals) (world_in starts words) g h parts r t) e s)
