-- Parts side by side, one after the other.
use Rattle.std.proofs.Common.{◌≡◌, ℕ, ◌+◌, ◌-◌, ◌*◌, ◌%◌, ◌^◌, ◌<◌, ◌≤◌, List, [], ◌∷◌, ◌++◌, Bool, length, refl, sym, ap, ◌∙◌, subst, arith, append_assoc, length-append}
use Rattle.std.specs.Prelude.{Option, Some, None}
use Rattle.std.proofs.Math.Nat.{mod-eq_of_lt}
use Rattle.std.proofs.lemmas.Nat.{pow_pos, pow-add, mul-add-lt, mod_below}
use Rattle.bits_core.specs.Word.{resized}
use Rattle.flat_tree.specs.declared.expr.FlatExpr.{FlatExpr}
use Rattle.flat_tree.specs.declared.expr.FlatExpr as flat
use Rattle.flat_tree.specs.declared.expr.FlatSelection.{FlatSelection}
use Rattle.flat_tree.specs.declared.expr.FlatSelection as selection
use Rattle.flat_tree.specs.declared.expr.PlacedSite.{PlacedSite}
use Rattle.flat_tree.specs.Measures.{node, nodes_of, select_nodes, weight_of}
use Rattle.flat_tree.specs.Operators.{repeated}
use Rattle.flat_tree.specs.Values.{Shape, World, meant, own_sites, own_count, own_value, replicated}
use Rattle.flat_values.specs.Fits.{list_meant}
use Rattle.site_terms.specs.Sizes.{Makes}
use Rattle.site_terms.proofs.Linking.{made_value, made_vars, link, link_adds, loosen}
use Rattle.row_terms.specs.Rows.{most_terms, list_weight, list_nodes, list_value, Worlds, IsPart, AreJoined}
use Rattle.term_steps.specs.Adds.{Adds}
use Rattle.word_eqs.specs.declared.term.TermId.{TermId}
use Rattle.word_eqs.specs.Graph.{Graph, IsGraph, IsTyped, width_in}
use Rattle.word_eqs.specs.Meaning.{Values, Respects}
use Rattle.word_eqs.proofs.Evals.{words_of_terms}

-- each expression has a weight and a node
module _ (shapes : ℕ → Shape) where
  pub some_weight : (e : FlatExpr) (w : ℕ) → 1 ≤ weight_of shapes e w
  some_weight (flat.Literal n) w = omega arith
  some_weight (flat.Signal place g) w = omega arith
  some_weight (flat.Select place g s) w = omega arith
  some_weight (flat.SelectNumber place c low s) w = omega arith
  some_weight (flat.Unary' operator _ (flat.more_of-FlatExpr a _)) w = omega arith
  some_weight (flat.Binary' _ (flat.more_of-FlatExpr a _) operator _ (flat.more_of-FlatExpr b _)) w = omega arith
  some_weight (flat.Conditional' _ (flat.more_of-FlatExpr c _) _ (flat.more_of-FlatExpr a _) _ (flat.more_of-FlatExpr b _)) w = omega arith
  some_weight (flat.Parentheses' place _ (flat.more_of-FlatExpr a _)) w = some_weight a w
  some_weight (flat.Concatenation' place _ parts) w = omega arith
  some_weight (flat.Replication' place c _ parts) w = omega arith
  some_weight (flat.Signed' place _ (flat.more_of-FlatExpr a _)) w = omega arith
  some_weight (flat.Unsigned' place _ (flat.more_of-FlatExpr a _)) w = omega arith

  mutual
    pub some_nodes : (e : FlatExpr) → 1 ≤ nodes_of shapes e
    some_nodes (flat.Literal n) = omega arith
    some_nodes (flat.Signal place g) = omega arith
    some_nodes (flat.Select place g s) = select_some g s
    some_nodes (flat.SelectNumber place c low s) = omega arith
    some_nodes (flat.Unary' operator _ (flat.more_of-FlatExpr a _)) = omega arith
    some_nodes (flat.Binary' _ (flat.more_of-FlatExpr a _) operator _ (flat.more_of-FlatExpr b _)) = omega arith
    some_nodes (flat.Conditional' _ (flat.more_of-FlatExpr c _) _ (flat.more_of-FlatExpr a _) _ (flat.more_of-FlatExpr b _)) = omega arith
    some_nodes (flat.Parentheses' place _ (flat.more_of-FlatExpr a _)) = omega arith
    some_nodes (flat.Concatenation' place _ parts) = omega arith
    some_nodes (flat.Replication' place c _ parts) = omega arith
    some_nodes (flat.Signed' place _ (flat.more_of-FlatExpr a _)) = omega arith
    some_nodes (flat.Unsigned' place _ (flat.more_of-FlatExpr a _)) = omega arith

    select_some : (g : ℕ) (s : FlatSelection) → 1 ≤ select_nodes shapes g s
    select_some g (selection.Bit' _ (flat.more_of-FlatExpr i _)) = let n = some_nodes i in omega (arith, n)
    select_some g (selection.Part high low) = omega arith
    select_some g (selection.Up' _ (flat.more_of-FlatExpr i _) n) = omega arith
    select_some g (selection.Down' _ (flat.more_of-FlatExpr i _) n) = omega arith

  -- parts at a width and a sign
  list_is : (parts : List FlatExpr) (x : World) (w : ℕ) (s : Bool) (k : ℕ) → (list_meant shapes parts).value x w s k ≡ resized w s (list_meant shapes parts).length (list_value shapes parts x k)
  list_is [] x w s k = refl
  list_is (e ∷ rest) x w s k = refl

  list_below : (parts : List FlatExpr) (x : World) (k : ℕ) → own_value (list_meant shapes parts) x k < 2 ^ (list_meant shapes parts).length
  list_below [] x k = mod_below 0 (2 ^ 0) (pow_pos 0)
  list_below (e ∷ rest) x k = mod_below (list_value shapes (e ∷ rest) x k) (2 ^ (list_meant shapes (e ∷ rest)).length) (pow_pos (list_meant shapes (e ∷ rest)).length)

  own_is : (parts : List FlatExpr) (x : World) (k : ℕ) → own_value (list_meant shapes parts) x k ≡ list_value shapes parts x k % 2 ^ (list_meant shapes parts).length
  own_is [] x k = refl
  own_is (e ∷ rest) x k = refl

joins : (w n x y : ℕ) → x < 2 ^ w → y < 2 ^ n → x * 2 ^ n + y < 2 ^ (w + n)
joins w n x y p q = let e = pow-add 2 w n in let h = mul-add-lt x (2 ^ n) y (2 ^ w) p q in grind arith

-- a part's number that fits, and those behind it
list_split : (shapes : ℕ → Shape) (e : FlatExpr) (rest : List FlatExpr) (x : World) (k : ℕ) → own_value (meant shapes e) x k < 2 ^ (meant shapes e).length → own_value (list_meant shapes (e ∷ rest)) x k ≡ list_value shapes (e ∷ rest) x k
list_split shapes e rest x k lt = mod-eq_of_lt (joins (meant shapes e).length (list_meant shapes rest).length (own_value (meant shapes e) x k) (own_value (list_meant shapes rest) x (k + own_count (meant shapes e))) lt (list_below shapes rest x (k + own_count (meant shapes e))))

next_number : (n reads m k : ℕ) → reads ≤ n → m ≡ n + k → m - reads ≡ n - reads + k
next_number n reads m k le e = omega (arith, le, e)

most_join : (a b x y : ℕ) → 1 ≤ a → 1 ≤ b → 1 ≤ x → 1 ≤ y → most_terms a x + most_terms b y + 1 ≤ most_terms (a + b) (x + y)
most_join a b x y p q r s = omega arith

most_row : (a x k : ℕ) → k ≤ 31 → most_terms a x + k ≤ most_terms (a + node) (1 + x)
most_row a x k p = omega arith

shifted : (A B R l m : ℕ) → A * 2 ^ (l + m) + (B * 2 ^ m + R) ≡ (A * 2 ^ l + B) * 2 ^ m + R
shifted A B R l m = ap (λ z. A * z + (B * 2 ^ m + R)) (pow-add 2 l m) ∙ omega arith

module _ (shapes : ℕ → Shape) (world : Worlds) where
  -- the parts before some are a term
  pub record IsSofar (g h : Graph) (parts rest : List FlatExpr) (t : ℕ) : Type 0 where
    pub width : ℕ
    pub sites : List PlacedSite
    pub weight : ℕ
    pub nodes : ℕ
    pub value : (reads : ℕ) → Values → ℕ
    pub heavy : 1 ≤ weight
    pub some : 1 ≤ nodes
    pub made : (reads : ℕ) → reads ≤ length g.vars → Makes g h sites width (value reads) (8 * weight) (most_terms weight nodes) t
    pub split : (reads : ℕ) (v : Values) → reads ≤ length g.vars → Respects v h → list_value shapes parts (world reads v) (length g.vars - reads) ≡ value reads v * 2 ^ (list_meant shapes rest).length + own_value (list_meant shapes rest) (world reads v) (length g.vars - reads + length sites)
    pub widths : (list_meant shapes parts).length ≡ width + (list_meant shapes rest).length
    pub all_sites : own_sites (list_meant shapes parts) ≡ sites ++ own_sites (list_meant shapes rest)
    pub weights : list_weight shapes parts ≡ weight + list_weight shapes rest
    pub all_nodes : list_nodes shapes parts ≡ nodes + list_nodes shapes rest

  -- nothing so far, or the parts before some
  abbrev pub Sofar : Option TermId → (g h : Graph) → (parts rest : List FlatExpr) → Type 0
  Sofar None g h parts rest = (h ≡ g) × (rest ≡ parts)
  Sofar (Some t) g h parts rest = IsSofar g h parts rest t.0

  term_below : (g h : Graph) (w t : ℕ) (v : Values) → IsGraph h → IsTyped g h w t → Respects v h → (v.term t).value < 2 ^ w
  term_below g h w t v p ty r =
      let a = words_of_terms v h p r t ty.there in
      subst (λ n. (v.term t).value < 2 ^ n) (a.1 ∙ ty.width) a.0.below

  pub sofar_first : (g h : Graph) (e : FlatExpr) (rest : List FlatExpr) (t : ℕ) → IsPart shapes world e g h t → IsSofar g h (e ∷ rest) rest t
  sofar_first g h e rest t p = record {
    width = (meant shapes e).length;
    sites = own_sites (meant shapes e);
    weight = weight_of shapes e (meant shapes e).length;
    nodes = nodes_of shapes e;
    value = λ reads v. own_value (meant shapes e) (world reads v) (length g.vars - reads);
    heavy = some_weight shapes e (meant shapes e).length;
    some = some_nodes shapes e;
    made = p;
    split = λ reads v le r. refl;
    widths = refl;
    all_sites = refl;
    weights = refl;
    all_nodes = refl;
  }

  pub sofar_more : (g h i j : Graph) (parts : List FlatExpr) (e : FlatExpr) (rest : List FlatExpr) (a x t : ℕ) → IsSofar g h parts (e ∷ rest) a →
      IsPart shapes world e h i x → IsGraph i →
      Adds i j (width_in i a + width_in i x) (λ v. (v.term a).value * 2 ^ width_in i x + (v.term x).value) 0 1 t → IsSofar g j parts rest t
  sofar_more g h i j parts e rest a x t s p proper last =
      let m = meant shapes e in
      let l = m.length in
      let behind = λ (reads : ℕ). length g.vars - reads + length s.sites in
      let le1 : (reads : ℕ) → reads ≤ length g.vars → reads ≤ length h.vars = λ reads le. let d = made_vars g h s.sites s.width _ _ a (s.value reads) (s.made reads le) in omega (arith, d, le) in
      let at : (reads : ℕ) → reads ≤ length g.vars → length h.vars - reads ≡ behind reads = λ reads le. next_number (length g.vars) reads (length h.vars) (length s.sites) le (made_vars g h s.sites s.width _ _ a (s.value reads) (s.made reads le)) in
      let own = λ (reads : ℕ) (v : Values). own_value m (world reads v) (behind reads) in
      let ex : (reads : ℕ) (v : Values) → reads ≤ length g.vars → Respects v i → (v.term x).value ≡ own reads v = λ reads v le r.
      made_value h i (own_sites m) l _ _ x _ (p reads (le1 reads le)) v r ∙ ap (λ k. own_value m (world reads v) k) (at reads le) in
      let wx : width_in i x ≡ l = (p 0 (omega arith)).typed.width in
      let wa : width_in i a ≡ s.width = (p 0 (omega arith)).typed.kept a (s.made 0 (omega arith)).typed.there ∙ (s.made 0 (omega arith)).typed.width in
      record {
        width = s.width + l;
        sites = s.sites ++ own_sites m;
        weight = s.weight + weight_of shapes e l;
        nodes = s.nodes + nodes_of shapes e;
        value = λ reads v. s.value reads v * 2 ^ l + own reads v;
        heavy = let b = s.heavy in omega (arith, b);
        some = let b = s.some in omega (arith, b);
        made = λ reads le.
            let one = s.made reads le in
            let next = p reads (le1 reads le) in
            let two = link g h i s.sites (own_sites m) s.width l (8 * s.weight) (8 * weight_of shapes e l) (most_terms s.weight s.nodes) (most_terms (weight_of shapes e l) (nodes_of shapes e)) a x (s.value reads) _ (λ v. own_value m (world reads v) (length h.vars - reads)) one next (λ v r. refl) in
            let all = link_adds g i j (s.sites ++ own_sites m) l (width_in i a + width_in i x) (8 * s.weight + 8 * weight_of shapes e l) 0 (most_terms s.weight s.nodes + most_terms (weight_of shapes e l) (nodes_of shapes e)) 1 x t _ _ (λ v. s.value reads v * 2 ^ l + own reads v) two last
            (λ v r.
            let ri = last.grown v r in
            ap (λ k. (v.term a).value * 2 ^ k + (v.term x).value) wx
            ∙ ap (λ k. k * 2 ^ l + (v.term x).value) (made_value g h s.sites s.width (8 * s.weight) (most_terms s.weight s.nodes) a (s.value reads) one v (next.grown v ri))
            ∙ ap (λ k. s.value reads v * 2 ^ l + k) (ex reads v le ri)) in
            loosen g j (s.sites ++ own_sites m) (s.sites ++ own_sites m) (width_in i a + width_in i x) (s.width + l) _ (8 * (s.weight + weight_of shapes e l)) _ (most_terms (s.weight + weight_of shapes e l) (s.nodes + nodes_of shapes e)) t _ _ all refl
            (ap (λ k. k + width_in i x) wa ∙ ap (λ k. s.width + k) wx) (λ v r. refl) (omega arith)
            (let b = most_join s.weight (weight_of shapes e l) s.nodes (nodes_of shapes e) s.heavy (some_weight shapes e l) s.some (some_nodes shapes e) in omega (arith, b));
        split = λ reads v le r.
            let ri = last.grown v r in
            let next = p reads (le1 reads le) in
            let lt : own reads v < 2 ^ l = subst (λ k. k < 2 ^ l) (ex reads v le ri) (term_below h i l x v proper next.typed ri) in
            s.split reads v le (next.grown v ri)
            ∙ ap (λ k. s.value reads v * 2 ^ (l + (list_meant shapes rest).length) + k) (list_split shapes e rest (world reads v) (behind reads) lt)
            ∙ shifted (s.value reads v) (own reads v) (own_value (list_meant shapes rest) (world reads v) (behind reads + own_count m)) l (list_meant shapes rest).length
            ∙ ap (λ k. (s.value reads v * 2 ^ l + own reads v) * 2 ^ (list_meant shapes rest).length + own_value (list_meant shapes rest) (world reads v) k) (let d = length-append s.sites (own_sites m) in omega (arith, d));
        widths = s.widths ∙ omega arith;
        all_sites = s.all_sites ∙ sym (append_assoc s.sites (own_sites m) (own_sites (list_meant shapes rest)));
        weights = s.weights ∙ omega arith;
        all_nodes = s.all_nodes ∙ omega arith;
      }

  append_none : (xs : List PlacedSite) → xs ++ [] ≡ xs
  append_none [] = refl
  append_none (x ∷ xs) = ap (λ ys. x ∷ ys) (append_none xs)

  pub sofar_last : (g h : Graph) (parts : List FlatExpr) (t : ℕ) → IsSofar g h parts [] t → AreJoined shapes world parts g h t
  sofar_last g h parts t s = λ reads le.
      loosen g h s.sites (own_sites (list_meant shapes parts)) s.width (list_meant shapes parts).length _ _ _ _ t (s.value reads) _ (s.made reads le)
      (sym (s.all_sites ∙ append_none s.sites)) (sym (s.widths ∙ omega arith)) (λ v r. sym (s.split reads v le r ∙ omega arith))
      (let a = s.weights in omega (arith, a))
      (let a = s.weights in let b = s.all_nodes in omega (arith, a, b))

  -- a concatenation at a width and a sign
  pub concatenated : (g h i : Graph) (parts : List FlatExpr) (w t u : ℕ) (s : Bool) → AreJoined shapes world parts g h t → Adds h i w (λ v. resized w s (width_in h t) (v.term t).value) 0 1 u →
      (reads : ℕ) → reads ≤ length g.vars →
      Makes g i (own_sites (list_meant shapes parts)) w (λ v. (list_meant shapes parts).value (world reads v) w s (length g.vars - reads)) (8 * (list_weight shapes parts + node))
      (most_terms (list_weight shapes parts + node) (1 + list_nodes shapes parts)) u
  concatenated g h i parts w t u s p q reads le =
      let one = p reads le in
      let l = (list_meant shapes parts).length in
      let sites = own_sites (list_meant shapes parts) in
      let all = link_adds g h i sites l w (8 * list_weight shapes parts) 0 (most_terms (list_weight shapes parts) (list_nodes shapes parts)) 1 t u _ _
      (λ v. (list_meant shapes parts).value (world reads v) w s (length g.vars - reads)) one q
      (λ v r. ap (λ k. resized w s k (v.term t).value) one.typed.width ∙ ap (resized w s l) (made_value g h sites l _ _ t _ one v (q.grown v r)) ∙ sym (list_is shapes parts (world reads v) w s (length g.vars - reads))) in
      loosen g i sites sites w w _ _ _ _ u _ _ all refl refl (λ v r. refl) (omega arith) (most_row (list_weight shapes parts) (list_nodes shapes parts) 1 (omega arith))

  -- a replication at a width and a sign
  pub repeats : (g h i j : Graph) (parts : List FlatExpr) (c w t u x : ℕ) (s : Bool) → AreJoined shapes world parts g h t → IsGraph h →
      Adds h i (c * width_in h t) (λ v. repeated c (width_in h t) (v.term t).value) 0 16 u → Adds i j w (λ v. resized w s (width_in i u) (v.term u).value) 0 1 x →
      (reads : ℕ) → reads ≤ length g.vars →
      Makes g j (own_sites (list_meant shapes parts)) w (λ v. (replicated c (list_meant shapes parts)).value (world reads v) w s (length g.vars - reads)) (8 * (list_weight shapes parts + node))
      (most_terms (list_weight shapes parts + node) (1 + list_nodes shapes parts)) x
  repeats g h i j parts c w t u x s p proper q z reads le =
      let one = p reads le in
      let l = (list_meant shapes parts).length in
      let sites = own_sites (list_meant shapes parts) in
      let own = λ (v : Values). own_value (list_meant shapes parts) (world reads v) (length g.vars - reads) in
      let is : (v : Values) → Respects v h → (v.term t).value ≡ own v = λ v r.
      let e = made_value g h sites l _ _ t _ one v r in
      e ∙ sym (own_is shapes parts (world reads v) (length g.vars - reads) ∙ mod-eq_of_lt (subst (λ k. k < 2 ^ l) e (term_below g h l t v proper one.typed r))) in
      let copied = link_adds g h i sites l (c * width_in h t) (8 * list_weight shapes parts) 0 (most_terms (list_weight shapes parts) (list_nodes shapes parts)) 16 t u _ _ (λ v. repeated c l (own v)) one q
      (λ v r. ap (λ k. repeated c k (v.term t).value) one.typed.width ∙ ap (repeated c l) (is v (q.grown v r))) in
      let wu : width_in i u ≡ c * l = q.typed.width ∙ ap (λ k. c * k) one.typed.width in
      let all = link_adds g i j sites (c * width_in h t) w (8 * list_weight shapes parts + 0) 0 (most_terms (list_weight shapes parts) (list_nodes shapes parts) + 16) 1 u x _ _
      (λ v. (replicated c (list_meant shapes parts)).value (world reads v) w s (length g.vars - reads)) copied z
      (λ v r. ap (λ k. resized w s k (v.term u).value) wu ∙ ap (resized w s (c * l)) (made_value g i sites _ _ _ u _ copied v (z.grown v r))) in
      loosen g j sites sites w w _ _ _ _ x _ _ all refl refl (λ v r. refl) (omega arith) (let b = most_row (list_weight shapes parts) (list_nodes shapes parts) 17 (omega arith) in omega (arith, b))
