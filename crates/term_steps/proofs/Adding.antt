-- One term after the other.
use Rattle.std.proofs.Common.{◌≡◌, ℕ, ◌+◌, ◌<◌, ◌≤◌, ◌^◌, ◌∷◌, [], length, ap, ◌∙◌, subst, arith, length-append}
use Rattle.bits_core.specs.Word.{Word, word}
use Rattle.word_eqs.specs.declared.term.TermNode.{TermNode}
use Rattle.word_eqs.specs.Gates.{term_gates, node_gates}
use Rattle.word_eqs.specs.Graph.{Graph, IsGraph, IsTyped, width_in, node_width, with_term}
use Rattle.word_eqs.specs.Meaning.{Values, Respects, Makes, node_word}
use Rattle.word_eqs.proofs.Evals.{words_of_terms}
use Rattle.term_steps.specs.Adds.{Adds}

add_count : (g h : Graph) (node : TermNode) → h ≡ with_term g node → length h.terms ≡ length g.terms + 1
add_count g h node e = ap (λ (x : Graph). length x.terms) e ∙ length-append g.terms (record { node = node; width = node_width g node } ∷ [])

-- the words of the terms that were there
pub wide : (g h : Graph) (w t : ℕ) (v : Values) (k : ℕ) → IsGraph h → IsTyped g h w t → Respects v h → k < length g.terms → (v.term k).width ≡ width_in g k
wide g h w t v k p ty r lt = let l = ty.longer in let lt2 : k < length h.terms = omega arith in (words_of_terms v h p r k lt2).1 ∙ ty.kept k lt

pub below : (g h : Graph) (w t : ℕ) (v : Values) (k : ℕ) → IsGraph h → IsTyped g h w t → Respects v h → k < length g.terms → (v.term k).value < 2 ^ width_in g k
below g h w t v k p ty r lt =
    let l = ty.longer in
    let lt2 : k < length h.terms = omega arith in
    subst (λ n. (v.term k).value < 2 ^ n) (wide g h w t v k p ty r lt) (words_of_terms v h p r k lt2).0.below

pub made : (g h : Graph) (node : TermNode) (t : ℕ) (f : Values → ℕ) → h ≡ with_term g node → Makes g h node t → IsTyped g h (node_width g node) t → term_gates h ≡ term_gates g + node_gates g node →
    ((v : Values) → Respects v h → node_word v node ≡ word (node_width g node) (f v)) → Adds g h (node_width g node) f (node_gates g node) 1 t
made g h node t f ok m ty c e = record {
  grown = m.grown;
  value = λ v r. m.value v r ∙ e v r;
  typed = ty;
  vars = ap (λ (x : Graph). x.vars) ok;
  cost = omega (arith, c);
  count = let x = add_count g h node ok in omega arith;
}

pub typed_then : (g h i : Graph) (a w s t : ℕ) → IsTyped g h a s → IsTyped h i w t → IsTyped g i w t
typed_then g h i a w s t p q = record {
  there = q.there;
  width = q.width;
  longer = let x = p.longer in let y = q.longer in omega arith;
  kept = λ k lt. let x = p.longer in q.kept k (omega arith) ∙ p.kept k lt;
}

-- the value of a term, and its width
pub value_of : (g h : Graph) (w c n t : ℕ) (f : Values → ℕ) → Adds g h w f c n t → (v : Values) → Respects v h → (v.term t).value ≡ f v
value_of g h w c n t f a v r = ap (λ (x : Word). x.value) (a.value v r)

-- terms after terms
pub chain : (g h i : Graph) (w x c d n m s t : ℕ) (f e k : Values → ℕ) → Adds g h w f c n s → Adds h i x e d m t → ((v : Values) → Respects v i → e v ≡ k v) → Adds g i x k (c + d) (n + m) t
chain g h i w x c d n m s t f e k p q eq = record {
  grown = λ v r. p.grown v (q.grown v r);
  value = λ v r. q.value v r ∙ ap (word x) (eq v r);
  typed = typed_then g h i w x s t p.typed q.typed;
  vars = q.vars ∙ p.vars;
  cost = let a = p.cost in let b = q.cost in omega arith;
  count = let a = p.count in let b = q.count in omega arith;
}

pub weaken : (g h : Graph) (w x c d n m t : ℕ) (f : Values → ℕ) → Adds g h w f c n t → w ≡ x → c ≤ d → n ≤ m → Adds g h x f d m t
weaken g h w x c d n m t f p e a b = record {
  grown = p.grown;
  value = λ v r. p.value v r ∙ ap (λ k. word k (f v)) e;
  typed = subst (λ k. IsTyped g h k t) e p.typed;
  vars = p.vars;
  cost = let l = p.cost in omega arith;
  count = let l = p.count in omega arith;
}
