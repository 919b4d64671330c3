-- One step after the other, where sites may have been added.
use Rattle.std.proofs.Common.{◌≡◌, ℕ, suc, ◌+◌, ◌≤◌, List, [], ◌∷◌, ◌++◌, length, refl, sym, ap, ◌∙◌, subst, arith, append_assoc, length-append}
use Rattle.bits_core.specs.Word.{Word, word}
use Rattle.site_terms.specs.Sizes.{Makes, bits_of}
use Rattle.flat_tree.specs.declared.expr.PlacedSite.{PlacedSite}
use Rattle.term_steps.specs.Adds.{Adds}
use Rattle.term_steps.proofs.Adding.{typed_then}
use Rattle.word_eqs.specs.Graph.{Graph, IsTyped}
use Rattle.word_eqs.specs.Meaning.{Values, Respects}

append_nil : {A : Type 0} (xs : List A) → xs ++ [] ≡ xs
append_nil [] = refl
append_nil (x ∷ xs) = ap (λ ys. x ∷ ys) (append_nil xs)

bits_append : (xs ys : List PlacedSite) → bits_of (xs ++ ys) ≡ bits_of xs ++ bits_of ys
bits_append [] ys = refl
bits_append (x ∷ xs) ys = ap (λ zs. x.bits ∷ zs) (bits_append xs ys)

pub bits_length : (xs : List PlacedSite) → length (bits_of xs) ≡ length xs
bits_length [] = refl
bits_length (x ∷ xs) = ap (λ n. suc n) (bits_length xs)

-- the value of a term
pub made_value : (g h : Graph) (S : List PlacedSite) (w c n t : ℕ) (f : Values → ℕ) → Makes g h S w f c n t → (v : Values) → Respects v h → (v.term t).value ≡ f v
made_value g h S w c n t f a v r = ap (λ (x : Word). x.value) (a.value v r)

-- the variables so far
pub made_vars : (g h : Graph) (S : List PlacedSite) (w c n t : ℕ) (f : Values → ℕ) → Makes g h S w f c n t → length h.vars ≡ length g.vars + length S
made_vars g h S w c n t f a = ap (λ (xs : List ℕ). length xs) a.vars ∙ length-append g.vars (bits_of S) ∙ ap (λ k. length g.vars + k) (bits_length S)

pub of_adds : (g h : Graph) (w c n t : ℕ) (f : Values → ℕ) → Adds g h w f c n t → Makes g h [] w f c n t
of_adds g h w c n t f a = record { grown = a.grown; value = a.value; typed = a.typed; vars = a.vars ∙ sym (append_nil g.vars); cost = a.cost; count = a.count }

pub link : (g h i : Graph) (S T : List PlacedSite) (w x c d n m s t : ℕ) (f e k : Values → ℕ) → Makes g h S w f c n s → Makes h i T x e d m t → ((v : Values) → Respects v i → e v ≡ k v) → Makes g i (S ++ T) x k (c + d) (n + m) t
link g h i S T w x c d n m s t f e k p q eq = record {
  grown = λ v r. p.grown v (q.grown v r);
  value = λ v r. q.value v r ∙ ap (word x) (eq v r);
  typed = typed_then g h i w x s t p.typed q.typed;
  vars = q.vars ∙ ap (λ xs. xs ++ bits_of T) p.vars ∙ append_assoc g.vars (bits_of S) (bits_of T) ∙ ap (λ ys. g.vars ++ ys) (sym (bits_append S T));
  cost = let a = p.cost in let b = q.cost in omega arith;
  count = let a = p.count in let b = q.count in omega arith;
}

pub link_adds : (g h i : Graph) (S : List PlacedSite) (w x c d n m s t : ℕ) (f e k : Values → ℕ) → Makes g h S w f c n s → Adds h i x e d m t → ((v : Values) → Respects v i → e v ≡ k v) → Makes g i S x k (c + d) (n + m) t
link_adds g h i S w x c d n m s t f e k p q eq = record {
  grown = λ v r. p.grown v (q.grown v r);
  value = λ v r. q.value v r ∙ ap (word x) (eq v r);
  typed = typed_then g h i w x s t p.typed q.typed;
  vars = q.vars ∙ p.vars;
  cost = let a = p.cost in let b = q.cost in omega arith;
  count = let a = p.count in let b = q.count in omega arith;
}

-- the same said otherwise, and less
pub loosen : (g h : Graph) (S T : List PlacedSite) (w x c d n m t : ℕ) (f k : Values → ℕ) → Makes g h S w f c n t → S ≡ T → w ≡ x → ((v : Values) → Respects v h → f v ≡ k v) → c ≤ d → n ≤ m → Makes g h T x k d m t
loosen g h S T w x c d n m t f k p st wx eq a b = record {
  grown = p.grown;
  value = λ v r. p.value v r ∙ ap (λ y. word y (f v)) wx ∙ ap (word x) (eq v r);
  typed = subst (λ y. IsTyped g h y t) wx p.typed;
  vars = p.vars ∙ ap (λ (z : List PlacedSite). g.vars ++ bits_of z) st;
  cost = let l = p.cost in omega arith;
  count = let l = p.count in omega arith;
}
