-- One term after the other.
use Rattle.std.proofs.Common.{◌≡◌, ℕ, ◌+◌, ◌*◌, ◌<◌, ◌≤◌, List, Bool, true, false, length, refl, sym, ap, ◌∙◌, subst, arith}
use Rattle.std.specs.Prelude.{if◌then◌else◌}
use Rattle.bits_core.specs.Word.{Word, word, resized}
use Rattle.term_steps.specs.Adds.{Adds}
use Rattle.term_steps.proofs.Adding.{chain, value_of}
use Rattle.word_eqs.specs.Gates.{term_gates}
use Rattle.word_eqs.specs.Graph.{Graph, IsGraph, IsTyped, width_in}
use Rattle.word_eqs.specs.Meaning.{Values, Respects}
use Rattle.word_eqs.proofs.Evals.{words_of_terms}

-- the same said otherwise, and less
pub restate : (g h : Graph) (w x c d n m t : ℕ) (f k : Values → ℕ) → Adds g h w f c n t → w ≡ x → ((v : Values) → Respects v h → f v ≡ k v) → c ≤ d → n ≤ m → Adds g h x k d m t
restate g h w x c d n m t f k p wx eq a b = record {
  grown = p.grown;
  value = λ v r. p.value v r ∙ ap (λ y. word y (f v)) wx ∙ ap (word x) (eq v r);
  typed = subst (λ y. IsTyped g h y t) wx p.typed;
  vars = p.vars;
  cost = let l = p.cost in omega arith;
  count = let l = p.count in omega arith;
}

-- a term that is there
pub kept : (g : Graph) (x : ℕ) → IsGraph g → x < length g.terms → Adds g g (width_in g x) (λ v. (v.term x).value) 0 0 x
kept g x proper lt = record {
  grown = λ v r. r;
  value = λ v r. ap (λ k. word k (v.term x).value) (words_of_terms v g proper r x lt).1;
  typed = record {
    there = lt;
    width = refl;
    longer = omega arith;
    kept = λ k l. refl;
  };
  vars = refl;
  cost = omega arith;
  count = omega arith;
}

-- a term, extended or cut
pub resized_after : (g h i : Graph) (w a c n x t : ℕ) (s : Bool) (f : Values → ℕ) → Adds g h a f c n x → Adds h i w (λ v. resized w s (width_in h x) (v.term x).value) 0 1 t → Adds g i w (λ v. resized w s a (f v)) c (n + 1) t
resized_after g h i w a c n x t s f p q =
    let l = chain g h i _ _ c 0 n 1 x t _ _ (λ v. resized w s a (f v)) p q (λ v r. ap (λ k. resized w s k (v.term x).value) p.typed.width ∙ ap (resized w s a) (value_of g h _ _ _ x _ p v (q.grown v r))) in
    restate g i w w (c + 0) c (n + 1) (n + 1) t _ _ l refl (λ v r. refl) (omega arith) (omega arith)
