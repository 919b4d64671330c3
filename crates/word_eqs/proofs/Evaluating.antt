-- The words of the first terms of a graph.
use Rattle.std.proofs.Common.{◌≡◌, ℕ, zero, suc, ◌+◌, ◌<◌, ◌≤◌, List, [], ◌∷◌, length, map, get_or, Some, refl, sym, ap, ◌∙◌, arith, length-set}
use Rattle.std.specs.Prelude.{slice_get, slice_set}
use borrow.Author.Count.{below_more}
use Rattle.std.proofs.lemmas.Option.{slice_get_within}
use Rattle.std.proofs.lemmas.List.{get_or-set_other, get_or-set_same}
use Rattle.bits_core.specs.Word.{Word, word}
use Rattle.word_eqs.specs.declared.term.Term.{Term}
use Rattle.word_eqs.specs.Graph.{Graph, width_in, width_of_var, IsGraph}
use Rattle.word_eqs.specs.Meaning.{node_word, AreValues, word_at, look}
use Rattle.word_eqs.proofs.Graphs.{width_is}
use Rattle.word_eqs.proofs.Evals.{same_parts, node_word_width}

-- the terms before place k have their words, of their widths
pub record Evaluated (g : Graph) (env out : List Word) (k : ℕ) : Type 0 where
  pub len : length out ≡ length g.terms
  pub words : (j : ℕ) (x : Term) → j < k → slice_get g.terms j ≡ Some x → word_at out j ≡ node_word (look (word_at env) out) x.node
  pub widths : (j : ℕ) → j < k → (word_at out j).width ≡ width_in g j

pub env_width : (env : List Word) (g : Graph) (x : ℕ) → map (λ (a : Word). a.width) env ≡ g.vars → (word_at env x).width ≡ width_of_var g x
env_width env g x e = at env x ∙ ap (λ l. get_or l x 0) e
  where
    at : (env : List Word) (x : ℕ) → (word_at env x).width ≡ get_or (map (λ (a : Word). a.width) env) x 0
    at [] x = refl
    at (a ∷ env) zero = refl
    at (a ∷ env) (suc x) = at env x

some_is : {X : Type 0} {x y : X} → Some x ≡ Some y → x ≡ y
some_is e = cc

pub evaluated_none : (g : Graph) (env out : List Word) → length out ≡ length g.terms → Evaluated g env out 0
evaluated_none g env out e = record { len = e; words = λ j x lt. absurd (omega arith); widths = λ j lt. absurd (omega arith) }

kept : (out : List Word) (k : ℕ) (w : Word) (j : ℕ) → j < k → word_at (slice_set out k w) j ≡ word_at out j
kept out k w j l = get_or-set_other out k j w (word 0 0) (λ e. absurd (omega arith))

put : (out : List Word) (k : ℕ) (w : Word) → k < length out → word_at (slice_set out k w) k ≡ w
put out k w l = get_or-set_same out k w (word 0 0) l

same_nodes : (g : Graph) (env out : List Word) (k : ℕ) (w : Word) → IsGraph g → (j : ℕ) (y : Term) → j < k + 1 → slice_get g.terms j ≡ Some y → node_word (look (word_at env) out) y.node ≡ node_word (look (word_at env) (slice_set out k w)) y.node
same_nodes g env out k w h j y l p = same_parts (look (word_at env) out) (look (word_at env) (slice_set out k w)) g j y.node (h.terms j y p).fits (λ i m. refl) (λ i m. sym (kept out k w i (omega arith)))

pub evaluated_more : (g : Graph) (env out : List Word) (k : ℕ) (x : Term) (w : Word) → IsGraph g → map (λ (a : Word). a.width) env ≡ g.vars → Evaluated g env out k → k < length g.terms → slice_get g.terms k ≡ Some x → w ≡ node_word (look (word_at env) out) x.node → Evaluated g env (slice_set out k w) (k + 1)
evaluated_more g env out k x w h vars ev lt at is =
    let within : k < length out = let e = ev.len in omega arith in
    let wide : (node_word (look (word_at env) out) x.node).width ≡ width_in g k = node_word_width (look (word_at env) out) g k x.node (h.terms k x at).fits (λ y l. env_width env g y vars) ev.widths ∙ sym (h.terms k x at).width ∙ sym (width_is g k x at) in
    record {
      len = length-set out k w ∙ ev.len;
      words = λ j y l p. below_more (λ i. (z : Term) → slice_get g.terms i ≡ Some z → word_at (slice_set out k w) i ≡ node_word (look (word_at env) (slice_set out k w)) z.node) k
          (λ i m z q. kept out k w i m ∙ ev.words i z m q ∙ same_nodes g env out k w h i z (omega arith) q)
          (λ z q. let e : x ≡ z = some_is (sym at ∙ q) in put out k w within ∙ is ∙ ap (λ (t : Term). node_word (look (word_at env) out) t.node) e ∙ same_nodes g env out k w h k z (omega arith) q)
          j l y p;
      widths = λ j l. below_more (λ i. (word_at (slice_set out k w) i).width ≡ width_in g i) k
          (λ i m. ap (λ (a : Word). a.width) (kept out k w i m) ∙ ev.widths i m)
          (ap (λ (a : Word). a.width) (put out k w within ∙ is) ∙ wide)
          j l;
    }

pub evaluated_all : (g : Graph) (env out : List Word) (k : ℕ) → length g.terms ≤ k → Evaluated g env out k → AreValues (look (word_at env) out) g.terms
evaluated_all g env out k le ev = record { at = λ j x at. let lt = slice_get_within g.terms j x at in ev.words j x (omega arith) at }
