-- What a graph's terms are, by a word for each variable.
use Rattle.std.proofs.Common.{◌≡◌, ℕ, zero, suc, ◌+◌, ◌<◌, ◌≤◌, ◌^◌, List, [], ◌∷◌, ◌++◌, length, get_or, Some, refl, sym, ap, ◌∙◌, subst, arith, length-append, ◌⊎◌, inl, inr}
use Rattle.std.specs.Prelude.{slice_get}
use Rattle.std.proofs.lemmas.List.{get_or_append_left}
use Rattle.std.proofs.lemmas.Option.{slice_get-get_or}
use Rattle.std.proofs.Math.Seq.{get_or-append_seam}
use Rattle.bits_core.specs.Word.{Word, word, IsWord, at_zero, resized_word, sliced, joined}
use Rattle.bits_core.specs.Ops.{word1, word2, width1, width2}
use Rattle.bits_core.proofs.Proper.{word1_is, word2_is, resized_is, sliced_is, joined_is}
use Rattle.word_eqs.specs.declared.term.TermNode.{TermNode}
use Rattle.word_eqs.specs.declared.term.TermNode.TheVariants.{Const, Var, One, Two, Choose, Resize, Slice, Join}
use Rattle.word_eqs.specs.declared.term.Term.{Term}
use Rattle.word_eqs.specs.Graph.{Graph, width_in, width_of_var, node_width, FitsNode, IsGraph, Extends}
use Rattle.word_eqs.specs.Meaning.{Values, node_word, AreValues, IsWordOf, FitsVars, Respects, word_at, look, eval, meaning}
use Rattle.word_eqs.proofs.Graphs.{width_is, get_kept}

-- a node's word depends on those of its parts
pub same_parts : (v w : Values) (g : Graph) (n : ℕ) (node : TermNode) → FitsNode g n node → ((x : ℕ) → x < length g.vars → v.var x ≡ w.var x) → ((k : ℕ) → k < n → v.term k ≡ w.term k) → node_word v node ≡ node_word w node
same_parts v w g n (Const a) f h e = refl
same_parts v w g n (Var x) f h e = h x.0 f
same_parts v w g n (One op a) f h e = ap (word1 op) (e a.0 f)
same_parts v w g n (Two op a b) f h e = ap (λ m. word2 op m (v.term b.0)) (e a.0 f.0) ∙ ap (word2 op (w.term a.0)) (e b.0 f.1)
same_parts v w g n (Choose c a b) f h e =
    ap (λ (m : Word). at_zero m.value (v.term b.0) (v.term a.0)) (e c.0 f.0) ∙ ap (λ m. at_zero (w.term c.0).value m (v.term a.0)) (e b.0 f.2) ∙ ap (λ m. at_zero (w.term c.0).value (w.term b.0) m) (e a.0 f.1)
same_parts v w g n (Resize a to signed) f h e = ap (resized_word to signed) (e a.0 f.0)
same_parts v w g n (Slice a high low) f h e = ap (sliced high low) (e a.0 f.0)
same_parts v w g n (Join a b) f h e = ap (λ m. joined m (v.term b.0)) (e a.0 f.0) ∙ ap (joined (w.term a.0)) (e b.0 f.1)

-- words that are there stay
pub eval_keeps : (a : ℕ → Word) (words : List Word) (terms : List Term) (k : ℕ) → k < length words → word_at (eval a words terms) k ≡ word_at words k
eval_keeps a words [] k lt = refl
eval_keeps a words (x ∷ terms) k lt =
    let y : Word = node_word (look a words) x.node in
    let next : List Word = words ++ y ∷ [] in
    let lt' : k < length next = omega (arith, length-append words (y ∷ [])) in
    eval_keeps a next terms k lt' ∙ get_or_append_left words (y ∷ []) (word 0 0) k lt

pub length-eval : (a : ℕ → Word) (words : List Word) (terms : List Term) → length (eval a words terms) ≡ length words + length terms
length-eval a words [] = omega arith
length-eval a words (x ∷ terms) =
    let y : Word = node_word (look a words) x.node in
    let h = length-eval a (words ++ y ∷ []) terms in
    let l = length-append words (y ∷ []) in
    omega arith

-- the word of a term after others
eval_at : (a : ℕ → Word) (g : Graph) (terms : List Term) (words : List Word) (k : ℕ) (x : Term) → slice_get terms k ≡ Some x → FitsNode g (length words + k) x.node → word_at (eval a words terms) (length words + k) ≡ node_word (look a (eval a words terms)) x.node
eval_at a g [] words k x at f = cc
eval_at a g (y ∷ terms) words zero x at f =
    let z : Word = node_word (look a words) y.node in
    let next : List Word = words ++ z ∷ [] in
    let all : List Word = eval a next terms in
    let is : y ≡ x = cc in
    let n : length words + 0 ≡ length words = omega arith in
    let there : length words < length next = omega (arith, length-append words (z ∷ [])) in
    let f' : FitsNode g (length words) y.node = subst (λ m. FitsNode g m y.node) n (subst (λ (t : Term). FitsNode g (length words + 0) t.node) (sym is) f) in
    let agree : (k : ℕ) → k < length words → word_at words k ≡ word_at all k = λ k lt. sym (eval_keeps a next terms k (omega arith) ∙ get_or_append_left words (z ∷ []) (word 0 0) k lt) in
    let same : z ≡ node_word (look a all) y.node = same_parts (look a words) (look a all) g (length words) y.node f' (λ x lt. refl) agree in
    ap (word_at all) n ∙ eval_keeps a next terms (length words) there ∙ get_or-append_seam words z [] (word 0 0) ∙ same ∙ ap (λ (t : Term). node_word (look a all) t.node) is
eval_at a g (y ∷ terms) words (suc k) x at f =
    let z : Word = node_word (look a words) y.node in
    let next : List Word = words ++ z ∷ [] in
    let n : length next + k ≡ length words + suc k = omega (arith, length-append words (z ∷ [])) in
    let f' : FitsNode g (length next + k) x.node = subst (λ m. FitsNode g m x.node) (sym n) f in
    ap (word_at (eval a next terms)) (sym n) ∙ eval_at a g terms next k x at f'

-- the meaning of a graph under an assignment gives each term what its parts make
pub meaning_values : (a : ℕ → Word) (g : Graph) → IsGraph g → AreValues (meaning a g) g.terms
meaning_values a g h = record {
  at = λ k x at.
      let n : 0 + k ≡ k = omega arith in
      let f : FitsNode g (0 + k) x.node = subst (λ m. FitsNode g m x.node) (sym n) (h.terms k x at).fits in
      ap (word_at (eval a [] g.terms)) (sym n) ∙ eval_at a g g.terms [] k x at f;
}

-- and respects it, where the words of the variables fit
pub meaning_respects : (a : ℕ → Word) (g : Graph) → IsGraph g → FitsVars a g → Respects (meaning a g) g
meaning_respects a g h f = record { vars = f; terms = meaning_values a g h }

-- two valuations that agree on the variables agree on all terms
pub one_meaning : (v w : Values) (g : Graph) → IsGraph g → ((x : ℕ) → x < length g.vars → v.var x ≡ w.var x) → AreValues v g.terms → AreValues w g.terms → (k : ℕ) → k < length g.terms → v.term k ≡ w.term k
one_meaning v w g h same p q k lt = up_to (length g.terms) (omega arith) k lt
  where
    up_to : (n : ℕ) → n ≤ length g.terms → (k : ℕ) → k < n → v.term k ≡ w.term k
    up_to zero le k lt = absurd (omega arith)
    up_to (suc n) le k lt =
        let before : (j : ℕ) → j < n → v.term j ≡ w.term j = up_to n (omega arith) in
        let x : Term = get_or g.terms k (record { node = Var (record { 0 = 0 }); width = 0 }) in
        let within : k < length g.terms = omega arith in
        let at : slice_get g.terms k ≡ Some x = slice_get-get_or g.terms k (record { node = Var (record { 0 = 0 }); width = 0 }) within in
        p.at k x at ∙ same_parts v w g k x.node (h.terms k x at).fits same (λ j l. before j (omega arith)) ∙ sym (q.at k x at)

-- evaluation of an extended graph keeps the words of the terms that were there
pub old_words_kept : (a : ℕ → Word) (g h : Graph) → IsGraph g → IsGraph h → Extends g h → (k : ℕ) → k < length g.terms → (meaning a h).term k ≡ (meaning a g).term k
old_words_kept a g h i j e k lt =
    one_meaning (meaning a h) (meaning a g) g i (λ x l. refl) (record { at = λ k x at. (meaning_values a h j).at k x (get_kept g.terms h.terms k x e.terms at) }) (meaning_values a g i) k lt

-- words of terms have the widths of the terms

at_zero_width : (n w : ℕ) (a b : Word) → a.width ≡ w → b.width ≡ w → (at_zero n a b).width ≡ w
at_zero_width zero w a b p q = p
at_zero_width (suc n) w a b p q = q

at_zero_is : (n : ℕ) (a b : Word) → IsWord a → IsWord b → IsWord (at_zero n a b)
at_zero_is zero a b p q = p
at_zero_is (suc n) a b p q = q

pub node_word_width : (v : Values) (g : Graph) (n : ℕ) (node : TermNode) → FitsNode g n node → ((x : ℕ) → x < length g.vars → (v.var x).width ≡ width_of_var g x) → ((k : ℕ) → k < n → (v.term k).width ≡ width_in g k) → (node_word v node).width ≡ node_width g node
node_word_width v g n (Const a) f h e = refl
node_word_width v g n (Var x) f h e = h x.0 f
node_word_width v g n (One op a) f h e = ap (width1 op) (e a.0 f)
node_word_width v g n (Two op a b) f h e = ap (width2 op) (e a.0 f.0)
node_word_width v g n (Choose c a b) f h e = at_zero_width (v.term c.0).value (width_in g a.0) (v.term b.0) (v.term a.0) (e b.0 f.2 ∙ f.4) (e a.0 f.1)
node_word_width v g n (Resize a to signed) f h e = refl
node_word_width v g n (Slice a high low) f h e = refl
node_word_width v g n (Join a b) f h e = ap (λ k. k + (v.term b.0).width) (e a.0 f.0) ∙ ap (λ k. width_in g a.0 + k) (e b.0 f.1)

pub node_word_is : (v : Values) (g : Graph) (n : ℕ) (node : TermNode) → FitsNode g n node → ((x : ℕ) → x < length g.vars → IsWord (v.var x)) → ((k : ℕ) → k < n → IsWord (v.term k)) → ((k : ℕ) → k < n → (v.term k).width ≡ width_in g k) → IsWord (node_word v node)
node_word_is v g n (Const a) f h i e = f
node_word_is v g n (Var x) f h i e = h x.0 f
node_word_is v g n (One op a) f h i e = word1_is op (v.term a.0) (i a.0 f)
node_word_is v g n (Two op a b) f h i e = word2_is op (v.term a.0) (v.term b.0) (i a.0 f.0) (i b.0 f.1) (e b.0 f.1 ∙ f.2 ∙ sym (e a.0 f.0))
node_word_is v g n (Choose c a b) f h i e = at_zero_is (v.term c.0).value (v.term b.0) (v.term a.0) (i b.0 f.2) (i a.0 f.1)
node_word_is v g n (Resize a to signed) f h i e = resized_is to signed (v.term a.0) f.1 f.2
node_word_is v g n (Slice a high low) f h i e = sliced_is high low (v.term a.0) (i a.0 f.0) f.1 (subst (λ k. high < k) (sym (e a.0 f.0)) f.2)
node_word_is v g n (Join a b) f h i e =
    let p : (v.term a.0).width ≡ width_in g a.0 = e a.0 f.0 in
    let q : (v.term b.0).width ≡ width_in g b.0 = e b.0 f.1 in
    let l = f.2 in
    joined_is (v.term a.0) (v.term b.0) (i a.0 f.0) (i b.0 f.1) (omega arith)

-- a word of a width within bounds is a word
pub proper_of : (w : ℕ) (a : Word) → 0 < w → w ≤ 128 → IsWordOf w a → IsWord a
proper_of w a p q h =
    let e = h.width in
    record { some = omega arith; within = omega arith; below = subst (λ k. a.value < 2 ^ k) (sym e) h.below }

-- under a valuation that respects a graph each term has a word of its width
pub words_of_terms : (v : Values) (g : Graph) → IsGraph g → Respects v g → (k : ℕ) → k < length g.terms → IsWord (v.term k) × ((v.term k).width ≡ width_in g k)
words_of_terms v g h r k lt = up_to (length g.terms) (omega arith) k lt
  where
    up_to : (n : ℕ) → n ≤ length g.terms → (k : ℕ) → k < n → IsWord (v.term k) × ((v.term k).width ≡ width_in g k)
    up_to zero le k lt = absurd (omega arith)
    up_to (suc n) le k lt =
        let before : (j : ℕ) → j < k → IsWord (v.term j) × ((v.term j).width ≡ width_in g j) = λ j l. up_to n (omega arith) j (omega arith) in
        let x : Term = get_or g.terms k (record { node = Var (record { 0 = 0 }); width = 0 }) in
        let within : k < length g.terms = omega arith in
        let at : slice_get g.terms k ≡ Some x = slice_get-get_or g.terms k (record { node = Var (record { 0 = 0 }); width = 0 }) within in
        let e : v.term k ≡ node_word v x.node = r.terms.at k x at in
        let f : FitsNode g k x.node = (h.terms k x at).fits in
        let vars : (y : ℕ) → y < length g.vars → IsWord (v.var y) = λ y l. proper_of (width_of_var g y) (v.var y) (h.vars y 0 l).0 (h.vars y 0 l).1 (r.vars.at y l) in (
          subst IsWord (sym e) (node_word_is v g k x.node f vars (λ j l. (before j l).0) (λ j l. (before j l).1)),
          ap (λ (a : Word). a.width) e ∙ node_word_width v g k x.node f (λ y l. (r.vars.at y l).width) (λ j l. (before j l).1) ∙ sym (h.terms k x at).width ∙ sym (width_is g k x at),
        )

-- a term of one bit is 0 or 1
pub bit_cases : (v : Values) (g : Graph) → IsGraph g → Respects v g → (k : ℕ) → k < length g.terms → width_in g k ≡ 1 → ((v.term k).value ≡ 0) ⊎ ((v.term k).value ≡ 1)
bit_cases v g h r k lt one =
    let w = words_of_terms v g h r k lt in
    let e : (v.term k).width ≡ 1 = w.1 ∙ one in
    two (v.term k).value (subst (λ n. (v.term k).value < 2 ^ n) e w.0.below)
  where
    two : (n : ℕ) → n < 2 ^ 1 → (n ≡ 0) ⊎ (n ≡ 1)
    two zero l = inl refl
    two (suc zero) l = inr refl
    two (suc (suc n)) l = absurd (omega arith)
