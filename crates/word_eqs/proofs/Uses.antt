-- A term's word depends on the variables that it uses alone.
use Rattle.std.proofs.Common.{◌≡◌, ℕ, zero, suc, ◌<◌, ◌≤◌, List, [], ◌∷◌, length, get_or, Option, Some, None, refl, sym, ap, ◌∙◌, subst, arith}
use Rattle.std.specs.Prelude.{slice_get, option_map, Contains}
use Rattle.std.proofs.lemmas.Option.{slice_get-get_or}
use Rattle.bits_core.specs.Word.{Word, at_zero, resized_word, sliced, joined}
use Rattle.bits_core.specs.Ops.{word1, word2}
use Rattle.word_eqs.specs.declared.term.TermNode.{TermNode}
use Rattle.word_eqs.specs.declared.term.TermNode.TheVariants.{Const, Var, One, Two, Choose, Resize, Slice, Join}
use Rattle.word_eqs.specs.declared.term.Term.{Term}
use Rattle.word_eqs.specs.Graph.{Graph, FitsNode, IsGraph, node_at, parts}
use Rattle.word_eqs.specs.Meaning.{Values, node_word, AreValues}
use Rattle.word_eqs.specs.Guarded.{Uses, is_var, by_part}
use Rattle.word_eqs.proofs.Graphs.{no_term}

-- what stands first, second or third in a list of parts is a part
first : (a : ℕ) (l : List ℕ) → Contains (a ∷ l) a
first a l = (0, omega arith, refl)

second : (a b : ℕ) (l : List ℕ) → Contains (a ∷ b ∷ l) b
second a b l = (1, omega arith, refl)

third : (a b c : ℕ) (l : List ℕ) → Contains (a ∷ b ∷ c ∷ l) c
third a b c l = (2, omega arith, refl)

-- two valuations that agree on what a node uses, and on its parts, give it one word
same_uses : (v w : Values) (g : Graph) (n : ℕ) (node : TermNode) → FitsNode g n node → ((x : ℕ) → node ≡ Var (record { 0 = x }) → v.var x ≡ w.var x) → ((k : ℕ) → k < n → Contains (parts node) k → v.term k ≡ w.term k) → node_word v node ≡ node_word w node
same_uses v w g n (Const a) f h e = refl
same_uses v w g n (Var x) f h e = h x.0 refl
same_uses v w g n (One op a) f h e = ap (word1 op) (e a.0 f (first a.0 []))
same_uses v w g n (Two op a b) f h e = ap (λ m. word2 op m (v.term b.0)) (e a.0 f.0 (first a.0 (b.0 ∷ []))) ∙ ap (word2 op (w.term a.0)) (e b.0 f.1 (second a.0 b.0 []))
same_uses v w g n (Choose c a b) f h e =
    ap (λ (m : Word). at_zero m.value (v.term b.0) (v.term a.0)) (e c.0 f.0 (first c.0 (a.0 ∷ b.0 ∷ []))) ∙ ap (λ m. at_zero (w.term c.0).value m (v.term a.0)) (e b.0 f.2 (third c.0 a.0 b.0 [])) ∙ ap (λ m. at_zero (w.term c.0).value (w.term b.0) m) (e a.0 f.1 (second c.0 a.0 (b.0 ∷ [])))
same_uses v w g n (Resize a to signed) f h e = ap (resized_word to signed) (e a.0 f.0 (first a.0 []))
same_uses v w g n (Slice a high low) f h e = ap (sliced high low) (e a.0 f.0 (first a.0 []))
same_uses v w g n (Join a b) f h e = ap (λ m. joined m (v.term b.0)) (e a.0 f.0 (first a.0 (b.0 ∷ []))) ∙ ap (joined (w.term a.0)) (e b.0 f.1 (second a.0 b.0 []))

-- two valuations that agree on the variables that a term uses give it one word
pub used_alone : (v w : Values) (g : Graph) → IsGraph g → AreValues v g.terms → AreValues w g.terms → (k : ℕ) → k < length g.terms → ((x : ℕ) → Uses g k x → v.var x ≡ w.var x) → v.term k ≡ w.term k
used_alone v w g h p q k lt same = up_to (length g.terms) (omega arith) k lt same
  where
    up_to : (n : ℕ) → n ≤ length g.terms → (k : ℕ) → k < n → ((x : ℕ) → Uses g k x → v.var x ≡ w.var x) → v.term k ≡ w.term k
    up_to zero le k lt same = absurd (omega arith)
    up_to (suc n) le k lt same =
        let before : (j : ℕ) → j < n → ((x : ℕ) → Uses g j x → v.var x ≡ w.var x) → v.term j ≡ w.term j = up_to n (omega arith) in
        let x : Term = get_or g.terms k no_term in
        let within : k < length g.terms = omega arith in
        let at : slice_get g.terms k ≡ Some x = slice_get-get_or g.terms k no_term within in
        let here : node_at g k ≡ Some x.node = ap (option_map (λ (y : Term). y.node)) at in
        p.at k x at
        ∙ same_uses v w g k x.node (h.terms k x at).fits (λ y e. same y (is_var k y (here ∙ ap Some e))) (λ j l c. before j (omega arith) (λ y u. same y (by_part k j y x.node here c u)))
        ∙ sym (q.at k x at)

var_there : (g : Graph) → IsGraph g → (k x : ℕ) (r : Option Term) → slice_get g.terms k ≡ r → option_map (λ (y : Term). y.node) r ≡ Some (Var (record { 0 = x })) → x < length g.vars
var_there g h k x None e at = cc
var_there g h k x (Some y) e at =
    let is : y.node ≡ Var (record { 0 = x }) = cc in
    subst (FitsNode g k) is (h.terms k y e).fits

-- the variables that a term uses are there
pub uses_there : (g : Graph) → IsGraph g → {k x : ℕ} → Uses g k x → x < length g.vars
uses_there g h (is_var k x at) = var_there g h k x (slice_get g.terms k) refl at
uses_there g h (by_part k s x node at c u) = uses_there g h u
