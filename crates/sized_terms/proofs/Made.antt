-- What is made by one node, and what is made by several, one after the other.
use Rattle.std.proofs.Common.{◌≡◌, ℕ, zero, suc, ◌+◌, ◌-◌, ◌*◌, ◌/◌, ◌%◌, ◌<◌, ◌≤◌, ◌^◌, Bool, [], ◌∷◌, length, refl, sym, ap, ◌∙◌, subst, arith, length-append}
use Rattle.bits_core.specs.Ops.{width1, width2, value1, value2}
use Rattle.bits_core.specs.Word.{Word, word, at_zero, resized}
use Rattle.bits_core.specs.declared.op.Op1.{Op1}
use Rattle.bits_core.specs.declared.op.Op2.{Op2}
use Rattle.word_eqs.specs.declared.term.TermId.{TermId}
use Rattle.word_eqs.specs.declared.term.TermNode.{TermNode}
use Rattle.word_eqs.specs.declared.term.TermNode.TheVariants.{Const, One, Two, Choose, Resize, Slice}
use Rattle.word_eqs.specs.Gates.{term_gates, node_gates, gates1, gates2}
use Rattle.word_eqs.specs.Graph.{Graph, IsGraph, IsTyped, node_width, with_term}
use Rattle.word_eqs.specs.Meaning.{Values, Respects, Makes, node_word}
use Rattle.word_eqs.proofs.Evals.{words_of_terms}
use Rattle.sized_terms.specs.declared.SizedTerm.{SizedTerm}
use Rattle.sized_terms.specs.Sized.{Has, Builds, IsMade, bits}

-- nothing is made
pub builds_none : (g : Graph) → IsGraph g → Builds g g 0 0
builds_none g h = record {
  grown = λ v r. r;
  kept = λ x h. h;
  proper = h;
  cost = omega arith;
  count = omega arith;
}

pub builds_then : (f g h : Graph) (a b m n : ℕ) → Builds f g a m → Builds g h b n → Builds f h (a + b) (m + n)
builds_then f g h a b m n p q =
    let i = p.cost in let j = q.cost in let k = p.count in let l = q.count in
    record {
      grown = λ v r. p.grown v (q.grown v r);
      kept = λ x h. q.kept x (p.kept x h);
      proper = q.proper;
      cost = omega arith;
      count = omega arith;
    }

pub builds_within : (f g : Graph) (a b m n : ℕ) → Builds f g a m → a ≤ b → m ≤ n → Builds f g b n
builds_within f g a b m n p l k =
    let i = p.cost in let j = p.count in
    record { grown = p.grown; kept = p.kept; proper = p.proper; cost = omega arith; count = omega arith }

pub made_then : (f g h : Graph) (w a b m n : ℕ) (t : SizedTerm) (value : Values → ℕ) → Builds f g a m → IsMade g h w b n t value → IsMade f h w (a + b) (m + n) t value
made_then f g h w a b m n t value p q = record { builds = builds_then f g h a b m n p q.builds; has = q.has; width = q.width; value = q.value }

pub made_as : (f g : Graph) (w a b m n : ℕ) (t : SizedTerm) (value other : Values → ℕ) → IsMade f g w a m t value → a ≤ b → m ≤ n → ((v : Values) → Respects v g → value v ≡ other v) → IsMade f g w b n t other
made_as f g w a b m n t value other p l k e = record { builds = builds_within f g a b m n p.builds l k; has = p.has; width = p.width; value = λ v r. p.value v r ∙ e v r }

-- a term's word has its width, and its number is below 2^width

pub word_width : (v : Values) (g : Graph) (x : SizedTerm) → IsGraph g → Respects v g → Has g x → (v.term x.term.0).width ≡ x.width
word_width v g x h r p = (words_of_terms v g h r x.term.0 p.there).1 ∙ p.width

pub bits_below : (v : Values) (g : Graph) (x : SizedTerm) → IsGraph g → Respects v g → Has g x → bits v x < 2 ^ x.width
bits_below v g x h r p = subst (λ w. bits v x < 2 ^ w) (word_width v g x h r p) (words_of_terms v g h r x.term.0 p.there).0.below

-- one node

kept_one : (g h : Graph) (w t : ℕ) (x : SizedTerm) → IsTyped g h w t → Has g x → Has h x
kept_one g h w t x ty p = record { there = let i = ty.longer in let j = p.there in omega arith; width = ty.kept x.term.0 p.there ∙ p.width }

node_made : (g h : Graph) (node : TermNode) (t : SizedTerm) (w gates : ℕ) (value : Values → ℕ) → h ≡ with_term g node → Makes g h node t.term.0 → IsTyped g h (node_width g node) t.term.0 →
    term_gates h ≡ term_gates g + node_gates g node → IsGraph h → node_width g node ≡ w → t.width ≡ w → node_gates g node ≡ gates → ((v : Values) → Respects v h → (node_word v node).value ≡ value v) →
    IsMade g h w gates 1 t value
node_made g h node t w gates value ok m ty c proper is_w is_t is_c is = record {
  builds = record {
    grown = m.grown;
    kept = λ x p. kept_one g h (node_width g node) t.term.0 x ty p;
    proper = proper;
    cost = omega (arith, c, is_c);
    count =
        let l = ap (λ (x : Graph). length x.terms) ok ∙ length-append g.terms (record { node = node; width = node_width g node } ∷ []) in
        omega arith;
  };
  has = record { there = ty.there; width = ty.width ∙ is_w ∙ sym is_t };
  width = is_t;
  value = λ v r. ap (λ (x : Word). x.value) (m.value v r) ∙ is v r;
}

pub constant_made : (g h : Graph) (t : TermId) (a : Word) (w n : ℕ) → a ≡ word w n → h ≡ with_term g (Const a) → Makes g h (Const a) t.0 → IsTyped g h (node_width g (Const a)) t.0 → term_gates h ≡ term_gates g + node_gates g (Const a) → IsGraph h →
    IsMade g h w 0 1 (record { term = t; width = w }) (λ v. n)
constant_made g h t a w n e ok m ty c proper =
    node_made g h (Const a) (record { term = t; width = w }) w 0 (λ v. n) ok m ty c proper (ap (λ (x : Word). x.width) e) refl refl (λ v r. ap (λ (x : Word). x.value) e)

pub one_made : (g h : Graph) (t : TermId) (op : Op1) (a : SizedTerm) (w : ℕ) → Has g a → w ≡ width1 op a.width → h ≡ with_term g (One op a.term) → Makes g h (One op a.term) t.0 → IsTyped g h (node_width g (One op a.term)) t.0 →
    term_gates h ≡ term_gates g + node_gates g (One op a.term) → IsGraph h → IsMade g h (width1 op a.width) (gates1 op a.width) 1 (record { term = t; width = w }) (λ v. value1 op a.width (bits v a))
one_made g h t op a w p e ok m ty c proper =
    node_made g h (One op a.term) (record { term = t; width = w }) (width1 op a.width) (gates1 op a.width) (λ v. value1 op a.width (bits v a)) ok m ty c proper (ap (width1 op) p.width) e (ap (gates1 op) p.width)
    (λ v r. ap (λ k. value1 op k (bits v a)) (word_width v h a proper r (kept_one g h _ t.0 a ty p)))

pub two_made : (g h : Graph) (t : TermId) (op : Op2) (a b : SizedTerm) (w : ℕ) → Has g a → w ≡ width2 op a.width → h ≡ with_term g (Two op a.term b.term) → Makes g h (Two op a.term b.term) t.0 →
    IsTyped g h (node_width g (Two op a.term b.term)) t.0 → term_gates h ≡ term_gates g + node_gates g (Two op a.term b.term) → IsGraph h →
    IsMade g h (width2 op a.width) (gates2 op a.width) 1 (record { term = t; width = w }) (λ v. value2 op a.width (bits v a) (bits v b))
two_made g h t op a b w p e ok m ty c proper =
    node_made g h (Two op a.term b.term) (record { term = t; width = w }) (width2 op a.width) (gates2 op a.width) (λ v. value2 op a.width (bits v a) (bits v b)) ok m ty c proper (ap (width2 op) p.width) e
    (ap (gates2 op) p.width) (λ v r. ap (λ k. value2 op k (bits v a) (bits v b)) (word_width v h a proper r (kept_one g h _ t.0 a ty p)))

at_zero_value : (n : ℕ) (a b : Word) → (at_zero n a b).value ≡ at_zero n a.value b.value
at_zero_value zero a b = refl
at_zero_value (suc n) a b = refl

pub choose_made : (g h : Graph) (t : TermId) (x a b : SizedTerm) → Has g a → h ≡ with_term g (Choose x.term a.term b.term) → Makes g h (Choose x.term a.term b.term) t.0 →
    IsTyped g h (node_width g (Choose x.term a.term b.term)) t.0 → term_gates h ≡ term_gates g + node_gates g (Choose x.term a.term b.term) → IsGraph h →
    IsMade g h a.width (3 * a.width) 1 (record { term = t; width = a.width }) (λ v. at_zero (bits v x) (bits v b) (bits v a))
choose_made g h t x a b p ok m ty c proper =
    node_made g h (Choose x.term a.term b.term) (record { term = t; width = a.width }) a.width (3 * a.width) (λ v. at_zero (bits v x) (bits v b) (bits v a)) ok m ty c proper p.width refl (ap (λ w. 3 * w) p.width)
    (λ v r. at_zero_value (bits v x) (v.term b.term.0) (v.term a.term.0))

pub resize_made : (g h : Graph) (t : TermId) (a : SizedTerm) (to : ℕ) (s : Bool) → Has g a → h ≡ with_term g (Resize a.term to s) → Makes g h (Resize a.term to s) t.0 → IsTyped g h (node_width g (Resize a.term to s)) t.0 →
    term_gates h ≡ term_gates g + node_gates g (Resize a.term to s) → IsGraph h → IsMade g h to 0 1 (record { term = t; width = to }) (λ v. resized to s a.width (bits v a))
resize_made g h t a to s p ok m ty c proper =
    node_made g h (Resize a.term to s) (record { term = t; width = to }) to 0 (λ v. resized to s a.width (bits v a)) ok m ty c proper refl refl refl
    (λ v r. ap (λ k. resized to s k (bits v a)) (word_width v h a proper r (kept_one g h _ t.0 a ty p)))

pub slice_made : (g h : Graph) (t : TermId) (a : SizedTerm) (high low w : ℕ) → w ≡ high - low + 1 → h ≡ with_term g (Slice a.term high low) → Makes g h (Slice a.term high low) t.0 →
    IsTyped g h (node_width g (Slice a.term high low)) t.0 → term_gates h ≡ term_gates g + node_gates g (Slice a.term high low) → IsGraph h →
    IsMade g h (high - low + 1) 0 1 (record { term = t; width = w }) (λ v. bits v a / 2 ^ low % 2 ^ (high - low + 1))
slice_made g h t a high low w e ok m ty c proper =
    node_made g h (Slice a.term high low) (record { term = t; width = w }) (high - low + 1) 0 (λ v. bits v a / 2 ^ low % 2 ^ (high - low + 1)) ok m ty c proper refl e refl (λ v r. refl)
