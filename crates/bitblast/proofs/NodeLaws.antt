-- The edges of nodes, by those of their parts.
use Rattle.std.proofs.Common.{◌≡◌, ℕ, ◌+◌, ◌*◌, ◌^◌, ◌<◌, Bool, true, false, List, [], ◌∷◌, length, get_or, refl, sym, ap, ◌∙◌, subst, arith}
use Rattle.std.specs.Prelude.{if◌then◌else◌}
use Rattle.arrayvec.specs.ArrayVec.{ArrayVec}
use Rattle.bits_core.specs.Word.{Word, at_zero, bit, resized}
use Rattle.bits_core.specs.Ops.{value1, value2, width1, width2}
use Rattle.bits_core.specs.declared.op.Op1.{Op1}
use Rattle.bits_core.specs.declared.op.Op2.{Op2}
use Rattle.gate_net.specs.declared.net.Edge.{Edge}
use Rattle.gate_net.specs.declared.net.Node.{Node}
use Rattle.gate_net.specs.Edge.{edge_value}
use Rattle.gate_net.specs.Net.{IsValuation}
use Rattle.word_eqs.specs.declared.term.TermId.{TermId}
use Rattle.word_eqs.specs.declared.term.TermNode.TheVariants.{Choose, Join, One, Resize, Two}
use Rattle.word_eqs.specs.Gates.{gates1, gates2}
use Rattle.word_eqs.specs.Graph.{Graph, width_in}
use Rattle.word_eqs.specs.Meaning.{Values as Valuation, Respects}
use Rattle.word_eqs.proofs.Evals.{words_of_terms}
use Rattle.bitblast.specs.Circuit.{AreBelow, Grows, MakesWord, number_of}
use Rattle.bitblast.specs.Wires.{AreWords, Fits, IsMade, IsReady, MakesNode, edges_at}
use Rattle.bitblast.proofs.Growth.{grows_none}

part_width : (o : List Node) (g : Graph) (vars words : List (ArrayVec Edge)) (t : ℕ) (xs : List Edge) → AreWords o g vars words → IsMade words t → xs ≡ edges_at words t → length xs ≡ width_in g t
part_width o g vars words t xs w m e = ap length e ∙ w.widths.bits t m

part_value : (a : ℕ → Bool) (v : Valuation) (vars words : List (ArrayVec Edge)) (t : ℕ) (xs : List Edge) → Fits a v vars words → IsMade words t → xs ≡ edges_at words t → number_of a xs ≡ (v.term t).value
part_value a v vars words t xs f m e = ap (number_of a) e ∙ f.of_terms t m

term_width : (o : List Node) (g : Graph) (vars words : List (ArrayVec Edge)) (v : Valuation) (t : ℕ) → AreWords o g vars words → Respects v g → t < length g.terms → width_in g t ≡ (v.term t).width
term_width o g vars words v t w r l = sym ((words_of_terms v g w.graph r t l).1)

pub one_node : (o n : List Node) (g : Graph) (vars words : List (ArrayVec Edge)) (op : Op1) (a : TermId) (xs es : List Edge)
    → IsReady o g vars words (One op a) → xs ≡ edges_at words a.0
    → MakesWord o n (gates1 op (length xs)) (width1 op (length xs)) (λ s. value1 op (length xs) (number_of s xs)) es
    → MakesNode o n g vars words (One op a) es
one_node o n g vars words op a xs es r e x =
    let m = r.parts a.0 (0, omega arith, refl) in
    let l = part_width o g vars words a.0 xs r.words m e in
    record {
      grows = subst (λ k. Grows o n (gates1 op k)) l x.grows;
      there = x.there;
      bits = x.bits ∙ ap (width1 op) l;
      value = λ s v i q f.
          x.value s i ∙ ap (value1 op (length xs)) (part_value s v vars words a.0 xs f m e)
          ∙ ap (λ k. value1 op k (v.term a.0).value) (l ∙ term_width o g vars words v a.0 r.words q r.fits);
    }

pub two_node : (o n : List Node) (g : Graph) (vars words : List (ArrayVec Edge)) (op : Op2) (a b : TermId) (xs ys es : List Edge)
    → IsReady o g vars words (Two op a b) → xs ≡ edges_at words a.0 → ys ≡ edges_at words b.0
    → MakesWord o n (gates2 op (length xs)) (width2 op (length xs)) (λ s. value2 op (length xs) (number_of s xs) (number_of s ys)) es
    → MakesNode o n g vars words (Two op a b) es
two_node o n g vars words op a b xs ys es r e h x =
    let m = r.parts a.0 (0, omega arith, refl) in
    let k = r.parts b.0 (1, omega arith, refl) in
    let l = part_width o g vars words a.0 xs r.words m e in
    record {
      grows = subst (λ k. Grows o n (gates2 op k)) l x.grows;
      there = x.there;
      bits = x.bits ∙ ap (width2 op) l;
      value = λ s v i q f.
          x.value s i ∙ ap (λ j. value2 op (length xs) j (number_of s ys)) (part_value s v vars words a.0 xs f m e)
          ∙ ap (value2 op (length xs) (v.term a.0).value) (part_value s v vars words b.0 ys f k h)
          ∙ ap (λ j. value2 op j (v.term a.0).value (v.term b.0).value) (l ∙ term_width o g vars words v a.0 r.words q r.fits.0);
    }

pub one_bit : (s : ℕ → Bool) (cs : List Edge) (d : Edge) → length cs ≡ 1 → number_of s cs ≡ bit (edge_value s (get_or cs 0 d))
one_bit s [] d e = absurd (omega arith)
one_bit s (c ∷ []) d e = let h : bit (edge_value s c) + 2 * 0 ≡ bit (edge_value s c) = omega arith in h
one_bit s (c ∷ b ∷ cs) d e = absurd (omega arith)

chosen : (c : Bool) (k x y : ℕ) (a b : Word) → bit c ≡ k → x ≡ a.value → y ≡ b.value → (if c then x else y) ≡ (at_zero k b a).value
chosen true k x y a b e f g = f ∙ ap (λ i. (at_zero i b a).value) e
chosen false k x y a b e f g = g ∙ ap (λ i. (at_zero i b a).value) e

pub choice_node : (o n : List Node) (g : Graph) (vars words : List (ArrayVec Edge)) (c a b : TermId) (cs xs ys es : List Edge) (d : Edge)
    → IsReady o g vars words (Choose c a b) → cs ≡ edges_at words c.0 → xs ≡ edges_at words a.0 → ys ≡ edges_at words b.0
    → MakesWord o n (3 * length xs) (length xs) (λ s. if edge_value s (get_or cs 0 d) then number_of s xs else number_of s ys) es
    → MakesNode o n g vars words (Choose c a b) es
choice_node o n g vars words c a b cs xs ys es d r p e h x =
    let mc = r.parts c.0 (0, omega arith, refl) in
    let ma = r.parts a.0 (1, omega arith, refl) in
    let mb = r.parts b.0 (2, omega arith, refl) in
    let l = part_width o g vars words a.0 xs r.words ma e in
    let one : length cs ≡ 1 = part_width o g vars words c.0 cs r.words mc p ∙ r.fits.3 in
    record {
      grows = subst (λ k. Grows o n (3 * k)) l x.grows;
      there = x.there;
      bits = x.bits ∙ l;
      value = λ s v i q f.
          x.value s i ∙ chosen (edge_value s (get_or cs 0 d)) (v.term c.0).value (number_of s xs) (number_of s ys) (v.term a.0) (v.term b.0)
          (sym (one_bit s cs d one) ∙ part_value s v vars words c.0 cs f mc p) (part_value s v vars words a.0 xs f ma e) (part_value s v vars words b.0 ys f mb h);
    }

pub resized_node : (o : List Node) (g : Graph) (vars words : List (ArrayVec Edge)) (a : TermId) (to : ℕ) (signed : Bool) (xs es : List Edge)
    → IsReady o g vars words (Resize a to signed) → xs ≡ edges_at words a.0
    → length es ≡ to → AreBelow (length o) es → ((s : ℕ → Bool) → IsValuation o s → number_of s es ≡ resized to signed (length xs) (number_of s xs))
    → MakesNode o o g vars words (Resize a to signed) es
resized_node o g vars words a to signed xs es r e b t x =
    let m = r.parts a.0 (0, omega arith, refl) in
    let l = part_width o g vars words a.0 xs r.words m e in
    record {
      grows = grows_none o;
      there = t;
      bits = b;
      value = λ s v i q f.
          x s i ∙ ap (resized to signed (length xs)) (part_value s v vars words a.0 xs f m e)
          ∙ ap (λ k. resized to signed k (v.term a.0).value) (l ∙ term_width o g vars words v a.0 r.words q r.fits.0);
    }

pub joined_node : (o : List Node) (g : Graph) (vars words : List (ArrayVec Edge)) (a b : TermId) (xs ys es : List Edge)
    → IsReady o g vars words (Join a b) → xs ≡ edges_at words a.0 → ys ≡ edges_at words b.0
    → length es ≡ length xs + length ys → ((n : ℕ) → AreBelow n xs → AreBelow n ys → AreBelow n es) → ((s : ℕ → Bool) → number_of s es ≡ number_of s xs * 2 ^ length ys + number_of s ys)
    → MakesNode o o g vars words (Join a b) es
joined_node o g vars words a b xs ys es r e h l t x =
    let m = r.parts a.0 (0, omega arith, refl) in
    let k = r.parts b.0 (1, omega arith, refl) in
    let lx = part_width o g vars words a.0 xs r.words m e in
    let ly = part_width o g vars words b.0 ys r.words k h in
    record {
      grows = grows_none o;
      there = t (length o) (subst (AreBelow (length o)) (sym e) (r.words.widths.there a.0)) (subst (AreBelow (length o)) (sym h) (r.words.widths.there b.0));
      bits = l ∙ ap (λ i. i + length ys) lx ∙ ap (λ i. width_in g a.0 + i) ly;
      value = λ s v i q f.
          x s ∙ ap (λ j. j * 2 ^ length ys + number_of s ys) (part_value s v vars words a.0 xs f m e)
          ∙ ap (λ j. (v.term a.0).value * 2 ^ length ys + j) (part_value s v vars words b.0 ys f k h)
          ∙ ap (λ j. (v.term a.0).value * 2 ^ j + (v.term b.0).value) (ly ∙ term_width o g vars words v b.0 r.words q r.fits.1);
    }
