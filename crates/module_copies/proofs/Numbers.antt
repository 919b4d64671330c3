-- The numbers of copies are those of the terms that were copied.
use Rattle.std.proofs.Common.{◌≡◌, ℕ, zero, suc, ◌+◌, ◌^◌, ◌<◌, ◌≤◌, List, [], ◌∷◌, length, map, refl, sym, ap, ◌∙◌, subst, arith}
use Rattle.std.specs.Prelude.{All, slice_index}
use Rattle.std.proofs.lemmas.List.Elements.{All-nil, All-cons, All-head, All-tail}
use Rattle.std.proofs.lemmas.Simd.{map-map}
use Rattle.bits_core.specs.Word.{Word, word}
use Rattle.word_eqs.specs.declared.term.TermId.{TermId}
use Rattle.word_eqs.specs.Gates.{term_gates}
use Rattle.word_eqs.specs.Graph.{Graph, IsGraph, Extends, width_of_var, width_in, places}
use Rattle.word_eqs.specs.Import.{AreSubs, AreCopies, Copies, through}
use Rattle.word_eqs.specs.Meaning.{Values, Respects, IsWordOf, meaning, word_at}
use Rattle.word_eqs.proofs.Evals.{one_meaning, meaning_values}
use Rattle.word_eqs.proofs.Graphs.{longer, width_kept}
use Rattle.joint_ir.specs.Views.{worded, term_numbers}
use Rattle.joint_ir.specs.WellFormed.{AreTerms}
use Rattle.sized_terms.specs.declared.SizedTerm.{SizedTerm}
use Rattle.sized_terms.specs.Sized.{Has}
use Rattle.unrolled.specs.declared.Unrolled.{Unrolled}
use Rattle.unwind_state.specs.Guards.{Adds}
use Rattle.unwind_state.specs.Images.{words}
use Rattle.unwind_state.specs.Writing.{sized}
use Rattle.module_copies.specs.Copying.{IsPicked, AreCopied}

-- the numbers of terms, by their places
abbrev numbers : Values → List ℕ → List ℕ
numbers v ids = map (λ t. (v.term t).value) ids

word_is : (a : Word) (w : ℕ) → IsWordOf w a → word w a.value ≡ a
word_is a w h = ap (λ k. word k a.value) (sym h.width)

-- words that are made of the numbers of terms are the terms' words
worded_terms : (v : Values) (widths subs : List ℕ) (x : ℕ) → length subs ≡ length widths → ((x : ℕ) → x < length widths → IsWordOf (slice_index widths x) (v.term (slice_index subs x))) → x < length widths →
    word_at (worded widths (numbers v subs)) x ≡ v.term (slice_index subs x)
worded_terms v [] subs x e h lt = absurd (omega arith)
worded_terms v (w ∷ widths) [] x e h lt = absurd (omega arith)
worded_terms v (w ∷ widths) (s ∷ subs) zero e h lt = word_is (v.term s) w (h 0 (omega arith))
worded_terms v (w ∷ widths) (s ∷ subs) (suc x) e h lt = worded_terms v widths subs x (omega arith) (λ y l. h (suc y) (omega arith)) (omega arith)

module _ (g from : Graph) (subs ids : List ℕ) (v : Values) (is : IsGraph from) (s : AreSubs g from subs) (r : Respects (through v subs ids) from) where
  one_copy : (k : ℕ) → k < length from.terms → v.term (slice_index ids k) ≡ (meaning (word_at (worded from.vars (numbers v subs))) from).term k
  one_copy k lt =
      let a : ℕ → Word = word_at (worded from.vars (numbers v subs)) in
      one_meaning (through v subs ids) (meaning a from) from is (λ x l. sym (worded_terms v from.vars subs x s.len r.vars.at l)) r.terms (meaning_values a from is) k lt

  copied_numbers : (wanted : List TermId) → All (λ (t : TermId). t.0 < length from.terms) wanted → numbers v (map (λ (t : TermId). slice_index ids t.0) wanted) ≡ term_numbers from (numbers v subs) wanted
  copied_numbers [] there = refl
  copied_numbers (t ∷ wanted) there =
      let a : ℕ → Word = word_at (worded from.vars (numbers v subs)) in
      let lt : t.0 < length from.terms = All-head (λ (t : TermId). t.0 < length from.terms) t wanted there in
      let rest : numbers v (map (λ (t : TermId). slice_index ids t.0) wanted) ≡ term_numbers from (numbers v subs) wanted = copied_numbers wanted (All-tail (λ (t : TermId). t.0 < length from.terms) t wanted there) in
      ap (λ (w : Word). w.value ∷ numbers v (map (λ (t : TermId). slice_index ids t.0) wanted)) (one_copy t.0 lt) ∙ ap (λ l. ((meaning a from).term t.0).value ∷ l) rest

words_are : (v : Values) (ids : List TermId) → words v ids ≡ numbers v (places ids)
words_are v ids = sym (map-map (λ t. (v.term t).value) (λ (t : TermId). t.0) ids)

-- the terms that were picked are as many as the wanted ones, and have their widths
picked_terms : (g from : Graph) (ids : List ℕ) (wanted found : List TermId) → AreCopies g from ids (length from.terms) → All (λ (t : TermId). t.0 < length from.terms) wanted → IsPicked ids wanted (places found) →
    AreTerms g found (map (λ (t : TermId). width_in from t.0) wanted)
picked_terms g from ids [] [] c all p = record { there = All-nil (λ (t : TermId). t.0 < length g.terms); sized = refl }
picked_terms g from ids [] (t ∷ found) c all p = cc
picked_terms g from ids (w ∷ wanted) [] c all p = cc
picked_terms g from ids (w ∷ wanted) (t ∷ found) c all p =
    let e : t.0 ≡ slice_index ids w.0 = cc in
    let lt : w.0 < length from.terms = All-head (λ (t : TermId). t.0 < length from.terms) w wanted all in
    let d : places found ≡ map (λ (x : TermId). slice_index ids x.0) wanted = cc in
    let more = picked_terms g from ids wanted found c (All-tail (λ (t : TermId). t.0 < length from.terms) w wanted all) d in
    let there : t.0 < length g.terms = subst (λ i. i < length g.terms) (sym e) (c.there w.0 lt) in
    let width : width_in g t.0 ≡ width_in from w.0 = ap (width_in g) e ∙ c.widths w.0 lt in
    record {
      there = All-cons (λ (t : TermId). t.0 < length g.terms) t found there more.there;
      sized = ap (λ n. n ∷ map (λ (x : TermId). width_in g x.0) found) width ∙ ap (λ l. width_in from w.0 ∷ l) more.sized;
    }

pub copies_are : (old new : Unrolled) (from : Graph) (wanted subs all found : List TermId) → IsGraph from → AreSubs old.terms from (places subs) → All (λ (t : TermId). t.0 < length from.terms) wanted → Extends old.terms new.terms → IsGraph new.terms → new.list ≡ old.list →
    Copies old.terms new.terms from (places subs) (places all) → AreCopies new.terms from (places all) (length from.terms) → term_gates new.terms ≤ term_gates old.terms + term_gates from → IsPicked (places all) wanted (places found) → AreCopied old new from wanted subs found
copies_are old new from wanted subs all found is s there x proper l c ty cost p = record {
  adds = record {
    grown = c.grown;
    kept = λ y h. record {
      there = let n = longer old.terms.terms new.terms.terms x.terms in let m = h.there in omega arith;
      width = width_kept old.terms new.terms y.term.0 x h.there ∙ h.width;
    };
    proper = proper;
    list = l;
  };
  cost = cost;
  value = λ v r.
      words_are v found ∙ ap (numbers v) p ∙ copied_numbers old.terms from (places subs) (places all) v is s (c.value v r) wanted there
      ∙ ap (λ ns. term_numbers from ns wanted) (sym (words_are v subs));
  terms = picked_terms new.terms from (places all) wanted found ty there p;
}
