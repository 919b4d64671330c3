-- Words that become others under a guard.
use Rattle.std.proofs.Common.{◌≡◌, ℕ, zero, suc, ◌+◌, ◌<◌, ◌≤◌, List, [], ◌∷◌, ◌++◌, length, map, get_or, take, refl, sym, ap, ◌∙◌, subst, arith}
use Rattle.std.specs.Prelude.{All}
use Rattle.std.proofs.lemmas.List.{map-append, take_more, take_all, length-map, get_or-map}
use Rattle.bits_core.specs.Word.{at_zero}
use Rattle.word_eqs.specs.declared.term.TermId.{TermId}
use Rattle.word_eqs.specs.Graph.{Graph, IsGraph, width_in}
use Rattle.word_eqs.specs.Meaning.{Values, Respects}
use Rattle.joint_ir.specs.WellFormed.{AreTerms}
use Rattle.sized_terms.specs.declared.SizedTerm.{SizedTerm}
use Rattle.sized_terms.specs.Sized.{Has, bits}
use Rattle.unrolled.specs.declared.Unrolled.{Unrolled}
use Rattle.unwind_state.specs.declared.state.Guard.{Guard}
use Rattle.unwind_state.specs.Guards.{bit_at, Adds}
use Rattle.unwind_state.specs.Images.{words}
use Rattle.unwind_state.specs.Writing.{IsChosen, sized}
use Rattle.unwind_state.proofs.Gates.{adds_none, adds_then}
use Rattle.unwind_module.specs.Words.{AreAlike, AreChosen}
use Rattle.unwind_module.proofs.Terms.{grows_adds, terms_none, terms_kept, terms_push, sized_is}

-- terms of the same widths
pub alike : (g : Graph) (new old : List TermId) (ws : List ℕ) → AreTerms g new ws → AreTerms g old ws → AreAlike g new old
alike g new old ws a b = record { takes = a.there; keeps = b.there; widths = b.sized ∙ sym a.sized }

pub alike_lengths : (g : Graph) (new old : List TermId) → AreAlike g new old → length old ≡ length new
alike_lengths g new old h = sym (length-map old (λ (t : TermId). width_in g t.0)) ∙ ap (λ (l : List ℕ). length l) h.widths ∙ length-map new (λ (t : TermId). width_in g t.0)

-- a new term is there, with its width
pub new_has : (n0 n1 : Unrolled) (new old news : List TermId) (k : ℕ) (a : TermId) → Adds n0 n1 → AreAlike n0.terms new old → news ≡ new → k < length news → a ≡ get_or news k a → Has n1.terms (sized a (width_in n0.terms a.0))
new_has n0 n1 new old news k a L h e lt ea =
    let all : All (λ (t : TermId). t.0 < length n0.terms.terms) news = subst (All (λ (t : TermId). t.0 < length n0.terms.terms)) (sym e) h.takes in
    L.kept (sized a (width_in n0.terms a.0)) (record { there = subst (λ (t : TermId). t.0 < length n0.terms.terms) (sym ea) (all k a lt); width = refl })

-- and the old one has the same width
pub old_has : (n0 n1 : Unrolled) (new old news olds : List TermId) (k : ℕ) (a b : TermId) → Adds n0 n1 → AreAlike n0.terms new old → news ≡ new → olds ≡ old → k < length news → a ≡ get_or news k a → b ≡ get_or olds k b → Has n1.terms (sized b (width_in n0.terms a.0))
old_has n0 n1 new old news olds k a b L h e d lt ea eb =
    let all : All (λ (t : TermId). t.0 < length n0.terms.terms) olds = subst (All (λ (t : TermId). t.0 < length n0.terms.terms)) (sym d) h.keeps in
    let n : length olds ≡ length news = ap (λ (l : List TermId). length l) d ∙ alike_lengths n0.terms new old h ∙ sym (ap (λ (l : List TermId). length l) e) in
    let lt' : k < length olds = omega arith in
    let f : TermId → ℕ = λ t. width_in n0.terms t.0 in
    let same : map f olds ≡ map f news = ap (map f) d ∙ h.widths ∙ ap (map f) (sym e) in
    let w : width_in n0.terms b.0 ≡ width_in n0.terms a.0 =
    ap f eb ∙ sym (get_or-map f olds k b 0 lt') ∙ ap (λ l. get_or l k 0) same ∙ get_or-map f news k a 0 lt ∙ ap f (sym ea) in
    L.kept (sized b (width_in n0.terms a.0)) (record { there = subst (λ (t : TermId). t.0 < length n0.terms.terms) (sym eb) (all k b lt'); width = w })

-- a width is that of the first graph
pub width_then : (n0 n1 : Unrolled) (a : TermId) (w : ℕ) → Has n1.terms (sized a (width_in n0.terms a.0)) → w ≡ width_in n1.terms a.0 → w ≡ width_in n0.terms a.0
width_then n0 n1 a w h e = e ∙ h.width

-- all were chosen
pub all_chosen : (n0 n1 : Unrolled) (g : Guard) (new old news olds ids : List TermId) (k : ℕ) → news ≡ new → olds ≡ old → length news ≤ k → AreAlike n0.terms new old → AreChosen n0 n1 g (take k news) (take k olds) ids → AreChosen n0 n1 g new old ids
all_chosen n0 n1 g new old news olds ids k en eo le h A =
    let n : length olds ≡ length news = ap (λ (l : List TermId). length l) eo ∙ alike_lengths n0.terms new old h ∙ sym (ap (λ (l : List TermId). length l) en) in
    subst (λ l. AreChosen n0 n1 g l old ids) en (subst (λ l. AreChosen n0 n1 g news l ids) eo
    (subst (λ l. AreChosen n0 n1 g l olds ids) (take_all k news le) (subst (λ l. AreChosen n0 n1 g (take k news) l ids) (take_all k olds (omega arith)) A)))

pub none_chosen : (n : Unrolled) (g : Guard) → IsGraph n.terms → AreChosen n n g [] [] []
none_chosen n g p = record { adds = adds_none n p; terms = terms_none n.terms; off = λ v r o. refl; on = λ v r l. refl }

words_push : (v : Values) (ids : List TermId) (t : TermId) → words v (ids ++ t ∷ []) ≡ words v ids ++ (v.term t.0).value ∷ []
words_push v ids t = map-append (λ (y : TermId). (v.term y.0).value) ids (t ∷ [])

pub one_chosen : (n0 n1 n2 : Unrolled) (g : Guard) (new old ids : List TermId) (k : ℕ) (a b : TermId) (w : ℕ) (x : SizedTerm) → AreChosen n0 n1 g (take k new) (take k old) ids →
    IsChosen n1 n2 w x (λ v. at_zero (bit_at v g) (v.term b.0).value (v.term a.0).value) → k < length new → k < length old → a ≡ get_or new k a → b ≡ get_or old k b → w ≡ width_in n0.terms a.0 →
    AreChosen n0 n2 g (take (k + 1) new) (take (k + 1) old) (ids ++ x.term ∷ [])
one_chosen n0 n1 n2 g new old ids k a b w x A X lt lt' ea eb ew =
    let e : take (k + 1) new ≡ take k new ++ a ∷ [] = take_more new k a lt ∙ ap (λ y. take k new ++ y ∷ []) (sym ea) in
    let d : take (k + 1) old ≡ take k old ++ b ∷ [] = take_more old k b lt' ∙ ap (λ y. take k old ++ y ∷ []) (sym eb) in
    let widths : map (λ (t : TermId). width_in n0.terms t.0) (take (k + 1) new) ≡ map (λ (t : TermId). width_in n0.terms t.0) (take k new) ++ w ∷ [] =
    ap (map (λ (t : TermId). width_in n0.terms t.0)) e ∙ map-append (λ (t : TermId). width_in n0.terms t.0) (take k new) (a ∷ []) ∙ ap (λ n. map (λ (t : TermId). width_in n0.terms t.0) (take k new) ++ n ∷ []) (sym ew) in
    record {
      adds = adds_then n0 n1 n2 A.adds X.adds;
      terms = subst (AreTerms n2.terms (ids ++ x.term ∷ [])) (sym widths)
          (terms_push n2.terms ids x.term (map (λ (t : TermId). width_in n0.terms t.0) (take k new)) w (terms_kept n1.terms n2.terms ids (map (λ (t : TermId). width_in n0.terms t.0) (take k new)) (grows_adds n1 n2 X.adds) A.terms) (sized_is n2.terms x w X.has X.width));
      off = λ v r o.
          words_push v ids x.term ∙ ap (λ n. words v ids ++ n ∷ []) (X.value v r ∙ ap (λ b'. at_zero b' (v.term b.0).value (v.term a.0).value) o)
          ∙ ap (λ l. l ++ (v.term b.0).value ∷ []) (A.off v (X.adds.grown v r) o) ∙ sym (words_push v (take k old) b) ∙ ap (words v) (sym d);
      on = λ v r l.
          words_push v ids x.term ∙ ap (λ n. words v ids ++ n ∷ []) (X.value v r ∙ ap (λ b'. at_zero b' (v.term b.0).value (v.term a.0).value) l)
          ∙ ap (λ m. m ++ (v.term a.0).value ∷ []) (A.on v (X.adds.grown v r) l) ∙ sym (words_push v (take k new) a) ∙ ap (words v) (sym e);
    }
