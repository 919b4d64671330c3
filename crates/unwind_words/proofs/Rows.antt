-- Rows of terms, one more at a time, as a graph grows, and chosen under a guard.
use Rattle.std.proofs.Common.{◌≡◌, ℕ, zero, suc, ◌+◌, ◌<◌, ◌≤◌, List, [], ◌∷◌, ◌++◌, length, map, get_or, take, refl, sym, ap, ◌∙◌, subst, arith}
use Rattle.std.specs.Prelude.{Some, None, slice_get, slice_index_or}
use Rattle.std.proofs.lemmas.List.{map-append, take_all}
use Rattle.word_eqs.specs.declared.term.TermId.{TermId}
use Rattle.word_eqs.specs.Graph.{Graph, IsGraph, width_in}
use Rattle.word_eqs.specs.Meaning.{Values}
use Rattle.joint_ir.specs.WellFormed.{AreTerms}
use Rattle.unrolled.specs.declared.Unrolled.{Unrolled}
use Rattle.unwind_state.specs.declared.state.Guard.{Guard}
use Rattle.unwind_state.specs.Images.{words}
use Rattle.unwind_state.specs.Unwinding.{Grows}
use Rattle.unwind_state.proofs.Gates.{adds_none, adds_then}
use Rattle.unwind_module.specs.Words.{AreAlike, AreChosen}
use Rattle.unwind_module.proofs.Terms.{grows_adds, terms_kept}
use Rattle.unwind_module.proofs.Choices.{alike}
use Rattle.unwind_words.specs.Rows.{AreRows, AreAlikeRows, AreChosenRows, widths_in}
use Rattle.unwind_words.proofs.Drawn.{more_taken}

pub rows_push : (g : Graph) (rows : List (List TermId)) (wss : List (List ℕ)) (row : List TermId) (ws : List ℕ) → AreRows g rows wss → AreTerms g row ws → AreRows g (rows ++ row ∷ []) (wss ++ ws ∷ [])
rows_push g [] [] row ws a h = (h, tt)
rows_push g [] (us ∷ wss) row ws a h = absurd a
rows_push g (r ∷ rows) [] row ws a h = absurd a
rows_push g (r ∷ rows) (us ∷ wss) row ws a h = (a.0, rows_push g rows wss row ws a.1 h)

pub rows_kept : (g h : Graph) (rows : List (List TermId)) (wss : List (List ℕ)) → Grows g h → AreRows g rows wss → AreRows h rows wss
rows_kept g h [] [] G a = tt
rows_kept g h [] (ws ∷ wss) G a = absurd a
rows_kept g h (row ∷ rows) [] G a = absurd a
rows_kept g h (row ∷ rows) (ws ∷ wss) G a = (terms_kept g h row ws G a.0, rows_kept g h rows wss G a.1)

pub rows_length : (g : Graph) (rows : List (List TermId)) (wss : List (List ℕ)) → AreRows g rows wss → length rows ≡ length wss
rows_length g [] [] a = refl
rows_length g [] (ws ∷ wss) a = absurd a
rows_length g (row ∷ rows) [] a = absurd a
rows_length g (row ∷ rows) (ws ∷ wss) a = ap suc (rows_length g rows wss a.1)

-- the row at a place
pub row_there : (g : Graph) (rows : List (List TermId)) (wss : List (List ℕ)) (i : ℕ) (ws : List ℕ) → AreRows g rows wss → slice_get wss i ≡ Some ws → AreTerms g (slice_index_or rows i []) ws
row_there g [] [] i ws a e = let d : None ≡ Some ws = e in cc
row_there g [] (us ∷ wss) i ws a e = absurd a
row_there g (row ∷ rows) [] i ws a e = absurd a
row_there g (row ∷ rows) (us ∷ wss) zero ws a e = let d : Some us ≡ Some ws = e in let s : us ≡ ws = cc in subst (AreTerms g row) s a.0
row_there g (row ∷ rows) (us ∷ wss) (suc i) ws a e = row_there g rows wss i ws a.1 e

-- rows that are alike

pub alike_kept : (g h : Graph) (new old : List TermId) → Grows g h → AreAlike g new old → AreAlike h new old
alike_kept g h new old G a =
    let ws : List ℕ = map (λ (t : TermId). width_in g t.0) new in
    alike h new old ws (terms_kept g h new ws G (record { there = a.takes; sized = refl })) (terms_kept g h old ws G (record { there = a.keeps; sized = a.widths }))

pub alike_rows_length : (g : Graph) (new old : List (List TermId)) → AreAlikeRows g new old → length old ≡ length new
alike_rows_length g [] [] a = refl
alike_rows_length g [] (b ∷ old) a = absurd a
alike_rows_length g (r ∷ new) [] a = absurd a
alike_rows_length g (r ∷ new) (b ∷ old) a = ap suc (alike_rows_length g new old a.1)

pub alike_at : (g : Graph) (new old : List (List TermId)) (k : ℕ) (d e : List TermId) → AreAlikeRows g new old → k < length new → AreAlike g (get_or new k d) (get_or old k e)
alike_at g [] old k d e a lt = absurd (omega arith)
alike_at g (r ∷ new) [] k d e a lt = absurd a
alike_at g (r ∷ new) (b ∷ old) zero d e a lt = a.0
alike_at g (r ∷ new) (b ∷ old) (suc k) d e a lt = alike_at g new old k d e a.1 (omega arith)

-- rows of the same widths are alike
pub rows_alike : (g : Graph) (new old : List (List TermId)) (wss : List (List ℕ)) → AreRows g new wss → AreRows g old wss → AreAlikeRows g new old
rows_alike g [] [] wss a b = tt
rows_alike g [] (o ∷ old) [] a b = absurd b
rows_alike g [] (o ∷ old) (ws ∷ wss) a b = absurd a
rows_alike g (n ∷ new) [] [] a b = absurd a
rows_alike g (n ∷ new) [] (ws ∷ wss) a b = absurd b
rows_alike g (n ∷ new) (o ∷ old) [] a b = absurd a
rows_alike g (n ∷ new) (o ∷ old) (ws ∷ wss) a b = (alike g n o ws a.0 b.0, rows_alike g new old wss a.1 b.1)

-- the widths of rows are those that they are said to have
pub widths_are : (g : Graph) (rows : List (List TermId)) (wss : List (List ℕ)) → AreRows g rows wss → widths_in g rows ≡ wss
widths_are g [] [] a = refl
widths_are g [] (ws ∷ wss) a = absurd a
widths_are g (row ∷ rows) [] a = absurd a
widths_are g (row ∷ rows) (ws ∷ wss) a = ap (λ l. l ∷ widths_in g rows) a.0.sized ∙ ap (λ l. ws ∷ l) (widths_are g rows wss a.1)

-- rows that were chosen

pub no_rows_chosen : (n : Unrolled) (g : Guard) → IsGraph n.terms → AreChosenRows n n g [] [] []
no_rows_chosen n g p = record { adds = adds_none n p; terms = tt; off = λ v r o. refl; on = λ v r l. refl }

rows_words : (v : Values) (rows : List (List TermId)) (row : List TermId) → map (words v) (rows ++ row ∷ []) ≡ map (words v) rows ++ words v row ∷ []
rows_words v rows row = map-append (words v) rows (row ∷ [])

pub row_chosen : (n0 n1 n2 : Unrolled) (g : Guard) (new old rows : List (List TermId)) (a b ids : List TermId) (k : ℕ) → k < length new → k < length old → a ≡ get_or new k a → b ≡ get_or old k b → AreAlike n0.terms a b →
    AreChosenRows n0 n1 g (take k new) (take k old) rows → AreChosen n1 n2 g a b ids → AreChosenRows n0 n2 g (take (k + 1) new) (take (k + 1) old) (rows ++ ids ∷ [])
row_chosen n0 n1 n2 g new old rows a b ids k lt lt' ea eb L A C =
    let e : take (k + 1) new ≡ take k new ++ a ∷ [] = more_taken new k a lt ea in
    let d : take (k + 1) old ≡ take k old ++ b ∷ [] = more_taken old k b lt' eb in
    let ws : List ℕ = map (λ (t : TermId). width_in n0.terms t.0) a in
    let widths : widths_in n0.terms (take (k + 1) new) ≡ widths_in n0.terms (take k new) ++ ws ∷ [] =
    ap (widths_in n0.terms) e ∙ map-append (λ (row : List TermId). map (λ (t : TermId). width_in n0.terms t.0) row) (take k new) (a ∷ []) in
    let same : map (λ (t : TermId). width_in n1.terms t.0) a ≡ ws = (terms_kept n0.terms n1.terms a ws (grows_adds n0 n1 A.adds) (record { there = L.takes; sized = refl })).sized in
    record {
      adds = adds_then n0 n1 n2 A.adds C.adds;
      terms = subst (AreRows n2.terms (rows ++ ids ∷ [])) (sym widths)
          (rows_push n2.terms rows (widths_in n0.terms (take k new)) ids ws (rows_kept n1.terms n2.terms rows (widths_in n0.terms (take k new)) (grows_adds n1 n2 C.adds) A.terms) (subst (AreTerms n2.terms ids) same C.terms));
      off = λ v r o.
          rows_words v rows ids ∙ ap (λ l. l ++ words v ids ∷ []) (A.off v (C.adds.grown v r) o) ∙ ap (λ l. map (words v) (take k old) ++ l ∷ []) (C.off v r o) ∙ sym (rows_words v (take k old) b) ∙ ap (map (words v)) (sym d);
      on = λ v r l.
          rows_words v rows ids ∙ ap (λ m. m ++ words v ids ∷ []) (A.on v (C.adds.grown v r) l) ∙ ap (λ m. map (words v) (take k new) ++ m ∷ []) (C.on v r l) ∙ sym (rows_words v (take k new) a) ∙ ap (map (words v)) (sym e);
    }

pub all_rows_chosen : (n0 n1 : Unrolled) (g : Guard) (new old rows : List (List TermId)) (k : ℕ) → length new ≤ k → length old ≡ length new → AreChosenRows n0 n1 g (take k new) (take k old) rows → AreChosenRows n0 n1 g new old rows
all_rows_chosen n0 n1 g new old rows k le same A =
    subst (λ l. AreChosenRows n0 n1 g l old rows) (take_all k new le) (subst (λ l. AreChosenRows n0 n1 g (take k new) l rows) (take_all k old (omega arith)) A)
