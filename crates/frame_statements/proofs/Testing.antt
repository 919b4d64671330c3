-- Terms that were tested, one more at a time.
use Rattle.std.proofs.Common.{◌≡◌, ℕ, ◌+◌, ◌<◌, ◌≤◌, List, [], ◌∷◌, ◌++◌, length, map, get_or, take, sym, ap, ◌∙◌, subst}
use Rattle.std.proofs.lemmas.List.{map-append, take_all}
use Rattle.word_eqs.specs.declared.term.TermId.{TermId}
use Rattle.word_eqs.specs.Graph.{Graph}
use Rattle.joint_ir.specs.declared.program.Member.{Member as AMember}
use Rattle.joint_ir.specs.WellFormed.{AreTerms}
use Rattle.sized_terms.specs.Sized.{Has}
use Rattle.unwind_state.specs.Writing.{sized}
use Rattle.unwind_module.specs.Words.{member_elements}
use Rattle.unwind_module.proofs.Terms.{terms_push}
use Rattle.unwind_words.proofs.Drawn.{more_taken}

pub term_more : (g : Graph) (ids : List TermId) (ws : List ℕ) (k : ℕ) (t : TermId) (w : ℕ) → k < length ids → k < length ws → t ≡ get_or ids k t → w ≡ get_or ws k w → AreTerms g (take k ids) (take k ws) → Has g (sized t w) → AreTerms g (take (k + 1) ids) (take (k + 1) ws)
term_more g ids ws k t w lt lt' et ew A h =
    subst (λ l. AreTerms g l (take (k + 1) ws)) (sym (more_taken ids k t lt et)) (subst (λ l. AreTerms g (take k ids ++ t ∷ []) l) (sym (more_taken ws k w lt' ew)) (terms_push g (take k ids) t (take k ws) w A h))

pub all_terms : (g : Graph) (ids : List TermId) (ws : List ℕ) (k : ℕ) → length ids ≤ k → length ws ≤ k → AreTerms g (take k ids) (take k ws) → AreTerms g ids ws
all_terms g ids ws k le le' A = subst (λ l. AreTerms g l ws) (take_all k ids le) (subst (λ l. AreTerms g (take k ids) l) (take_all k ws le') A)

pub row_more : (rows : List (List TermId)) (members : List AMember) (k : ℕ) (row : List TermId) (m : AMember) → k < length rows → k < length members → row ≡ get_or rows k row → m ≡ get_or members k m → length row ≡ member_elements m →
    map (λ (r : List TermId). length r) (take k rows) ≡ map member_elements (take k members) → map (λ (r : List TermId). length r) (take (k + 1) rows) ≡ map member_elements (take (k + 1) members)
row_more rows members k row m lt lt' er em same A =
    ap (map (λ (r : List TermId). length r)) (more_taken rows k row lt er) ∙ map-append (λ (r : List TermId). length r) (take k rows) (row ∷ [])
    ∙ ap (λ l. l ++ length row ∷ []) A ∙ ap (λ n. map member_elements (take k members) ++ n ∷ []) same
    ∙ sym (map-append member_elements (take k members) (m ∷ [])) ∙ ap (map member_elements) (sym (more_taken members k m lt' em))

pub all_rows : (rows : List (List TermId)) (members : List AMember) (k : ℕ) → length rows ≤ k → length members ≤ k → map (λ (r : List TermId). length r) (take k rows) ≡ map member_elements (take k members) → map (λ (r : List TermId). length r) rows ≡ map member_elements members
all_rows rows members k le le' A = ap (map (λ (r : List TermId). length r)) (sym (take_all k rows le)) ∙ A ∙ ap (map member_elements) (take_all k members le')
