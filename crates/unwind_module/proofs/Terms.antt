-- Terms with widths: as a graph grows, put together, and as words.
use Rattle.std.proofs.Common.{◌≡◌, ℕ, zero, suc, ◌+◌, ◌<◌, ◌≤◌, ◌^◌, List, [], ◌∷◌, ◌++◌, length, map, get_or, take, drop, refl, sym, ap, ◌∙◌, subst, arith}
use Rattle.std.specs.Prelude.{All, slice_index, slice_get, Some}
use Rattle.std.proofs.lemmas.List.{map-append, map_push, length-map, take-append-drop}
use Rattle.std.proofs.lemmas.List.Elements.{All-nil, All-cons, All-head, All-tail, All-append, All-push}
use Rattle.word_eqs.specs.declared.term.TermId.{TermId}
use Rattle.word_eqs.specs.Graph.{Graph, IsGraph, places, width_in, width_of_var}
use Rattle.word_eqs.specs.Import.{AreSubs}
use Rattle.word_eqs.specs.Meaning.{Values, Respects}
use Rattle.joint_ir.specs.States.{copies}
use Rattle.joint_ir.specs.WellFormed.{AreTerms}
use Rattle.joint_view.specs.Conditions.{AreWords}
use Rattle.sized_terms.specs.declared.SizedTerm.{SizedTerm}
use Rattle.sized_terms.specs.Sized.{Has, bits}
use Rattle.sized_terms.proofs.Made.{bits_below}
use Rattle.unrolled.specs.declared.Unrolled.{Unrolled}
use Rattle.unwind_state.specs.declared.state.Flow.{Flow}
use Rattle.unwind_state.specs.declared.state.Guard.{Guard}
use Rattle.unwind_state.specs.declared.state.Guard.TheVariants.{Never, Always, When}
use Rattle.unwind_state.specs.Guards.{HasGuard, HasFlow, Adds, flow_at}
use Rattle.unwind_state.specs.Images.{words}
use Rattle.unwind_state.specs.Unwinding.{Grows}
use Rattle.unwind_state.specs.Writing.{sized}
use Rattle.joint_ir.specs.declared.way.Way.TheVariants.{Next, Breaking, Continuing, Returning}

-- what grows

pub grows_none : (g : Graph) → IsGraph g → Grows g g
grows_none g p = record { grown = λ v r. r; kept = λ x k. k; proper = p }

pub grows_then : (g h i : Graph) → Grows g h → Grows h i → Grows g i
grows_then g h i p q = record { grown = λ v r. p.grown v (q.grown v r); kept = λ x k. q.kept x (p.kept x k); proper = q.proper }

pub grows_adds : (n m : Unrolled) → Adds n m → Grows n.terms m.terms
grows_adds n m A = record { grown = A.grown; kept = A.kept; proper = A.proper }

pub guard_grows : (g h : Graph) (x : Guard) → Grows g h → HasGuard g x → HasGuard h x
guard_grows g h Never G p = tt
guard_grows g h Always G p = tt
guard_grows g h (When t) G p = (G.kept t p.0, p.1)

pub next_has : (g : Graph) (x : Guard) → HasGuard g x → HasFlow g (flow_at Next x)
next_has g x h Next = h
next_has g x h Breaking = tt
next_has g x h Continuing = tt
next_has g x h Returning = tt

-- terms of a graph

abbrev IsIn : Graph → TermId → Type 0
IsIn g t = t.0 < length g.terms

abbrev widths_in : Graph → List TermId → List ℕ
widths_in g ids = map (λ (t : TermId). width_in g t.0) ids

pub terms_none : (g : Graph) → AreTerms g [] []
terms_none g = record { there = All-nil (IsIn g); sized = refl }

pub terms_cons : (g : Graph) (t : TermId) (ids : List TermId) (w : ℕ) (ws : List ℕ) → Has g (sized t w) → AreTerms g ids ws → AreTerms g (t ∷ ids) (w ∷ ws)
terms_cons g t ids w ws h a = record {
  there = All-cons (IsIn g) t ids h.there a.there;
  sized = ap (λ n. n ∷ widths_in g ids) h.width ∙ ap (λ l. w ∷ l) a.sized;
}

pub terms_head : (g : Graph) (t : TermId) (ids : List TermId) (w : ℕ) (ws : List ℕ) → AreTerms g (t ∷ ids) (w ∷ ws) → Has g (sized t w)
terms_head g t ids w ws a =
    let e : width_in g t.0 ∷ widths_in g ids ≡ w ∷ ws = a.sized in
    record { there = All-head (IsIn g) t ids a.there; width = cc }

pub terms_tail : (g : Graph) (t : TermId) (ids : List TermId) (w : ℕ) (ws : List ℕ) → AreTerms g (t ∷ ids) (w ∷ ws) → AreTerms g ids ws
terms_tail g t ids w ws a =
    let e : width_in g t.0 ∷ widths_in g ids ≡ w ∷ ws = a.sized in
    record { there = All-tail (IsIn g) t ids a.there; sized = cc }

pub terms_kept : (g h : Graph) (ids : List TermId) (ws : List ℕ) → Grows g h → AreTerms g ids ws → AreTerms h ids ws
terms_kept g h [] ws G a = record { there = All-nil (IsIn h); sized = a.sized }
terms_kept g h (t ∷ ids) [] G a = let e : width_in g t.0 ∷ widths_in g ids ≡ [] = a.sized in cc
terms_kept g h (t ∷ ids) (w ∷ ws) G a = terms_cons h t ids w ws (G.kept (sized t w) (terms_head g t ids w ws a)) (terms_kept g h ids ws G (terms_tail g t ids w ws a))

pub terms_append : (g : Graph) (xs ys : List TermId) (us vs : List ℕ) → AreTerms g xs us → AreTerms g ys vs → AreTerms g (xs ++ ys) (us ++ vs)
terms_append g xs ys us vs a b = record {
  there = All-append (IsIn g) xs ys a.there b.there;
  sized = map-append (λ (t : TermId). width_in g t.0) xs ys ∙ ap (λ l. l ++ widths_in g ys) a.sized ∙ ap (λ l. us ++ l) b.sized;
}

pub terms_push : (g : Graph) (ids : List TermId) (t : TermId) (ws : List ℕ) (w : ℕ) → AreTerms g ids ws → Has g (sized t w) → AreTerms g (ids ++ t ∷ []) (ws ++ w ∷ [])
terms_push g ids t ws w a h = terms_append g ids (t ∷ []) ws (w ∷ []) a (terms_cons g t [] w [] h (terms_none g))

pub terms_length : (g : Graph) (ids : List TermId) (ws : List ℕ) → AreTerms g ids ws → length ids ≡ length ws
terms_length g ids ws a = sym (length-map ids (λ (t : TermId). width_in g t.0)) ∙ ap (λ (l : List ℕ). length l) a.sized

pub sized_is : (g : Graph) (t : SizedTerm) (w : ℕ) → Has g t → t.width ≡ w → Has g (sized t.term w)
sized_is g t w h e = record { there = h.there; width = h.width ∙ e }

-- a term at a place
pub term_at : (g : Graph) (ids : List TermId) (ws : List ℕ) (k : ℕ) (d : TermId) (e : ℕ) → AreTerms g ids ws → k < length ids → Has g (sized (get_or ids k d) (get_or ws k e))
term_at g [] ws k d e a lt = absurd (omega arith)
term_at g (t ∷ ids) [] k d e a lt = let q : width_in g t.0 ∷ widths_in g ids ≡ [] = a.sized in cc
term_at g (t ∷ ids) (w ∷ ws) zero d e a lt = terms_head g t ids w ws a
term_at g (t ∷ ids) (w ∷ ws) (suc k) d e a lt = term_at g ids ws k d e (terms_tail g t ids w ws a) (omega arith)

-- terms of copies of one width, and those behind
pub terms_split : (g : Graph) (n w : ℕ) (ws : List ℕ) (ids : List TermId) → AreTerms g ids (copies n w ++ ws) → AreTerms g (take n ids) (copies n w) × AreTerms g (drop n ids) ws
terms_split g zero w ws ids a = (terms_none g, a)
terms_split g (suc n) w ws [] a = let q : [] ≡ w ∷ (copies n w ++ ws) = a.sized in cc
terms_split g (suc n) w ws (t ∷ ids) a =
    let p = terms_split g n w ws ids (terms_tail g t ids w (copies n w ++ ws) a) in
    (terms_cons g t (take n ids) w (copies n w) (terms_head g t ids w (copies n w ++ ws) a) p.0, p.1)

-- the words of terms fit their widths
pub terms_words : (v : Values) (g : Graph) (ids : List TermId) (ws : List ℕ) → IsGraph g → Respects v g → AreTerms g ids ws → AreWords ws (words v ids)
terms_words v g [] [] p r a = tt
terms_words v g [] (w ∷ ws) p r a = let q : [] ≡ w ∷ ws = a.sized in cc
terms_words v g (t ∷ ids) [] p r a = let q : width_in g t.0 ∷ widths_in g ids ≡ [] = a.sized in cc
terms_words v g (t ∷ ids) (w ∷ ws) p r a = (bits_below v g (sized t w) p r (terms_head g t ids w ws a), terms_words v g ids ws p r (terms_tail g t ids w ws a))

-- a term for each variable of another graph
index_places : (ids : List TermId) (x : ℕ) (d : TermId) → x < length ids → slice_index (places ids) x ≡ (get_or ids x d).0
index_places [] x d lt = absurd (omega arith)
index_places (t ∷ ids) zero d lt = refl
index_places (t ∷ ids) (suc x) d lt = index_places ids x d (omega arith)

pub terms_subs : (g from : Graph) (ids : List TermId) → AreTerms g ids from.vars → AreSubs g from (places ids)
terms_subs g from ids a =
    let n = terms_length g ids from.vars a in
    let d : TermId = record { 0 = 0 } in
    record {
      len = length-map ids (λ (t : TermId). t.0) ∙ n;
      there = λ x lt. let h = term_at g ids from.vars x d 0 a (omega arith) in subst (λ i. i < length g.terms) (sym (index_places ids x d (omega arith))) h.there;
      widths = λ x lt. let h = term_at g ids from.vars x d 0 a (omega arith) in ap (width_in g) (index_places ids x d (omega arith)) ∙ h.width;
    }
