-- Chains as parts of one list of links.
use Rattle.std.proofs.Common.{◌≡◌, ℕ, suc, zero, ◌+◌, ◌-◌, ◌<◌, ◌≤◌, List, [], ◌∷◌, ◌++◌, length, take, drop, get_or, refl, sym, ap, ◌∙◌, subst, arith, length-append, length-drop}
use Rattle.std.specs.List.{slice_range}
use Rattle.std.proofs.lemmas.List.{drop-append-le, take-append-le, map-append, length-map}
use Rattle.std.proofs.Math.Seq.{drop-append_seam, take-length}
use Rattle.clause_arena.specs.declared.ClauseId.{ClauseId}
use Rattle.res_log.specs.declared.ChainStep.{ChainStep}
use Rattle.res_log.specs.declared.Entry.{Entry}
use Rattle.res_log.specs.Step.{Step}
use Rattle.res_log.specs.Flat.{step_of, steps_of, AreWithin}

range-more : (links more : List ChainStep) (i j : ℕ) → i ≤ j → j ≤ length links → slice_range (links ++ more) i j ≡ slice_range links i j
range-more links more i j h l =
    let a : i ≤ length links = omega arith in
    let n : j - i ≤ length (drop i links) = omega (arith, length-drop i links) in
    ap (take (j - i)) (drop-append-le i links more a) ∙ take-append-le (j - i) (drop i links) more n

range-last : (links more : List ChainStep) (m : ℕ) → m ≡ length links + length more → slice_range (links ++ more) (length links) m ≡ more
range-last links more m e =
    let n : m - length links ≡ length more = omega arith in
    ap (take (m - length links)) (drop-append_seam links more) ∙ ap (λ (k : ℕ). take k more) n ∙ take-length more

step-same : (a b : List ChainStep) (e : Entry) → slice_range a e.from e.to ≡ slice_range b e.from e.to → step_of a e ≡ step_of b e
step-same a b e h = ap (λ (xs : List ChainStep). let s : Step = record { derived = e.derived; first = e.first; rest = xs } in s) h

pub within-more : (n m : ℕ) (es : List Entry) → n ≤ m → AreWithin n es → AreWithin m es
within-more n m [] l h = tt
within-more n m (e ∷ es) l h = let a : e.to ≤ n = h.1 in (h.0, omega arith, within-more n m es l h.2)

within-push : (n m : ℕ) (es : List Entry) (e : Entry) → AreWithin n es → n ≤ m → e.from ≤ e.to → e.to ≤ m → AreWithin m (es ++ e ∷ [])
within-push n m [] e h l a b = (a, b, tt)
within-push n m (x ∷ xs) e h l a b = let t : x.to ≤ n = h.1 in (h.0, omega arith, within-push n m xs e h.2 l a b)

-- more links leave the steps as they were
pub steps-more : (links more : List ChainStep) (es : List Entry) → AreWithin (length links) es → steps_of (links ++ more) es ≡ steps_of links es
steps-more links more [] h = refl
steps-more links more (e ∷ es) h =
    ap (λ (s : Step). s ∷ steps_of (links ++ more) es) (step-same (links ++ more) links e (range-more links more e.from e.to h.0 h.1))
    ∙ ap (λ (ss : List Step). step_of links e ∷ ss) (steps-more links more es h.2)

-- the steps once one was put at the end
pub steps-push : (links more after : List ChainStep) (es longer : List Entry) (derived first : ClauseId) (from to : ℕ) → after ≡ links ++ more → from ≡ length links → to ≡ length after → longer ≡ es ++ record { derived = derived; first = first; from = from; to = to } ∷ [] → AreWithin (length links) es → steps_of after longer ≡ steps_of links es ++ record { derived = derived; first = first; rest = more } ∷ []
steps-push links more after es longer derived first from to e f t g h =
    let p : Entry = record { derived = derived; first = first; from = from; to = to } in
    let r : slice_range (links ++ more) from to ≡ more =
    ap (λ (k : ℕ). slice_range (links ++ more) k to) f ∙ range-last links more to (t ∙ ap length e ∙ length-append links more)
    in
    ap (steps_of after) g
    ∙ ap (λ (x : List ChainStep). steps_of x (es ++ p ∷ [])) e
    ∙ map-append (step_of (links ++ more)) es (p ∷ [])
    ∙ ap (λ (ss : List Step). ss ++ step_of (links ++ more) p ∷ []) (steps-more links more es h)
    ∙ ap (λ (c : List ChainStep). steps_of links es ++ record { derived = derived; first = first; rest = c } ∷ []) r

pub push-within : (links more after : List ChainStep) (es longer : List Entry) (derived first : ClauseId) (from to : ℕ) → after ≡ links ++ more → from ≡ length links → to ≡ length after → longer ≡ es ++ record { derived = derived; first = first; from = from; to = to } ∷ [] → AreWithin (length links) es → AreWithin (length after) longer
push-within links more after es longer derived first from to e f t g h =
    let n : length after ≡ length links + length more = ap length e ∙ length-append links more in
    subst (AreWithin (length after)) (sym g) (within-push (length links) (length after) es (record { derived = derived; first = first; from = from; to = to }) h (omega arith) (omega arith) (omega arith))

within-at : (n : ℕ) (es : List Entry) (i : ℕ) (d : Entry) → AreWithin n es → i < length es → ((get_or es i d).from ≤ (get_or es i d).to) × ((get_or es i d).to ≤ n)
within-at n [] i d h l = absurd (omega arith)
within-at n (e ∷ es) zero d h l = (h.0, h.1)
within-at n (e ∷ es) (suc i) d h l = within-at n es i d h.2 (omega arith)

-- the chain of an entry lies within the links
pub entry-at : (links : List ChainStep) (es : List Entry) (i : ℕ) (x : Entry) (view : List Step) → steps_of links es ≡ view → AreWithin (length links) es → x ≡ get_or es i x → i < length view → (x.from ≤ x.to) × (x.to ≤ length links)
entry-at links es i x view v h e l =
    let m : i < length es = omega (arith, ap length v, length-map es (step_of links)) in
    subst (λ (y : Entry). (y.from ≤ y.to) × (y.to ≤ length links)) (sym e) (within-at (length links) es i x h m)
