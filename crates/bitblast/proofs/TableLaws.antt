-- Tables of edges: what is put at a place, and what stays.
use Rattle.std.proofs.Common.{◌≡◌, ◌⊎◌, inl, inr, ℕ, zero, suc, ◌+◌, ◌-◌, ◌<◌, ◌≤◌, List, [], ◌∷◌, ◌++◌, length, take, drop, replicate, refl, sym, ap, ◌∙◌, arith}
use Rattle.std.specs.Prelude.{slice_set}
use Rattle.std.specs.List.{slice_range}
use Rattle.std.proofs.lemmas.List.{length-drop, take-append-le, drop-append-le, drop_at, take_all, map-set}
use Rattle.std.proofs.lemmas.Bool.{cases_lt}
use Rattle.std.proofs.lemmas.List.Elements.{All-head, All-tail}
use Rattle.gate_net.specs.declared.net.Edge.{Edge}
use Rattle.bitblast.specs.declared.edge_table.Span.{Span}
use Rattle.bitblast.specs.Table.{AreWithin, word_at, words_at}

-- no edges at all
pub no_words : (n : ℕ) (s : Span) (edges : List Edge) → s.width ≡ 0 → words_at edges (replicate n s) ≡ replicate n (record { items = [] })
no_words zero s edges e = refl
no_words (suc n) s edges e =
    let z : s.start + s.width - s.start ≡ 0 = omega arith in
    ap (λ k. record { items = take k (drop s.start edges) } ∷ words_at edges (replicate n s)) z ∙ ap (λ l. record { items = [] } ∷ l) (no_words n s edges e)

range_kept : (edges more : List Edge) (a b : ℕ) → b ≤ length edges → slice_range (edges ++ more) a b ≡ slice_range edges a b
range_kept edges more a b l = on (cases_lt a b)
  where
    on : (a < b) ⊎ (b ≤ a) → slice_range (edges ++ more) a b ≡ slice_range edges a b
    on (inl h) =
        let m : a ≤ length edges = omega arith in
        let k : b - a ≤ length (drop a edges) = omega (arith, length-drop a edges) in
        ap (take (b - a)) (drop-append-le a edges more m) ∙ take-append-le (b - a) (drop a edges) more k
    on (inr h) =
        let z : b - a ≡ 0 = omega arith in
        ap (λ k. take k (drop a (edges ++ more))) z ∙ sym (ap (λ k. take k (drop a edges)) z)

-- words stay when edges are added
pub words_kept : (edges more : List Edge) (spans : List Span) → AreWithin (length edges) spans → words_at (edges ++ more) spans ≡ words_at edges spans
words_kept edges more [] w = refl
words_kept edges more (s ∷ spans) w =
    let h = (All-head (λ (s : Span). (s.start + s.width ≤ length edges) × (s.width ≤ 128)) s spans w).0 in
    ap (λ l. record { items = l } ∷ words_at (edges ++ more) spans) (range_kept edges more s.start (s.start + s.width) h)
    ∙ ap (λ l. word_at edges s ∷ l) (words_kept edges more spans (All-tail (λ (s : Span). (s.start + s.width ≤ length edges) × (s.width ≤ 128)) s spans w))

-- the word of the edges that were added
added : (edges more : List Edge) → slice_range (edges ++ more) (length edges) (length edges + length more) ≡ more
added edges more =
    let k : length edges + length more - length edges ≡ length more = omega arith in
    ap (λ k. take k (drop (length edges) (edges ++ more))) k ∙ ap (take (length more)) (drop_at edges more (length edges) refl) ∙ take_all (length more) more (omega arith)

pub words_put : (edges more : List Edge) (spans : List Span) (at start : ℕ) → start ≡ length edges → AreWithin (length edges) spans → words_at (edges ++ more) (slice_set spans at (record { start = start; width = length more })) ≡ slice_set (words_at edges spans) at (record { items = more })
words_put edges more spans at start e w =
    map-set (word_at (edges ++ more)) spans at (record { start = start; width = length more })
    ∙ ap (λ l. slice_set l at (word_at (edges ++ more) (record { start = start; width = length more }))) (words_kept edges more spans w)
    ∙ ap (λ k. slice_set (words_at edges spans) at (record { items = slice_range (edges ++ more) k (k + length more) })) e
    ∙ ap (λ l. slice_set (words_at edges spans) at (record { items = l })) (added edges more)
