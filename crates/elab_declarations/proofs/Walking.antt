-- Walks along a list that hand on what they have so far.
use Rattle.std.proofs.Common.{◌≡◌, ℕ, ◌+◌, ◌<◌, ◌≤◌, List, [], ◌∷◌, length, drop, get_or, sym, ap, ◌∙◌}
use Rattle.std.proofs.lemmas.List.{drop_more, drop_all}

-- what is left of a list begins with the item at the place
pub left_is : {X : Type 0} (xs : List X) (i : ℕ) (x d : X) → i < length xs → x ≡ get_or xs i d → drop i xs ≡ x ∷ drop (i + 1) xs
left_is xs i x d lt is = drop_more xs i d lt ∙ ap (λ y. y ∷ drop (i + 1) xs) (sym is)

module _ {X S : Type 0} (one : X → S → S) (all : List X → S → S) (turn : (x : X) (xs : List X) (s : S) → all (x ∷ xs) s ≡ all xs (one x s)) where
  pub walk_next : (xs : List X) (i : ℕ) (x d : X) (whole s new : S) → i < length xs → x ≡ get_or xs i d → whole ≡ all (drop i xs) s → new ≡ one x s → whole ≡ all (drop (i + 1) xs) new
  walk_next xs i x d whole s new lt is h g =
      h ∙ ap (λ l. all l s) (left_is xs i x d lt is) ∙ turn x (drop (i + 1) xs) s ∙ ap (all (drop (i + 1) xs)) (sym g)

  pub walk_end : (done : (s : S) → all [] s ≡ s) (xs : List X) (i : ℕ) (whole s : S) → length xs ≤ i → whole ≡ all (drop i xs) s → s ≡ whole
  walk_end done xs i whole s end h = sym (h ∙ ap (λ l. all l s) (drop_all i xs end) ∙ done s)
