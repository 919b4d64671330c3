-- Terms that a list names, one by one.
use Rattle.std.proofs.Common.{◌≡◌, ◌⊎◌, inl, inr, ℕ, ◌+◌, ◌<◌, List, length, take, get_or, subst, arith}
use Rattle.std.specs.Prelude.{Contains}
use Rattle.std.proofs.lemmas.List.{get_or-map, length-map, map_more}
use Rattle.std.proofs.lemmas.List.Elements.{Contains-push_cases}
use Rattle.word_eqs.specs.declared.term.TermId.{TermId}
use Rattle.word_eqs.specs.Graph.{places}

pub place_of : (ids : List TermId) (i : ℕ) (d : TermId) → i < length ids → Contains (places ids) (get_or ids i d).0
place_of ids i d l = (i, omega (arith, length-map ids (λ (t : TermId). t.0)), get_or-map (λ (t : TermId). t.0) ids i d (get_or ids i d).0 l)

pub named_more : (P : ℕ → Type 0) (ids : List TermId) (i : ℕ) (d : TermId) → i < length ids → ((k : ℕ) → Contains (places (take i ids)) k → P k) → P (get_or ids i d).0 → (k : ℕ) → Contains (places (take (i + 1) ids)) k → P k
named_more P ids i d l before here k c =
    on (Contains-push_cases (places (take i ids)) (get_or ids i d).0 k (subst (λ l. Contains l k) (map_more (λ (t : TermId). t.0) ids i d l) c))
  where
    on : Contains (places (take i ids)) k ⊎ ((get_or ids i d).0 ≡ k) → P k
    on (inl h) = before k h
    on (inr e) = subst P e here
