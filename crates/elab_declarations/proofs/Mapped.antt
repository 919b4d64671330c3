-- A list that is made of another one, item by item.
use Rattle.std.proofs.Common.{◌≡◌, ℕ, ◌+◌, ◌<◌, List, [], ◌∷◌, ◌++◌, length, take, get_or, map, sym, ap, ◌∙◌}
use Rattle.std.proofs.lemmas.List.{map_more}

pub map_next : {X Y : Type 0} (f : X → Y) (xs : List X) (i : ℕ) (x d : X) (y : Y) (now new : List Y) → i < length xs → x ≡ get_or xs i d →
    now ≡ map f (take i xs) → y ≡ f x → new ≡ now ++ y ∷ [] → new ≡ map f (take (i + 1) xs)
map_next f xs i x d y now new lt is h hy g =
    g ∙ ap (λ l. l ++ y ∷ []) h ∙ ap (λ z. map f (take i xs) ++ z ∷ []) (hy ∙ ap f is) ∙ sym (map_more f xs i d lt)
